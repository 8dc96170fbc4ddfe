use Rattle.family_gen.proofs.Lengths.{domain_fits_into_file, problem_fits_into_file}
use Rattle.family_gen.proofs.laws.texts_fit_into_files.Goals as goal

pub returns : goal.returns
returns c = record { domain = domain_fits_into_file; problem = problem_fits_into_file }
