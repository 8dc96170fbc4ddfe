-- Which job the values of options and the names spell.
use Rattle.std.specs.Prelude.{◌≡◌, ℕ, ◌+◌, ◌<◌, ◌≤◌, List, [], ◌∷◌, length, All, IsTrue, IfSome, decimal, Option, None, Some}
use Rattle.evaluations.specs.Orders.{order_text}
use Rattle.family_gen.specs.Families.{family_name}
use Rattle.program_model.specs.declared.machine.TheConstants.{MAX_INSTANCES}
use Rattle.command_words.specs.declared.job.TheConstants.{USUAL_BUDGET, USUAL_RUN}
use Rattle.command_words.specs.declared.job.SynthJob.{SynthJob}
use Rattle.command_words.specs.declared.job.CheckJob.{CheckJob}
use Rattle.command_words.specs.declared.job.RunJob.{RunJob}
use Rattle.command_words.specs.declared.job.GenJob.{GenJob}
use Rattle.command_words.specs.declared.matching.Matched.{Matched}
use Rattle.command_words.specs.Words.{IsSynthJob, IsCheckJob, IsRunJob, IsGenJob, is_file_name, names_of, usual_order}

-- the value of an option is the text of this; or the option is not used, and this is the usual one
abbrev pub IsTextOrUsual : {A : Type 0} → (A → List ℕ) → A → A → Option (List ℕ) → Type 0
IsTextOrUsual spelled usual this None = this ≡ usual
IsTextOrUsual spelled usual this (Some text) = text ≡ spelled this

-- the names that are matched are those of files, and there are neither too few nor too many
pub record AreFileNames (matched : Matched) : Type 0 where
  pub answer : IfSome matched.answer (λ name. IsTrue (is_file_name name))
  pub program : IfSome matched.program (λ name. IsTrue (is_file_name name))
  pub are_names : All (λ name. IsTrue (is_file_name name)) matched.names
  pub some_instances : 1 < length matched.names
  pub few_instances : length matched.names ≤ MAX_INSTANCES + 1

-- the values are those of this search
pub record AreSynthValues (matched : Matched) (job : SynthJob) : Type 0 where
  pub pointers : matched.pointers ≡ Some (decimal job.pointers)
  pub lines : matched.lines ≡ Some (decimal job.bounds.lines)
  pub budget : IsTextOrUsual decimal USUAL_BUDGET job.bounds.budget matched.budget
  pub run : IsTextOrUsual decimal USUAL_RUN job.bounds.run matched.run
  pub order : IsTextOrUsual order_text usual_order job.bounds.order matched.order
  pub names : names_of job.inputs ≡ matched.names
  pub is_job : IsSynthJob job

-- the values are those of this check
pub record AreCheckValues (matched : Matched) (job : CheckJob) : Type 0 where
  pub pointers : matched.pointers ≡ Some (decimal job.pointers)
  pub lines : matched.lines ≡ Some (decimal job.lines)
  pub answer : matched.answer ≡ Some job.answer
  pub names : names_of job.inputs ≡ matched.names
  pub is_job : IsCheckJob job

-- the values are those of this run
pub record AreRunValues (matched : Matched) (job : RunJob) : Type 0 where
  pub pointers : matched.pointers ≡ Some (decimal job.pointers)
  pub program : matched.program ≡ Some job.program
  pub run : IsTextOrUsual decimal USUAL_RUN job.run matched.run
  pub names : names_of job.inputs ≡ matched.names
  pub is_job : IsRunJob job

-- the names are those of this family and of its number
pub record AreGenValues (matched : Matched) (job : GenJob) : Type 0 where
  pub names : matched.names ≡ family_name job.family ∷ decimal job.number ∷ []
  pub is_job : IsGenJob job
