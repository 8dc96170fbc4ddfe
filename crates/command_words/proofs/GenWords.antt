-- The words of a search over a family, and the names in them.
use Rattle.std.proofs.Common.{◌≡◌, ℕ, zero, List, [], ◌∷◌, decimal, refl, ◌∙◌, arith}
use Rattle.std.specs.Prelude.{IsTrue}
use Rattle.std.proofs.lemmas.List.Elements.{All-nil, All-cons}
use Rattle.family_gen.specs.declared.kinds.Family.{Family}
use Rattle.family_gen.specs.declared.kinds.Family.TheVariants.{Lights, Corridor}
use Rattle.family_gen.specs.Families.{family_name}
use Rattle.command_words.specs.declared.job.GenJob.{GenJob}
use Rattle.command_words.specs.declared.matching.Command.TheVariants.{Gen}
use Rattle.command_words.specs.declared.matching.Matched.{Matched}
use Rattle.command_words.specs.Words.{Use, AreOptions, GenJobOf, Tells, is_file_name}
use Rattle.command_words.specs.Inner.Matching.{IsForm, IsMatched}
use Rattle.command_words.specs.Inner.Values.{AreGenValues}
use Rattle.command_words.proofs.Forms.{one_form}
use Rattle.command_words.proofs.InputNames.{matched_from}
use Rattle.command_words.proofs.Plain.{plain_decimal}

-- the name of a family is no option
plain_family : (family : Family) → IsTrue (is_file_name (family_name family))
plain_family Lights = refl
plain_family Corridor = refl

abbrev gen_names : GenJob → List (List ℕ)
gen_names job = family_name job.family ∷ decimal job.number ∷ []

-- the words of a search over a family have the form
gen_form : (words : List (List ℕ)) (job : GenJob) → GenJobOf words job → IsForm Gen [] (gen_names job) words
gen_form words job is = record {
  options = record { spelled = is.spelled; known = λ k d within. absurd (omega (arith, within)); once = λ i j d before within. absurd (omega (arith, within)) };
  values = λ k d within. absurd (omega (arith, within));
  required = All-nil (λ name. (value : List ℕ) × Tells [] name value);
  are_names = All-cons (λ name. IsTrue (is_file_name name)) (family_name job.family) (decimal job.number ∷ []) (plain_family job.family)
      (All-cons (λ name. IsTrue (is_file_name name)) (decimal job.number) [] (plain_decimal job.number (omega (arith, is.is_job))) (All-nil (λ name. IsTrue (is_file_name name))));
  some_instances = omega arith;
  few_instances = omega arith;
}

-- and so there is what is matched in them
pub gen_matched : (words : List (List ℕ)) (job : GenJob) → GenJobOf words job → (matched : Matched) × IsMatched Gen words matched
gen_matched words job is = (
  matched_from [] (gen_names job),
  record {
    uses = [];
    form = gen_form words job is;
    pointers = refl;
    lines = refl;
    budget = refl;
    run = refl;
    order = refl;
    answer = refl;
    program = refl;
  },
)

-- what is matched are the names of the family and of its number
pub gen_values : (words : List (List ℕ)) (matched : Matched) (job : GenJob) → IsMatched Gen words matched → GenJobOf words job → AreGenValues matched job
gen_values words matched job found is = record {
  names = (one_form Gen found.uses [] matched.names (gen_names job) words found.form (gen_form words job is)).1;
  is_job = is.is_job;
}

-- where no option is known, all words are names
all_names : (uses : List Use) (names words : List (List ℕ)) → AreOptions [] uses names words → words ≡ names
all_names [] names words are = are.spelled
all_names (used ∷ uses) names words are = let known = are.known zero used (omega arith) in absurd (omega (arith, known.1))

-- and the other way round
pub gen_words : (words : List (List ℕ)) (matched : Matched) (job : GenJob) → IsMatched Gen words matched → AreGenValues matched job → GenJobOf words job
gen_words words matched job found is = record {
  spelled = all_names found.uses matched.names words found.form.options ∙ is.names;
  is_job = is.is_job;
}
