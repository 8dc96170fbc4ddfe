-- The names of input files.
use Rattle.std.proofs.Common.{◌≡◌, ℕ, ◌+◌, ◌<◌, ◌≤◌, List, length, codes, sym, ap, subst, arith}
use Rattle.std.specs.Prelude.{All, IfSome, IsTrue}
use Rattle.std.proofs.lemmas.List.Elements.{All-cons, All-head, All-tail}
use Rattle.program_model.specs.declared.machine.TheConstants.{MAX_INSTANCES}
use Rattle.command_words.specs.declared.job.Inputs.{Inputs}
use Rattle.command_words.specs.declared.matching.Command.{Command}
use Rattle.command_words.specs.declared.matching.Matched.{Matched}
use Rattle.command_words.specs.Words.{Use, AreInputs, is_file_name, names_of}
use Rattle.command_words.specs.Inner.Matching.{IsMatched, value_in}
use Rattle.command_words.specs.Inner.Values.{AreFileNames}
use Rattle.command_words.proofs.Uses.{value_fits}

-- the same names are those of one domain and one list of instances
pub inputs_same : (one other : Inputs) → names_of one ≡ names_of other → one ≡ other
inputs_same one other same =
    let domain : one.domain ≡ other.domain = cc in
    let instances : one.instances ≡ other.instances = cc in
    λ i. record { domain = domain i; instances = instances i }

-- inputs have such names
pub names_fit : (inputs : Inputs) → AreInputs inputs → All (λ name. IsTrue (is_file_name name)) (names_of inputs) × (1 < length (names_of inputs)) × (length (names_of inputs) ≤ MAX_INSTANCES + 1)
names_fit inputs are = (
  All-cons (λ name. IsTrue (is_file_name name)) inputs.domain inputs.instances are.domain are.instances,
  omega (arith, are.some_instances),
  omega (arith, are.few_instances),
)

-- and such names are those of inputs
pub inputs_fit : (inputs : Inputs) (matched : Matched) → names_of inputs ≡ matched.names → AreFileNames matched → AreInputs inputs
inputs_fit inputs matched same are =
    let all = subst (λ (l : List (List ℕ)). All (λ name. IsTrue (is_file_name name)) l) (sym same) are.are_names in
    let long : length (names_of inputs) ≡ length matched.names = ap length same in
    record {
      domain = All-head (λ name. IsTrue (is_file_name name)) inputs.domain inputs.instances all;
      instances = All-tail (λ name. IsTrue (is_file_name name)) inputs.domain inputs.instances all;
      some_instances = omega (arith, long, are.some_instances);
      few_instances = omega (arith, long, are.few_instances);
    }

-- what is matched names files
pub matched_names : (command : Command) (words : List (List ℕ)) (matched : Matched) → IsMatched command words matched → AreFileNames matched
matched_names command words matched is =
    record {
      answer = subst (λ o. IfSome o (λ name. IsTrue (is_file_name name))) (sym is.answer) (value_fits (λ name. IsTrue (is_file_name name)) is.uses (codes "answer") is.form.values);
      program = subst (λ o. IfSome o (λ name. IsTrue (is_file_name name))) (sym is.program) (value_fits (λ name. IsTrue (is_file_name name)) is.uses (codes "program") is.form.values);
      are_names = is.form.are_names;
      some_instances = is.form.some_instances;
      few_instances = is.form.few_instances;
    }

-- what is to be matched in words with these uses and names
abbrev pub matched_from : List Use → List (List ℕ) → Matched
matched_from uses names = record {
  pointers = value_in uses (codes "pointers");
  lines = value_in uses (codes "lines");
  budget = value_in uses (codes "budget");
  run = value_in uses (codes "run");
  order = value_in uses (codes "order");
  answer = value_in uses (codes "answer");
  program = value_in uses (codes "program");
  names = names;
}
