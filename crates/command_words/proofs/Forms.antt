-- The form of the words after a command.
use Rattle.std.proofs.Common.{◌≡◌, ◌≢◌, ℕ, zero, suc, ◌+◌, ◌<◌, ◌≤◌, Bool, true, List, [], ◌∷◌, length, get_or, refl, subst, arith}
use Rattle.std.specs.Prelude.{◌==◌, ◌&&◌, not, All, Contains, IsTrue}
use Rattle.std.specs.List.{list_all}
use Rattle.std.proofs.lemmas.Bool.{and_parts, not-true, eqb-false}
use Rattle.std.proofs.lemmas.List.Elements.{All-contains}
use Rattle.std.proofs.lemmas.List.Sums.{AllPass-from_list_all}
use Rattle.program_model.specs.declared.machine.TheConstants.{MAX_INSTANCES}
use Rattle.command_words.specs.declared.matching.Command.{Command}
use Rattle.command_words.specs.declared.matching.Command.TheVariants.{Synth, Check, Run, Gen}
use Rattle.command_words.specs.Words.{Use, Tells, is_file_name}
use Rattle.command_words.specs.Inner.Matching.{HasForm, IsForm, options_of, required_of}
use Rattle.command_words.specs.Inner.Scanning.{HasNoEquals, AreCutInto}
use Rattle.command_words.proofs.Cuts.{no_use, one_cut}
use Rattle.command_words.proofs.Uses.{AreOnce}

-- no option of a command has a `=` in its name
abbrev no_equals : List ℕ → Bool
no_equals [] = true
no_equals (byte ∷ name) = not (byte == 61) && no_equals name

has_no_equals : (name : List ℕ) → no_equals name ≡ true → (i : ℕ) → i < length name → get_or name i 0 ≢ 61
has_no_equals [] is i within = absurd (omega (arith, within))
has_no_equals (byte ∷ name) is zero within = eqb-false byte 61 (not-true (byte == 61) (and_parts (not (byte == 61)) (no_equals name) is).0)
has_no_equals (byte ∷ name) is (suc i) within = has_no_equals name (and_parts (not (byte == 61)) (no_equals name) is).1 i (omega (arith, within))

options_no_equals : (command : Command) → list_all no_equals (options_of command) ≡ true
options_no_equals Synth = refl
options_no_equals Check = refl
options_no_equals Run = refl
options_no_equals Gen = refl

known_no_equals : (command : Command) (uses : List Use) → All (λ used. Contains (options_of command) used.name) uses → All (λ used. HasNoEquals used.name) uses
known_no_equals command uses known k d within =
    let name = (get_or uses k d).name in
    has_no_equals name (All-contains (λ n. no_equals n ≡ true) (options_of command) name (AllPass-from_list_all no_equals (options_of command) (options_no_equals command)) (known k d within))

-- words of the form are cut so
form_cut : (command : Command) (uses : List Use) (names words : List (List ℕ)) → IsForm command uses names words → AreCutInto uses names words
form_cut command uses names words is =
    record { spelled = is.options.spelled; first_equals = known_no_equals command uses is.options.known; no_more = no_use names is.are_names }

-- words have one form at most
pub one_form : (command : Command) (uses uses_too : List Use) (names names_too words : List (List ℕ)) → IsForm command uses names words → IsForm command uses_too names_too words → (uses ≡ uses_too) × (names ≡ names_too)
one_form command uses uses_too names names_too words p q =
    one_cut uses uses_too names names_too words (form_cut command uses names words p) (form_cut command uses_too names_too words q)

-- where words have the form, what they are cut into has it
pub form_of_cut : (command : Command) (uses : List Use) (names words : List (List ℕ)) → AreCutInto uses names words → HasForm command words → IsForm command uses names words
form_of_cut command uses names words cut has =
    let same = one_cut has.0 uses has.1 names words (form_cut command has.0 has.1 words has.2) cut in
    subst (λ (l : List Use). IsForm command l names words) same.0 (subst (λ (l : List (List ℕ)). IsForm command has.0 l words) same.1 has.2)

-- and the other way round, where all tests of it pass
pub tested_form : (command : Command) (uses : List Use) (names words : List (List ℕ)) → AreCutInto uses names words → All (λ used. Contains (options_of command) used.name) uses → AreOnce uses → All (λ used. IsTrue (is_file_name used.value)) uses → All (λ name. (value : List ℕ) × Tells uses name value) (required_of command) → All (λ name. IsTrue (is_file_name name)) names → 1 < length names → length names ≤ MAX_INSTANCES + 1 → IsForm command uses names words
tested_form command uses names words cut known once values required are_names some few =
    record {
      options = record { spelled = cut.spelled; known = known; once = once };
      values = values;
      required = required;
      are_names = are_names;
      some_instances = some;
      few_instances = few;
    }
