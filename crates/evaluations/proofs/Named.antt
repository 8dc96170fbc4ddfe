-- Names tell evaluations apart, and so few are different.
use Rattle.std.proofs.Common.{◌≡◌, ◌≢◌, ◌∙◌, ℕ, ◌<◌, ◌≤◌, Bool, true, false, List, [], ◌∷◌, ◌++◌, length, map, get_or, refl, sym, ap, subst, nat_eq, rules, arith}
use Rattle.std.specs.Prelude.{◌==◌, AllPairs, Contains, if◌then◌else◌}
use Rattle.std.specs.Bool.{Decides}
use Rattle.std.specs.List.{list_any}
use Rattle.std.proofs.lemmas.Bool.{eqb-true}
use Rattle.std.proofs.lemmas.Bool.Decides.{Decides-eqb}
use Rattle.std.proofs.lemmas.Cmp.{on_equiv, nat_eq_equiv}
use Rattle.std.proofs.lemmas.List.Quantifiers.{all_pairs_push}
use Rattle.std.proofs.lemmas.Map.Made.{IsDistinct-from_AllPairs, length-le_from_is_member}
use denote.Enum.Bare.{same_true, same_false}
use Rattle.evaluations.specs.contracts.evaluation.Evaluation.{the_type}
use Rattle.evaluations.specs.contracts.evaluation.EvaluationPartialEq.TheImpl as evaluation_eq
use Rattle.evaluations.specs.declared.evaluation.Evaluation.{Evaluation}
use Rattle.evaluations.specs.declared.evaluation.Evaluation.TheVariants.{Jumps, UndefinedLines, RepeatedInstructions, LinesBehind, MissingAtoms, Steps}
use Rattle.evaluations.specs.Orders.{name_of}

-- the digit of a name, and its evaluation
abbrev digit_of : Evaluation → ℕ
digit_of evaluation = get_or (name_of evaluation) 1 0

abbrev of_digit : ℕ → Evaluation
of_digit digit =
    if digit == 49 then Jumps
    else if digit == 50 then UndefinedLines
    else if digit == 51 then RepeatedInstructions
    else if digit == 52 then LinesBehind
    else if digit == 53 then MissingAtoms
    else Steps

digit_kept : (evaluation : Evaluation) → of_digit (digit_of evaluation) ≡ evaluation
digit_kept Jumps = refl
digit_kept UndefinedLines = refl
digit_kept RepeatedInstructions = refl
digit_kept LinesBehind = refl
digit_kept MissingAtoms = refl
digit_kept Steps = refl

pub same_from_name : (one other : Evaluation) → name_of one ≡ name_of other → one ≡ other
same_from_name one other same = sym (digit_kept one) ∙ ap (λ name. of_digit (get_or name 1 0)) same ∙ digit_kept other

of_names : (order : List Evaluation) → map (λ name. of_digit (get_or name 1 0)) (map name_of order) ≡ order
of_names [] = refl
of_names (evaluation ∷ order) = λ i. digit_kept evaluation i ∷ of_names order i

pub same_from_names : (one other : List Evaluation) → map name_of one ≡ map name_of other → one ≡ other
same_from_names one other same = sym (of_names one) ∙ ap (map (λ name. of_digit (get_or name 1 0))) same ∙ of_names other

abbrev is_same : Evaluation → Evaluation → Bool
is_same one other = nat_eq (digit_of one) (digit_of other)

decides_same : (one other : Evaluation) → Decides (is_same one other) (one ≡ other)
decides_same one other =
    (λ same. sym (digit_kept one) ∙ ap of_digit (eqb-true (digit_of one) (digit_of other) same) ∙ digit_kept other, λ same. (Decides-eqb (digit_of one) (digit_of other)).1 (ap digit_of same))

abbrev each : List Evaluation
each = Jumps ∷ UndefinedLines ∷ RepeatedInstructions ∷ LinesBehind ∷ MissingAtoms ∷ Steps ∷ []

pub few_different : (order : List Evaluation) → AllPairs (λ a b. a ≢ b) order → length order ≤ 6
few_different order different =
    length-le_from_is_member (on_equiv digit_of nat_eq_equiv) order each (IsDistinct-from_AllPairs decides_same order different) (λ evaluation here. is_each evaluation)
  where
    is_each : (evaluation : Evaluation) → list_any (is_same evaluation) each ≡ true
    is_each Jumps = refl
    is_each UndefinedLines = refl
    is_each RepeatedInstructions = refl
    is_each LinesBehind = refl
    is_each MissingAtoms = refl
    is_each Steps = refl

-- what a search of a list by `==` tells
abbrev pub is_equal : Evaluation → Evaluation → Bool
is_equal = (evaluation_eq.ghosts).eq

pub is_there : (order slice : List Evaluation) (evaluation : Evaluation) → slice ≡ order → (k : ℕ) × (k < length slice) × ((d : Evaluation) → is_equal (get_or slice k d) evaluation ≡ true) → Contains order evaluation
is_there order slice evaluation is found =
    subst (λ (l : List Evaluation). Contains l evaluation) is (found.0, found.1, same_true the_type (search rules) _ _ (found.2 evaluation))

pub is_new : (order slice : List Evaluation) (evaluation : Evaluation) → slice ≡ order → ((k : ℕ) (d : Evaluation) → 0 ≤ k → k < length slice → is_equal (get_or slice k d) evaluation ≡ false) → AllPairs (λ a b. a ≢ b) order → AllPairs (λ a b. a ≢ b) (order ++ evaluation ∷ [])
is_new order slice evaluation is others different =
    subst (λ (l : List Evaluation). AllPairs (λ a b. a ≢ b) (l ++ evaluation ∷ [])) is
    (all_pairs_push (λ a b. a ≢ b) slice evaluation (subst (λ (l : List Evaluation). AllPairs (λ a b. a ≢ b) l) (sym is) different) (λ k d within. same_false the_type _ _ (others k d (omega arith) within)))
