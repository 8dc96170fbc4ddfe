-- The texts of numbers and orders are no options.
use Rattle.std.proofs.Common.{◌≡◌, ℕ, ◌+◌, ◌%◌, ◌<◌, ◌^◌, List, [], ◌∷◌, ◌++◌, decimal, refl, sym, subst, arith}
use Rattle.std.specs.Prelude.{◌==◌, IsTrue}
use Rattle.std.specs.Str.{IsAscii}
use Rattle.std.proofs.lemmas.Bool.{false≢true, ne_eqb, not_from_false}
use Rattle.std.proofs.lemmas.Fmt.{decimal_by_steps}
use Rattle.std.proofs.lemmas.Str.{IsAscii-append}
use Rattle.std.proofs.lemmas.Str.Ascii.{IsAscii-nil, IsAscii-cons}
use Rattle.evaluations.specs.declared.evaluation.Evaluation.{Evaluation}
use Rattle.evaluations.specs.declared.evaluation.Evaluation.TheVariants.{Jumps, UndefinedLines, RepeatedInstructions, LinesBehind, MissingAtoms, Steps}
use Rattle.evaluations.specs.Orders.{COMMA, name_of, order_text, IsOrder}
use Rattle.command_words.specs.Words.{Use, Tells, TellsOrUsual, told, untold, is_file_name}
use Rattle.command_words.proofs.Uses.{AreOnce, one_value}

plain_append : (text others : List ℕ) → IsTrue (is_file_name text) → IsTrue (is_file_name (text ++ others))
plain_append [] others is = absurd (false≢true is)
plain_append (byte ∷ text) others is = is

plain_digit : (n : ℕ) → n < 10 → IsTrue (is_file_name ((48 + n) ∷ []))
plain_digit n small = not_from_false ((48 + n) == 45) (ne_eqb (48 + n) 45 (λ same. omega (arith, same)))

pub plain_decimal : (n : ℕ) → n < 2 ^ 64 → IsTrue (is_file_name (decimal n))
plain_decimal n within =
    decimal_by_steps (λ _ text. IsTrue (is_file_name text)) plain_digit (λ m text big is. plain_append text ((48 + m % 10) ∷ []) is) n within

plain_name : (evaluation : Evaluation) → IsTrue (is_file_name (name_of evaluation))
plain_name Jumps = refl
plain_name UndefinedLines = refl
plain_name RepeatedInstructions = refl
plain_name LinesBehind = refl
plain_name MissingAtoms = refl
plain_name Steps = refl

pub plain_order : (order : List Evaluation) → IsOrder order → IsTrue (is_file_name (order_text order))
plain_order [] is = absurd (omega (arith, is.some))
plain_order (evaluation ∷ []) is = plain_name evaluation
plain_order (evaluation ∷ second ∷ order) is = plain_append (name_of evaluation) (COMMA ∷ order_text (second ∷ order)) (plain_name evaluation)

two_ascii : (first second : ℕ) → first < 128 → second < 128 → IsAscii (first ∷ second ∷ [])
two_ascii first second small small_too = IsAscii-cons first (second ∷ []) small (IsAscii-cons second [] small_too IsAscii-nil)

name_ascii : (evaluation : Evaluation) → IsAscii (name_of evaluation)
name_ascii Jumps = two_ascii 101 49 (omega arith) (omega arith)
name_ascii UndefinedLines = two_ascii 101 50 (omega arith) (omega arith)
name_ascii RepeatedInstructions = two_ascii 101 51 (omega arith) (omega arith)
name_ascii LinesBehind = two_ascii 101 52 (omega arith) (omega arith)
name_ascii MissingAtoms = two_ascii 101 53 (omega arith) (omega arith)
name_ascii Steps = two_ascii 101 54 (omega arith) (omega arith)

pub order_ascii : (order : List Evaluation) → IsAscii (order_text order)
order_ascii [] = IsAscii-nil
order_ascii (evaluation ∷ []) = name_ascii evaluation
order_ascii (evaluation ∷ second ∷ order) =
    IsAscii-append (name_of evaluation) (COMMA ∷ order_text (second ∷ order)) (name_ascii evaluation) (IsAscii-cons COMMA (order_text (second ∷ order)) (omega arith) (order_ascii (second ∷ order)))

-- a use of an option that is told so has a value that is no option
pub plain_told : (uses : List Use) (name other value text : List ℕ) → AreOnce uses → name ≡ other → Tells uses other value → Tells uses name text → IsTrue (is_file_name text) → IsTrue (is_file_name value)
plain_told uses name other value text once same here tells is =
    subst (λ (t : List ℕ). IsTrue (is_file_name t)) (one_value uses name text value once tells (subst (λ (n : List ℕ). Tells uses n value) (sym same) here)) is

pub plain_usual : {A : Type 0} (uses : List Use) (name other value : List ℕ) (spelled : A → List ℕ) (usual this : A) → AreOnce uses → name ≡ other → Tells uses other value → TellsOrUsual uses name spelled usual this → IsTrue (is_file_name (spelled this)) → IsTrue (is_file_name value)
plain_usual uses name other value spelled usual this once same here (told tells) is = plain_told uses name other value (spelled this) once same here tells is
plain_usual uses name other value spelled usual this once same here (untold none _) is =
    let there = subst (λ (n : List ℕ). Tells uses n value) (sym same) here in
    absurd (none there.0 (record { name = name; value = value }) there.1 (λ i. (there.2 i).name))
