-- Which number a line says after some words.
use Rattle.std.proofs.Common.{◌≡◌, ◌≢◌, ℕ, ◌<◌, ◌≤◌, ◌^◌, Bool, true, false, List, ◌++◌, ap, sym, subst, refl, ◌∙◌, arith}
use Rattle.std.specs.Prelude.{Option, Some, None, IfSome, IfNone, ◌==◌, ◌↔◌, IsTrue}
use Rattle.std.specs.Option.{option_eq}
use Rattle.std.proofs.lemmas.Bool.{true≢false, false≢true}
use Rattle.std.proofs.lemmas.Bool.Decides.{Decides-eqb}
use Rattle.flag_rules.specs.Line.{then_number}
use Rattle.refutation_tree.specs.Grammar.{IsFromOneTo}
use Rattle.answer_lines.proofs.Worded.{one_number}

pub told_exactly : (words text : List ℕ) (most number : ℕ) (told : Option ℕ) → most < 2 ^ 64
    → IfSome told (λ n. IsFromOneTo most n × (text ≡ words ++ then_number n)) → IfNone told ((n : ℕ) → IsFromOneTo most n → text ≢ words ++ then_number n)
    → IsTrue (option_eq ◌==◌ told (Some number)) ↔ (IsFromOneTo most number × (text ≡ words ++ then_number number))
told_exactly words text most number (Some n) few some none = (
  λ same. let is : n ≡ number = (Decides-eqb n number).0 same in subst (λ (k : ℕ). IsFromOneTo most k × (text ≡ words ++ then_number k)) is some,
  λ says. (Decides-eqb n number).1 (one_number words n number (omega (arith, some.0.1, few)) (omega (arith, says.0.1, few)) (sym some.1 ∙ says.1)),
)
told_exactly words text most number None few some none = (λ same. absurd (false≢true same), λ says. absurd (none number says.0 says.1))
