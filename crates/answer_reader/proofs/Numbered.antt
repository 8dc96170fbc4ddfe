-- A line that says a number says no other.
use Rattle.std.proofs.Common.{◌≡◌, ◌≢◌, ℕ, ◌<◌, ◌^◌, List, ◌++◌, ap, sym, ◌∙◌, arith}
use Rattle.std.specs.Prelude.{Option, Some, None, IfSome, IfNone}
use Rattle.flag_rules.specs.Line.{then_number}
use Rattle.refutation_tree.specs.Grammar.{IsFromOneTo}
use Rattle.answer_lines.proofs.Worded.{one_number}

pub not_told : (word text : List ℕ) (most number : ℕ) (told : Option ℕ) → most < 2 ^ 64 → IsFromOneTo most number
    → IfSome told (λ n. IsFromOneTo most n × (text ≡ word ++ then_number n)) → IfNone told ((n : ℕ) → IsFromOneTo most n → text ≢ word ++ then_number n)
    → told ≢ Some number → text ≢ word ++ then_number number
not_told word text most number (Some n) few range some none not = λ says.
    not (ap (λ (m : ℕ). Some m) (one_number word n number (omega (arith, some.0.1, few)) (omega (arith, range.1, few)) (sym some.1 ∙ says)))
not_told word text most number None few range some none not = none number range
