-- Loops that read items of a state in turns: a turn, the end, and a turn that cannot be read.
use Rattle.std.proofs.Common.{◌≡◌, Bool, true, false, cond, ◌&&◌, List, drop, Err, sym, ap, ◌∙◌}
use Rattle.pddl_lexer.specs.declared.lexer.Kind.TheVariants.{RightParen}
use Rattle.pddl_forms.specs.declared.stop.Why.{Why}
use Rattle.pddl_forms.specs.declared.stop.Stop.{Stop}
use Rattle.pddl_forms.specs.declared.stop.Stop.TheVariants.{Refused, OutOfMemory}
use Rattle.pddl_forms.specs.Lexemes.{Lexeme}
use Rattle.pddl_forms.specs.Inner.Reading.{Read, Reads, got, stuck, and_then, comes}
use Rattle.pddl_parser.specs.Inner.Choosing.{turns}

-- a test beside one that always holds
pub beside_true : (a b : Bool) → a ≡ b → (a && true) ≡ b
beside_true true b e = e
beside_true false b e = e

module _ {S : Type 0} (whole : S → Bool) (item : S → List Lexeme → Read S)
    (turn : (seen : S) (ts : List Lexeme) → turns whole item seen ts ≡ cond (comes RightParen ts && whole seen) (got seen (drop 1 ts)) (and_then (item seen ts) (turns whole item))) where
  goes_on : (seen : S) (ts : List Lexeme) → (comes RightParen ts && whole seen) ≡ false → turns whole item seen ts ≡ and_then (item seen ts) (turns whole item)
  goes_on seen ts stands = turn seen ts ∙ ap (λ b. cond b (got seen (drop 1 ts)) (and_then (item seen ts) (turns whole item))) stands

  pub turns-next : (seen next : S) (ts mid : List Lexeme) (all : Read S) → turns whole item seen ts ≡ all → (comes RightParen ts && whole seen) ≡ false → item seen ts ≡ got next mid → turns whole item next mid ≡ all
  unfolding and_then
  turns-next seen next ts mid all so_far stands e = sym (goes_on seen ts stands ∙ ap (λ r. and_then r (turns whole item)) e) ∙ so_far

  pub turns-done : (seen : S) (ts : List Lexeme) (all : Read S) → turns whole item seen ts ≡ all → (comes RightParen ts && whole seen) ≡ true → all ≡ got seen (drop 1 ts)
  turns-done seen ts all so_far closes = sym so_far ∙ turn seen ts ∙ ap (λ b. cond b (got seen (drop 1 ts)) (and_then (item seen ts) (turns whole item))) closes

  turns-stuck : (seen : S) (ts bad : List Lexeme) (why : Why) (all : Read S) → turns whole item seen ts ≡ all → (comes RightParen ts && whole seen) ≡ false → item seen ts ≡ stuck why bad → all ≡ stuck why bad
  unfolding and_then
  turns-stuck seen ts bad why all so_far stands e = sym so_far ∙ goes_on seen ts stands ∙ ap (λ r. and_then r (turns whole item)) e

  pub turns-err : (seen : S) (ts bad : List Lexeme) (stop : Stop) (all : Read S) → turns whole item seen ts ≡ all → (comes RightParen ts && whole seen) ≡ false → Reads (item seen ts) (Err stop) bad → Reads all (Err stop) bad
  turns-err seen ts bad (Refused why) all so_far stands e = turns-stuck seen ts bad why all so_far stands e
  turns-err seen ts bad OutOfMemory all so_far stands e = tt
