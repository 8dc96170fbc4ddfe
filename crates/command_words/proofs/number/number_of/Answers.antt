use Rattle.std.proofs.Common.{◌≡◌, sym, ◌∙◌, arith}
use Rattle.std.proofs.lemmas.Fmt.{decimal_injective}
use Rattle.command_words.proofs.number.number_of.Goals as goal

pub returns-in_default-clause-none : goal.returns-in_default-clause-none
returns-in_default-clause-none c = λ number least most is.
    let same : c.in-Some.number ≡ number = decimal_injective c.in-Some.number number (omega arith) (omega (arith, most)) (sym c.in-Some.ensures.some ∙ is) in
    omega (arith, same, most)

pub returns-in_default-2-clause-none : goal.returns-in_default-2-clause-none
returns-in_default-2-clause-none c = λ number least most is.
    let same : c.in-Some.number ≡ number = decimal_injective c.in-Some.number number (omega arith) (omega (arith, most)) (sym c.in-Some.ensures.some ∙ is) in
    omega (arith, same, least)
