use Rattle.std.proofs.Common.{◌≡◌, ◌∙◌, sym, ap, subst, decimal, IsUtf8, Ok}
use Rattle.std.proofs.lemmas.Bool.{false≢true}
use Rattle.std.proofs.lemmas.Bool.Decides.{Decides-eqb}
use Rattle.std.proofs.lemmas.Fmt.{parse-decimal, IsAscii-decimal}
use Rattle.std.proofs.lemmas.Slice.Eq.{slice_eq-Decides}
use Rattle.std.proofs.lemmas.Str.{IsUtf8-from_ascii}
use Rattle.flag_rules.proofs.decimal.read_decimal.Goals as goal

pub returns-in_default-clause-none : goal.returns-in_default-clause-none
returns-in_default-clause-none c = λ number within is.
    c.in_default.ensures.cases.0 (subst IsUtf8 (sym is) (IsUtf8-from_ascii (decimal number) (IsAscii-decimal number within)))

pub returns-in_default-parse-clause-none : goal.returns-in_default-parse-clause-none
returns-in_default-parse-clause-none c = λ number within is.
    c.in_default-parse.not-Ok number (parse-decimal 64 number c.in-Ok.text.now c.parse.result within within (c.in-Ok.ensures.cases.0 ∙ is) c.parse.ensures.value.0)

pub returns-else-eq-clause-none : goal.returns-else-eq-clause-none
returns-else-eq-clause-none c = λ number within is.
    let parsed : Ok c.in-Ok-parse.number ≡ Ok number = sym c.in-Ok-parse.is ∙ parse-decimal 64 number c.in-Ok.text.now c.parse.result within within (c.in-Ok.ensures.cases.0 ∙ is) c.parse.ensures.value.0 in
    let same : c.in-Ok-parse.number ≡ number = cc in
    let equal : c.in-Ok.text.now ≡ c.format.result.now = c.in-Ok.ensures.cases.0 ∙ is ∙ ap decimal (sym same) ∙ sym c.format.ensures.text in
    false≢true (sym c.if-eq.false ∙ (slice_eq-Decides Decides-eqb c.in-Ok.text.now c.format.result.now c.eq.result c.eq.ensures).1 equal)
