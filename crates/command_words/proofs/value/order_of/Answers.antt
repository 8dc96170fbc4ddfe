use Rattle.std.proofs.Common.{IsUtf8, sym, subst}
use Rattle.std.proofs.lemmas.Str.{IsUtf8-from_ascii}
use Rattle.evaluations.specs.Orders.{order_text}
use Rattle.command_words.proofs.Orders.{no_order_read}
use Rattle.command_words.proofs.Plain.{order_ascii}
use Rattle.command_words.proofs.value.order_of.Goals as goal

pub returns-in_default-clause-none : goal.returns-in_default-clause-none
returns-in_default-clause-none c = λ order _ is.
    c.in_default.ensures.cases.0 (subst IsUtf8 (sym is) (IsUtf8-from_ascii (order_text order) (order_ascii order)))

pub returns-clause-none : goal.returns-clause-none
returns-clause-none c =
    rw (c.ok.ensures.value, sym c.in-Ok.ensures.cases.0) (no_order_read c.in-Ok.text.now c.read.result c.read.ensures)
