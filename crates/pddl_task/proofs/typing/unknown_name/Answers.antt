use Rattle.std.proofs.Common.{◌≡◌, ◌∙◌, sym, ap, true, false}
use Rattle.pddl_task.specs.Names.{is_among}
use Rattle.pddl_task.specs.Faults.{IsUnknownName}
use Rattle.pddl_task.proofs.Among.{is_there, is_absent}
use Rattle.pddl_task.proofs.First.{first_one}
use Rattle.pddl_task.proofs.typing.unknown_name.Goals as goal

pub returns-then-holds : goal.returns-then-holds
returns-then-holds c = λ fault has.
    let among : is_among c.args.word.now.text c.args.types.now ≡ true =
    ap (λ name. is_among name c.args.types.now) (sym c.as_slice.ensures) ∙ sym c.holds.ensures ∙ c.if-holds.true in
    has.0 (is_there c.args.word.now.text c.args.types.now among)

pub returns : goal.returns
returns c =
    let among : is_among c.args.word.now.text c.args.types.now ≡ false =
    ap (λ name. is_among name c.args.types.now) (sym c.as_slice.ensures) ∙ sym c.holds.ensures ∙ c.if-holds.false in
    first_one (λ f. IsUnknownName c.args.types.now f c.args.word.now) c.of.result
    (is_absent c.args.word.now.text c.args.types.now among, c.of.ensures)
    (λ g has. has.1 ∙ sym c.of.ensures)
