use Rattle.std.proofs.Common.{◌≡◌, true, false, rules, tests}
use Rattle.std.proofs.lemmas.Iterator.{IsFirst-from_position, YieldsList-from_slice}
use Rattle.pointer_machine.specs.Renamed.{is_same}
use Rattle.pointer_machine.proofs.Equal.{found_at}
use Rattle.pointer_machine.proofs.operations.place_of.Goals as goal

pub returns : goal.returns
returns c =
    let forms = c.args.forms.now in
    let form = c.args.form.now in
    found_at forms form c.position.result (IsFirst-from_position _ _ c.position.result (λ own. is_same own form ≡ true) (λ own. is_same own form ≡ false) c.position.ensures.ran (YieldsList-from_slice forms cc) (λ x q k. search (rules, tests)) (λ x q k. search (rules, tests)))
