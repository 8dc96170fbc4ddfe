-- The one program is added to none.
use Rattle.std.proofs.Common.{is_some, count_by, sym, ap, ◌∙◌, arith}
use Rattle.waiting_programs.specs.declared.kept.Kept.{Kept}
use Rattle.waiting_programs.proofs.Sharing.{seen_count, shared_first, becomes_first}
use Rattle.waiting_programs.proofs.programs.WaitingPrograms.new.Goals as goal

pub invariant_of-programs : goal.invariant_of-programs
invariant_of-programs g c =
    let i = c.insert_reserved-place in
    let one : Kept = record { node = c.root-node.result; slots = c.in_ok-runs.slots } in
    let made = c.in_ok-chain.ensures in
    let runs = c.in_ok-runs.ensures in
    let is = c.root-node.ensures.root in
    shared_first c.args.lines c.in_ok-chain.chain.nodes c.in_ok-runs.runs c.in_ok-kept.kept.slots i.new.self.slots i.result one (rw is made.root) (λ other differs. made.alone other (λ same. differs (same ∙ sym is))) runs.counts runs.distinct c.in_ok-kept.ensures.empty i.ensures.updates.changed i.ensures.updates.others

pub returns : goal.returns
returns g c =
    let i = c.insert_reserved-place in
    let one : Kept = record { node = c.root-node.result; slots = c.in_ok-runs.slots } in
    let made = c.in_ok-chain.ensures in
    let runs = c.in_ok-runs.ensures in
    let is = c.root-node.ensures.root in
    let first = becomes_first c.args.lines c.in_ok-chain.chain.nodes c.in_ok-runs.runs c.in_ok-kept.kept.slots i.new.self.slots i.result one (rw is made.root) (λ other differs. made.alone other (λ same. differs (same ∙ sym is))) runs.counts runs.distinct c.in_ok-kept.ensures.empty i.ensures.updates.changed i.ensures.updates.others in
    record {
      made = rw (← runs.values) first.here;
      alone = first.others;
      count = omega (arith, seen_count c.in_ok-chain.chain.nodes c.in_ok-runs.runs i.new.self.slots, i.ensures.len, ap (count_by is_some) c.in_ok-kept.ensures.empty);
    }
