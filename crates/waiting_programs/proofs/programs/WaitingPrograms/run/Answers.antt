-- Each slot of a program that is kept is live, so that there are as many runs as slots.
use Rattle.std.proofs.Common.{ap, sym, ◌∙◌, arith}
use Rattle.state_pool.specs.Pool.{value_at}
use Rattle.waiting_programs.specs.Programs.{Programs}
use Rattle.waiting_programs.proofs.Times.{found_at}
use Rattle.waiting_programs.proofs.Exchanging.{live_named, have_values}
use Rattle.waiting_programs.proofs.Sharing.{seen_as, held_slots, run_count}
use Rattle.waiting_programs.proofs.programs.WaitingPrograms.run.Goals as goal

pub index-requires-2 : goal.index-requires-2
index-requires-2 g c =
    let one = c.index.result.now in
    let seen = seen_as c.self.inside.chain.nodes c.self.inside.runs c.self.inside.kept.slots c.args.self.now.kept c.id.inside.place c.args.id one (ap (λ (p : Programs _). p.kept) c.self.view_is) c.id.view_is c.index.ensures in
    let within = rw seen at c.requires in
    omega (arith, within, one.slots.ok.0, run_count c.self.inside.chain.nodes c.self.inside.runs c.self.inside.kept.slots c.self.invariant c.id.inside.place one c.index.ensures)

pub get-requires : goal.get-requires
get-requires g c =
    let one = c.index.result.now in
    let seen = seen_as c.self.inside.chain.nodes c.self.inside.runs c.self.inside.kept.slots c.args.self.now.kept c.id.inside.place c.args.id one (ap (λ (p : Programs _). p.kept) c.self.view_is) c.id.view_is c.index.ensures in
    let within = rw seen at c.requires in
    let held = held_slots c.self.inside.chain.nodes c.self.inside.runs c.self.inside.kept.slots c.self.invariant c.id.inside.place one c.index.ensures in
    let count = run_count c.self.inside.chain.nodes c.self.inside.runs c.self.inside.kept.slots c.self.invariant c.id.inside.place one c.index.ensures in
    live_named c.self.inside.runs one.slots.items c.args.t c.index-2.result.now held (omega (arith, within, count)) c.index-2.ensures

pub returns : goal.returns
returns g c =
    let one = c.index.result.now in
    let seen = seen_as c.self.inside.chain.nodes c.self.inside.runs c.self.inside.kept.slots c.args.self.now.kept c.id.inside.place c.args.id one (ap (λ (p : Programs _). p.kept) c.self.view_is) c.id.view_is c.index.ensures in
    let within = rw seen at c.requires in
    let held = held_slots c.self.inside.chain.nodes c.self.inside.runs c.self.inside.kept.slots c.self.invariant c.id.inside.place one c.index.ensures in
    let count = run_count c.self.inside.chain.nodes c.self.inside.runs c.self.inside.kept.slots c.self.invariant c.id.inside.place one c.index.ensures in
    let found = found_at (value_at c.self.inside.runs) one.slots.items c.args.t c.index-2.result.now (have_values c.self.inside.runs one.slots.items held) (omega (arith, within, count)) in
    rw seen (found ∙ ap (value_at c.self.inside.runs) (sym c.index-2.ensures) ∙ c.get.ensures)
