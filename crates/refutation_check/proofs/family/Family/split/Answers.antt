use Rattle.std.proofs.Common.{◌≡◌, ◌∙◌, length, ap, refl, sym, subst}
use Rattle.std.specs.Vec.{with_items}
use Rattle.std.proofs.lemmas.List.{with_items_is}
use Rattle.refutation_check.specs.Inner.Runs.{AllStandAt, AreRuns}
use Rattle.refutation_check.proofs.Instances.{runs_stand}
use Rattle.refutation_check.proofs.Waiting.{newly_open}
use Rattle.refutation_check.proofs.family.Family.split.Goals as goal

pub returns-clause-family : goal.returns-clause-family
returns-clause-family g c =
    let m = g.M.Machine.semantics c.args.machine.now in
    let belongs = g.M.Machine.belongs c.args.machine.now in
    let runs = c.args.self.now.runs in
    let begun = c.begin_all.new.runs in
    let is : (with_items runs begun).items ≡ begun = with_items_is runs begun (c.begin_all.ensures.count ∙ ap length c.deref_mut.ensures.value ∙ sym runs.ok.0) in
    newly_open m belongs _ c.ops.result c.lines.result c.ops.ensures.value c.ops.ensures.some c.lines.ensures.count c.lines.ensures.few c.requires.partial c.requires.here refl c.alphabet_len-self.ensures.length c.used_by-self.ensures
    (subst (AllStandAt m belongs c.args.parent) (sym is) (c.begin_all.ensures.stand c.args.parent c.requires.partial.some))

pub returns-clause-runs : goal.returns-clause-runs
returns-clause-runs g c =
    let m = g.M.Machine.semantics c.args.machine.now in
    let belongs = g.M.Machine.belongs c.args.machine.now in
    let runs = c.args.self.now.runs in
    let begun = c.begin_all.new.runs in
    let is : (with_items runs begun).items ≡ begun = with_items_is runs begun (c.begin_all.ensures.count ∙ ap length c.deref_mut.ensures.value ∙ sym runs.ok.0) in
    let count : length begun ≡ m.instances = c.begin_all.ensures.count ∙ ap length c.deref_mut.ensures.value ∙ c.requires.runs.count in
    subst (AreRuns belongs m.instances) (sym is) (runs_stand m belongs c.args.parent begun count (c.begin_all.ensures.stand c.args.parent c.requires.partial.some))
