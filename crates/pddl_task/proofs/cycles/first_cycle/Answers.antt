use Rattle.std.proofs.Common.{◌≡◌, ◌<◌, sym, subst, length, List, ℕ, slice_index}
use Rattle.std.specs.Prelude.{All, Any}
use Rattle.std.proofs.lemmas.Result.{IfOk-weaker}
use Rattle.ground_state.specs.declared.parts.TypeEntry.{TypeEntry}
use Rattle.pddl_task.specs.Faults.{IsFirst, IsTypeCycle}
use Rattle.pddl_task.specs.Inner.Faults.{AreTops, IsRootless}
use Rattle.pddl_task.proofs.Ancestors.{parents}
use Rattle.pddl_task.proofs.TypeParents.{parents_are_types, root_parent_zero}
use Rattle.pddl_task.proofs.Rootless.{first_rootless}
use Rattle.pddl_task.proofs.cycles.first_cycle.Goals as goal

pub tops-requires-clause-parents : goal.tops-requires-clause-parents
tops-requires-clause-parents c = subst (λ (l : List TypeEntry). All (λ (entry : TypeEntry). entry.parent < length l) l) (sym c.requires.entries) (parents_are_types c.args.types.now)

pub tops-requires-clause-root : goal.tops-requires-clause-root
tops-requires-clause-root c = subst (λ (l : List TypeEntry). slice_index (parents l) 0 ≡ 0) (sym c.requires.entries) (root_parent_zero c.args.types.now)

pub returns : goal.returns
returns c =
    let are : AreTops c.args.entries.now c.deref.result.now = subst (λ (l : List ℕ). AreTops c.args.entries.now l) (sym c.deref.ensures.value) c.in_ok-tops.ensures in
    IfOk-weaker c.first_of.result (IsFirst (λ f. Any (IsRootless c.args.names.now c.deref.result.now f) c.args.types.now)) (IsFirst (λ f. Any (IsTypeCycle c.args.types.now f) c.args.types.now))
    (λ told first. first_rootless c.args.types.now c.args.names.now c.args.entries.now c.deref.result.now told c.requires.names c.requires.entries are first)
    c.first_of.ensures
