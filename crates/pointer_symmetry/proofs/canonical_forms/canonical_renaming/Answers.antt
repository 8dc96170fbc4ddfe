use Rattle.std.proofs.Common.{◌≡◌, ◌+◌, ◌≤◌, length, sym, ◌∙◌, subst, arith}
use Rattle.program_model.specs.declared.machine.TheConstants.{MAX_POINTERS}
use Rattle.program_model.specs.Renaming.{IsRenaming}
use Rattle.pointer_symmetry.specs.Used.{has}
use Rattle.pointer_symmetry.proofs.CanonicalForms.{canonical_is_renaming}
use Rattle.pointer_symmetry.proofs.Numberings.{HasNumbered, numbered_none, has_room, numbers_on, numbered_all, at_place, at_pointer}
use Rattle.pointer_symmetry.proofs.canonical_forms.canonical_renaming.Goals as goal

pub loop-place-init : goal.loop-place-init
loop-place-init g c =
    let m = g.M.Machine.semantics c.args.machine.now in
    numbered_none c.args.used m.pointers (m.pointers_of c.args.op) (c.treats_pointers_alike.ensures.pointers c.args.op c.requires)

pub number-requires-clause-room : goal.number-requires-clause-room
number-requires-clause-room g c =
    let m = g.M.Machine.semantics c.args.machine.now in
    let named = m.pointers_of c.args.op in
    let within = c.treats_pointers_alike.ensures.pointers c.args.op c.requires in
    let few : m.pointers ≤ MAX_POINTERS = omega (arith, c.pointers-pointers.ensures) in
    let here = at_place (has c.args.used) m.pointers named within few c.loop-place.place c.pointer_at.result c.pointer_at.ensures.value in
    has_room (has c.args.used) m.pointers named within few c.loop-place.place c.pointer_at.result c.loop-place.numbering here c.loop-place.invariant

pub loop-place-preserved : goal.loop-place-preserved
loop-place-preserved g c =
    let m = g.M.Machine.semantics c.args.machine.now in
    let named = m.pointers_of c.args.op in
    let within = c.treats_pointers_alike.ensures.pointers c.args.op c.requires in
    let few : m.pointers ≤ MAX_POINTERS = omega (arith, c.pointers-pointers.ensures) in
    let here = at_place (has c.args.used) m.pointers named within few c.loop-place.place c.pointer_at.result c.pointer_at.ensures.value in
    numbers_on (has c.args.used) m.pointers named within few c.loop-place.place c.pointer_at.result c.loop-place.numbering c.number.new.self here c.loop-place.invariant c.number.ensures

pub loop-pointer-init : goal.loop-pointer-init
loop-pointer-init g c =
    let m = g.M.Machine.semantics c.args.machine.now in
    let named = m.pointers_of c.args.op in
    let all : c.loop-place.place ≡ length named + 0 = omega (arith, c.places-place-end.ensures) in
    subst (λ count. HasNumbered (has c.args.used) m.pointers named count c.loop-place.numbering) all c.loop-place.invariant

pub number-requires-in-loop-pointer-clause-room : goal.number-requires-in-loop-pointer-clause-room
number-requires-in-loop-pointer-clause-room g c =
    let m = g.M.Machine.semantics c.args.machine.now in
    let named = m.pointers_of c.args.op in
    let within = c.treats_pointers_alike.ensures.pointers c.args.op c.requires in
    let few : m.pointers ≤ MAX_POINTERS = omega (arith, c.pointers-pointers.ensures) in
    let here = at_pointer (has c.args.used) m.pointers named within few c.loop-pointer.pointer (omega (arith, c.pointers-pointers.ensures)) in
    has_room (has c.args.used) m.pointers named within few (length named + c.loop-pointer.pointer) c.loop-pointer.pointer c.loop-pointer.numbering here c.loop-pointer.invariant

pub loop-pointer-preserved : goal.loop-pointer-preserved
loop-pointer-preserved g c =
    let m = g.M.Machine.semantics c.args.machine.now in
    let named = m.pointers_of c.args.op in
    let within = c.treats_pointers_alike.ensures.pointers c.args.op c.requires in
    let few : m.pointers ≤ MAX_POINTERS = omega (arith, c.pointers-pointers.ensures) in
    let here = at_pointer (has c.args.used) m.pointers named within few c.loop-pointer.pointer (omega (arith, c.pointers-pointers.ensures)) in
    let count : (length named + c.loop-pointer.pointer) + 1 ≡ length named + (c.loop-pointer.pointer + 1) = omega arith in
    subst (λ n. HasNumbered (has c.args.used) m.pointers named n c.number-in-loop-pointer.new.self) count
    (numbers_on (has c.args.used) m.pointers named within few (length named + c.loop-pointer.pointer) c.loop-pointer.pointer c.loop-pointer.numbering c.number-in-loop-pointer.new.self here c.loop-pointer.invariant c.number-in-loop-pointer.ensures)

pub unreachable-requires : goal.unreachable-requires
unreachable-requires g c =
    let m = g.M.Machine.semantics c.args.machine.now in
    let named = m.pointers_of c.args.op in
    let within = c.treats_pointers_alike.ensures.pointers c.args.op c.requires in
    let few : m.pointers ≤ MAX_POINTERS = omega (arith, c.pointers-pointers.ensures) in
    let all : c.loop-pointer.pointer ≡ m.pointers = omega (arith, c.pointers-pointers.ensures) in
    let images = numbered_all (has c.args.used) m.pointers named within few c.loop-pointer.numbering
    (subst (λ pointer. HasNumbered (has c.args.used) m.pointers named (length named + pointer) c.loop-pointer.numbering) all c.loop-pointer.invariant) in
    c.in-None.ensures (subst IsRenaming (sym images) (canonical_is_renaming (has c.args.used) m.pointers named within few).is_renaming)

pub returns : goal.returns
returns g c =
    let m = g.M.Machine.semantics c.args.machine.now in
    let named = m.pointers_of c.args.op in
    let within = c.treats_pointers_alike.ensures.pointers c.args.op c.requires in
    let few : m.pointers ≤ MAX_POINTERS = omega (arith, c.pointers-pointers.ensures) in
    let all : c.loop-pointer.pointer ≡ m.pointers = omega (arith, c.pointers-pointers.ensures) in
    c.in-Some.ensures
    ∙ numbered_all (has c.args.used) m.pointers named within few c.loop-pointer.numbering
    (subst (λ pointer. HasNumbered (has c.args.used) m.pointers named (length named + pointer) c.loop-pointer.numbering) all c.loop-pointer.invariant)
