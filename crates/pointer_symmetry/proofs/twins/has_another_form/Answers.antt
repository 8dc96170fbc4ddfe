use Rattle.std.proofs.Common.{◌≡◌, ◌+◌, ◌≤◌, length, sym, ◌∙◌, subst, arith}
use Rattle.program_model.specs.declared.machine.TheConstants.{MAX_POINTERS}
use Rattle.pointer_symmetry.specs.Used.{has}
use Rattle.pointer_symmetry.proofs.Walks.{Holds, Keeps, holds_more, holds_still, keeps_more, taken_keeps, least_is_number, told_own, told_another}
use Rattle.pointer_symmetry.proofs.twins.has_another_form.Goals as goal
use Rattle.pointer_symmetry.proofs.twins.has_another_form.Goals.{then-not-contains+else-pointer-least_outside, else-not-contains}

pub returns-then-pointer-least_outside : goal.returns-then-pointer-least_outside
returns-then-pointer-least_outside g c =
    let m = g.M.Machine.semantics c.args.machine.now in
    let alike = c.treats_pointers_alike.ensures in
    let few : m.pointers ≤ MAX_POINTERS = omega (arith, c.pointers-few.ensures) in
    let walked = c.loop-place.invariant in
    let here = c.pointer_at-pointer.ensures.value in
    let least = least_is_number (has c.args.used) m.pointers (m.pointers_of c.args.op) (alike.pointers c.args.op c.requires) (has c.loop-place.taken) c.loop-place.place c.pointer_at-pointer.result c.least_outside.result here walked.holds walked.keeps (sym c.contains.ensures ∙ c.if-not-contains.true) c.least_outside.ensures.outside c.least_outside.ensures.least in
    λ told same. told_another m (g.M.Machine.belongs c.args.machine.now) alike few (has c.args.used) c.args.op c.requires told same c.loop-place.place c.pointer_at-pointer.result here (λ keeps. c.if-pointer-least_outside.true (sym keeps ∙ least))

pub loop-place-preserved : goal.loop-place-preserved
loop-place-preserved g c =
    let m = g.M.Machine.semantics c.args.machine.now in
    let named = m.pointers_of c.args.op in
    let used = has c.args.used in
    let taken = has c.loop-place.taken in
    let within = c.treats_pointers_alike.ensures.pointers c.args.op c.requires in
    let walked = c.loop-place.invariant in
    let place = c.loop-place.place in
    let pointer = c.pointer_at-pointer.result in
    let here = c.pointer_at-pointer.ensures.value in
    elim c.if-not-contains.branch [
      | then-not-contains+else-pointer-least_outside w ↦
          let least = least_is_number used m.pointers named within taken place pointer w.least_outside.result here walked.holds walked.keeps (sym c.contains.ensures ∙ w.if-not-contains.true) w.least_outside.ensures.outside w.least_outside.ensures.least in
          record {
            holds = subst (λ set. Holds (has set) used named (place + 1)) (sym w.taken-is) (holds_more taken (has w.with-taken.result) used named place pointer here walked.holds w.with-taken.ensures);
            keeps = keeps_more used m.pointers named within place pointer here walked.keeps (least ∙ sym w.if-pointer-least_outside.false);
          }
      | else-not-contains w ↦
          let there = sym c.contains.ensures ∙ w.if-not-contains.false in
          record {
            holds = subst (λ set. Holds (has set) used named (place + 1)) (sym w.taken-is) (holds_still taken used named place pointer here walked.holds there);
            keeps = keeps_more used m.pointers named within place pointer here walked.keeps (taken_keeps used m.pointers named within taken place pointer walked.holds walked.keeps there);
          }
    ]

pub returns : goal.returns
returns g c =
    let m = g.M.Machine.semantics c.args.machine.now in
    let few : m.pointers ≤ MAX_POINTERS = omega (arith, c.pointers-few.ensures) in
    let all : c.loop-place.place ≡ length (m.pointers_of c.args.op) = omega (arith, c.places-place-end.ensures) in
    λ told same. told_own m (g.M.Machine.belongs c.args.machine.now) c.treats_pointers_alike.ensures few (has c.args.used) c.args.op c.requires told same
    (subst (Keeps (has c.args.used) m.pointers (m.pointers_of c.args.op)) all c.loop-place.invariant.keeps)
