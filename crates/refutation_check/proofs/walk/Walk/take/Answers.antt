use Rattle.std.proofs.Common.{◌≡◌, ◌∙◌, ◌++◌, drop, sym, ap, List}
use Rattle.refutation_tree.specs.Covers.{Child}
use Rattle.refutation_check.specs.Inner.Walking.{as_next}
use Rattle.refutation_check.specs.Walking.{Stands, brought, pending}
use Rattle.refutation_check.proofs.Marks.{brings_nothing, mark_stood}
use Rattle.refutation_check.proofs.walk.Walk.take.Goals as goal

pub returns-in_default-mark : goal.returns-in_default-mark
returns-in_default-mark g c =
    let m = g.M.Machine.semantics c.args.machine.now in
    let q = c.in-Some.program in
    let old = c.args.self.now in
    let walk = c.go_past_next.new.self in
    let cs = pending m old in
    let next = as_next m old q in
    let stands : Stands m old.covering next c.args.mark = c.stands.ensures.stands.0 c.if-not-stands.false in
    let covering = c.go_past_next.ensures.covering ∙ c.stands.ensures.same.covering in
    let past : pending m walk ≡ drop 1 cs = c.go_past_next.ensures.pending ∙ ap (λ (l : List Child). drop 1 l) c.stands.ensures.same.still in
    let left : pending m walk ≡ brought m q c.args.mark ++ drop 1 cs = past ∙ ap (λ (l : List Child). l ++ drop 1 cs) (sym (brings_nothing m q c.args.mark c.in_default-mark.not-Split)) in
    record {
      walk = c.go_past_next.ensures.walk;
      takes = λ ms. mark_stood m old.covering walk.covering cs _ next c.args.mark ms c.in-Some.ensures.next stands covering left;
    }
