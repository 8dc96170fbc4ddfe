use Rattle.std.proofs.Common.{◌≡◌, ◌∙◌, ℕ, List, [], ◌∷◌, ◌++◌, length, sym, ap, subst}
use Rattle.std.specs.Prelude.{All, Ok, Err, Option, option_to_list}
use Rattle.program_model.specs.Program.{Program, IsPartial}
use Rattle.refutation_tree.specs.declared.evidence.Mark.{Mark}
use Rattle.refutation_tree.specs.Grammar.{child_programs}
use Rattle.answer_reader.specs.Inner.Following.{past_marks, brought}
use Rattle.answer_reader.specs.Inner.Pending.{Pending}
use Rattle.answer_reader.specs.Inner.ReadingOn.{StandsAt}
use Rattle.answer_reader.proofs.Marks.{still_partial, none_brought, next_and_others, none_waits}
use Rattle.answer_reader.proofs.Onwards.{mark_reads}
use Rattle.answer_reader.proofs.Refused.{refused}
use Rattle.answer_reader.proofs.Taken.{none_more}
use Rattle.answer_reader.proofs.read_trees.read_marks.Goals as goal
use Rattle.answer_reader.proofs.read_trees.read_marks.Goals.{in-Split+in_ok-split, in_default-mark}

pub returns-in_err-mark : goal.returns-in_err-mark
returns-in_err-mark c = λ texts heading trees are count same bytes at.
    let old = c.loop-next.reader in
    let new = c.read_mark.new.reader in
    let ms = c.loop-next.marks in
    let q = c.in-Some.program in
    let qs = c.loop-next.pending.programs in
    let refusal = c.in_err-mark.field-0.0 in
    let here = subst (λ (next : Option Program). StandsAt texts bytes old (past_marks heading trees ms (option_to_list next ++ qs))) c.in-Some.is (c.loop-next.invariant.on texts bytes heading trees are count same at) in
    refused texts bytes (λ (mark : Mark). past_marks heading trees (ms ++ mark ∷ []) (brought (length texts) q mark ++ qs)) (λ (all : List Mark). past_marks heading trees all []) new new refusal
    c.from_residual.result c.from_residual.ensures.1
    (mark_reads texts are old new heading trees ms q qs c.args.instances (Err refusal) same c.in_err-mark.ensures bytes here)

pub loop-next-preserved : goal.loop-next-preserved
loop-next-preserved c =
    let old = c.loop-next.reader in
    let new = c.read_mark.new.reader in
    let ms = c.loop-next.marks in
    let q = c.in-Some.program in
    let qs = c.loop-next.pending.programs in
    let mark = c.in_ok-mark.mark in
    let next = c.take_next-next.result in
    let others = c.take_next-next.new.self.programs in
    let more : c.push.new.self ≡ ms ++ mark ∷ [] = c.in_ok-push.ensures.ok in
    let split : (c.match-mark.pending.ops ≡ c.loop-next.pending.ops) × (c.match-mark.pending.programs ≡ brought c.args.ops q mark ++ qs) = elim c.match-mark.branch [
      | in-Split+in_ok-split w ↦ (
        ap (λ (p : Pending). p.ops) w.pending-is ∙ w.in_ok-split.ensures.ops,
        ap (λ (p : Pending). p.programs) w.pending-is
            ∙ w.in_ok-split.ensures.ok
            ∙ ap (λ (n : ℕ). child_programs n q w.in-Split.line ++ qs) c.loop-next.invariant.ops
            ∙ ap (λ (m : Mark). brought c.args.ops q m ++ qs) (sym w.in-Split.is),
      )
      | in_default-mark w ↦ (
        ap (λ (p : Pending). p.ops) w.pending-is,
        ap (λ (p : Pending). p.programs) w.pending-is ∙ ap (λ (l : List Program). l ++ qs) (sym (none_brought c.args.ops q mark w.in_default-mark.not-Split)),
      )
    ] in
    let waits : option_to_list next ++ others ≡ brought c.args.ops q mark ++ qs =
    next_and_others next c.match-mark.pending.programs others c.take_next-next.ensures.some c.take_next-next.ensures.none ∙ split.1 in
    let partial = subst (λ (o : Option Program). All (IsPartial c.args.ops) (option_to_list o ++ qs)) c.in-Some.is c.loop-next.invariant.partial in
    record {
      ops = c.take_next-next.ensures.ops ∙ split.0 ∙ c.loop-next.invariant.ops;
      partial = still_partial c.args.ops q qs (option_to_list next ++ others) mark partial c.in_ok-mark.ensures.2.may waits;
      on = λ texts bytes heading trees are count same at.
          let here = subst (λ (o : Option Program). StandsAt texts bytes old (past_marks heading trees ms (option_to_list o ++ qs))) c.in-Some.is (c.loop-next.invariant.on texts bytes heading trees are count same at) in
          let read = mark_reads texts are old new heading trees ms q qs c.args.instances (Ok mark) same c.in_ok-mark.ensures bytes here in
          subst (λ (l : List Mark). StandsAt texts bytes new (past_marks heading trees l (option_to_list next ++ others))) (sym more)
          (subst (λ (l : List Program). StandsAt texts bytes new (past_marks heading trees (ms ++ mark ∷ []) l)) (sym waits)
          (subst (λ (n : ℕ). StandsAt texts bytes new (past_marks heading trees (ms ++ mark ∷ []) (brought n q mark ++ qs))) count read));
      none = none_more _ (others ≡ []) next (λ both. both.1) c.take_next-next.ensures.none;
    }

pub returns : goal.returns
returns c = λ texts heading trees are count same bytes at.
    subst (λ (l : List Program). StandsAt texts bytes c.loop-next.reader (past_marks heading trees c.loop-next.marks l))
    (none_waits c.loop-next.next c.loop-next.pending.programs c.in_default.is c.loop-next.invariant.none)
    (c.loop-next.invariant.on texts bytes heading trees are count same at)
