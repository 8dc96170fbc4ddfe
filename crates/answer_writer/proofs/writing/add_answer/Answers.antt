use Rattle.std.proofs.Common.{ℕ, List, [], ◌∷◌, ◌++◌, flat_map}
use Rattle.std.specs.Prelude.{codes}
use Rattle.program_text.proofs.Gathering.{all_gathered}
use Rattle.answer_writer.specs.Document.{head_lines, verdict_line, tree_lines, program_lines, ends_lines}
use Rattle.answer_writer.proofs.Puts.{then_lines, more_lines, stopped_lines, first_stopped, before_lines}
use Rattle.answer_writer.proofs.writing.add_answer.Goals as goal

pub returns-in_err-add_head : goal.returns-in_err-add_head
returns-in_err-add_head g c =
    let written = g.K.Sink.written in
    let faults = g.K.Sink.faults in
    let head : List (List ℕ) = head_lines c.args.answer.now in
    let evidence : List (List ℕ) = verdict_line c.args.answer.now.outcome ∷ flat_map tree_lines c.args.answer.now.trees in
    let program : List (List ℕ) = program_lines c.args.names.now c.args.answer.now.program in
    let ends : List (List ℕ) = ends_lines 0 c.args.answer.now.ends in
    let last : List (List ℕ) = codes "end of answer" ∷ [] in
    before_lines written faults c.args.sink.now c.add_head.new.sink c.args.gathered.now c.add_head.new.gathered c.from_residual.result (head ++ evidence ++ program ++ ends) last c.from_residual.ensures.0
    (before_lines written faults c.args.sink.now c.add_head.new.sink c.args.gathered.now c.add_head.new.gathered c.from_residual.result (head ++ evidence ++ program) ends c.from_residual.ensures.0
    (before_lines written faults c.args.sink.now c.add_head.new.sink c.args.gathered.now c.add_head.new.gathered c.from_residual.result (head ++ evidence) program c.from_residual.ensures.0
    (before_lines written faults c.args.sink.now c.add_head.new.sink c.args.gathered.now c.add_head.new.gathered c.from_residual.result head evidence c.from_residual.ensures.0
    (first_stopped written faults c.args.sink.now c.add_head.new.sink c.args.gathered.now c.add_head.new.gathered c.in_err-add_head.field-0.0 c.from_residual.result _ c.from_residual.ensures.0 c.in_err-add_head.ensures))))

pub returns-in_err-add_evidence : goal.returns-in_err-add_evidence
returns-in_err-add_evidence g c =
    let written = g.K.Sink.written in
    let faults = g.K.Sink.faults in
    let head : List (List ℕ) = head_lines c.args.answer.now in
    let evidence : List (List ℕ) = verdict_line c.args.answer.now.outcome ∷ flat_map tree_lines c.args.answer.now.trees in
    let program : List (List ℕ) = program_lines c.args.names.now c.args.answer.now.program in
    let ends : List (List ℕ) = ends_lines 0 c.args.answer.now.ends in
    let last : List (List ℕ) = codes "end of answer" ∷ [] in
    before_lines written faults c.args.sink.now c.add_evidence.new.sink c.args.gathered.now c.add_evidence.new.gathered c.from_residual-in_err-add_evidence.result (head ++ evidence ++ program ++ ends) last c.from_residual-in_err-add_evidence.ensures.0
    (before_lines written faults c.args.sink.now c.add_evidence.new.sink c.args.gathered.now c.add_evidence.new.gathered c.from_residual-in_err-add_evidence.result (head ++ evidence ++ program) ends c.from_residual-in_err-add_evidence.ensures.0
    (before_lines written faults c.args.sink.now c.add_evidence.new.sink c.args.gathered.now c.add_evidence.new.gathered c.from_residual-in_err-add_evidence.result (head ++ evidence) program c.from_residual-in_err-add_evidence.ensures.0
    (stopped_lines written faults c.args.sink.now c.add_head.new.sink c.add_evidence.new.sink c.args.gathered.now c.add_head.new.gathered c.add_evidence.new.gathered c.in_err-add_evidence.field-0.0 c.from_residual-in_err-add_evidence.result head evidence c.from_residual-in_err-add_evidence.ensures.0
    (all_gathered written faults c.args.sink.now c.add_head.new.sink c.args.gathered.now c.add_head.new.gathered c.in_ok-add_head.field-0 _ c.in_ok-add_head.ensures)
    c.in_err-add_evidence.ensures)))

pub returns-in_err-add_found : goal.returns-in_err-add_found
returns-in_err-add_found g c =
    let written = g.K.Sink.written in
    let faults = g.K.Sink.faults in
    let head : List (List ℕ) = head_lines c.args.answer.now in
    let evidence : List (List ℕ) = verdict_line c.args.answer.now.outcome ∷ flat_map tree_lines c.args.answer.now.trees in
    let program : List (List ℕ) = program_lines c.args.names.now c.args.answer.now.program in
    let ends : List (List ℕ) = ends_lines 0 c.args.answer.now.ends in
    let last : List (List ℕ) = codes "end of answer" ∷ [] in
    before_lines written faults c.args.sink.now c.add_found.new.sink c.args.gathered.now c.add_found.new.gathered c.from_residual-in_err-add_found.result (head ++ evidence ++ program ++ ends) last c.from_residual-in_err-add_found.ensures.0
    (before_lines written faults c.args.sink.now c.add_found.new.sink c.args.gathered.now c.add_found.new.gathered c.from_residual-in_err-add_found.result (head ++ evidence ++ program) ends c.from_residual-in_err-add_found.ensures.0
    (stopped_lines written faults c.args.sink.now c.add_evidence.new.sink c.add_found.new.sink c.args.gathered.now c.add_evidence.new.gathered c.add_found.new.gathered c.in_err-add_found.field-0.0 c.from_residual-in_err-add_found.result (head ++ evidence) program c.from_residual-in_err-add_found.ensures.0
    (more_lines written faults c.args.sink.now c.add_head.new.sink c.add_evidence.new.sink c.args.gathered.now c.add_head.new.gathered c.add_evidence.new.gathered c.in_ok-add_evidence.field-0 head evidence
    (all_gathered written faults c.args.sink.now c.add_head.new.sink c.args.gathered.now c.add_head.new.gathered c.in_ok-add_head.field-0 _ c.in_ok-add_head.ensures)
    c.in_ok-add_evidence.ensures)
    c.in_err-add_found.ensures))

pub returns-in_err-add_ends : goal.returns-in_err-add_ends
returns-in_err-add_ends g c =
    let written = g.K.Sink.written in
    let faults = g.K.Sink.faults in
    let head : List (List ℕ) = head_lines c.args.answer.now in
    let evidence : List (List ℕ) = verdict_line c.args.answer.now.outcome ∷ flat_map tree_lines c.args.answer.now.trees in
    let program : List (List ℕ) = program_lines c.args.names.now c.args.answer.now.program in
    let ends : List (List ℕ) = ends_lines 0 c.args.answer.now.ends in
    let last : List (List ℕ) = codes "end of answer" ∷ [] in
    before_lines written faults c.args.sink.now c.add_ends.new.sink c.args.gathered.now c.add_ends.new.gathered c.from_residual-in_err-add_ends.result (head ++ evidence ++ program ++ ends) last c.from_residual-in_err-add_ends.ensures.0
    (stopped_lines written faults c.args.sink.now c.add_found.new.sink c.add_ends.new.sink c.args.gathered.now c.add_found.new.gathered c.add_ends.new.gathered c.in_err-add_ends.field-0.0 c.from_residual-in_err-add_ends.result (head ++ evidence ++ program) ends c.from_residual-in_err-add_ends.ensures.0
    (more_lines written faults c.args.sink.now c.add_evidence.new.sink c.add_found.new.sink c.args.gathered.now c.add_evidence.new.gathered c.add_found.new.gathered c.in_ok-add_found.field-0 (head ++ evidence) program
    (more_lines written faults c.args.sink.now c.add_head.new.sink c.add_evidence.new.sink c.args.gathered.now c.add_head.new.gathered c.add_evidence.new.gathered c.in_ok-add_evidence.field-0 head evidence
    (all_gathered written faults c.args.sink.now c.add_head.new.sink c.args.gathered.now c.add_head.new.gathered c.in_ok-add_head.field-0 _ c.in_ok-add_head.ensures)
    c.in_ok-add_evidence.ensures)
    c.in_ok-add_found.ensures)
    (rw c.as_slice.ensures at c.in_err-add_ends.ensures))

pub returns : goal.returns
returns g c =
    let written = g.K.Sink.written in
    let faults = g.K.Sink.faults in
    let head : List (List ℕ) = head_lines c.args.answer.now in
    let evidence : List (List ℕ) = verdict_line c.args.answer.now.outcome ∷ flat_map tree_lines c.args.answer.now.trees in
    let program : List (List ℕ) = program_lines c.args.names.now c.args.answer.now.program in
    let ends : List (List ℕ) = ends_lines 0 c.args.answer.now.ends in
    let last : List (List ℕ) = codes "end of answer" ∷ [] in
    then_lines written faults c.args.sink.now c.add_ends.new.sink c.add_line.new.sink c.args.gathered.now c.add_ends.new.gathered c.add_line.new.gathered c.add_line.result (head ++ evidence ++ program ++ ends) last
    (more_lines written faults c.args.sink.now c.add_found.new.sink c.add_ends.new.sink c.args.gathered.now c.add_found.new.gathered c.add_ends.new.gathered c.in_ok-add_ends.field-0 (head ++ evidence ++ program) ends
    (more_lines written faults c.args.sink.now c.add_evidence.new.sink c.add_found.new.sink c.args.gathered.now c.add_evidence.new.gathered c.add_found.new.gathered c.in_ok-add_found.field-0 (head ++ evidence) program
    (more_lines written faults c.args.sink.now c.add_head.new.sink c.add_evidence.new.sink c.args.gathered.now c.add_head.new.gathered c.add_evidence.new.gathered c.in_ok-add_evidence.field-0 head evidence
    (all_gathered written faults c.args.sink.now c.add_head.new.sink c.args.gathered.now c.add_head.new.gathered c.in_ok-add_head.field-0 _ c.in_ok-add_head.ensures)
    c.in_ok-add_evidence.ensures)
    c.in_ok-add_found.ensures)
    (rw c.as_slice.ensures at c.in_ok-add_ends.ensures))
    (rw c.line_text.ensures at c.add_line.ensures)
