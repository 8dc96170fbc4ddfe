use Rattle.std.proofs.Common.{ℕ, List, [], ◌∷◌, ◌++◌}
use Rattle.std.specs.Prelude.{codes}
use Rattle.flag_rules.specs.Line.{then_number}
use Rattle.program_text.proofs.Gathering.{all_gathered}
use Rattle.answer_writer.proofs.Puts.{then_lines, more_lines, stopped_lines, first_stopped, before_lines}
use Rattle.answer_writer.proofs.writing.add_head.Goals as goal

pub returns-in_err-add_line : goal.returns-in_err-add_line
returns-in_err-add_line g c =
    let written = g.K.Sink.written in
    let faults = g.K.Sink.faults in
    let form : List (List ℕ) = codes "bfgp answer 1" ∷ [] in
    let pointers : List (List ℕ) = (codes "pointers" ++ then_number c.args.answer.now.pointers) ∷ [] in
    let asked : List (List ℕ) = (codes "lines" ++ then_number c.args.answer.now.lines) ∷ [] in
    let instances : List (List ℕ) = (codes "instances" ++ then_number c.args.answer.now.instances) ∷ [] in
    before_lines written faults c.args.sink.now c.add_line.new.sink c.args.gathered.now c.add_line.new.gathered c.from_residual.result (form ++ pointers ++ asked) instances c.from_residual.ensures.0
    (before_lines written faults c.args.sink.now c.add_line.new.sink c.args.gathered.now c.add_line.new.gathered c.from_residual.result (form ++ pointers) asked c.from_residual.ensures.0
    (before_lines written faults c.args.sink.now c.add_line.new.sink c.args.gathered.now c.add_line.new.gathered c.from_residual.result form pointers c.from_residual.ensures.0
    (first_stopped written faults c.args.sink.now c.add_line.new.sink c.args.gathered.now c.add_line.new.gathered c.in_err-add_line.field-0.0 c.from_residual.result _ c.from_residual.ensures.0 (rw c.line_text.ensures at c.in_err-add_line.ensures))))

pub returns-in_err-add_line-2 : goal.returns-in_err-add_line-2
returns-in_err-add_line-2 g c =
    let written = g.K.Sink.written in
    let faults = g.K.Sink.faults in
    let form : List (List ℕ) = codes "bfgp answer 1" ∷ [] in
    let pointers : List (List ℕ) = (codes "pointers" ++ then_number c.args.answer.now.pointers) ∷ [] in
    let asked : List (List ℕ) = (codes "lines" ++ then_number c.args.answer.now.lines) ∷ [] in
    let instances : List (List ℕ) = (codes "instances" ++ then_number c.args.answer.now.instances) ∷ [] in
    before_lines written faults c.args.sink.now c.add_line-2.new.sink c.args.gathered.now c.add_line-2.new.gathered c.from_residual-in_err-add_line-2.result (form ++ pointers ++ asked) instances c.from_residual-in_err-add_line-2.ensures.0
    (before_lines written faults c.args.sink.now c.add_line-2.new.sink c.args.gathered.now c.add_line-2.new.gathered c.from_residual-in_err-add_line-2.result (form ++ pointers) asked c.from_residual-in_err-add_line-2.ensures.0
    (stopped_lines written faults c.args.sink.now c.add_line.new.sink c.add_line-2.new.sink c.args.gathered.now c.add_line.new.gathered c.add_line-2.new.gathered c.in_err-add_line-2.field-0.0 c.from_residual-in_err-add_line-2.result form pointers c.from_residual-in_err-add_line-2.ensures.0
    (all_gathered written faults c.args.sink.now c.add_line.new.sink c.args.gathered.now c.add_line.new.gathered c.in_ok-add_line.field-0 _ (rw c.line_text.ensures at c.in_ok-add_line.ensures))
    (rw c.number_line.ensures at c.in_err-add_line-2.ensures)))

pub returns-in_err-add_line-3 : goal.returns-in_err-add_line-3
returns-in_err-add_line-3 g c =
    let written = g.K.Sink.written in
    let faults = g.K.Sink.faults in
    let form : List (List ℕ) = codes "bfgp answer 1" ∷ [] in
    let pointers : List (List ℕ) = (codes "pointers" ++ then_number c.args.answer.now.pointers) ∷ [] in
    let asked : List (List ℕ) = (codes "lines" ++ then_number c.args.answer.now.lines) ∷ [] in
    let instances : List (List ℕ) = (codes "instances" ++ then_number c.args.answer.now.instances) ∷ [] in
    before_lines written faults c.args.sink.now c.add_line-3.new.sink c.args.gathered.now c.add_line-3.new.gathered c.from_residual-in_err-add_line-3.result (form ++ pointers ++ asked) instances c.from_residual-in_err-add_line-3.ensures.0
    (stopped_lines written faults c.args.sink.now c.add_line-2.new.sink c.add_line-3.new.sink c.args.gathered.now c.add_line-2.new.gathered c.add_line-3.new.gathered c.in_err-add_line-3.field-0.0 c.from_residual-in_err-add_line-3.result (form ++ pointers) asked c.from_residual-in_err-add_line-3.ensures.0
    (more_lines written faults c.args.sink.now c.add_line.new.sink c.add_line-2.new.sink c.args.gathered.now c.add_line.new.gathered c.add_line-2.new.gathered c.in_ok-add_line-2.field-0 form pointers
    (all_gathered written faults c.args.sink.now c.add_line.new.sink c.args.gathered.now c.add_line.new.gathered c.in_ok-add_line.field-0 _ (rw c.line_text.ensures at c.in_ok-add_line.ensures))
    (rw c.number_line.ensures at c.in_ok-add_line-2.ensures))
    (rw c.number_line-2.ensures at c.in_err-add_line-3.ensures))

pub returns : goal.returns
returns g c =
    let written = g.K.Sink.written in
    let faults = g.K.Sink.faults in
    let form : List (List ℕ) = codes "bfgp answer 1" ∷ [] in
    let pointers : List (List ℕ) = (codes "pointers" ++ then_number c.args.answer.now.pointers) ∷ [] in
    let asked : List (List ℕ) = (codes "lines" ++ then_number c.args.answer.now.lines) ∷ [] in
    let instances : List (List ℕ) = (codes "instances" ++ then_number c.args.answer.now.instances) ∷ [] in
    then_lines written faults c.args.sink.now c.add_line-3.new.sink c.add_line-4.new.sink c.args.gathered.now c.add_line-3.new.gathered c.add_line-4.new.gathered c.add_line-4.result (form ++ pointers ++ asked) instances
    (more_lines written faults c.args.sink.now c.add_line-2.new.sink c.add_line-3.new.sink c.args.gathered.now c.add_line-2.new.gathered c.add_line-3.new.gathered c.in_ok-add_line-3.field-0 (form ++ pointers) asked
    (more_lines written faults c.args.sink.now c.add_line.new.sink c.add_line-2.new.sink c.args.gathered.now c.add_line.new.gathered c.add_line-2.new.gathered c.in_ok-add_line-2.field-0 form pointers
    (all_gathered written faults c.args.sink.now c.add_line.new.sink c.args.gathered.now c.add_line.new.gathered c.in_ok-add_line.field-0 _ (rw c.line_text.ensures at c.in_ok-add_line.ensures))
    (rw c.number_line.ensures at c.in_ok-add_line-2.ensures))
    (rw c.number_line-2.ensures at c.in_ok-add_line-3.ensures))
    (rw c.number_line-3.ensures at c.add_line-4.ensures)
