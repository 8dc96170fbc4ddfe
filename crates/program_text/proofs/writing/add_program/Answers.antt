use Rattle.std.proofs.Common.{◌≡◌, ℕ, List, map, ◌∙◌, sym, arith}
use Rattle.std.specs.Prelude.{Some, None}
use Rattle.std.proofs.lemmas.List.{append-nil}
use Rattle.flag_rules.specs.Line.{line, lines_of}
use Rattle.bfgp_outside.proofs.Puts.{lines_map_joined}
use Rattle.program_model.specs.Program.{Program}
use Rattle.program_text.specs.Texts.{instr_text, program_line}
use Rattle.program_text.proofs.Puts.{program_has_text, stands_at}
use Rattle.program_text.proofs.Gathering.{none_gathered, item_gathered, item_stopped, items_gathered, same_gathered}
use Rattle.program_text.proofs.writing.add_program.Goals as goal

abbrev text : List (List ℕ) → Program → List ℕ
text names program = lines_of (map (program_line names) program)

pub add_instr-requires : goal.add_instr-requires
add_instr-requires g c = program_has_text c.args.names.now c.args.program.now c.loop-place.place c.unwrap.result c.requires (sym c.at.ensures.value ∙ c.unwrap.ensures)

pub returns-in_err-add_instr : goal.returns-in_err-add_instr
returns-in_err-add_instr g c =
    let written = g.K.Sink.written in
    let faults = g.K.Sink.faults in
    let names = c.args.names.now in
    let stands = stands_at c.args.program.now c.loop-place.place c.unwrap.result (sym c.at.ensures.value ∙ c.unwrap.ensures) in
    item_stopped written faults (text names) (lines_map_joined (program_line names)) c.args.program.now c.loop-place.place (Some c.unwrap.result) None stands.within stands.is c.args.sink.now c.loop-place.sink c.add_instr.new.sink
    c.args.gathered.now c.loop-place.gathered c.add_instr.new.gathered c.add_instr.new.gathered c.in_err-add_instr.field-0.0 c.from_residual.result c.from_residual.ensures.0 c.loop-place.invariant
    (same_gathered written faults c.loop-place.sink c.add_instr.new.sink c.loop-place.gathered c.add_instr.new.gathered _ _ _ (sym (append-nil (line (instr_text names c.unwrap.result)))) c.in_err-add_instr.ensures)

pub loop-place-init : goal.loop-place-init
loop-place-init g c = none_gathered g.K.Sink.written g.K.Sink.faults c.args.sink.now c.args.gathered.now

pub loop-place-preserved : goal.loop-place-preserved
loop-place-preserved g c =
    let written = g.K.Sink.written in
    let faults = g.K.Sink.faults in
    let names = c.args.names.now in
    let stands = stands_at c.args.program.now c.loop-place.place c.unwrap.result (sym c.at.ensures.value ∙ c.unwrap.ensures) in
    item_gathered written faults (text names) (lines_map_joined (program_line names)) c.args.program.now c.loop-place.place (Some c.unwrap.result) None stands.within stands.is c.args.sink.now c.loop-place.sink c.add_instr.new.sink
    c.args.gathered.now c.loop-place.gathered c.add_instr.new.gathered c.in_ok-add_instr.field-0 c.loop-place.invariant
    (same_gathered written faults c.loop-place.sink c.add_instr.new.sink c.loop-place.gathered c.add_instr.new.gathered _ _ _ (sym (append-nil (line (instr_text names c.unwrap.result)))) c.in_ok-add_instr.ensures)

pub returns : goal.returns
returns g c =
    let count : c.lines-place-end.result ≡ _ = c.lines-place-end.ensures.count in
    items_gathered g.K.Sink.written g.K.Sink.faults (text c.args.names.now) c.args.program.now c.loop-place.place c.args.sink.now c.loop-place.sink c.args.gathered.now c.loop-place.gathered _ (omega (arith, c.loop-place-test.false)) c.loop-place.invariant
