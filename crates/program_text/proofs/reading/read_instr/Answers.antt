use Rattle.std.proofs.Common.{length, []}
use Rattle.std.proofs.lemmas.Option.{slice_get_within, get_or_from_slice_get}
use Rattle.program_model.proofs.Alphabets.{contains_op}
use Rattle.program_text.proofs.reading.read_instr.Goals as goal

pub returns-in-Some-clause-some : goal.returns-in-Some-clause-some
returns-in-Some-clause-some c =
    let names = c.args.names.now in
    let here = c.in-Some.ensures.some in (
      (contains_op (length names) c.args.lines c.args.line c.in-Some.op c.requires.line).1 (slice_get_within names c.in-Some.op c.args.text.now here),
      get_or_from_slice_get names c.in-Some.op c.args.text.now [] here,
    )
