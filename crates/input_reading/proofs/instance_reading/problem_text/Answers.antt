use Rattle.input_reading.proofs.instance_reading.problem_text.Goals as goal

pub returns-in-Ok-clause-read : goal.returns-in-Ok-clause-read
returns-in-Ok-clause-read c = (c.args.bytes.now, c.requires, c.in-Ok.ensures.reply)
