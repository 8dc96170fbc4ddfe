use Rattle.std.proofs.Common.{bytes_eq}
use Rattle.pddl_task.proofs.Mapped.{place_or_len}
use Rattle.pddl_task.proofs.names.Names.number.Goals as goal

pub returns : goal.returns
returns c = let e = place_or_len (bytes_eq c.args.name.now) c.args.self.now in cc
