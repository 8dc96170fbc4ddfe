use Rattle.std.proofs.Common.{◌≡◌, drop}
use Rattle.std.specs.FinMap.{get}
use Rattle.bfgp_outside.specs.Inner.Held.{files_of}
use Rattle.bfgp_outside.proofs.memory_shelf.bytes_of.Given as goal

abbrev pub invariant-loop-file : goal.invariant-loop-file
invariant-loop-file l = get (files_of l.held) l.name ≡ get (files_of (drop l.file-index l.held)) l.name
