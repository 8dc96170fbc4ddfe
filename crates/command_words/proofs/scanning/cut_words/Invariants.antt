use Rattle.std.proofs.Common.{length, map, string_bytes}
use Rattle.std.specs.Prelude.{All}
use Rattle.command_words.specs.Words.{AreUsesThen}
use Rattle.command_words.specs.Inner.Scanning.{HasNoEquals, use_of}
use Rattle.command_words.proofs.scanning.cut_words.Given as goal

abbrev pub decreases-loop-first : goal.decreases-loop-first
decreases-loop-first l = length l.names

abbrev pub invariant-loop-first : goal.invariant-loop-first
invariant-loop-first l = record {
  spelled : AreUsesThen (map use_of l.uses) (map string_bytes l.names) (map string_bytes l.fn.words);
  first_equals : All (λ used. HasNoEquals used.name) (map use_of l.uses);
}
