use Rattle.std.proofs.Common.{map, string_bytes}
use Rattle.command_words.proofs.Beginnings.{cut_more, equals_more}
use Rattle.command_words.proofs.scanning.cut_words.Goals as goal

pub loop-first-preserved : goal.loop-first-preserved
loop-first-preserved c = record {
  spelled = cut_more c.loop-first.uses c.push.new.self c.in-Some.first (map string_bytes c.in-Some.others.now) (map string_bytes c.loop-first.names.now) (map string_bytes c.args.words.now) c.in_ok-push.ensures.ok c.loop-first.invariant.spelled c.in-Some.ensures.some;
  first_equals = equals_more c.loop-first.uses c.push.new.self c.in-Some.first c.in_ok-push.ensures.ok c.loop-first.invariant.first_equals c.in-Some.ensures.some.first_equals;
}
