use Rattle.std.proofs.Common.{◌≡◌}
use Rattle.std.specs.declared.cmp.Ordering.TheVariants.{Less, Equal, Greater}
use Rattle.std.specs.Ordering.{nat_cmp}
use Rattle.std.specs.Cmp.Lexicographic.{slice_cmp}
use Rattle.evaluations.specs.Inner.KeyOrder.{comes_before_by}
use Rattle.evaluations.proofs.by_key.ByKeyRanking.before.Goals as goal

pub returns-in-Less-clause-answer : goal.returns-in-Less-clause-answer
returns-in-Less-clause-answer c =
    let is : Less ≡ slice_cmp nat_cmp c.args.a.now c.args.b.now = cc in
    comes_before_by Less c.args.a.now c.args.a_number c.args.b.now c.args.b_number is

pub returns-in-Equal-clause-answer : goal.returns-in-Equal-clause-answer
returns-in-Equal-clause-answer c =
    let is : Equal ≡ slice_cmp nat_cmp c.args.a.now c.args.b.now = cc in
    comes_before_by Equal c.args.a.now c.args.a_number c.args.b.now c.args.b_number is

pub returns-in-Greater-clause-answer : goal.returns-in-Greater-clause-answer
returns-in-Greater-clause-answer c =
    let is : Greater ≡ slice_cmp nat_cmp c.args.a.now c.args.b.now = cc in
    comes_before_by Greater c.args.a.now c.args.a_number c.args.b.now c.args.b_number is
