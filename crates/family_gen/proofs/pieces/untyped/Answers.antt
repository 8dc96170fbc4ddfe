use Rattle.family_gen.proofs.MadeWords.{made_untyped}
use Rattle.family_gen.proofs.pieces.untyped.Goals as goal

pub returns : goal.returns
returns c = made_untyped c.with_group.result c.new.result c.in_ok-words.field-0 c.args.texts c.new.ensures c.in_ok-words.ensures c.with_group.ensures
