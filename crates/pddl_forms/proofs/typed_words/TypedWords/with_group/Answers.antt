use Rattle.std.proofs.Common.{◌∙◌, ◌++◌, ◌∷◌, [], ap, sym}
use Rattle.pddl_forms.specs.Forms.{typed}
use Rattle.pddl_forms.proofs.Groups.{like_last, ends_with, grown}
use Rattle.pddl_forms.proofs.typed_words.TypedWords.with_group.Goals as goal

pub with-requires : goal.with-requires
with-requires c = λ is. rw c.in_ok-of.ensures (like_last c.args.of.now c.loop-word.all c.in-Some.word (c.loop-word.invariant.alike is))

pub loop-word-preserved : goal.loop-word-preserved
loop-word-preserved c =
    let is = c.in_ok-all.ensures ∙ ap (λ of. c.loop-word.all ++ typed of c.in-Some.word ∷ []) c.in_ok-of.ensures in
    record {
      added = is ∙ grown c.args.of.now c.args.self c.loop-word.all c.loop-word.yielded c.in-Some.word c.loop-word.invariant.added;
      alike = λ set. rw is (ends_with c.args.of.now c.loop-word.all c.in-Some.word);
    }
