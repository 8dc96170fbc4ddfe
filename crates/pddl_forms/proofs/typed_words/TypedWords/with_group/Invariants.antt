use Rattle.std.proofs.Common.{◌≡◌, ◌++◌, true, map}
use Rattle.pddl_forms.specs.Forms.{typed}
use Rattle.pddl_forms.proofs.Groups.{EndsWith}
use Rattle.pddl_forms.proofs.typed_words.TypedWords.with_group.Given as goal

abbrev pub invariant-loop-word : goal.invariant-loop-word
invariant-loop-word l = record {
  added : l.all ≡ l.fn.self ++ map (typed l.of) l.yielded;
  alike : l.is_alike ≡ true → EndsWith l.of l.all;
}
