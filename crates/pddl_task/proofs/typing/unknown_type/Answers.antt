use Rattle.std.proofs.Common.{◌≡◌, ◌∙◌, sym, subst, Some}
use Rattle.pddl_forms.specs.declared.texts.Word.{Word}
use Rattle.pddl_task.specs.Faults.{IsUnknownType, IsUnknownName}
use Rattle.pddl_task.proofs.First.{first_same}
use Rattle.pddl_task.proofs.typing.unknown_type.Goals as goal

one_word : (v w : Word) → Some v ≡ Some w → w ≡ v
one_word v w same = cc

pub returns-in-Some : goal.returns-in-Some
returns-in-Some c =
    first_same (λ f. IsUnknownName c.args.types.now f c.in-Some.of) (λ f. IsUnknownType c.args.types.now f c.args.typed.now) c.unknown_name.result
    (λ f has. (c.in-Some.of, c.in-Some.is, has.0, has.1))
    (λ f has. subst (λ (w : Word). IsUnknownName c.args.types.now f w) (one_word c.in-Some.of has.0 (sym c.in-Some.is ∙ has.1)) (has.2, has.3))
    (rw c.word.ensures at c.unknown_name.ensures)
