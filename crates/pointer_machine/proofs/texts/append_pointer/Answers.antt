use Rattle.std.proofs.Common.{◌∙◌, ◌+◌, ◌++◌, [], ◌∷◌, ap, arith}
use Rattle.std.proofs.lemmas.Fmt.{decimal_digit}
use Rattle.std.proofs.lemmas.List.{append_assoc}
use Rattle.pointer_machine.proofs.texts.append_pointer.Goals as goal

pub returns : goal.returns
returns c =
    rw (decimal_digit c.args.pointer (omega (arith, c.requires))) (c.in_ok-push.ensures.ok ∙ ap (λ text. text ++ (48 + c.args.pointer) ∷ []) c.in_ok-append.ensures.ok ∙ append_assoc c.args.text.now (112 ∷ []) ((48 + c.args.pointer) ∷ []))
