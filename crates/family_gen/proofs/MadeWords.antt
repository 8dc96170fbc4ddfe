-- Words that are made, without types.
use Rattle.std.proofs.Common.{◌≡◌, List, [], ◌++◌, map, ℕ, None, Result, Ok, Err, IfOk, ◌∙◌}
use Rattle.pddl_forms.specs.declared.texts.Word.{Word}
use Rattle.pddl_forms.specs.declared.texts.Typed.{Typed}
use Rattle.pddl_forms.specs.Forms.{typed}
use Rattle.pddl_task.proofs.Composed.{map-map}
use Rattle.family_gen.specs.Domains.{word, untyped}

-- a group of words without types, after none
pub made_untyped : {E : Type 0} (r : Result (List Typed) E) (none : List Typed) (words : List Word) (texts : List (List ℕ)) → none ≡ [] → words ≡ map word texts
    → IfOk r (λ all. all ≡ none ++ map (typed None) words) → IfOk r (λ list. list ≡ map untyped texts)
made_untyped (Ok all) none words texts is are made = made ∙ (λ i. is i ++ map (typed None) (are i)) ∙ map-map (typed None) word texts
made_untyped (Err e) none words texts is are made = tt
