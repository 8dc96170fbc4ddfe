-- The names of types, where one more word of `:types` is gone through.
use Rattle.std.proofs.Common.{◌≡◌, ℕ, ◌<◌, ◌+◌, List, [], ◌∷◌, length, take, get_or, flat_map, ap, ◌∙◌}
use Rattle.std.proofs.lemmas.List.Concat.{flat_map-append}
use Rattle.std.proofs.lemmas.List.Sums.{fold-append}
use Rattle.pddl_forms.specs.declared.texts.Typed.{Typed}
use Rattle.pddl_task.specs.Names.{with_name, with_names}
use Rattle.pddl_task.specs.Types.{root, mentioned, type_of}
use Rattle.pddl_task.proofs.NamesOf.{one_more}

pub mentioned_more : (types : List Typed) (i : ℕ) (typed : Typed) → i < length types → typed ≡ get_or types i typed
    → with_names (root ∷ []) (flat_map mentioned (take (i + 1) types)) ≡ with_name (with_name (with_names (root ∷ []) (flat_map mentioned (take i types))) typed.word.text) (type_of typed)
mentioned_more types i typed within is =
    ap (λ l. with_names (root ∷ []) (flat_map mentioned l)) (one_more types i typed within is)
    ∙ ap (with_names (root ∷ [])) (flat_map-append mentioned (take i types) (typed ∷ []))
    ∙ fold-append with_name (root ∷ []) (flat_map mentioned (take i types)) (mentioned typed)
