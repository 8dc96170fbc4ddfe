-- Names that differ still do so where others are added.
use Rattle.std.proofs.Common.{◌≡◌, ◌≢◌, ℕ, Bool, true, false, List, [], ◌∷◌, ◌++◌, flat_map, if◌then◌else◌, refl, ◌∙◌, arith}
use Rattle.std.proofs.lemmas.List.{get_or_default}
use Rattle.std.proofs.lemmas.List.Quantifiers.{all_pairs_push}
use Rattle.pddl_forms.specs.declared.texts.Typed.{Typed}
use Rattle.pddl_task.specs.Names.{with_name, with_names, is_among}
use Rattle.pddl_task.specs.Types.{root, mentioned, type_names}
use Rattle.pddl_task.specs.Inner.Names.{AreApart}
use Rattle.pddl_task.proofs.Among.{is_absent}

one_more_apart : (names : List (List ℕ)) (name : List ℕ) → AreApart names → AreApart (with_name names name)
one_more_apart names name apart = by (is_among name names) refl
  where
    by : (b : Bool) → is_among name names ≡ b → AreApart (if b then names else names ++ name ∷ [])
    by true there = apart
    by false absent =
        all_pairs_push (λ one other. one ≢ other) names name apart
        (λ k d within same. is_absent name names absent (k, within, get_or_default names k name d within ∙ same))

pub still_apart : (start others : List (List ℕ)) → AreApart start → AreApart (with_names start others)
still_apart start [] apart = apart
still_apart start (other ∷ rest) apart = still_apart (with_name start other) rest (one_more_apart start other apart)

-- the names of types differ
pub types_apart : (types : List Typed) → AreApart (type_names types)
types_apart types = still_apart (root ∷ []) (flat_map mentioned types) (λ i j d less within. absurd (omega (arith, less, within)))
