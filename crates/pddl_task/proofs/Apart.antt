-- Names that differ are each there once.
use Rattle.std.proofs.Common.{◌≡◌, ℕ, Bool, true, false, ◌+◌, List, [], ◌∷◌, ◌++◌, length, get_or, refl, sym, ◌∙◌, arith, append_assoc, length-append}
use Rattle.std.specs.Prelude.{Contains}
use Rattle.std.proofs.lemmas.List.{get_or_append_left, get_or-append-add, append-nil}
use Rattle.pddl_task.specs.Names.{with_name, with_names, is_among}
use Rattle.pddl_task.specs.Inner.Names.{AreApart, different}
use Rattle.pddl_task.proofs.Among.{is_there}

-- a name that stands behind names from which it differs is not among them
behind : (start : List (List ℕ)) (name : List ℕ) (rest : List (List ℕ)) → AreApart (start ++ name ∷ rest) → Contains start name → ⊥
behind start name rest apart (k, within, is) =
    let long : length (start ++ name ∷ rest) ≡ length start + length (name ∷ rest) = length-append start (name ∷ rest) in
    let front : get_or (start ++ name ∷ rest) k name ≡ name = get_or_append_left start (name ∷ rest) name k within ∙ is in
    let back : get_or (start ++ name ∷ rest) (length start + 0) name ≡ name = get_or-append-add start (name ∷ rest) 0 name in
    apart k (length start + 0) name (omega (arith, within)) (omega (arith, long)) (front ∙ sym back)

each_once : (start names : List (List ℕ)) → AreApart (start ++ names) → with_names start names ≡ start ++ names
each_once start [] apart = sym (append-nil start)
each_once start (name ∷ rest) apart = by (is_among name start) refl (λ more. each_once (start ++ name ∷ []) rest more)
  where
    same : (start ++ name ∷ []) ++ rest ≡ start ++ name ∷ rest
    same = append_assoc start (name ∷ []) rest

    by : (b : Bool) → is_among name start ≡ b → (AreApart ((start ++ name ∷ []) ++ rest) → with_names (start ++ name ∷ []) rest ≡ (start ++ name ∷ []) ++ rest) → with_names (with_name start name) rest ≡ start ++ name ∷ rest
    by true there then = absurd (behind start name rest apart (is_there name start there))
    by false absent then = rw absent (then (rw same apart) ∙ same)

pub different_apart : (names : List (List ℕ)) → AreApart names → different names ≡ names
different_apart names apart = each_once [] names apart
