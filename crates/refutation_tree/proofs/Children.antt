-- The children of a partial program; and lists that are joined, of which the last one comes first.
use Rattle.std.proofs.Common.{◌≡◌, ℕ, suc, ◌+◌, ◌<◌, List, [], ◌∷◌, ◌++◌, length, take, drop, set, get_or, reverse, flat_map, Some, sym, ◌∙◌, ap, arith}
use Rattle.std.specs.Prelude.{slice_get, option_map}
use Rattle.std.proofs.lemmas.List.{length-map, drop_more, drop_all, set_split, take-set, take-append-drop, reverse-append}
use Rattle.std.proofs.lemmas.Option.{slice_get-map, slice_get_within, get_or_from_slice_get}
use Rattle.program_model.specs.declared.instr.Instr.{Instr}
use Rattle.program_model.specs.Alphabet.{alphabet}
use Rattle.program_model.specs.Program.{Program, with_line}
use Rattle.program_model.proofs.Alphabets.{length-alphabet}
use Rattle.refutation_tree.specs.Grammar.{child_programs}

-- ---- children

pub count_children : (ops : ℕ) (q : Program) (line : ℕ) → length (child_programs ops q line) ≡ length (alphabet ops (length q) line)
count_children ops q line = length-map (alphabet ops (length q) line) (with_line q line)

pub child_at : (ops lines : ℕ) (q : Program) (line rank : ℕ) (instr : Instr) → lines ≡ length q → slice_get (alphabet ops lines line) rank ≡ Some instr → slice_get (child_programs ops q line) rank ≡ Some (with_line q line instr)
child_at ops lines q line rank instr size e =
    slice_get-map (with_line q line) (alphabet ops (length q) line) rank ∙ ap (option_map (with_line q line)) (ap (λ (n : ℕ). slice_get (alphabet ops n line) rank) (sym size) ∙ e)

pub some_children : (ops : ℕ) (q : Program) (line : ℕ) → 0 < ops → line + 1 < length q → 0 < length (child_programs ops q line)
some_children ops q line some inner = omega (arith, some, count_children ops q line, length-alphabet ops (length q) line inner)

-- what is left of a list from one of its elements on
pub left_from : {X : Type 0} (xs : List X) (i : ℕ) (x : X) → slice_get xs i ≡ Some x → drop i xs ≡ x ∷ drop (i + 1) xs
left_from xs i x e = drop_more xs i x (slice_get_within xs i x e) ∙ ap (λ y. y ∷ drop (i + 1) xs) (get_or_from_slice_get xs i x x e)

-- ---- joined lists, of which the last one comes first

up_to_last : {G : Type 0} (gs : List G) (last : ℕ) (g : G) → length gs ≡ last + 1 → get_or gs last g ≡ g → gs ≡ take last gs ++ g ∷ []
up_to_last gs last g size here =
    let past = drop_all (last + 1) gs (omega (arith, size)) in
    let end = drop_more gs last g (omega (arith, size)) ∙ ap (λ (l : List _). get_or gs last g ∷ l) past ∙ ap (λ h. h ∷ []) here in
    sym (take-append-drop last gs) ∙ ap (λ (l : List _). take last gs ++ l) end

with_last : {G : Type 0} (gs : List G) (last : ℕ) (g : G) → length gs ≡ last + 1 → set gs last g ≡ take last gs ++ g ∷ []
with_last gs last g size = set_split gs last g (omega (arith, size)) ∙ ap (λ (l : List _). take last gs ++ g ∷ l) (drop_all (suc last) gs (omega (arith, size)))

module _ {G X : Type 0} (of : G → List X) where
  -- one more list
  pub one_more : (gs : List G) (g : G) → flat_map of (reverse (gs ++ g ∷ [])) ≡ of g ++ flat_map of (reverse gs)
  one_more gs g = ap (flat_map of) (reverse-append gs (g ∷ []))

  replaced : (last : ℕ) (gs : List G) (g : G) → length gs ≡ last + 1 → flat_map of (reverse (set gs last g)) ≡ of g ++ flat_map of (reverse (take last gs))
  replaced last gs g size = ap (λ (l : List G). flat_map of (reverse l)) (with_last gs last g size) ∙ one_more (take last gs) g

  parted : (last : ℕ) (gs : List G) (g : G) → length gs ≡ last + 1 → get_or gs last g ≡ g → flat_map of (reverse gs) ≡ of g ++ flat_map of (reverse (take last gs))
  parted last gs g size here = ap (λ (l : List G). flat_map of (reverse l)) (up_to_last gs last g size here) ∙ one_more (take last gs) g

  -- the last one without its first element
  pub without_first : (last : ℕ) (gs : List G) (g after : G) (x : X) → length gs ≡ last + 1 → get_or gs last g ≡ g → of g ≡ x ∷ of after → flat_map of (reverse gs) ≡ x ∷ flat_map of (reverse (set gs last after))
  without_first last gs g after x size here next =
      parted last gs g size here
      ∙ ap (λ (l : List X). l ++ flat_map of (reverse (take last gs))) next
      ∙ ap (λ (l : List X). x ∷ l) (sym (replaced last gs after size))

  -- the last one in another place
  pub with_same : (last : ℕ) (gs : List G) (g after : G) → length gs ≡ last + 1 → get_or gs last g ≡ g → of after ≡ of g → flat_map of (reverse (set gs last after)) ≡ flat_map of (reverse gs)
  with_same last gs g after size here same =
      replaced last gs after size
      ∙ ap (λ (l : List X). l ++ flat_map of (reverse (take last gs))) same
      ∙ sym (parted last gs g size here)

  -- the last one, if it has no element
  pub without_empty : (last : ℕ) (gs : List G) (after : G) → length gs ≡ last + 1 → of after ≡ [] → flat_map of (reverse (set gs last after)) ≡ flat_map of (reverse (take last (set gs last after)))
  without_empty last gs after size none =
      replaced last gs after size
      ∙ ap (λ (l : List X). l ++ flat_map of (reverse (take last gs))) none
      ∙ ap (λ (l : List G). flat_map of (reverse l)) (sym (take-set gs last after))
