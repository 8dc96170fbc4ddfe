-- Programs that wait for a tree: those of the family that was split last come first.
use Rattle.std.proofs.Common.{◌≡◌, ℕ, zero, suc, ◌+◌, ◌<◌, ◌≤◌, List, [], ◌∷◌, ◌++◌, length, take, drop, set, get_or, refl, sym, ◌∙◌, ap, arith, append_assoc}
use Rattle.std.specs.Prelude.{All, Some, slice_get, option_map}
use Rattle.std.proofs.lemmas.List.{length-map, append-nil}
use Rattle.std.proofs.lemmas.List.Elements.{All-push}
use Rattle.std.proofs.lemmas.Option.{slice_get-map, same_Some, none-some}
use Rattle.program_model.specs.declared.instr.Instr.{Instr}
use Rattle.program_model.specs.Alphabet.{alphabet}
use Rattle.program_model.specs.Program.{Program, with_line}
use Rattle.program_model.proofs.Alphabets.{length-alphabet}
use Rattle.answer_reader.specs.declared.open_trees.Family.{Family}
use Rattle.refutation_tree.specs.Grammar.{child_programs}
use Rattle.answer_reader.specs.Inner.Pending.{waiting, waiting_in, IsOpenFamily}

-- ---- children

pub count_children : (ops : ℕ) (q : Program) (line : ℕ) → length (child_programs ops q line) ≡ length (alphabet ops (length q) line)
count_children ops q line = length-map (alphabet ops (length q) line) (with_line q line)

pub child_at : (ops lines : ℕ) (q : Program) (line rank : ℕ) (instr : Instr) → lines ≡ length q → slice_get (alphabet ops lines line) rank ≡ Some instr → slice_get (child_programs ops q line) rank ≡ Some (with_line q line instr)
child_at ops lines q line rank instr size e =
    slice_get-map (with_line q line) (alphabet ops (length q) line) rank ∙ ap (option_map (with_line q line)) (ap (λ (n : ℕ). slice_get (alphabet ops n line) rank) (sym size) ∙ e)

some_children : (ops : ℕ) (q : Program) (line : ℕ) → 0 < ops → line + 1 < length q → 0 < length (child_programs ops q line)
some_children ops q line some inner = omega (arith, some, count_children ops q line, length-alphabet ops (length q) line inner)

-- ---- the last of a list

drop_there : {X : Type 0} (xs : List X) (i : ℕ) (x : X) → slice_get xs i ≡ Some x → drop i xs ≡ x ∷ drop (suc i) xs
drop_there [] i x e = absurd (none-some x e)
drop_there (y ∷ ys) zero x e = ap (λ z. z ∷ ys) (same_Some y x e)
drop_there (y ∷ ys) (suc i) x e = drop_there ys i x e

drop_past : {X : Type 0} (xs : List X) (i : ℕ) → length xs ≤ i → drop i xs ≡ []
drop_past [] zero h = refl
drop_past [] (suc i) h = refl
drop_past (y ∷ ys) zero h = absurd (omega (arith, h))
drop_past (y ∷ ys) (suc i) h = drop_past ys i (omega (arith, h))

last_split : {X : Type 0} (xs : List X) (last : ℕ) (d : X) → length xs ≡ suc last → xs ≡ take last xs ++ get_or xs last d ∷ []
last_split [] last d e = absurd (omega (arith, e))
last_split (x ∷ []) zero d e = refl
last_split (x ∷ y ∷ xs) zero d e = absurd (omega (arith, e))
last_split (x ∷ xs) (suc last) d e = ap (λ l. x ∷ l) (last_split xs last d (omega (arith, e)))

set_last : {X : Type 0} (xs : List X) (last : ℕ) (new : X) → length xs ≡ suc last → set xs last new ≡ take last xs ++ new ∷ []
set_last [] last new e = absurd (omega (arith, e))
set_last (x ∷ []) zero new e = refl
set_last (x ∷ y ∷ xs) zero new e = absurd (omega (arith, e))
set_last (x ∷ xs) (suc last) new e = ap (λ l. x ∷ l) (set_last xs last new (omega (arith, e)))

take_set_last : {X : Type 0} (xs : List X) (last : ℕ) (new : X) → take last (set xs last new) ≡ take last xs
take_set_last [] zero new = refl
take_set_last [] (suc last) new = refl
take_set_last (x ∷ xs) zero new = refl
take_set_last (x ∷ xs) (suc last) new = ap (λ l. x ∷ l) (take_set_last xs last new)

-- ---- families

waiting_in_last : (ops : ℕ) (families : List Family) (family : Family) → waiting_in ops (families ++ family ∷ []) ≡ waiting ops family ++ waiting_in ops families
waiting_in_last ops [] family = sym (append-nil (waiting ops family))
waiting_in_last ops (other ∷ families) family =
    ap (λ (l : List Program). l ++ waiting ops other) (waiting_in_last ops families family)
    ∙ append_assoc (waiting ops family) (waiting_in ops families) (waiting ops other)

-- a family whose children all wait
pub all_children : (ops : ℕ) (families : List Family) (family : Family) → family.rank ≡ 0 → waiting_in ops (families ++ family ∷ []) ≡ child_programs ops family.parent family.line ++ waiting_in ops families
all_children ops families family first =
    waiting_in_last ops families family ∙ ap (λ (rank : ℕ). drop rank (child_programs ops family.parent family.line) ++ waiting_in ops families) first

pub one_more_family : (ops : ℕ) (families : List Family) (family : Family) → 0 < ops → family.line + 1 < length family.parent → family.rank ≡ 0 → All (IsOpenFamily ops) families → All (IsOpenFamily ops) (families ++ family ∷ [])
one_more_family ops families family some inner first each =
    All-push (IsOpenFamily ops) families family each (record { inner = inner; left = omega (arith, first, some_children ops family.parent family.line some inner) })

-- the last family, once its next child is taken
pub record IsNext (ops : ℕ) (family after : Family) (child : Program) : Type 0 where
  pub here : slice_get (child_programs ops family.parent family.line) family.rank ≡ Some child
  pub parent : after.parent ≡ family.parent
  pub line : after.line ≡ family.line
  pub rank : after.rank ≡ family.rank + 1

waiting_next : (ops : ℕ) (family after : Family) (child : Program) → IsNext ops family after child → waiting ops family ≡ child ∷ waiting ops after
waiting_next ops family after child next =
    let rank : suc family.rank ≡ after.rank = omega (arith, next.rank) in
    drop_there (child_programs ops family.parent family.line) family.rank child next.here
    ∙ ap (λ (n : ℕ). child ∷ drop n (child_programs ops family.parent family.line)) rank
    ∙ ap (λ (q : Program). child ∷ drop after.rank (child_programs ops q family.line)) (sym next.parent)
    ∙ ap (λ (n : ℕ). child ∷ drop after.rank (child_programs ops after.parent n)) (sym next.line)

pub taken : (ops last : ℕ) (families : List Family) (family after : Family) (child : Program) → length families ≡ last + 1 → get_or families last family ≡ family → IsNext ops family after child
    → waiting_in ops families ≡ child ∷ waiting_in ops (set families last after)
taken ops last families family after child size here next =
    let count : length families ≡ suc last = omega (arith, size) in
    ap (waiting_in ops) (last_split families last family count ∙ ap (λ (f : Family). take last families ++ f ∷ []) here)
    ∙ waiting_in_last ops (take last families) family
    ∙ ap (λ (l : List Program). l ++ waiting_in ops (take last families)) (waiting_next ops family after child next)
    ∙ ap (λ (l : List Program). child ∷ l) (sym (ap (waiting_in ops) (set_last families last after count) ∙ waiting_in_last ops (take last families) after))

-- the last family has no child left
pub taken_last : (ops last : ℕ) (families : List Family) (after : Family) → length families ≡ last + 1 → length (child_programs ops after.parent after.line) ≤ after.rank
    → waiting_in ops (set families last after) ≡ waiting_in ops (take last (set families last after))
taken_last ops last families after size done =
    let count : length families ≡ suc last = omega (arith, size) in
    ap (waiting_in ops) (set_last families last after count)
    ∙ waiting_in_last ops (take last families) after
    ∙ ap (λ (l : List Program). l ++ waiting_in ops (take last families)) (drop_past (child_programs ops after.parent after.line) after.rank done)
    ∙ ap (waiting_in ops) (sym (take_set_last families last after))
