-- The lines of a program, read one after another.
use Rattle.std.proofs.Common.{◌≡◌, ℕ, zero, suc, ◌+◌, ◌-◌, ◌<◌, List, [], ◌∷◌, ◌++◌, length, take, drop, set, replicate, refl, sym, ◌∙◌, ap, arith}
use Rattle.std.specs.Prelude.{Option, Some, None}
use Rattle.std.proofs.lemmas.List.{drop-append-le, drop-replicate, drop-set-lt, take-append-drop, length-replicate}
use Rattle.program_model.specs.declared.instr.Instr.{Instr}
use Rattle.program_model.specs.declared.instr.Instr.TheVariants.{End}
use Rattle.program_model.specs.Program.{Program, empty, with_line}

take_set : {X : Type 0} (xs : List X) (i : ℕ) (x : X) → i < length xs → take (suc i) (set xs i x) ≡ take i xs ++ x ∷ []
take_set [] i x h = absurd (omega (arith, h))
take_set (y ∷ ys) zero x h = refl
take_set (y ∷ ys) (suc i) x h = ap (λ l. y ∷ l) (take_set ys i x (omega (arith, h)))

-- one more line is read
pub one_more_instr : (program : Program) (line next : ℕ) (instr : Instr) → next ≡ line + 1 → line < length program → take next (with_line program line instr) ≡ take line program ++ Some instr ∷ []
one_more_instr program line next instr is within =
    let same : next ≡ suc line = omega (arith, is) in
    ap (λ (n : ℕ). take n (set program line (Some instr))) same ∙ take_set program line (Some instr) within

drop_one : (program : Program) (line : ℕ) → drop (suc line) program ≡ drop 1 (drop line program)
drop_one program zero = refl
drop_one [] (suc line) = refl
drop_one (o ∷ program) (suc line) = drop_one program line

pub rest_unread : (program : Program) (size line next : ℕ) (instr : Instr) → next ≡ line + 1 → drop line program ≡ drop line (empty size) → drop next (with_line program line instr) ≡ drop next (empty size)
rest_unread program size line next instr is rest =
    let same : next ≡ suc line = omega (arith, is) in
    drop-set-lt next program line (Some instr) (omega (arith, is))
    ∙ ap (λ (n : ℕ). drop n program) same
    ∙ drop_one program line
    ∙ ap (drop 1) rest
    ∙ sym (drop_one (empty size) line)
    ∙ ap (λ (n : ℕ). drop n (empty size)) (sym same)

-- of a program whose inner lines are read, `end` is left
pub all_but_end : (program : Program) (size last : ℕ) → 0 < size → last + 1 ≡ size → drop last program ≡ drop last (empty size) → take last program ++ Some End ∷ [] ≡ program
all_but_end program size last some is rest =
    let inner : size - 1 ≡ last = omega (arith, is) in
    let none_left : last - last ≡ 0 = omega arith in
    let front : empty size ≡ replicate last None ++ Some End ∷ [] = ap (λ (n : ℕ). replicate n None ++ Some End ∷ []) inner in
    let end : drop last (empty size) ≡ Some End ∷ [] =
    ap (drop last) front ∙ drop-append-le last (replicate last None) (Some End ∷ []) (omega (arith, length-replicate {A = Option Instr} last None))
    ∙ ap (λ (l : Program). l ++ Some End ∷ []) (drop-replicate last last None ∙ ap (λ (n : ℕ). replicate n None) none_left) in
    ap (λ (l : Program). take last program ++ l) (sym (rest ∙ end)) ∙ take-append-drop last program
