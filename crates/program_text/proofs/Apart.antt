-- An instruction is told by its text, a program by its lines, and a program text says one thing.
use Rattle.std.proofs.Common.{◌≡◌, ◌≢◌, ℕ, ◌-◌, ◌<◌, ◌≤◌, ◌^◌, true, List, [], ◌∷◌, length, map, get_or, refl, sym, ◌∙◌, ap, subst, inl, inr, arith}
use Rattle.std.specs.Prelude.{Some, None, Result, Ok, Err, option_map, slice_get, nat_eq, bytes_eq, codes, decimal}
use Rattle.std.specs.List.{starts_with, slice_split}
use Rattle.std.proofs.lemmas.Bool.{true≢false, false≢true, cases_order}
use Rattle.std.proofs.lemmas.Fmt.{decimal_injective}
use Rattle.std.proofs.lemmas.Option.{slice_get-map, slice_get_within, get_or_from_slice_get, same_Some}
use Rattle.std.proofs.lemmas.List.{length-map, ext_get_or}
use Rattle.flag_rules.specs.declared.flags.Cond.{Cond}
use Rattle.flag_rules.specs.declared.flags.Cond.TheVariants.{Zero, Nonzero, Carry, Nocarry}
use Rattle.program_model.specs.declared.instr.Instr.{Instr}
use Rattle.program_model.specs.declared.instr.Instr.TheVariants.{Op, Goto, End}
use Rattle.program_model.specs.Program.{Program, IsInstr, IsProgram}
use Rattle.program_text.specs.declared.lines.InstructionLine.{InstructionLine}
use Rattle.program_text.specs.declared.refusal.ProgramRefusal.{ProgramRefusal}
use Rattle.program_text.specs.declared.refusal.ProgramRefusal.TheVariants.{TooLong, NoEnd, Line, OutOfMemory}
use Rattle.program_text.specs.Names.{AreNames, IsOperationText}
use Rattle.program_text.specs.Texts.{cond_text, jump_text, instr_text, program_line}
use Rattle.program_text.specs.Lines.{is_blank}
use Rattle.program_text.specs.Reading.{texts_of, MayStand, HasEnd, IsMisplaced, AreLinesOf, Says}
use Rattle.program_text.proofs.Puts.{line_of_some}
use Rattle.program_text.proofs.Spelled.{IsPlain, jump_words, are_jump_words, join_jump, split_words, plain_instr, line_of_program}

-- ---- instructions

same_cond : (a b : Cond) → cond_text a ≡ cond_text b → a ≡ b
same_cond Zero Zero e = refl
same_cond Zero Nonzero e = absurd (true≢false (ap (bytes_eq (codes "zero")) e))
same_cond Zero Carry e = absurd (true≢false (ap (bytes_eq (codes "zero")) e))
same_cond Zero Nocarry e = absurd (true≢false (ap (bytes_eq (codes "zero")) e))
same_cond Nonzero Zero e = absurd (true≢false (ap (bytes_eq (codes "nonzero")) e))
same_cond Nonzero Nonzero e = refl
same_cond Nonzero Carry e = absurd (true≢false (ap (bytes_eq (codes "nonzero")) e))
same_cond Nonzero Nocarry e = absurd (true≢false (ap (bytes_eq (codes "nonzero")) e))
same_cond Carry Zero e = absurd (true≢false (ap (bytes_eq (codes "carry")) e))
same_cond Carry Nonzero e = absurd (true≢false (ap (bytes_eq (codes "carry")) e))
same_cond Carry Carry e = refl
same_cond Carry Nocarry e = absurd (true≢false (ap (bytes_eq (codes "carry")) e))
same_cond Nocarry Zero e = absurd (true≢false (ap (bytes_eq (codes "nocarry")) e))
same_cond Nocarry Nonzero e = absurd (true≢false (ap (bytes_eq (codes "nocarry")) e))
same_cond Nocarry Carry e = absurd (true≢false (ap (bytes_eq (codes "nocarry")) e))
same_cond Nocarry Nocarry e = refl

jump_split : (target : ℕ) (cond : Cond) → target < 2 ^ 64 → slice_split is_blank (jump_text target cond) ≡ jump_words target cond
jump_split target cond h =
    ap (slice_split is_blank) (sym (join_jump target cond))
    ∙ split_words (codes "goto") (decimal target ∷ codes "if" ∷ cond_text cond ∷ []) (are_jump_words target cond h)

same_jump : (t u : ℕ) (c d : Cond) → t < 2 ^ 64 → u < 2 ^ 64 → jump_words t c ≡ jump_words u d → Goto t c ≡ Goto u d
same_jump t u c d h k e =
    let numbers : decimal t ≡ decimal u = cc in
    let conds : cond_text c ≡ cond_text d = cc in
    let same_target : t ≡ u = decimal_injective t u h k numbers in
    let same : c ≡ d = same_cond c d conds in
    cc (same_target, same)

begins_as_jump : (target : ℕ) (cond : Cond) → starts_with nat_eq (jump_text target cond) (codes "goto ") ≡ true
begins_as_jump target cond = refl

no_jump : (texts : List (List ℕ)) (op target : ℕ) (cond : Cond) → AreNames texts → op < length texts → get_or texts op [] ≡ jump_text target cond → ⊥
no_jump texts op target cond names within e =
    let operation : IsOperationText (get_or texts op []) = names.each op [] within in
    false≢true (sym operation.no_jump ∙ ap (λ (t : List ℕ). starts_with nat_eq t (codes "goto ")) e ∙ begins_as_jump target cond)

no_end : (texts : List (List ℕ)) (op : ℕ) → AreNames texts → op < length texts → get_or texts op [] ≡ codes "end" → ⊥
no_end texts op names within e = let operation : IsOperationText (get_or texts op []) = names.each op [] within in operation.no_end e

jump_not_end : (target : ℕ) (cond : Cond) → jump_text target cond ≡ codes "end" → ⊥
jump_not_end target cond e = true≢false (sym (begins_as_jump target cond) ∙ ap (λ (t : List ℕ). starts_with nat_eq t (codes "goto ")) e)

pub same_instr : (texts : List (List ℕ)) (a b : Instr) → AreNames texts → IsPlain texts a → IsPlain texts b → instr_text texts a ≡ instr_text texts b → a ≡ b
same_instr texts (Op i) (Op j) names h k e = elim (cases_order i j) [
  | inl same ↦ ap Op same
  | inr apart ↦ elim apart [
    | inl below ↦ absurd (names.apart i j [] below k e)
    | inr above ↦ absurd (names.apart j i [] above h (sym e))
  ]
]
same_instr texts (Op i) (Goto target cond) names h k e = absurd (no_jump texts i target cond names h e)
same_instr texts (Op i) End names h k e = absurd (no_end texts i names h e)
same_instr texts (Goto target cond) (Op j) names h k e = absurd (no_jump texts j target cond names k (sym e))
same_instr texts (Goto t c) (Goto u d) names h k e = same_jump t u c d h k (sym (jump_split t c h) ∙ ap (slice_split is_blank) e ∙ jump_split u d k)
same_instr texts (Goto target cond) End names h k e = absurd (jump_not_end target cond e)
same_instr texts End (Op j) names h k e = absurd (no_end texts j names k (sym e))
same_instr texts End (Goto target cond) names h k e = absurd (jump_not_end target cond (sym e))
same_instr texts End End names h k e = refl

pub same_instr_of_lines : (texts : List (List ℕ)) (lines i j : ℕ) (a b : Instr) → AreNames texts → lines ≤ 16 → i < lines → j < lines → IsInstr (length texts) lines i a → IsInstr (length texts) lines j b → instr_text texts a ≡ instr_text texts b → a ≡ b
same_instr_of_lines texts lines i j a b names few h k x y e = same_instr texts a b names (plain_instr texts lines i a few h x) (plain_instr texts lines j b few k y) e

-- ---- programs

count_lines_of : (texts : List (List ℕ)) (program : Program) (lines : List InstructionLine) → map (program_line texts) program ≡ texts_of lines → length program ≡ length lines
count_lines_of texts program lines same = sym (length-map program (program_line texts)) ∙ ap length same ∙ length-map lines (λ (l : InstructionLine). l.text)

same_program : (texts : List (List ℕ)) (p q : Program) → AreNames texts → IsProgram (length texts) p → IsProgram (length texts) q → length p ≤ 16 → length q ≤ 16
    → map (program_line texts) p ≡ map (program_line texts) q → p ≡ q
same_program texts p q names is_p is_q few_p few_q same =
    let size : length p ≡ length q = sym (length-map p (program_line texts)) ∙ ap length same ∙ length-map q (program_line texts) in
    ext_get_or None p q size (λ k h.
    let a = line_of_program texts p k is_p few_p h in
    let b = line_of_program texts q k is_q few_q (omega (arith, size, h)) in
    let text : instr_text texts a.instr ≡ instr_text texts b.instr = same_Some (instr_text texts a.instr) (instr_text texts b.instr) (sym a.text ∙ ap (λ (l : List (List ℕ)). slice_get l k) same ∙ b.text) in
    let instr : a.instr ≡ b.instr = same_instr texts a.instr b.instr names a.plain b.plain text in
    get_or_from_slice_get p k (Some a.instr) None a.there ∙ ap (λ (i : Instr). Some i) instr ∙ sym (get_or_from_slice_get q k (Some b.instr) None b.there))

-- ---- what a program text says

lines_stand : (texts : List (List ℕ)) (program : Program) (lines : List InstructionLine) → AreLinesOf texts program lines → (k : ℕ) (line : InstructionLine) → slice_get lines k ≡ Some line → MayStand texts (length lines) k line.text
lines_stand texts program lines are k line e =
    let size = count_lines_of texts program lines are.same in
    let it = line_of_program texts program k are.is_program (omega (arith, size, are.few)) (omega (arith, size, slice_get_within lines k line e)) in
    record {
      instr = it.instr;
      allowed = ap_lines size it.allowed;
      written = same_Some (instr_text texts it.instr) line.text
          (sym it.text ∙ ap (λ (l : List (List ℕ)). slice_get l k) are.same ∙ slice_get-map (λ (l : InstructionLine). l.text) lines k ∙ ap (option_map (λ (l : InstructionLine). l.text)) e);
    }
  where
    ap_lines : {n m : ℕ} {instr : Instr} → n ≡ m → IsInstr (length texts) n k instr → IsInstr (length texts) m k instr
    ap_lines {instr} same there = subst (λ (n : ℕ). IsInstr (length texts) n k instr) same there

program_ends : (texts : List (List ℕ)) (program : Program) (lines : List InstructionLine) → AreLinesOf texts program lines → HasEnd lines
program_ends texts program lines are =
    let size = count_lines_of texts program lines are.same in
    let last : slice_get program (length program - 1) ≡ Some (Some End) = line_of_some (slice_get program (length program - 1)) End are.is_program.is_partial.last in
    ap (λ (l : List (List ℕ)). slice_get l (length lines - 1)) (sym are.same)
    ∙ ap (λ (n : ℕ). slice_get (map (program_line texts) program) (n - 1)) (sym size)
    ∙ slice_get-map (program_line texts) program (length program - 1)
    ∙ ap (option_map (program_line texts)) last

no_program : (texts : List (List ℕ)) (program : Program) (lines : List InstructionLine) (number : ℕ) → AreLinesOf texts program lines → IsMisplaced texts lines number → ⊥
no_program texts program lines number are astray = astray.astray (lines_stand texts program lines are astray.place astray.line astray.here)

same_number : (texts : List (List ℕ)) (lines : List InstructionLine) (a b : ℕ) → IsMisplaced texts lines a → IsMisplaced texts lines b → a ≡ b
same_number texts lines a b x y = elim (cases_order x.place y.place) [
  | inl same ↦
      let line : x.line ≡ y.line = same_Some x.line y.line (sym x.here ∙ ap (slice_get lines) same ∙ y.here) in
      sym x.number_is ∙ ap (λ (l : InstructionLine). l.number) line ∙ y.number_is
  | inr apart ↦ elim apart [
    | inl before ↦ absurd (x.astray (y.first x.place x.line before x.here))
    | inr after ↦ absurd (y.astray (x.first y.place y.line after y.here))
  ]
]

pub says_one : (texts : List (List ℕ)) (lines : List InstructionLine) (a b : Result Program ProgramRefusal) → AreNames texts → Says texts lines a → Says texts lines b → a ≢ Err OutOfMemory → b ≢ Err OutOfMemory → a ≡ b
says_one texts lines (Ok p) (Ok q) names x y h k =
    ap (λ (r : Program). Ok r) (same_program texts p q names x.is_program y.is_program
    (omega (arith, count_lines_of texts p lines x.same, x.few)) (omega (arith, count_lines_of texts q lines y.same, y.few)) (x.same ∙ sym y.same))
says_one texts lines (Ok p) (Err (TooLong n)) names x y h k = absurd (omega (arith, x.few, y.0))
says_one texts lines (Ok p) (Err NoEnd) names x y h k = absurd (y.1 (program_ends texts p lines x))
says_one texts lines (Ok p) (Err (Line n)) names x y h k = absurd (no_program texts p lines n x y.2)
says_one texts lines (Ok p) (Err OutOfMemory) names x y h k = absurd (k refl)
says_one texts lines (Err (TooLong n)) (Ok q) names x y h k = absurd (omega (arith, x.0, y.few))
says_one texts lines (Err (TooLong n)) (Err (TooLong m)) names x y h k = ap (λ (i : ℕ). Err (TooLong i)) (x.1 ∙ sym y.1)
says_one texts lines (Err (TooLong n)) (Err NoEnd) names x y h k = absurd (omega (arith, x.0, y.0))
says_one texts lines (Err (TooLong n)) (Err (Line m)) names x y h k = absurd (omega (arith, x.0, y.0))
says_one texts lines (Err (TooLong n)) (Err OutOfMemory) names x y h k = absurd (k refl)
says_one texts lines (Err NoEnd) (Ok q) names x y h k = absurd (x.1 (program_ends texts q lines y))
says_one texts lines (Err NoEnd) (Err (TooLong m)) names x y h k = absurd (omega (arith, x.0, y.0))
says_one texts lines (Err NoEnd) (Err NoEnd) names x y h k = refl
says_one texts lines (Err NoEnd) (Err (Line m)) names x y h k = absurd (x.1 y.1)
says_one texts lines (Err NoEnd) (Err OutOfMemory) names x y h k = absurd (k refl)
says_one texts lines (Err (Line n)) (Ok q) names x y h k = absurd (no_program texts q lines n y x.2)
says_one texts lines (Err (Line n)) (Err (TooLong m)) names x y h k = absurd (omega (arith, x.0, y.0))
says_one texts lines (Err (Line n)) (Err NoEnd) names x y h k = absurd (y.1 x.1)
says_one texts lines (Err (Line n)) (Err (Line m)) names x y h k = ap (λ (i : ℕ). Err (Line i)) (same_number texts lines n m x.2 y.2)
says_one texts lines (Err (Line n)) (Err OutOfMemory) names x y h k = absurd (k refl)
says_one texts lines (Err OutOfMemory) b names x y h k = absurd (h refl)
