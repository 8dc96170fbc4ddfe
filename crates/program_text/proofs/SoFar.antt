-- Programs of which the lines before a place are read.
use Rattle.std.proofs.Common.{◌≡◌, ℕ, ◌+◌, ◌-◌, ◌<◌, ◌≤◌, List, [], length, map, get_or, refl, sym, ◌∙◌, ap, subst, inl, inr, arith, length-set}
use Rattle.std.specs.Prelude.{Some, option_map, is_some, slice_get, codes}
use Rattle.std.proofs.lemmas.Bool.{cases_lt, cases_eq}
use Rattle.std.proofs.lemmas.Option.{slice_get-map, slice_get-get_or, slice_get_within, get_or_from_slice_get, same_Some}
use Rattle.std.proofs.lemmas.List.{length-map, ext_get_or}
use Rattle.program_model.specs.declared.instr.Instr.{Instr}
use Rattle.program_model.specs.declared.instr.Instr.TheVariants.{End}
use Rattle.program_model.specs.Program.{Program, line_at, empty, with_line, IsInstr}
use Rattle.program_model.proofs.Alphabets.{contains_last}
use Rattle.program_model.proofs.Programs.{line_within, line_at-with_line, line_at-with_other, length-empty, last-empty}
use Rattle.program_text.specs.declared.lines.InstructionLine.{InstructionLine}
use Rattle.program_text.specs.Texts.{instr_text, program_line}
use Rattle.program_text.specs.Reading.{texts_of, MayStand, HasEnd, IsMisplaced, AreLinesOf}
use Rattle.program_text.proofs.Puts.{line_of_some}

-- the program has on a line an instruction of its alphabet with this text
pub record IsReadLine (texts : List (List ℕ)) (lines place : ℕ) (program : Program) (text : List ℕ) : Type 0 where
  pub instr : Instr
  pub here : line_at program place ≡ Some instr
  pub allowed : IsInstr (length texts) lines place instr
  pub written : instr_text texts instr ≡ text

-- the program has `end` on its last line, and the lines before the place are read
pub record IsReadTo (texts : List (List ℕ)) (lines : List InstructionLine) (place : ℕ) (program : Program) : Type 0 where
  pub size : length program ≡ length lines
  pub last : line_at program (length lines - 1) ≡ Some End
  pub read : (k : ℕ) (line : InstructionLine) → k < place → slice_get lines k ≡ Some line → IsReadLine texts (length lines) k program line.text

pub none_read : (texts : List (List ℕ)) (lines : List InstructionLine) (program : Program) → 0 < length lines → program ≡ empty (length lines) → IsReadTo texts lines 0 program
none_read texts lines program some is = record {
  size = ap (λ (p : Program). length p) is ∙ length-empty (length lines) some;
  last = ap (λ (p : Program). line_at p (length lines - 1)) is ∙ last-empty (length lines);
  read = λ k line h e. absurd (omega (arith, h));
}

pub one_more_read : (texts : List (List ℕ)) (lines : List InstructionLine) (place : ℕ) (program : Program) (line : InstructionLine) (instr : Instr)
    → IsReadTo texts lines place program → place + 1 < length lines → slice_get lines place ≡ Some line
    → IsInstr (length texts) (length lines) place instr → instr_text texts instr ≡ line.text
    → IsReadTo texts lines (place + 1) (with_line program place instr)
one_more_read texts lines place program line instr so_far inner here allowed written =
    let size = so_far.size in
    record {
      size = length-set program place (Some instr) ∙ size;
      last = line_at-with_other program place (length lines - 1) instr (λ e. omega (arith, e, inner)) ∙ so_far.last;
      read = λ k other h e. elim (cases_eq k place) [
        | inl same ↦
            let is_line : line ≡ other = same_Some line other (sym here ∙ ap (slice_get lines) (sym same) ∙ e) in
            record {
              instr = instr;
              here = ap (line_at (with_line program place instr)) same ∙ line_at-with_line program place instr (omega (arith, size, inner));
              allowed = subst (λ n. IsInstr (length texts) (length lines) n instr) (sym same) allowed;
              written = written ∙ ap (λ (l : InstructionLine). l.text) is_line;
            }
        | inr apart ↦
            let before = so_far.read k other (omega (arith, h, apart)) e in
            record {
              instr = before.instr;
              here = line_at-with_other program place k instr apart ∙ before.here;
              allowed = before.allowed;
              written = before.written;
            }
      ];
    }

pub astray_here : (texts : List (List ℕ)) (lines : List InstructionLine) (place : ℕ) (program : Program) (line : InstructionLine)
    → IsReadTo texts lines place program → slice_get lines place ≡ Some line → (MayStand texts (length lines) place line.text → ⊥) → IsMisplaced texts lines line.number
astray_here texts lines place program line so_far here astray = record {
  place = place;
  line = line;
  here = here;
  number_is = refl;
  astray = astray;
  first = λ k before h e.
      let read = so_far.read k before h e in
      record { instr = read.instr; allowed = read.allowed; written = read.written };
}

-- every line of a program that is read up to its end
every_line : (texts : List (List ℕ)) (lines : List InstructionLine) (program : Program) → IsReadTo texts lines (length lines - 1) program → HasEnd lines
    → (k : ℕ) (line : InstructionLine) → slice_get lines k ≡ Some line → IsReadLine texts (length lines) k program line.text
every_line texts lines program read end k line e =
    let within = slice_get_within lines k line e in
    elim (cases_lt (k + 1) (length lines)) [
      | inl inner ↦ read.read k line (omega (arith, inner)) e
      | inr outer ↦
          let is_last : k ≡ length lines - 1 = omega (arith, outer, within) in
          let there : slice_get (texts_of lines) k ≡ Some line.text = slice_get-map (λ (l : InstructionLine). l.text) lines k ∙ ap (option_map (λ (l : InstructionLine). l.text)) e in
          record {
            instr = End;
            here = ap (line_at program) is_last ∙ read.last;
            allowed = (contains_last (length texts) (length lines) k End (omega (arith, outer, within))).1 refl;
            written = same_Some (codes "end") line.text (sym end ∙ ap (slice_get (texts_of lines)) (sym is_last) ∙ there);
          }
    ]

line_there : (lines : List InstructionLine) (k : ℕ) → k < length lines → (line : InstructionLine) × (slice_get lines k ≡ Some line)
line_there lines k h = let none : InstructionLine = record { number = 0; text = [] } in (get_or lines k none, slice_get-get_or lines k none h)

-- the text of a line at a place
pub text_at : (lines : List InstructionLine) (k : ℕ) (line : InstructionLine) → slice_get lines k ≡ Some line → slice_get (texts_of lines) k ≡ Some line.text
text_at lines k line e = slice_get-map (λ (l : InstructionLine). l.text) lines k ∙ ap (option_map (λ (l : InstructionLine). l.text)) e

text_there : (texts : List (List ℕ)) (lines : List InstructionLine) (program : Program) (k : ℕ) (line : InstructionLine) → slice_get lines k ≡ Some line → IsReadLine texts (length lines) k program line.text
    → slice_get (map (program_line texts) program) k ≡ slice_get (texts_of lines) k
text_there texts lines program k line e read =
    slice_get-map (program_line texts) program k
    ∙ ap (option_map (program_line texts)) (line_of_some (slice_get program k) read.instr read.here)
    ∙ ap (λ (t : List ℕ). Some t) read.written
    ∙ sym (slice_get-map (λ (l : InstructionLine). l.text) lines k ∙ ap (option_map (λ (l : InstructionLine). l.text)) e)

-- two lists of texts with the same at each place
same_texts : (xs ys : List (List ℕ)) → length xs ≡ length ys → ((k : ℕ) → k < length xs → slice_get xs k ≡ slice_get ys k) → xs ≡ ys
same_texts xs ys size each = ext_get_or [] xs ys size (λ k h.
    let here = slice_get-get_or xs k [] h in
    sym (get_or_from_slice_get ys k (get_or xs k []) [] (sym (each k h) ∙ here)))

-- a program that is read up to its end is the one of the lines
pub all_read : (texts : List (List ℕ)) (lines : List InstructionLine) (program : Program) → IsReadTo texts lines (length lines - 1) program → 0 < length lines → length lines ≤ 16 → HasEnd lines → AreLinesOf texts program lines
all_read texts lines program read some few end =
    let size = read.size in
    let every = every_line texts lines program read end in
    record {
      few = few;
      is_program = record {
        is_partial = record {
          some = omega (arith, size, some);
          last = ap (λ n. line_at program (n - 1)) size ∙ read.last;
          each = λ k instr e.
              let there = line_there lines k (omega (arith, size, line_within program k instr e)) in
              let it = every k there.0 there.1 in
              let same : it.instr ≡ instr = same_Some it.instr instr (sym it.here ∙ e) in
              subst (λ n. IsInstr (length texts) n k instr) (sym size) (subst (λ w. IsInstr (length texts) (length lines) k w) same it.allowed);
        };
        whole = λ k h.
            let there = line_there lines k (omega (arith, size, h)) in
            ap is_some (every k there.0 there.1).here;
      };
      same = same_texts (map (program_line texts) program) (texts_of lines) (length-map program (program_line texts) ∙ size ∙ sym (length-map lines (λ (l : InstructionLine). l.text))) (λ k h.
          let there = line_there lines k (omega (arith, size, length-map program (program_line texts), h)) in
          text_there texts lines program k there.0 there.1 (every k there.0 there.1));
    }
