-- The programs that links give.
use Rattle.std.proofs.Common.{◌≡◌, ℕ, zero, suc, ◌+◌, ◌-◌, ◌<◌, ◌≤◌, List, [], ◌∷◌, length, Option, Some, None, is_some, IsSome, cond, count_by, refl, sym, ap, ◌∙◌, inl, inr, arith, length-set}
use Rattle.std.proofs.lemmas.Bool.{cases_lt}
use Rattle.std.proofs.lemmas.List.Sums.{sum_by-cons, count_by-le-length}
use Rattle.program_model.specs.declared.instr.Instr.{Instr}
use Rattle.program_model.specs.declared.instr.Instr.TheVariants.{End}
use Rattle.program_model.specs.Program.{Program, line_at, with_line, IsOpen}
use Rattle.program_model.proofs.Programs.{length-empty, last-empty, line_at-with_other}
use Rattle.partial_program.specs.declared.node.Node.{Node}
use Rattle.partial_program.specs.declared.node.Link.{Link}
use Rattle.partial_program.specs.Inner.Nodes.{stored_at, link_of, program_by, program_at, IsWritten, AreWritten}

-- ---- defined lines

-- how many lines are defined
abbrev pub defined : Program → ℕ
defined q = count_by is_some q

defined-cons : (line : Option Instr) (q : Program) → defined (line ∷ q) ≡ cond (is_some line) 1 0 + defined q
defined-cons line q = sum_by-cons (λ o. cond (is_some o) 1 0) line q

pub defined-with_line : (q : Program) (line : ℕ) (instr : Instr) → IsOpen q line → defined (with_line q line instr) ≡ defined q + 1
defined-with_line [] line instr here = absurd (omega (arith, here.within))
defined-with_line (None ∷ q) zero instr here = omega (arith, defined-cons None q, defined-cons (Some instr) q)
defined-with_line (Some x ∷ q) zero instr here = let e : Some x ≡ None = here.undefined in absurd (cc)
defined-with_line (o ∷ q) (suc line) instr here =
    omega (arith, defined-cons o q, defined-cons o (with_line q line instr), defined-with_line q line instr (record { within = omega (arith, here.within); undefined = here.undefined }))

pub some_defined : (q : Program) (line : ℕ) (instr : Instr) → line_at q line ≡ Some instr → 0 < defined q
some_defined [] line instr e = absurd (cc)
some_defined (None ∷ q) zero instr e = absurd (cc)
some_defined (Some x ∷ q) zero instr e = omega (arith, defined-cons (Some x) q)
some_defined (o ∷ q) (suc line) instr e = omega (arith, defined-cons o q, some_defined q line instr e)

-- ---- programs by links

module _ (lines : ℕ) where
  pub length-program_by : 0 < lines → (slots : List (Option Node)) (link : Option Link) (links : ℕ) → length (program_by lines slots link links) ≡ lines
  length-program_by some slots None links = length-empty lines some
  length-program_by some slots (Some link) zero = length-empty lines some
  length-program_by some slots (Some link) (suc links) =
      let below = program_by lines slots (link_of (stored_at slots link.parent)) links in
      length-set below link.line (Some link.instr) ∙ length-program_by some slots (link_of (stored_at slots link.parent)) links

  module _ (slots : List (Option Node)) (written : AreWritten lines slots) where
    -- the last line ends the program
    pub last-program_by : (link : Option Link) → ((l : Link) → link ≡ Some l → IsWritten lines slots l) → (links : ℕ) → line_at (program_by lines slots link links) (lines - 1) ≡ Some End
    last-program_by None valid links = last-empty lines
    last-program_by (Some link) valid zero = last-empty lines
    last-program_by (Some link) valid (suc links) =
        let inner = (valid link refl).is_inner in
        line_at-with_other (program_by lines slots (link_of (stored_at slots link.parent)) links) link.line (lines - 1) link.instr (λ e. omega arith)
        ∙ last-program_by (link_of (stored_at slots link.parent)) (written link.parent) links

    -- no more links are needed than lines are defined beyond the last
    pub enough : (links : ℕ) (link : Option Link) → ((l : Link) → link ≡ Some l → IsWritten lines slots l) → defined (program_by lines slots link lines) ≤ links + 1 → program_by lines slots link links ≡ program_by lines slots link lines
    enough links None valid few = refl
    enough zero (Some link) valid few =
        let w = valid link refl in
        let parent = program_at lines slots link.parent in
        let more : defined (program_by lines slots (Some link) lines) ≡ defined parent + 1 = ap defined w.is_more ∙ defined-with_line parent link.line link.instr w.is_open in
        let some = some_defined parent (lines - 1) End (last-program_by (link_of (stored_at slots link.parent)) (written link.parent) lines) in
        absurd (omega arith)
    enough (suc links) (Some link) valid few =
        let w = valid link refl in
        let parent = program_at lines slots link.parent in
        let more : defined (program_by lines slots (Some link) lines) ≡ defined parent + 1 = ap defined w.is_more ∙ defined-with_line parent link.line link.instr w.is_open in
        ap (λ (q : Program). with_line q link.line link.instr) (enough links (link_of (stored_at slots link.parent)) (written link.parent) (omega arith))
        ∙ sym w.is_more

  -- two slabs with the same links at the places that are there in the first, whose parents are there too
  module _ (a b : List (Option Node)) (same : (at : ℕ) → IsSome (stored_at a at) → link_of (stored_at b at) ≡ link_of (stored_at a at)) (closed : (at : ℕ) (link : Link) → link_of (stored_at a at) ≡ Some link → IsSome (stored_at a link.parent)) where
    pub program_by-kept : (link : Option Link) → ((l : Link) → link ≡ Some l → IsSome (stored_at a l.parent)) → (links : ℕ) → program_by lines b link links ≡ program_by lines a link links
    program_by-kept None there links = refl
    program_by-kept (Some link) there zero = refl
    program_by-kept (Some link) there (suc links) =
        ap (λ (o : Option Link). with_line (program_by lines b o links) link.line link.instr) (same link.parent (there link refl))
        ∙ ap (λ (q : Program). with_line q link.line link.instr) (program_by-kept (link_of (stored_at a link.parent)) (closed link.parent) links)

    pub program_at-kept : (at : ℕ) → IsSome (stored_at a at) → program_at lines b at ≡ program_at lines a at
    program_at-kept at there =
        ap (λ (o : Option Link). program_by lines b o lines) (same at there)
        ∙ program_by-kept (link_of (stored_at a at)) (closed at) lines

    pub link-kept : (link : Link) → IsSome (stored_at a link.parent) → program_by lines b (Some link) lines ≡ program_by lines a (Some link) lines
    link-kept link there = program_by-kept (Some link) (λ l e. let is : l ≡ link = cc in rw is there) lines

    pub to_more : (link : Link) → IsSome (stored_at a link.parent) → IsWritten lines a link → IsWritten lines b link
    to_more link there w = record {
      is_inner = w.is_inner;
      is_open = rw (program_at-kept link.parent there) w.is_open;
      is_more = link-kept link there ∙ w.is_more ∙ ap (λ (q : Program). with_line q link.line link.instr) (sym (program_at-kept link.parent there));
    }

    pub to_fewer : (link : Link) → IsSome (stored_at a link.parent) → IsWritten lines b link → IsWritten lines a link
    to_fewer link there w = record {
      is_inner = w.is_inner;
      is_open = rw (program_at-kept link.parent there) at w.is_open;
      is_more = sym (link-kept link there) ∙ w.is_more ∙ ap (λ (q : Program). with_line q link.line link.instr) (program_at-kept link.parent there);
    }

-- a link on a line that is undefined in its parent's program gives one line more
pub written_beyond : (lines : ℕ) (slots : List (Option Node)) (link : Link) → 0 < lines → AreWritten lines slots → IsOpen (program_at lines slots link.parent) link.line → IsWritten lines slots link
written_beyond zero slots link some written here = absurd (omega arith)
written_beyond (suc more) slots link some written here =
    let parent = program_at (suc more) slots link.parent in
    let size : length parent ≡ suc more = length-program_by (suc more) some slots (link_of (stored_at slots link.parent)) (suc more) in
    let last : line_at parent (suc more - 1) ≡ Some End = last-program_by (suc more) slots written (link_of (stored_at slots link.parent)) (written link.parent) (suc more) in
    let within = here.within in
    record {
      is_inner = elim (cases_lt (link.line + 1) (suc more)) [
        | inl inner ↦ inner
        | inr outer ↦
            let is : suc more - 1 ≡ link.line = omega arith in
            let e : None ≡ Some End = sym here.undefined ∙ ap (line_at parent) (sym is) ∙ last in
            absurd (cc)
      ];
      is_open = here;
      is_more =
          ap (λ (q : Program). with_line q link.line link.instr)
          (enough (suc more) slots written more (link_of (stored_at slots link.parent)) (written link.parent) (omega (arith, size, count_by-le-length is_some parent)));
    }
