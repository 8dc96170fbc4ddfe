-- All nodes of a size have partial programs of that size, and one that is filled is a program.
use Rattle.std.proofs.Common.{◌≡◌, ◌⊎◌, ℕ, ◌-◌, ◌<◌, List, [], ◌∷◌, ◌++◌, map, length, Option, Some, None, refl, sym, ◌∙◌, ap, subst, inl, inr, arith, length-set, suc}
use Rattle.std.specs.Prelude.{slice_get}
use Rattle.std.specs.List.{AllByRecursion as Each}
use Rattle.std.proofs.lemmas.Bool.{cases_lt}
use Rattle.std.proofs.lemmas.Option.{none-some, same_Some}
use Rattle.program_model.specs.declared.instr.Instr.{Instr}
use Rattle.program_model.specs.declared.instr.Instr.TheVariants.{Op}
use Rattle.program_model.specs.Alphabet.{alphabet}
use Rattle.program_model.specs.Program.{Program, line_at, empty, with_line, IsOpen, IsPartial, IsInstr, IsProgram}
use Rattle.program_model.specs.declared.verdict.Verdict.TheVariants as verdicts
use Rattle.program_model.proofs.Places.{contains_at}
use Rattle.program_model.proofs.Alphabets.{alphabet-inner, get-inner_op}
use Rattle.program_model.proofs.Programs.{line_at-past, line_within, length-empty, partial_empty, partial_with_line, open_is_not_last}
use Rattle.refutation_tree.specs.Covers.{Child}
use Rattle.synthesis.specs.Search.{Setting, State, judged, split, twin, Node, solved_program, or_else, first_solved, SearchesSize, found}
use Rattle.synthesis.specs.Answers.{Fills}
use Rattle.synthesis.proofs.Lists.{each_both}
use Rattle.synthesis.proofs.Growing.{followers, HasState, AreGrown, empty_alone, size_grown}

module _ {C : Type 0} (s : Setting C) (size : ℕ) where
  -- a partial program of the size
  abbrev pub IsSized : Program → Type 0
  IsSized q = (length q ≡ size) × IsPartial s.machine.ops q

  children_sized : (q : Program) (line : ℕ) (instrs : List Instr) → IsSized q → IsOpen q line → ((i : ℕ) (instr : Instr) → slice_get instrs i ≡ Some instr → IsInstr s.machine.ops (length q) line instr) →
      Each (λ (c : Child). IsSized c.program) (map (λ instr. record { program = with_line q line instr; skipped = s.skips q instr }) instrs)
  children_sized q line [] sized here fits = tt
  children_sized q line (instr ∷ instrs) sized here fits = (
    (length-set q line (Some instr) ∙ sized.0, partial_with_line s.machine.ops q line instr sized.1 here (fits 0 instr refl)),
    children_sized q line instrs sized here (λ i w e. fits (suc i) w e),
  )

  pub followers_sized : (c : Child) (state : State) → IsSized c.program → HasState s c state → Each (λ (d : Child). IsSized d.program) (followers s c.program state)
  followers_sized c (judged v) sized h = tt
  followers_sized c (split line stamp) sized h = children_sized c.program line (alphabet s.machine.ops (length c.program) line) sized h (λ i instr e. contains_at (alphabet s.machine.ops (length c.program) line) i instr e)
  followers_sized c twin sized h = tt

  pub nodes_sized : (nodes : List Node) (cs : List Child) → AreGrown s cs nodes → Each (λ (c : Child). IsSized c.program) cs → Each (λ (node : Node). IsSized node.program) nodes
  nodes_sized [] cs h sized = tt
  nodes_sized (node ∷ nodes) [] h sized = absurd h
  nodes_sized (node ∷ nodes) (c ∷ cs) h sized = (
    subst IsSized (sym h.0) sized.0,
    nodes_sized nodes (followers s c.program node.state ++ cs) h.2 (each_both (λ (d : Child). IsSized d.program) (followers s c.program node.state) cs (followers_sized c node.state sized.0 h.1) sized.1),
  )

  pub empty_sized : 0 < size → IsSized (empty size)
  empty_sized some = (length-empty size some, partial_empty s.machine.ops size some)

  first_of_two : (state : State) (p q : Program) (later : Option Program) → IsSized p → (later ≡ Some q → IsSized q) → or_else (solved_program state p) later ≡ Some q → IsSized q
  first_of_two (judged (verdicts.Refused at cause)) p q later sized k e = k e
  first_of_two (judged (verdicts.AtLimit t)) p q later sized k e = k e
  first_of_two (judged (verdicts.Waiting line)) p q later sized k e = k e
  first_of_two (judged verdicts.Solved) p q later sized k e = subst IsSized (same_Some p q e) sized
  first_of_two (split line stamp) p q later sized k e = k e
  first_of_two twin p q later sized k e = k e

  pub first_solved_sized : (nodes : List Node) (q : Program) → Each (λ (node : Node). IsSized node.program) nodes → first_solved nodes ≡ Some q → IsSized q
  first_solved_sized [] q sized e = absurd (none-some q e)
  first_solved_sized (node ∷ nodes) q sized e = first_of_two node.state node.program q (first_solved nodes) sized.0 (first_solved_sized nodes q sized.1) e

  -- the program that is found has the size
  pub found_sized : (budget from to : ℕ) (nodes : List Node) (q : Program) → 0 < size → SearchesSize s budget size from to nodes (found q) → IsSized q
  found_sized budget from to nodes q some h =
      first_solved_sized nodes q (nodes_sized nodes (empty_alone s size) (size_grown s budget size from to nodes (found q) h) (empty_sized some, tt)) h.closes

-- ---- filled programs

cases_option : {X : Type 0} (o : Option X) → (o ≡ None) ⊎ ((x : X) × (o ≡ Some x))
cases_option None = inl refl
cases_option (Some x) = inr (x, refl)

-- the first instruction of an undefined line
pub first_instr : (ops : ℕ) (q : Program) (line : ℕ) → 0 < ops → IsPartial ops q → IsOpen q line → slice_get (alphabet ops (length q) line) 0 ≡ Some (Op 0)
first_instr ops q line some partial here =
    ap (λ xs. slice_get xs 0) (alphabet-inner ops (length q) line (open_is_not_last ops q line partial here))
    ∙ get-inner_op ops (length q) line 0 some

-- what a filled program has on a line is of the line's alphabet
filled_fits : (ops : ℕ) (q p : Program) (line : ℕ) (instr : Instr) → IsPartial ops q → Fills ops q p → line < length q → line_at p line ≡ Some instr → IsInstr ops (length q) line instr
filled_fits ops q p line instr partial fills within e = elim (cases_option (line_at q line)) [
  | inl undefined ↦ contains_at (alphabet ops (length q) line) 0 instr (sym (fills.filled line (record { within = within; undefined = undefined })) ∙ e)
  | inr defined ↦
      let same : defined.0 ≡ instr = same_Some defined.0 instr (sym (fills.extends.keeps line defined.0 defined.1) ∙ e) in
      partial.each line instr (defined.1 ∙ ap Some same)
]

pub filled_is_partial : (ops : ℕ) (q p : Program) → IsPartial ops q → Fills ops q p → IsPartial ops p
filled_is_partial ops q p partial fills =
    let size : length p ≡ length q = fills.extends.size in
    let some = partial.some in
    record {
      some = omega arith;
      last = ap (λ n. line_at p (n - 1)) size ∙ fills.extends.keeps (length q - 1) _ partial.last;
      each = λ line instr e.
          let within = line_within p line instr e in
          rw size (filled_fits ops q p line instr partial fills (omega arith) e);
    }

pub filled_is_program : (ops : ℕ) (q p : Program) → 0 < ops → IsPartial ops q → Fills ops q p → IsProgram ops p
filled_is_program ops q p some partial fills =
    let size : length p ≡ length q = fills.extends.size in
    record {
      is_partial = filled_is_partial ops q p partial fills;
      whole = λ line within. elim (cases_option (line_at q line)) [
        | inl undefined ↦
            let here : IsOpen q line = record { within = omega arith; undefined = undefined } in
            rw (fills.filled line here, first_instr ops q line some partial here) refl
        | inr defined ↦ rw (fills.extends.keeps line defined.0 defined.1) refl
      ];
    }

-- programs of as many lines with the same on each are the same
same_by_lines : (p r : Program) → length p ≡ length r → ((line : ℕ) → line_at p line ≡ line_at r line) → p ≡ r
same_by_lines [] [] size h = refl
same_by_lines [] (y ∷ r) size h = absurd (omega arith)
same_by_lines (x ∷ p) [] size h = absurd (omega arith)
same_by_lines (x ∷ p) (y ∷ r) size h = rw (h 0, same_by_lines p r (omega arith) (λ line. h (suc line))) refl

pub same_fill : (ops : ℕ) (q p r : Program) → Fills ops q p → Fills ops q r → p ≡ r
same_fill ops q p r h k =
    let p_size = h.extends.size in
    let r_size = k.extends.size in
    same_by_lines p r (p_size ∙ sym r_size) (λ line. elim (cases_lt line (length q)) [
      | inl within ↦ elim (cases_option (line_at q line)) [
        | inl undefined ↦
            let here : IsOpen q line = record { within = within; undefined = undefined } in
            h.filled line here ∙ sym (k.filled line here)
        | inr defined ↦ h.extends.keeps line defined.0 defined.1 ∙ sym (k.extends.keeps line defined.0 defined.1)
      ]
      | inr past ↦ line_at-past p line (omega arith) ∙ sym (line_at-past r line (omega arith))
    ])
