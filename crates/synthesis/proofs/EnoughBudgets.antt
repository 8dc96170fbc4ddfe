-- A budget of as many splits as there are partial programs that may be split is never spent.
use Rattle.std.proofs.Common.{◌≡◌, ℕ, zero, suc, ◌+◌, ◌-◌, ◌*◌, ◌<◌, ◌≤◌, true, false, List, [], ◌∷◌, ◌++◌, map, length, replicate, cond, Option, Some, None, refl, sym, ◌∙◌, ap, inl, inr, arith, pow-suc}
use Rattle.std.specs.Prelude.{count_by, sum_by, is_none, is_some}
use Rattle.std.specs.List.{list_any}
use Rattle.std.proofs.lemmas.Bool.{or_cases, false≢true, cases_lt, cond-true}
use Rattle.std.proofs.lemmas.List.Sums.{sum_by-cons, sum_by-append}
use Rattle.std.proofs.Math.Nat.{pow-zero}
use Rattle.program_model.specs.declared.instr.Instr.{Instr}
use Rattle.program_model.specs.declared.instr.Instr.TheVariants.{End}
use Rattle.program_model.specs.Alphabet.{alphabet}
use Rattle.program_model.specs.Program.{Program, empty, line_at, with_line, IsOpen, IsPartial}
use Rattle.program_model.specs.declared.verdict.Cause.TheVariants as causes
use Rattle.program_model.specs.declared.verdict.Verdict.TheVariants as verdicts
use Rattle.program_model.proofs.Alphabets.{length-alphabet}
use Rattle.refutation_tree.specs.Covers.{Child}
use Rattle.refutation_tree.specs.declared.evidence.Tree.{Tree}
use Rattle.synthesis.specs.Search.{Setting, State, judged, split, twin, Node, waits_at, is_waiting, Close, budget_spent, refuted, SearchesSize}
use Rattle.synthesis.specs.Answers.{RefutesSizes, none, next}
use Rattle.synthesis.specs.Enough.{alphabet_size, sum_of_powers, splits_at_most, splits_up_to}
use Rattle.synthesis.proofs.Lists.{each_both}
use Rattle.synthesis.proofs.Growing.{followers, HasState, AreGrown, empty_alone, size_grown}
use Rattle.synthesis.proofs.FilledPrograms.{IsSized, followers_sized, empty_sized}
use Rattle.synthesis.proofs.Judging.{waiting_is_open}
use Rattle.synthesis.proofs.SpentBudgets.{split_marks, split_marks-cons, size_count}
use Rattle.std.specs.List.{AllByRecursion as Each}

-- ---- undefined lines

abbrev open_lines : Program → ℕ
open_lines q = count_by is_none q

open-cons : (line : Option Instr) (q : Program) → open_lines (line ∷ q) ≡ cond (is_none line) 1 0 + open_lines q
open-cons line q = sum_by-cons (λ o. cond (is_none o) 1 0) line q

-- a line that becomes defined is one undefined line less
open_less : (q : Program) (line : ℕ) (instr : Instr) → IsOpen q line → open_lines (with_line q line instr) + 1 ≡ open_lines q
open_less [] line instr h = let within = h.within in absurd (omega arith)
open_less (None ∷ q) zero instr h = omega (arith, open-cons (Some instr) q, open-cons None q)
open_less (Some other ∷ q) zero instr h = absurd (let same : Some other ≡ None = h.undefined in cc)
open_less (first ∷ q) (suc line) instr h =
    let within = h.within in
    let later = open_less q line instr (record { within = omega arith; undefined = h.undefined }) in
    omega (arith, open-cons first q, open-cons first (with_line q line instr), later)

-- an undefined line is one at least
open_some : (q : Program) (line : ℕ) → IsOpen q line → 0 < open_lines q
open_some q line h = omega (arith, open_less q line End h)

open-undefined : (count : ℕ) (q : Program) → open_lines (replicate count None ++ q) ≡ count + open_lines q
open-undefined zero q = omega arith
open-undefined (suc count) q = omega (arith, open-cons None (replicate count None ++ q), open-undefined count q)

open-empty : (size : ℕ) → open_lines (empty size) ≡ size - 1
open-empty size = omega (arith, open-undefined (size - 1) (Some End ∷ []), open-cons (Some End) [])

-- ---- the sums of powers

powers-more : (base count : ℕ) → sum_of_powers base (suc count) ≡ 1 + base * sum_of_powers base count
powers-more base zero = omega (arith, pow-zero base)
powers-more base (suc count) = omega (arith, powers-more base count, pow-suc base count)

powers_some : (base count : ℕ) → 0 < count → 0 < sum_of_powers base count
powers_some base zero some = absurd (omega arith)
powers_some base (suc count) some = omega (arith, powers-more base count)

-- ---- the splits below nodes

module _ {C : Type 0} (s : Setting C) (size : ℕ) where
  abbrev base : ℕ
  base = alphabet_size s.machine.ops size

  -- how many splits there may be of a partial program and those below it
  abbrev below : Child → ℕ
  below c = sum_of_powers base (open_lines c.program)

  abbrev below_all : List Child → ℕ
  below_all cs = sum_by below cs

  children_below : (q : Program) (line : ℕ) (instrs : List Instr) (count : ℕ) → IsOpen q line → open_lines q ≡ suc count → below_all (map (λ instr. record { program = with_line q line instr; skipped = s.skips q instr }) instrs) ≡ length instrs * sum_of_powers base count
  children_below q line [] count h is = omega arith
  children_below q line (instr ∷ instrs) count h is =
      let c : Child = record { program = with_line q line instr; skipped = s.skips q instr } in
      let cs : List Child = map (λ instr. record { program = with_line q line instr; skipped = s.skips q instr }) instrs in
      let less : open_lines (with_line q line instr) ≡ count = omega (arith, open_less q line instr h) in
      omega (arith, sum_by-cons below c cs, ap (sum_of_powers base) less, children_below q line instrs count h is)

  -- an undefined line is not the last
  open_inner : (q : Program) (line : ℕ) → IsPartial s.machine.ops q → IsOpen q line → line + 1 < length q
  open_inner q line partial h = elim (cases_lt (line + 1) (length q)) [
    | inl less ↦ less
    | inr over ↦
        let within = h.within in
        let last : line ≡ length q - 1 = omega arith in
        absurd (let same : Some End ≡ None = sym partial.last ∙ ap (line_at q) (sym last) ∙ h.undefined in cc)
  ]

  split_below : (c : Child) (line stamp : ℕ) → IsSized s size c.program → IsOpen c.program line → 1 + below_all (followers s c.program (split line stamp)) ≡ below c
  split_below c line stamp sized h =
      let some = open_some c.program line h in
      let is : open_lines c.program ≡ suc (open_lines c.program - 1) = omega arith in
      let many = length-alphabet s.machine.ops (length c.program) line (open_inner c.program line sized.1 h) in
      let those = children_below c.program line (alphabet s.machine.ops (length c.program) line) (open_lines c.program - 1) h is in
      let long : length (alphabet s.machine.ops (length c.program) line) ≡ base = many ∙ ap (λ n. s.machine.ops + 4 * (n - 2)) sized.0 in
      omega (arith, those, ap (λ n. n * sum_of_powers base (open_lines c.program - 1)) long, ap (sum_of_powers base) is, powers-more base (open_lines c.program - 1))

  abbrev waiting : List Node → ℕ
  waiting nodes = count_by is_waiting nodes

  waiting-cons : (node : Node) (nodes : List Node) (state : State) → node.state ≡ state → waiting (node ∷ nodes) ≡ cond (is_some (waits_at state)) 1 0 + waiting nodes
  waiting-cons node nodes state is = sum_by-cons (λ (n : Node). cond (is_waiting n) 1 0) node nodes ∙ ap (λ x. cond (is_some (waits_at x)) 1 0 + waiting nodes) is

  -- the splits that were made, and the nodes that wait, are no more than there may be splits
  first_within : (c : Child) (cs : List Child) (node : Node) (nodes : List Node) (state : State) → node.state ≡ state → IsSized s size c.program → HasState s c state →
      split_marks nodes + waiting nodes ≤ below_all (followers s c.program state ++ cs) → split_marks (node ∷ nodes) + waiting (node ∷ nodes) ≤ below c + below_all cs
  first_within c cs node nodes (judged (verdicts.Refused t (causes.Unmet steps))) is sized h later = omega (arith, later, waiting-cons node nodes _ is, split_marks-cons node nodes _ 0 is refl)
  first_within c cs node nodes (judged (verdicts.Refused t (causes.Loops from to))) is sized h later = omega (arith, later, waiting-cons node nodes _ is, split_marks-cons node nodes _ 0 is refl)
  first_within c cs node nodes (judged (verdicts.AtLimit t)) is sized h later = omega (arith, later, waiting-cons node nodes _ is, split_marks-cons node nodes _ 0 is refl)
  first_within c cs node nodes (judged (verdicts.Waiting line)) is sized h later =
      let some = powers_some base (open_lines c.program) (open_some c.program line (waiting_is_open s.machine c.program s.limit line h)) in
      omega (arith, later, some, waiting-cons node nodes _ is, split_marks-cons node nodes _ 0 is refl)
  first_within c cs node nodes (judged verdicts.Solved) is sized h later = omega (arith, later, waiting-cons node nodes _ is, split_marks-cons node nodes _ 0 is refl)
  first_within c cs node nodes (split line stamp) is sized h later =
      omega (arith, later, sum_by-append below (followers s c.program (split line stamp)) cs, split_below c line stamp sized h, waiting-cons node nodes _ is, split_marks-cons node nodes _ 1 is refl)
  first_within c cs node nodes twin is sized h later = omega (arith, later, waiting-cons node nodes _ is, split_marks-cons node nodes _ 0 is refl)

  all_within : (nodes : List Node) (cs : List Child) → AreGrown s cs nodes → Each (λ (c : Child). IsSized s size c.program) cs → split_marks nodes + waiting nodes ≤ below_all cs
  all_within [] [] h sized = omega arith
  all_within [] (c ∷ cs) h sized = absurd h
  all_within (node ∷ nodes) [] h sized = absurd h
  all_within (node ∷ nodes) (c ∷ cs) h sized =
      let later = all_within nodes (followers s c.program node.state ++ cs) h.2 (each_both (λ (d : Child). IsSized s size d.program) (followers s c.program node.state) cs (followers_sized s size c node.state sized.0 h.1) sized.1) in
      let all = first_within c cs node nodes node.state refl sized.0 h.1 later in
      omega (arith, all, sum_by-cons below c cs)

-- ---- the splits of sizes

some_wait : (nodes : List Node) → list_any is_waiting nodes ≡ true → 0 < count_by is_waiting nodes
some_wait [] waits = absurd (false≢true waits)
some_wait (node ∷ nodes) waits =
    let counts = sum_by-cons (λ (n : Node). cond (is_waiting n) 1 0) node nodes in
    elim (or_cases (is_waiting node) (list_any is_waiting nodes) waits) [
      | inl first ↦ omega (arith, counts, cond-true {A = ℕ} (is_waiting node) 1 0 first)
      | inr later ↦ omega (arith, counts, some_wait nodes later)
    ]

module _ {C : Type 0} (s : Setting C) (budget : ℕ) where
  -- the splits of a size, and the nodes that wait, are no more than there may be splits
  size_within : (size from to : ℕ) (nodes : List Node) (close : Close) → 0 < size → SearchesSize s budget size from to nodes close → to + count_by is_waiting nodes ≤ from + splits_at_most s.machine.ops size
  size_within size from to nodes close some h =
      let all = all_within s size nodes (empty_alone s size) (size_grown s budget size from to nodes close h) (empty_sized s size some, tt) in
      let root : Child = record { program = empty size; skipped = false } in
      omega (arith, all, size_count s budget size from to nodes close h, sum_by-cons (below s size) root [], ap (sum_of_powers (alphabet_size s.machine.ops size)) (open-empty size))

  sizes_within_powers : (size to : ℕ) (trees : List Tree) → RefutesSizes s budget size to trees → to ≤ splits_up_to s.machine.ops size
  sizes_within_powers size to trees none = omega arith
  sizes_within_powers size to trees (next before from after earlier nodes refutes searched) =
      let here = size_within (before + 1) from to nodes refuted (omega arith) searched in
      let more : splits_up_to s.machine.ops (suc before) ≡ splits_up_to s.machine.ops before + splits_at_most s.machine.ops (suc before) = refl in
      let same : before + 1 ≡ suc before = omega arith in
      omega (arith, sizes_within_powers before from earlier refutes, here, more, ap (splits_up_to s.machine.ops) same, ap (splits_at_most s.machine.ops) same)

-- ---- the sizes up to one

up_to_more : (ops size more : ℕ) → splits_up_to ops size ≤ splits_up_to ops (size + more)
up_to_more ops size zero = omega (arith, ap (splits_up_to ops) (let same : size ≡ size + 0 = omega arith in same))
up_to_more ops size (suc more) =
    omega (arith, up_to_more ops size more, ap (splits_up_to ops) (let same : size + suc more ≡ suc (size + more) = omega arith in same))

pub up_to_grows : (ops size lines : ℕ) → size ≤ lines → splits_up_to ops size ≤ splits_up_to ops lines
up_to_grows ops size lines few = omega (arith, up_to_more ops size (lines - size), ap (splits_up_to ops) (let same : size + (lines - size) ≡ lines = omega arith in same))

module _ {C : Type 0} (s : Setting C) (budget : ℕ) where
  -- a budget that is enough for the sizes up to one is not spent at a size of them
  pub enough_unspent : (size from to lines : ℕ) (trees : List Tree) (nodes : List Node) → splits_up_to s.machine.ops lines ≤ budget → size < lines → RefutesSizes s budget size from trees → SearchesSize s budget (size + 1) from to nodes budget_spent → ⊥
  enough_unspent size from to lines trees nodes enough below refutes searched =
      let before = sizes_within_powers s budget size from trees refutes in
      let here = size_within s budget (size + 1) from to nodes budget_spent (omega arith) searched in
      let waits = some_wait nodes searched.closes.2 in
      let spent : budget ≤ to = searched.closes.3 in
      let grows = up_to_grows s.machine.ops (suc size) lines (omega arith) in
      absurd (omega (arith, before, here, waits, spent, enough, grows, ap (splits_at_most s.machine.ops) (let same : size + 1 ≡ suc size = omega arith in same)))
