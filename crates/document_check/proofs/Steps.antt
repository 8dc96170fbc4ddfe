-- What is to come is what the next line says and what is to come after it.
use Rattle.std.proofs.Common.{◌≡◌, ◌≢◌, ℕ, ◌+◌, ◌-◌, ◌<◌, ◌≤◌, Bool, true, suc, zero, List, [], ◌∷◌, ◌++◌, map, length, drop, Some, refl, sym, ◌∙◌, ap, subst, arith}
use Rattle.std.specs.Prelude.{Option, None, IsTrue, ◌↔◌, All, flat_map, codes, Contains}
use Rattle.std.specs.List.{range_with_len}
use Rattle.std.proofs.lemmas.List.{append_assoc, append-nil, length-append}
use Rattle.std.proofs.lemmas.List.Elements.{All-nil, All-cons, All-head, All-tail}
use Rattle.program_model.specs.declared.alphabet.TheConstants.{MAX_LINES}
use Rattle.program_model.specs.declared.instr.Instr.{Instr}
use Rattle.program_model.specs.declared.instr.Instr.TheVariants.{End}
use Rattle.program_model.specs.Semantics.{Semantics}
use Rattle.program_model.specs.Program.{Program, IsInstr, IsProgram, empty}
use Rattle.program_model.specs.Run.{Ends}
use Rattle.program_text.specs.Texts.{instr_text, program_line}
use Rattle.flag_rules.specs.Line.{then_number}
use Rattle.refutation_tree.specs.declared.ranges.TheConstants.{MAX_STEPS}
use Rattle.refutation_tree.specs.declared.evidence.Mark.{Mark}
use Rattle.refutation_tree.specs.declared.evidence.Tree.{Tree}
use Rattle.refutation_tree.specs.declared.evidence.Outcome.{Outcome}
use Rattle.refutation_tree.specs.declared.evidence.Outcome.TheVariants as outcomes
use Rattle.refutation_tree.specs.Covers.{Child}
use Rattle.refutation_tree.specs.Grammar.{IsFromOneTo, IsTree, last_size}
use Rattle.refutation_tree.specs.Accepted.{AreEndsFrom, CoversRefuted, SaysRefuted}
use Rattle.pointer_symmetry.specs.Twins.{twins}
use Rattle.answer_writer.specs.Document.{verdict_line, mark_line, tree_lines, ends_lines}
use Rattle.answer_lines.specs.Lines.{IsVerdictOf, NamesInstance}
use Rattle.refutation_check.specs.Walking.{AllStand, Stands, rooted}
use Rattle.refutation_check.proofs.Marks.{marks_stand}
use Rattle.document_check.specs.Remaining.{LastLine, EndsToCome, InstrsToCome, ProgramToCome, FoundToCome, TreesToCome, MarksToCome, VerdictToCome, HeadingToCome, heading_lines}

-- a list that begins with an element
pub begins : {X : Type 0} {x y : X} {xs ys : List X} → x ∷ xs ≡ y ∷ ys → (x ≡ y) × (xs ≡ ys)
begins {X} {x} {y} {xs} {ys} e =
    let first : x ≡ y = cc e in
    let rest : xs ≡ ys = cc e in
    (first, rest)

module _ {C : Type 0} (m : Semantics C) (texts : List (List ℕ)) (lines : ℕ) where
  -- ---- the heading

  heading_on : (count next : ℕ) (expected text : List ℕ) (more : List (List ℕ)) → drop count (heading_lines m lines) ≡ expected ∷ drop next (heading_lines m lines)
      → HeadingToCome m texts lines count (text ∷ more) ↔ ((text ≡ expected) × HeadingToCome m texts lines next more)
  heading_on count next expected text more cut = (
    λ h.
        let both = begins (h.written ∙ ap (λ (l : List (List ℕ)). l ++ h.after) cut) in
        (both.0, record { in_range = h.in_range; after = h.after; verdict = h.verdict; written = both.1 }),
    λ both. record {
      in_range = both.1.in_range;
      after = both.1.after;
      verdict = both.1.verdict;
      written = ap (λ (t : List ℕ). t ∷ more) both.0 ∙ ap (λ (l : List (List ℕ)). expected ∷ l) both.1.written ∙ sym (ap (λ (l : List (List ℕ)). l ++ both.1.after) cut);
    },
  )

  pub form_on : (text : List ℕ) (more : List (List ℕ)) → HeadingToCome m texts lines 0 (text ∷ more) ↔ ((text ≡ codes "bfgp answer 1") × HeadingToCome m texts lines 1 more)
  form_on text more = heading_on 0 1 (codes "bfgp answer 1") text more refl

  pub pointers_on : (text : List ℕ) (more : List (List ℕ)) → HeadingToCome m texts lines 1 (text ∷ more) ↔ ((text ≡ codes "pointers" ++ then_number m.pointers) × HeadingToCome m texts lines 2 more)
  pointers_on text more = heading_on 1 2 (codes "pointers" ++ then_number m.pointers) text more refl

  pub lines_on : (text : List ℕ) (more : List (List ℕ)) → HeadingToCome m texts lines 2 (text ∷ more) ↔ ((text ≡ codes "lines" ++ then_number lines) × HeadingToCome m texts lines 3 more)
  lines_on text more = heading_on 2 3 (codes "lines" ++ then_number lines) text more refl

  pub instances_on : (text : List ℕ) (more : List (List ℕ)) → HeadingToCome m texts lines 3 (text ∷ more) ↔ ((text ≡ codes "instances" ++ then_number m.instances) × HeadingToCome m texts lines 4 more)
  instances_on text more = heading_on 3 4 (codes "instances" ++ then_number m.instances) text more refl

  -- ---- the verdict

  pub verdict_on : (outcome : Outcome) (text : List ℕ) (more : List (List ℕ)) → IsFromOneTo MAX_LINES lines → IsVerdictOf lines m.instances text outcome → ((other : Outcome) → IsVerdictOf lines m.instances text other → other ≡ outcome)
      → HeadingToCome m texts lines 4 (text ∷ more) ↔ TreesToCome m texts lines outcome 0 more
  verdict_on outcome text more in_range is only = (
    λ h.
        let both = begins (h.written ∙ h.verdict.written) in
        let same = only h.verdict.outcome (record { written = both.0; size = h.verdict.size; instance = h.verdict.instance }) in
        subst (TreesToCome m texts lines outcome 0) (sym both.1) (subst (λ (o : Outcome). TreesToCome m texts lines o 0 h.verdict.after) same h.verdict.trees),
    λ trees. record {
      in_range = in_range;
      after = text ∷ more;
      verdict = record { outcome = outcome; size = is.size; instance = is.instance; after = more; trees = trees; written = ap (λ (t : List ℕ). t ∷ more) is.written };
      written = refl;
    },
  )

  pub no_verdict_on : (text : List ℕ) (more : List (List ℕ)) → ((other : Outcome) → IsVerdictOf lines m.instances text other → ⊥) → HeadingToCome m texts lines 4 (text ∷ more) → ⊥
  no_verdict_on text more none h =
      let both = begins (h.written ∙ h.verdict.written) in
      none h.verdict.outcome (record { written = both.0; size = h.verdict.size; instance = h.verdict.instance })

  -- ---- trees

  first_tree : (outcome : Outcome) (size count : ℕ) (covering : Bool) (text : List ℕ) (more after : List (List ℕ)) (trees : List Tree) → IsTrue covering ↔ SaysRefuted outcome (size + 1) → count ≡ last_size lines outcome - (size + 1)
      → map (λ (tree : Tree). tree.size) trees ≡ range_with_len (size + 1) (suc count) → All (IsTree m.ops m.instances) trees → All (CoversRefuted m (twins m) outcome) trees → FoundToCome m texts outcome after
      → text ∷ more ≡ flat_map tree_lines trees ++ after → (text ≡ codes "tree" ++ then_number (size + 1)) × MarksToCome m texts lines outcome (size + 1) covering (rooted (Some (empty (size + 1)))) more
  first_tree outcome size count covering text more after [] covers count_is sizes are covered found written = cc sizes
  first_tree outcome size count covering text more after (tree ∷ trees) covers count_is sizes are covered found written =
      let first : tree.size ≡ size + 1 = cc sizes in
      let later : map (λ (tree : Tree). tree.size) trees ≡ range_with_len (size + 1 + 1) count = cc sizes in
      let both = begins written in
      let refuted : CoversRefuted m (twins m) outcome tree = All-head (CoversRefuted m (twins m) outcome) tree trees covered in
      let stand = (marks_stand m covering tree).0 (record {
        is_tree = All-head (IsTree m.ops m.instances) tree trees are;
        covers = λ c. refuted (subst (SaysRefuted outcome) (sym first) (covers.0 c));
      }) in (
        both.0 ∙ ap (λ (n : ℕ). codes "tree" ++ then_number n) first,
        record {
          marks = tree.marks;
          stand = subst (λ (n : ℕ). AllStand m covering (rooted (Some (empty n))) tree.marks) first stand;
          after = flat_map tree_lines trees ++ after;
          trees = record {
            trees = trees;
            sizes = later ∙ ap (range_with_len (size + 1 + 1)) count_is;
            are_trees = All-tail (IsTree m.ops m.instances) tree trees are;
            covered = All-tail (CoversRefuted m (twins m) outcome) tree trees covered;
            after = after;
            found = found;
            written = refl;
          };
          written = both.1 ∙ append_assoc (map mark_line tree.marks) (flat_map tree_lines trees) after;
        },
      )

  one_tree : (outcome : Outcome) (size : ℕ) (covering : Bool) (text : List ℕ) (more : List (List ℕ)) → IsTrue covering ↔ SaysRefuted outcome (size + 1) → last_size lines outcome - size ≡ suc (last_size lines outcome - (size + 1))
      → text ≡ codes "tree" ++ then_number (size + 1) → MarksToCome m texts lines outcome (size + 1) covering (rooted (Some (empty (size + 1)))) more → TreesToCome m texts lines outcome size (text ∷ more)
  one_tree outcome size covering text more covers count is h =
      let tree : Tree = record { size = size + 1; marks = h.marks } in
      let holds = (marks_stand m covering tree).1 h.stand in
      record {
        trees = tree ∷ h.trees.trees;
        sizes = ap (λ (l : List ℕ). (size + 1) ∷ l) h.trees.sizes ∙ ap (range_with_len (size + 1)) (sym count);
        are_trees = All-cons (IsTree m.ops m.instances) tree h.trees.trees holds.is_tree h.trees.are_trees;
        covered = All-cons (CoversRefuted m (twins m) outcome) tree h.trees.trees (λ says. holds.covers (covers.1 says)) h.trees.covered;
        after = h.trees.after;
        found = h.trees.found;
        written =
            ap (λ (t : List ℕ). t ∷ more) is
            ∙ ap (λ (l : List (List ℕ)). (codes "tree" ++ then_number (size + 1)) ∷ l) (h.written ∙ ap (λ (l : List (List ℕ)). map mark_line h.marks ++ l) h.trees.written ∙ sym (append_assoc (map mark_line h.marks) (flat_map tree_lines h.trees.trees) h.trees.after));
      }

  pub tree_on : (outcome : Outcome) (size : ℕ) (covering : Bool) (text : List ℕ) (more : List (List ℕ)) → size < last_size lines outcome → IsTrue covering ↔ SaysRefuted outcome (size + 1)
      → TreesToCome m texts lines outcome size (text ∷ more) ↔ ((text ≡ codes "tree" ++ then_number (size + 1)) × MarksToCome m texts lines outcome (size + 1) covering (rooted (Some (empty (size + 1)))) more)
  tree_on outcome size covering text more left covers =
      let count : last_size lines outcome - size ≡ suc (last_size lines outcome - (size + 1)) = omega (arith, left) in (
        λ h. first_tree outcome size (last_size lines outcome - (size + 1)) covering text more h.after h.trees covers refl (h.sizes ∙ ap (range_with_len (size + 1)) count) h.are_trees h.covered h.found h.written,
        λ both. one_tree outcome size covering text more covers count both.0 both.1,
      )

  no_tree : (outcome : Outcome) (size : ℕ) (more after : List (List ℕ)) (trees : List Tree) → map (λ (tree : Tree). tree.size) trees ≡ range_with_len (size + 1) 0 → FoundToCome m texts outcome after → more ≡ flat_map tree_lines trees ++ after → FoundToCome m texts outcome more
  no_tree outcome size more after [] sizes found written = subst (FoundToCome m texts outcome) (sym written) found
  no_tree outcome size more after (tree ∷ trees) sizes found written = cc sizes

  pub trees_done : (outcome : Outcome) (size : ℕ) (more : List (List ℕ)) → size ≡ last_size lines outcome → TreesToCome m texts lines outcome size more ↔ FoundToCome m texts outcome more
  trees_done outcome size more last =
      let none : last_size lines outcome - size ≡ 0 = omega (arith, last) in (
        λ h. no_tree outcome size more h.after h.trees (h.sizes ∙ ap (range_with_len (size + 1)) none) h.found h.written,
        λ found. record {
          trees = [];
          sizes = sym (ap (range_with_len (size + 1)) none);
          are_trees = All-nil (IsTree m.ops m.instances);
          covered = All-nil (CoversRefuted m (twins m) outcome);
          after = more;
          found = found;
          written = refl;
        },
      )

  -- ---- marks

  first_mark : (covering : Bool) (c : Child) (cs : List Child) (text : List ℕ) (more after : List (List ℕ)) (marks : List Mark) → AllStand m covering (c ∷ cs) marks → text ∷ more ≡ map mark_line marks ++ after
      → (mark : Mark) × (rest : List Mark) × (marks ≡ mark ∷ rest) × Stands m covering c mark × (text ≡ mark_line mark) × (more ≡ map mark_line rest ++ after)
  first_mark covering c cs text more after [] stand written = absurd stand
  first_mark covering c cs text more after (mark ∷ rest) stand written = let both = begins written in (mark, rest, refl, stand.0, both.0, both.1)

  -- the line is a mark, which the walk takes or does not
  pub mark_on : (outcome : Outcome) (size : ℕ) (covering after : Bool) (c : Child) (cs pending left : List Child) (mark : Mark) (stood : Bool) (text : List ℕ) (more : List (List ℕ))
      → pending ≡ c ∷ cs → text ≡ mark_line mark → ((other : Mark) → Stands m covering c other → text ≡ mark_line other → other ≡ mark)
      → ((ms : List Mark) → AllStand m covering pending (mark ∷ ms) ↔ (IsTrue stood × AllStand m after left ms))
      → MarksToCome m texts lines outcome size covering pending (text ∷ more) ↔ (IsTrue stood × MarksToCome m texts lines outcome size after left more)
  mark_on outcome size covering after c cs pending left mark stood text more first is only takes = (
    λ h.
        let it = first_mark covering c cs text more h.after h.marks (subst (λ (l : List Child). AllStand m covering l h.marks) first h.stand) h.written in
        let same = only it.0 it.3 it.4 in
        let marks : h.marks ≡ mark ∷ it.1 = it.2 ∙ ap (λ (k : Mark). k ∷ it.1) same in
        let took = (takes it.1).0 (subst (AllStand m covering pending) marks h.stand) in
        (took.0, record { marks = it.1; stand = took.1; after = h.after; trees = h.trees; written = it.5 }),
    λ both. record {
      marks = mark ∷ both.1.marks;
      stand = (takes both.1.marks).1 (both.0, both.1.stand);
      after = both.1.after;
      trees = both.1.trees;
      written = ap (λ (t : List ℕ). t ∷ more) is ∙ ap (λ (l : List (List ℕ)). mark_line mark ∷ l) both.1.written;
    },
  )

  -- the line is no mark
  pub no_mark_on : (outcome : Outcome) (size : ℕ) (covering : Bool) (c : Child) (cs pending : List Child) (text : List ℕ) (more : List (List ℕ)) → pending ≡ c ∷ cs → ((other : Mark) → Stands m covering c other → text ≡ mark_line other → ⊥)
      → MarksToCome m texts lines outcome size covering pending (text ∷ more) → ⊥
  no_mark_on outcome size covering c cs pending text more first none h =
      let it = first_mark covering c cs text more h.after h.marks (subst (λ (l : List Child). AllStand m covering l h.marks) first h.stand) h.written in none it.0 it.3 it.4

  no_mark_left : (covering : Bool) (more after : List (List ℕ)) (marks : List Mark) → AllStand m covering [] marks → more ≡ map mark_line marks ++ after → more ≡ after
  no_mark_left covering more after [] stand written = written
  no_mark_left covering more after (mark ∷ marks) stand written = absurd stand

  -- each partial program has its mark
  pub marks_done : (outcome : Outcome) (size : ℕ) (covering : Bool) (pending : List Child) (more : List (List ℕ)) → pending ≡ [] → MarksToCome m texts lines outcome size covering pending more ↔ TreesToCome m texts lines outcome size more
  marks_done outcome size covering pending more none = (
    λ h. subst (TreesToCome m texts lines outcome size) (sym (no_mark_left covering more h.after h.marks (subst (λ (l : List Child). AllStand m covering l h.marks) none h.stand) h.written)) h.trees,
    λ trees. record { marks = []; stand = subst (λ (l : List Child). AllStand m covering l []) (sym none) tt; after = more; trees = trees; written = refl },
  )

  -- ---- the program

  pub program_on : (size : ℕ) (text : List ℕ) (more : List (List ℕ)) → ProgramToCome m texts size (text ∷ more) ↔ ((text ≡ codes "program") × InstrsToCome m texts size [] more)
  program_on size text more = (
    λ h. let both = begins h.written in (both.0, subst (InstrsToCome m texts size []) (sym both.1) h.instrs),
    λ both. record { after = more; instrs = both.1; written = ap (λ (t : List ℕ). t ∷ more) both.0 },
  )

  -- ---- the ends

  first_end : (program : Program) (t : ℕ) (text : List ℕ) (more : List (List ℕ)) (ends : List ℕ) → t < m.instances → AreEndsFrom m program t ends → All (λ j. j ≤ MAX_STEPS) ends → text ∷ more ≡ ends_lines t ends ++ codes "end of answer" ∷ []
      → (steps : ℕ) × (steps ≤ MAX_STEPS) × (text ≡ codes "ends" ++ then_number t ++ then_number steps) × Ends m program t steps × EndsToCome m program (t + 1) more
  first_end program t text more [] within are in_range written = absurd (omega (arith, within, are))
  first_end program t text more (j ∷ js) within are in_range written =
      let both = begins written in (
        j,
        All-head (λ j. j ≤ MAX_STEPS) j js in_range,
        both.0,
        are.1,
        record { ends = js; are_ends = are.2; in_range = All-tail (λ j. j ≤ MAX_STEPS) j js in_range; written = both.1 },
      )

  pub ends_on : (program : Program) (t steps : ℕ) (ended : Bool) (text : List ℕ) (more : List (List ℕ)) → t < m.instances → steps ≤ MAX_STEPS → text ≡ codes "ends" ++ then_number t ++ then_number steps
      → ((other : ℕ) → other ≤ MAX_STEPS → text ≡ codes "ends" ++ then_number t ++ then_number other → other ≡ steps) → IsTrue ended ↔ Ends m program t steps
      → EndsToCome m program t (text ∷ more) ↔ (IsTrue ended × EndsToCome m program (t + 1) more)
  ends_on program t steps ended text more within few is only ends = (
    λ h.
        let it = first_end program t text more h.ends within h.are_ends h.in_range h.written in
        (ends.1 (subst (Ends m program t) (only it.0 it.1 it.2) it.3), it.4),
    λ both. record {
      ends = steps ∷ both.1.ends;
      are_ends = (within, ends.0 both.0, both.1.are_ends);
      in_range = All-cons (λ j. j ≤ MAX_STEPS) steps both.1.ends few both.1.in_range;
      written = ap (λ (t : List ℕ). t ∷ more) is ∙ ap (λ (l : List (List ℕ)). (codes "ends" ++ then_number t ++ then_number steps) ∷ l) both.1.written;
    },
  )

  pub no_ends_on : (program : Program) (t : ℕ) (text : List ℕ) (more : List (List ℕ)) → t < m.instances → ((other : ℕ) → other ≤ MAX_STEPS → text ≡ codes "ends" ++ then_number t ++ then_number other → ⊥) → EndsToCome m program t (text ∷ more) → ⊥
  no_ends_on program t text more within none h = let it = first_end program t text more h.ends within h.are_ends h.in_range h.written in none it.0 it.1 it.2

  no_end : (program : Program) (t : ℕ) (more : List (List ℕ)) (ends : List ℕ) → t ≡ m.instances → AreEndsFrom m program t ends → more ≡ ends_lines t ends ++ codes "end of answer" ∷ [] → LastLine more
  no_end program t more [] last are written = written
  no_end program t more (j ∷ js) last are written = absurd (omega (arith, last, are.0))

  pub ends_done : (program : Program) (t : ℕ) (more : List (List ℕ)) → t ≡ m.instances → EndsToCome m program t more ↔ LastLine more
  ends_done program t more last = (
    λ h. no_end program t more h.ends last h.are_ends h.written,
    λ is. record { ends = []; are_ends = last; in_range = All-nil (λ j. j ≤ MAX_STEPS); written = is },
  )

  pub last_on : (text : List ℕ) (more : List (List ℕ)) → LastLine (text ∷ more) ↔ ((text ≡ codes "end of answer") × (more ≡ []))
  last_on text more = (λ is. begins is, λ both. ap (λ (t : List ℕ). t ∷ more) both.0 ∙ ap (λ (l : List (List ℕ)). codes "end of answer" ∷ l) both.1)

  -- ---- nothing is to come

  nothing_after : {X : Type 0} (xs ys : List X) → [] ≡ xs ++ ys → ys ≡ []
  nothing_after [] ys e = sym e
  nothing_after (x ∷ xs) ys e = cc e

  pub no_last : LastLine [] → ⊥
  no_last is = cc is

  pub no_ends : (program : Program) (t : ℕ) → EndsToCome m program t [] → ⊥
  no_ends program t h = let none = nothing_after (ends_lines t h.ends) (codes "end of answer" ∷ []) h.written in cc none

  pub no_instrs : (size : ℕ) (before : Program) → InstrsToCome m texts size before [] → ⊥
  no_instrs size before h = no_ends (before ++ h.rest) 0 (subst (EndsToCome m (before ++ h.rest) 0) (nothing_after (map (program_line texts) h.rest) h.after h.written) h.ends)

  pub no_program : (size : ℕ) → ProgramToCome m texts size [] → ⊥
  no_program size h = cc h.written

  no_found : (outcome : Outcome) → FoundToCome m texts outcome [] → ⊥
  no_found (outcomes.Program size) h = no_program size h
  no_found outcomes.Nothing h = no_last h
  no_found (outcomes.SpentExpansions size) h = no_last h
  no_found (outcomes.SpentRun size t) h = no_last h

  pub no_trees : (outcome : Outcome) (size : ℕ) → TreesToCome m texts lines outcome size [] → ⊥
  no_trees outcome size h = no_found outcome (subst (FoundToCome m texts outcome) (nothing_after (flat_map tree_lines h.trees) h.after h.written) h.found)

  pub no_marks : (outcome : Outcome) (size : ℕ) (covering : Bool) (pending : List Child) → MarksToCome m texts lines outcome size covering pending [] → ⊥
  no_marks outcome size covering pending h = no_trees outcome size (subst (TreesToCome m texts lines outcome size) (nothing_after (map mark_line h.marks) h.after h.written) h.trees)

  pub no_heading : (count : ℕ) → HeadingToCome m texts lines count [] → ⊥
  no_heading count h = let none = nothing_after (drop count (heading_lines m lines)) h.after h.written in let verdict = h.verdict.written in cc (none, verdict)
