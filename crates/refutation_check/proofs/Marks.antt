-- What is asked of the marks one after another is what is asked of a tree.
use Rattle.std.proofs.Common.{◌≡◌, ℕ, ◌+◌, ◌<◌, ◌≤◌, Bool, true, List, [], ◌∷◌, ◌++◌, map, length, drop, get_or, Some, refl, sym, ◌∙◌, ap, subst}
use Rattle.std.specs.Prelude.{◌↔◌, All, IsTrue}
use Rattle.std.proofs.lemmas.List.{map-append, drop_all, drop_more}
use Rattle.std.proofs.lemmas.List.Elements.{All-nil, All-cons, All-head, All-tail}
use Rattle.program_model.specs.declared.instr.Instr.{Instr}
use Rattle.program_model.specs.Alphabet.{alphabet}
use Rattle.program_model.specs.Semantics.{Semantics}
use Rattle.program_model.specs.Program.{Program, empty, with_line}
use Rattle.refutation_tree.specs.declared.evidence.Mark.{Mark}
use Rattle.refutation_tree.specs.declared.evidence.Mark.TheVariants as marks
use Rattle.refutation_tree.specs.declared.evidence.Tree.{Tree}
use Rattle.refutation_tree.specs.Covers.{Skips, Child, children, Covers}
use Rattle.refutation_tree.specs.Grammar.{IsInRange, child_programs, AreTrees}
use Rattle.pointer_symmetry.specs.Twins.{twins}
use Rattle.refutation_check.specs.Walking.{Stands, AllStand, Holds, brought, rooted}

-- the programs of the children
abbrev programs : List Child → List Program
programs cs = map (λ (c : Child). c.program) cs

programs_at : (skips : Skips) (q : Program) (line : ℕ) (instrs : List Instr) → programs (map (λ instr. record { program = with_line q line instr; skipped = skips q instr }) instrs) ≡ map (with_line q line) instrs
programs_at skips q line [] = refl
programs_at skips q line (instr ∷ instrs) = ap (λ (l : List Program). with_line q line instr ∷ l) (programs_at skips q line instrs)

programs_split : (skips : Skips) (ops : ℕ) (q : Program) (line : ℕ) (cs : List Child) → programs (children skips ops q line ++ cs) ≡ child_programs ops q line ++ programs cs
programs_split skips ops q line cs = map-append (λ (c : Child). c.program) (children skips ops q line) cs ∙ ap (λ (l : List Program). l ++ programs cs) (programs_at skips q line (alphabet ops (length q) line))

-- what is asked of marks that are to be trees for some partial programs
record AreHeld {C : Type 0} (m : Semantics C) (covering : Bool) (cs : List Child) (ms : List Mark) : Type 0 where
  in_range : All (IsInRange m.instances) ms
  trees : AreTrees m.ops (programs cs) ms
  covers : IsTrue covering → Covers m (twins m) cs ms

module _ {C : Type 0} (m : Semantics C) (covering : Bool) where
  held : (ms : List Mark) (cs : List Child) → AllStand m covering cs ms → AreHeld m covering cs ms
  held [] [] h = record { in_range = All-nil (IsInRange m.instances); trees = tt; covers = λ c. tt }
  held [] (c ∷ cs) h = absurd h
  held (mark ∷ ms) [] h = absurd h
  held (marks.Split line stamp ∷ ms) (c ∷ cs) h =
      let on = held ms (children (twins m) m.ops c.program line ++ cs) h.1 in
      record {
        in_range = All-cons (IsInRange m.instances) (marks.Split line stamp) ms h.0.in_range on.in_range;
        trees = (h.0.splits_open, subst (λ (qs : List Program). AreTrees m.ops qs ms) (programs_split (twins m) m.ops c.program line cs) on.trees);
        covers = λ cover. (h.0.splits_open, on.covers cover);
      }
  held (marks.Unmet t j ∷ ms) (c ∷ cs) h =
      let on = held ms cs h.1 in
      record { in_range = All-cons (IsInRange m.instances) (marks.Unmet t j) ms h.0.in_range on.in_range; trees = on.trees; covers = λ cover. (h.0.in_range.0, h.0.shows cover, on.covers cover) }
  held (marks.Loops t i j ∷ ms) (c ∷ cs) h =
      let on = held ms cs h.1 in
      record { in_range = All-cons (IsInRange m.instances) (marks.Loops t i j) ms h.0.in_range on.in_range; trees = on.trees; covers = λ cover. (h.0.in_range.0, h.0.shows cover, on.covers cover) }
  held (marks.Twin ∷ ms) (c ∷ cs) h =
      let on = held ms cs h.1 in
      record { in_range = All-cons (IsInRange m.instances) marks.Twin ms h.0.in_range on.in_range; trees = on.trees; covers = λ cover. (h.0.shows cover, on.covers cover) }
  held (marks.Waiting ∷ ms) (c ∷ cs) h =
      let on = held ms cs h.1 in
      record { in_range = All-cons (IsInRange m.instances) marks.Waiting ms h.0.in_range on.in_range; trees = on.trees; covers = λ cover. absurd (h.0.shows cover) }
  held (marks.Solved ∷ ms) (c ∷ cs) h =
      let on = held ms cs h.1 in
      record { in_range = All-cons (IsInRange m.instances) marks.Solved ms h.0.in_range on.in_range; trees = on.trees; covers = λ cover. absurd (h.0.shows cover) }
  held (marks.AtLimit t ∷ ms) (c ∷ cs) h =
      let on = held ms cs h.1 in
      record { in_range = All-cons (IsInRange m.instances) (marks.AtLimit t) ms h.0.in_range on.in_range; trees = on.trees; covers = λ cover. absurd (h.0.shows cover) }

  stand : (ms : List Mark) (cs : List Child) → AreHeld m covering cs ms → AllStand m covering cs ms
  stand [] [] h = tt
  stand [] (c ∷ cs) h = absurd h.trees
  stand (mark ∷ ms) [] h = absurd h.trees
  stand (marks.Split line stamp ∷ ms) (c ∷ cs) h = (
    record { in_range = All-head (IsInRange m.instances) (marks.Split line stamp) ms h.in_range; splits_open = h.trees.0; shows = λ cover. tt },
    stand ms (children (twins m) m.ops c.program line ++ cs) (record {
      in_range = All-tail (IsInRange m.instances) (marks.Split line stamp) ms h.in_range;
      trees = subst (λ (qs : List Program). AreTrees m.ops qs ms) (sym (programs_split (twins m) m.ops c.program line cs)) h.trees.1;
      covers = λ cover. (h.covers cover).1;
    }),
  )
  stand (marks.Unmet t j ∷ ms) (c ∷ cs) h = (
    record { in_range = All-head (IsInRange m.instances) (marks.Unmet t j) ms h.in_range; splits_open = tt; shows = λ cover. (h.covers cover).1 },
    stand ms cs (record { in_range = All-tail (IsInRange m.instances) (marks.Unmet t j) ms h.in_range; trees = h.trees; covers = λ cover. (h.covers cover).2 }),
  )
  stand (marks.Loops t i j ∷ ms) (c ∷ cs) h = (
    record { in_range = All-head (IsInRange m.instances) (marks.Loops t i j) ms h.in_range; splits_open = tt; shows = λ cover. (h.covers cover).1 },
    stand ms cs (record { in_range = All-tail (IsInRange m.instances) (marks.Loops t i j) ms h.in_range; trees = h.trees; covers = λ cover. (h.covers cover).2 }),
  )
  stand (marks.Twin ∷ ms) (c ∷ cs) h = (
    record { in_range = All-head (IsInRange m.instances) marks.Twin ms h.in_range; splits_open = tt; shows = λ cover. (h.covers cover).0 },
    stand ms cs (record { in_range = All-tail (IsInRange m.instances) marks.Twin ms h.in_range; trees = h.trees; covers = λ cover. (h.covers cover).1 }),
  )
  stand (marks.Waiting ∷ ms) (c ∷ cs) h = (
    record { in_range = All-head (IsInRange m.instances) marks.Waiting ms h.in_range; splits_open = tt; shows = λ cover. h.covers cover },
    stand ms cs (record { in_range = All-tail (IsInRange m.instances) marks.Waiting ms h.in_range; trees = h.trees; covers = λ cover. absurd (h.covers cover) }),
  )
  stand (marks.Solved ∷ ms) (c ∷ cs) h = (
    record { in_range = All-head (IsInRange m.instances) marks.Solved ms h.in_range; splits_open = tt; shows = λ cover. h.covers cover },
    stand ms cs (record { in_range = All-tail (IsInRange m.instances) marks.Solved ms h.in_range; trees = h.trees; covers = λ cover. absurd (h.covers cover) }),
  )
  stand (marks.AtLimit t ∷ ms) (c ∷ cs) h = (
    record { in_range = All-head (IsInRange m.instances) (marks.AtLimit t) ms h.in_range; splits_open = tt; shows = λ cover. h.covers cover },
    stand ms cs (record { in_range = All-tail (IsInRange m.instances) (marks.AtLimit t) ms h.in_range; trees = h.trees; covers = λ cover. absurd (h.covers cover) }),
  )

-- a tree holds exactly where its marks stand, from the empty program of its size on
pub marks_stand : {C : Type 0} (m : Semantics C) (covering : Bool) (tree : Tree) → Holds m covering tree ↔ AllStand m covering (rooted (Some (empty tree.size))) tree.marks
marks_stand m covering tree = (
  λ holds. stand m covering tree.marks (rooted (Some (empty tree.size))) (record { in_range = holds.is_tree.in_range; trees = holds.is_tree.shape; covers = holds.covers }),
  λ all. let it = held m covering tree.marks (rooted (Some (empty tree.size))) all in record { is_tree = record { in_range = it.in_range; shape = it.trees }; covers = it.covers },
)

-- nothing is left to be asked where each partial program has its mark
pub none_left : {C : Type 0} (m : Semantics C) (covering : Bool) (cs : List Child) → (cs ≡ []) ↔ AllStand m covering cs []
none_left m covering [] = (λ h. tt, λ h. refl)
none_left m covering (c ∷ cs) = (λ h. cc h, λ h. absurd h)

-- a mark that was taken from the marks that are left
pub mark_taken : {C A : Type 0} (m : Semantics C) (covering after : Bool) (cs rest : List Child) (items : List Mark) (index : ℕ) (d : Mark) (stood : Bool) → index < length items
    → A ↔ AllStand m covering cs (drop index items) → ((ms : List Mark) → AllStand m covering cs (get_or items index d ∷ ms) ↔ (IsTrue stood × AllStand m after rest ms))
    → A ↔ (IsTrue stood × AllStand m after rest (drop (index + 1) items))
mark_taken m covering after cs rest items index d stood within on takes =
    let cut = drop_more items index d within in
    let took = takes (drop (index + 1) items) in (
      λ a. took.0 (subst (AllStand m covering cs) cut (on.0 a)),
      λ both. on.1 (subst (AllStand m covering cs) (sym cut) (took.1 both)),
    )

-- when no mark is left
pub no_mark_left : {C A : Type 0} (m : Semantics C) (covering : Bool) (cs : List Child) (items : List Mark) (index : ℕ) → length items ≤ index → A ↔ AllStand m covering cs (drop index items) → A ↔ (cs ≡ [])
no_mark_left m covering cs items index past on =
    let none = drop_all index items past in (
      λ a. (none_left m covering cs).1 (subst (AllStand m covering cs) none (on.0 a)),
      λ e. on.1 (subst (AllStand m covering cs) (sym none) ((none_left m covering cs).0 e)),
    )

-- a mark that is no split brings no program
pub brings_nothing : {C : Type 0} (m : Semantics C) (q : Program) (mark : Mark) → ((line stamp : ℕ) → mark ≡ marks.Split line stamp → ⊥) → brought m q mark ≡ []
brings_nothing m q (marks.Split line stamp) none = absurd (none line stamp refl)
brings_nothing m q (marks.Unmet t j) none = refl
brings_nothing m q (marks.Loops t i j) none = refl
brings_nothing m q marks.Twin none = refl
brings_nothing m q marks.Waiting none = refl
brings_nothing m q marks.Solved none = refl
brings_nothing m q (marks.AtLimit t) none = refl

-- a mark that stands for the next program is taken, and what it brings comes next
pub mark_stood : {C : Type 0} (m : Semantics C) (covering after : Bool) (cs rest : List Child) (c : Child) (mark : Mark) (ms : List Mark) → cs ≡ c ∷ drop 1 cs → Stands m covering c mark → after ≡ covering → rest ≡ brought m c.program mark ++ drop 1 cs
    → AllStand m covering cs (mark ∷ ms) ↔ (IsTrue true × AllStand m after rest ms)
mark_stood m covering after cs rest c mark ms next stands same left = (
  λ h.
      let both : AllStand m covering (c ∷ drop 1 cs) (mark ∷ ms) = subst (λ (l : List Child). AllStand m covering l (mark ∷ ms)) next h in
      (refl, subst (λ (b : Bool). AllStand m b rest ms) (sym same) (subst (λ (l : List Child). AllStand m covering l ms) (sym left) both.1)),
  λ both.
      let there = subst (λ (l : List Child). AllStand m covering l ms) left (subst (λ (b : Bool). AllStand m b rest ms) same both.1) in
      let all : AllStand m covering (c ∷ drop 1 cs) (mark ∷ ms) = (stands, there) in
      subst (λ (l : List Child). AllStand m covering l (mark ∷ ms)) (sym next) all,
)
