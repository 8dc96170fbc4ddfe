-- What an accepted answer says holds: its program is least; where it says that there is none, there is none; and where a budget was
-- spent, there is none of fewer lines.
use Rattle.std.proofs.Common.{◌≡◌, ℕ, zero, suc, ◌+◌, ◌<◌, ◌≤◌, List, [], ◌∷◌, map, length, Option, sym, ◌∙◌, subst, inl, inr, arith}
use Rattle.std.specs.Prelude.{All, IfSome}
use Rattle.std.specs.List.{range_with_len}
use Rattle.std.proofs.lemmas.Bool.{cases_eq}
use Rattle.std.proofs.lemmas.List.Elements.{All-head, All-tail}
use Rattle.program_model.specs.Semantics.{Semantics}
use Rattle.program_model.specs.Program.{Program, empty, IsProgram, Completes}
use Rattle.program_model.specs.Run.{Solves, SolvesAll}
use Rattle.program_model.proofs.Programs.{partial_empty, completes_empty}
use Rattle.refutation_tree.specs.declared.evidence.Tree.{Tree}
use Rattle.refutation_tree.specs.declared.evidence.Outcome.{Outcome}
use Rattle.refutation_tree.specs.declared.evidence.Outcome.TheVariants.{Program as Found, Nothing, SpentExpansions, SpentRun}
use Rattle.refutation_tree.specs.declared.evidence.Answer.{Answer}
use Rattle.refutation_tree.specs.Covers.{Skips, IsFair}
use Rattle.refutation_tree.specs.Grammar.{HasProgram, FitsOutcome, IsFromOneTo, last_size}
use Rattle.refutation_tree.specs.Accepted.{AreEndsFrom, SaysRefuted, CoversRefuted, IsAccepted, NoneSolves, NoneShorter, IsSpentAt, ShowsLeast}
use Rattle.refutation_tree.proofs.Covering.{covered_refuted}

-- a program whose runs end so, on the instances from one on, solves these
ends_solve : {C : Type 0} (m : Semantics C) (p : Program) (js : List ℕ) (t i : ℕ) → AreEndsFrom m p t js → t ≤ i → i < m.instances → Solves m p i
ends_solve m p [] t i h from within = absurd (omega arith)
ends_solve m p (j ∷ js) t i h from within = elim (cases_eq t i) [
  | inl e ↦ subst (Solves m p) e (j, h.1)
  | inr apart ↦ ends_solve m p js (t + 1) i h.2 (omega arith) within
]

abbrev sizes_of : List Tree → List ℕ
sizes_of trees = map (λ (tree : Tree). tree.size) trees

same_cons : {A : Type 0} {x y : A} {xs ys : List A} → x ∷ xs ≡ y ∷ ys → (x ≡ y) × (xs ≡ ys)
same_cons e = (cc, cc)

module _ {C : Type 0} (m : Semantics C) (skips : Skips) (fair : IsFair m skips) where
  -- no program of a size solves that is said to be refuted, where its tree covers
  size_refuted : (outcome : Outcome) (tree : Tree) (p : Program) → CoversRefuted m skips outcome tree → length p ≡ tree.size → IsProgram m.ops p → SaysRefuted outcome (length p) → SolvesAll m p → ⊥
  size_refuted outcome tree p covers size_is program refuted solves =
      let some = program.is_partial.some in
      covered_refuted m skips fair (empty tree.size) tree.marks p (partial_empty m.ops tree.size (omega arith)) (covers (subst (SaysRefuted outcome) size_is refuted))
      (subst (λ n. Completes m.ops p (empty n)) size_is (completes_empty m.ops p program)) solves

  -- nor does one of any of the sizes that have a tree
  sizes_refuted : (outcome : Outcome) (trees : List Tree) (size count : ℕ) (p : Program) → sizes_of trees ≡ range_with_len size count → All (CoversRefuted m skips outcome) trees → IsProgram m.ops p → size ≤ length p → length p < size + count → SaysRefuted outcome (length p) → SolvesAll m p → ⊥
  sizes_refuted outcome trees size zero p sizes covered program from to refuted solves = omega arith
  sizes_refuted outcome [] size (suc count) p sizes covered program from to refuted solves = cc
  sizes_refuted outcome (tree ∷ trees) size (suc count) p sizes covered program from to refuted solves =
      let same = same_cons sizes in
      elim (cases_eq (length p) size) [
        | inl e ↦ size_refuted outcome tree p (All-head (CoversRefuted m skips outcome) tree trees covered) (e ∙ sym same.0) program refuted solves
        | inr apart ↦ sizes_refuted outcome trees (size + 1) count p same.1 (All-tail (CoversRefuted m skips outcome) tree trees covered) program (omega arith) (omega arith) refuted solves
      ]

  pub accepted_least : (lines size : ℕ) (a : Answer) → IsAccepted m skips lines a → a.outcome ≡ Found size → ShowsLeast m size lines a
  accepted_least lines size a h is =
      let it : HasProgram m.ops size a = subst (FitsOutcome m.ops a) is h.grammatical.outcome in
      let within : IsFromOneTo a.lines size = subst (λ (o : Outcome). IsFromOneTo a.lines (last_size a.lines o)) is h.grammatical.size in
      let sizes : sizes_of a.trees ≡ range_with_len 1 size = subst (λ (o : Outcome). sizes_of a.trees ≡ range_with_len 1 (last_size a.lines o)) is h.grammatical.sizes in
      let ends : AreEndsFrom m it.program 0 a.ends = subst (λ (o : Option Program). IfSome o (λ program. AreEndsFrom m program 0 a.ends)) it.given h.ends in
      let size_is = it.size_is in
      let asked = h.asked in
      record {
        program = it.program;
        given = it.given;
        least = record {
          is_program = it.is_program;
          solves = λ t within. ends_solve m it.program a.ends 0 t ends (omega arith) within;
          least = λ other program fewer solves.
              let some = program.is_partial.some in
              sizes_refuted a.outcome a.trees 1 size other sizes h.covered program (omega arith) (omega arith) (subst (λ (o : Outcome). SaysRefuted o (length other)) (sym is) (omega arith)) solves;
        };
        size_is = it.size_is;
        within = omega arith;
        ends = ends;
      }

  pub accepted_none : (lines : ℕ) (a : Answer) → IsAccepted m skips lines a → a.outcome ≡ Nothing → NoneSolves m lines
  accepted_none lines a h is p program few solves =
      let some = program.is_partial.some in
      let asked = h.asked in
      let sizes : sizes_of a.trees ≡ range_with_len 1 a.lines = subst (λ (o : Outcome). sizes_of a.trees ≡ range_with_len 1 (last_size a.lines o)) is h.grammatical.sizes in
      sizes_refuted a.outcome a.trees 1 a.lines p sizes h.covered program (omega arith) (omega arith) (subst (λ (o : Outcome). SaysRefuted o (length p)) (sym is) tt) solves

  shorter : (outcome : Outcome) (trees : List Tree) (size : ℕ) → sizes_of trees ≡ range_with_len 1 size → All (CoversRefuted m skips outcome) trees → ((n : ℕ) → n < size → SaysRefuted outcome n) → NoneShorter m size
  shorter outcome trees size sizes covered refuted p program fewer solves =
      let some = program.is_partial.some in
      sizes_refuted outcome trees 1 size p sizes covered program (omega arith) (omega arith) (refuted (length p) fewer) solves

  pub accepted_spent : (lines size : ℕ) (a : Answer) → IsAccepted m skips lines a → IsSpentAt size a.outcome → NoneShorter m size
  accepted_spent lines size a h spent = by_outcome a.outcome h.grammatical.sizes h.covered spent
    where
      by_outcome : (o : Outcome) → sizes_of a.trees ≡ range_with_len 1 (last_size a.lines o) → All (CoversRefuted m skips o) a.trees → IsSpentAt size o → NoneShorter m size
      by_outcome (Found n) sizes covered is = absurd is
      by_outcome Nothing sizes covered is = absurd is
      by_outcome (SpentExpansions n) sizes covered is = subst (NoneShorter m) is (shorter (SpentExpansions n) a.trees n sizes covered (λ k fewer. fewer))
      by_outcome (SpentRun n t) sizes covered is = subst (NoneShorter m) is (shorter (SpentRun n t) a.trees n sizes covered (λ k fewer. fewer))
