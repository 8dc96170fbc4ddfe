-- The parts of what is asked of an answer, put together.
use Rattle.std.proofs.Common.{◌≡◌, ℕ, ◌+◌, ◌<◌, zero, suc, List, [], ◌∷◌, map, length, get_or, Some, refl, sym, ◌∙◌, ap, subst, arith}
use Rattle.std.specs.Prelude.{IfSome}
use Rattle.std.specs.List.{range_with_len}
use Rattle.std.proofs.lemmas.Option.{none-some}
use Rattle.program_model.specs.Semantics.{Semantics}
use Rattle.program_model.specs.Program.{Program}
use Rattle.program_model.specs.Run.{Ends}
use Rattle.refutation_tree.specs.declared.evidence.Tree.{Tree}
use Rattle.refutation_tree.specs.declared.evidence.Outcome.{Outcome}
use Rattle.refutation_tree.specs.declared.evidence.Outcome.TheVariants as outcomes
use Rattle.refutation_tree.specs.declared.evidence.Answer.{Answer}
use Rattle.refutation_tree.specs.Grammar.{FitsOutcome, HasProgram, IsTree, last_size}
use Rattle.refutation_tree.specs.Accepted.{AreEndsFrom, IsAccepted}
use Rattle.pointer_symmetry.specs.Twins.{twins}
use Rattle.refutation_check.specs.Inner.Judging.{IsHeaded, HasTrees}

-- ---- ends

pub end_of : {C : Type 0} (m : Semantics C) (p : Program) (from : ℕ) (js : List ℕ) (k t : ℕ) → AreEndsFrom m p from js → k < length js → t ≡ from + k → Ends m p t (get_or js k 0)
end_of m p from [] k t h less e = absurd (omega arith)
end_of m p from (j ∷ js) zero t h less e = let same : from ≡ t = omega arith in subst (λ n. Ends m p n j) same h.1
end_of m p from (j ∷ js) (suc k) t h less e = end_of m p (from + 1) js k t h.2 (omega arith) (omega arith)

pub ends_of : {C : Type 0} (m : Semantics C) (p : Program) (from : ℕ) (js : List ℕ) → from + length js ≡ m.instances → ((k t : ℕ) → k < length js → t ≡ from + k → Ends m p t (get_or js k 0)) → AreEndsFrom m p from js
ends_of m p from [] count each = omega arith
ends_of m p from (j ∷ js) count each = (
  omega arith,
  each 0 from (omega arith) (omega arith),
  ends_of m p (from + 1) js (omega arith) (λ k t less e. each (suc k) t (omega arith) (omega arith)),
)

-- ---- trees

abbrev sizes_of : List Tree → List ℕ
sizes_of trees = map (λ (tree : Tree). tree.size) trees

sizes_in_row : (trees : List Tree) (from : ℕ) → ((place : ℕ) (d : Tree) → place < length trees → (get_or trees place d).size ≡ from + place) → sizes_of trees ≡ range_with_len from (length trees)
sizes_in_row [] from each = refl
sizes_in_row (tree ∷ trees) from each =
    let first : tree.size ≡ from = each 0 tree (omega arith) ∙ omega arith in
    let later = sizes_in_row trees (from + 1) (λ place d less. each (suc place) d (omega arith) ∙ omega arith) in
    ap (λ size. size ∷ sizes_of trees) first ∙ ap (λ (sizes : List ℕ). from ∷ sizes) later

size_at : (trees : List Tree) (from count place : ℕ) (d : Tree) → sizes_of trees ≡ range_with_len from count → place < length trees → (get_or trees place d).size ≡ from + place
size_at [] from count place d e less = absurd (omega arith)
size_at (tree ∷ trees) from zero place d e less = cc e
size_at (tree ∷ trees) from (suc count) zero d e less = let first : tree.size ≡ from = cc e in first ∙ omega arith
size_at (tree ∷ trees) from (suc count) (suc place) d e less = let rest : sizes_of trees ≡ range_with_len (from + 1) count = cc e in size_at trees (from + 1) count place d rest (omega arith) ∙ omega arith

count_of : (trees : List Tree) (from count : ℕ) → sizes_of trees ≡ range_with_len from count → length trees ≡ count
count_of [] from zero e = refl
count_of [] from (suc count) e = cc e
count_of (tree ∷ trees) from zero e = cc e
count_of (tree ∷ trees) from (suc count) e = let rest : sizes_of trees ≡ range_with_len (from + 1) count = cc e in ap suc (count_of trees (from + 1) count rest)

-- ---- the program

-- where there is a program, the outcome says so
pub given_program : (ops : ℕ) (a : Answer) (outcome : Outcome) (p : Program) → FitsOutcome ops a outcome → a.program ≡ Some p → (size : ℕ) × HasProgram ops size a
given_program ops a (outcomes.Program size) p fits given = (size, fits)
given_program ops a outcomes.Nothing p fits given = absurd (none-some p (sym fits.0 ∙ given))
given_program ops a (outcomes.SpentExpansions size) p fits given = absurd (none-some p (sym fits.0 ∙ given))
given_program ops a (outcomes.SpentRun size t) p fits given = absurd (none-some p (sym fits.1.0 ∙ given))

-- ---- the whole

pub record IsJudged {C : Type 0} (m : Semantics C) (lines : ℕ) (a : Answer) : Type 0 where
  pub headed : IsHeaded m lines a
  pub fits : FitsOutcome m.ops a a.outcome
  pub trees : HasTrees m a
  pub ends : IfSome a.program (λ program. AreEndsFrom m program 0 a.ends)

pub accepted : {C : Type 0} (m : Semantics C) (lines : ℕ) (a : Answer) → IsJudged m lines a → IsAccepted m (twins m) lines a
accepted m lines a h = record {
  grammatical = record {
    pointers = h.headed.pointers_in_range;
    lines = h.headed.lines_in_range;
    instances = h.headed.instances_in_range;
    size = h.headed.size;
    sizes = sizes_in_row a.trees 1 (λ place d less. (h.trees.each place d less).size_is ∙ omega arith) ∙ ap (range_with_len 1) h.trees.count;
    trees = λ place d less. subst (λ n. IsTree m.ops n (get_or a.trees place d)) (sym h.headed.instances) (h.trees.each place d less).is_tree;
    outcome = h.fits;
  };
  pointers = h.headed.pointers;
  asked = h.headed.asked;
  instances = h.headed.instances;
  covered = λ place d less. (h.trees.each place d less).covers;
  ends = h.ends;
}

pub judged : {C : Type 0} (m : Semantics C) (lines : ℕ) (a : Answer) → IsAccepted m (twins m) lines a → IsJudged m lines a
judged m lines a h = record {
  headed = record { pointers = h.pointers; asked = h.asked; instances = h.instances; pointers_in_range = h.grammatical.pointers; lines_in_range = h.grammatical.lines; instances_in_range = h.grammatical.instances; size = h.grammatical.size };
  fits = h.grammatical.outcome;
  trees = record {
    count = count_of a.trees 1 (last_size a.lines a.outcome) h.grammatical.sizes;
    each = λ place d less. record {
      size_is = size_at a.trees 1 (last_size a.lines a.outcome) place d h.grammatical.sizes less ∙ omega arith;
      is_tree = subst (λ n. IsTree m.ops n (get_or a.trees place d)) h.instances (h.grammatical.trees place d less);
      covers = h.covered place d less;
    };
  };
  ends = h.ends;
}
