-- What covers a partial program leaves none of its completions that solves every instance.
use Rattle.std.proofs.Common.{◌≡◌, ℕ, List, [], ◌∷◌, ◌++◌, length, false, Some, refl, sym, ◌∙◌, ap}
use Rattle.std.specs.Prelude.{slice_get, option_map}
use Rattle.std.specs.List.{AllByRecursion as Each}
use Rattle.std.proofs.lemmas.Bool.{true≢false}
use Rattle.std.proofs.lemmas.Option.{slice_get-map}
use Rattle.program_model.specs.Alphabet.{alphabet}
use Rattle.program_model.specs.Semantics.{Semantics}
use Rattle.program_model.specs.Program.{Program, with_line, IsOpen, IsPartial, Completes}
use Rattle.program_model.specs.Run.{SolvesAll}
use Rattle.program_model.proofs.Places.{at_contains}
use Rattle.program_model.proofs.Runs.{unmet_refutes, loops_refutes}
use Rattle.program_model.proofs.Programs.{partial_with_line, completes_with}
use Rattle.refutation_tree.specs.declared.evidence.Mark.{Mark}
use Rattle.refutation_tree.specs.declared.evidence.Mark.TheVariants as marks
use Rattle.refutation_tree.specs.Covers.{Skips, nobody, Child, children, Covers, IsCovered, IsFair}
use Rattle.refutation_tree.proofs.Lists.{each_left, each_right, each_at}

-- passing over nobody loses nothing: a completion has an instruction on each undefined line
pub nobody_is_fair : {C : Type 0} (m : Semantics C) → IsFair m nobody
nobody_is_fair m q line p partial here completes solves =
    let with = completes_with m.ops p q line completes here in
    record { program = p; instr = with.instr; fits = with.fits; kept = refl; completes = with.completes; solves = solves }

module _ {C : Type 0} (m : Semantics C) (skips : Skips) (fair : IsFair m skips) where
  -- what is shown of a partial program that is covered, where it is not passed over
  abbrev Refuted : Child → Type 0
  Refuted c = IsPartial m.ops c.program → c.skipped ≡ false → (p : Program) → Completes m.ops p c.program → SolvesAll m p → ⊥

  -- a partial program is refuted where all its children at a line are
  split_refuted : (c : Child) (line : ℕ) → IsOpen c.program line → Each Refuted (children skips m.ops c.program line) → Refuted c
  split_refuted c line here each partial kept p completes solves =
      let other = fair c.program line p partial here completes solves in
      let place = at_contains (alphabet m.ops (length c.program) line) other.instr other.fits in
      let child : Child = record { program = with_line c.program line other.instr; skipped = skips c.program other.instr } in
      let stands : slice_get (children skips m.ops c.program line) place.0 ≡ Some child = slice_get-map _ (alphabet m.ops (length c.program) line) place.0 ∙ ap (option_map _) place.1 in
      each_at Refuted (children skips m.ops c.program line) place.0 child stands each
      (partial_with_line m.ops c.program line other.instr partial here other.fits) other.kept other.program other.completes other.solves

  all_refuted : (ms : List Mark) (cs : List Child) → Covers m skips cs ms → Each Refuted cs
  all_refuted [] [] h = tt
  all_refuted [] (c ∷ cs) h = absurd h
  all_refuted (mark ∷ ms) [] h = absurd h
  all_refuted (marks.Unmet t j ∷ ms) (c ∷ cs) h = (λ partial kept p completes solves. unmet_refutes m c.program p t j h.1 completes (solves t h.0), all_refuted ms cs h.2)
  all_refuted (marks.Loops t i j ∷ ms) (c ∷ cs) h = (λ partial kept p completes solves. loops_refutes m c.program p t i j h.1 completes (solves t h.0), all_refuted ms cs h.2)
  all_refuted (marks.Split line stamp ∷ ms) (c ∷ cs) h =
      let each = all_refuted ms (children skips m.ops c.program line ++ cs) h.1 in
      (split_refuted c line h.0 (each_left Refuted (children skips m.ops c.program line) cs each), each_right Refuted (children skips m.ops c.program line) cs each)
  all_refuted (marks.Twin ∷ ms) (c ∷ cs) h = (λ partial kept p completes solves. absurd (true≢false (sym h.0 ∙ kept)), all_refuted ms cs h.1)
  all_refuted (marks.Waiting ∷ ms) (c ∷ cs) h = absurd h
  all_refuted (marks.Solved ∷ ms) (c ∷ cs) h = absurd h
  all_refuted (marks.AtLimit t ∷ ms) (c ∷ cs) h = absurd h

  pub covered_refuted : (q : Program) (ms : List Mark) (p : Program) → IsPartial m.ops q → IsCovered m skips q ms → Completes m.ops p q → SolvesAll m p → ⊥
  covered_refuted q ms p partial covered completes solves =
      (all_refuted ms (record { program = q; skipped = false } ∷ []) covered).0 partial refl p completes solves
