-- What is to come where a mark comes next, by the walk that takes it.
use Rattle.std.proofs.Common.{◌≡◌, ◌≢◌, ℕ, ◌<◌, ◌≤◌, ◌^◌, Bool, List, [], ◌∷◌, length, refl, sym, subst, arith}
use Rattle.std.specs.Prelude.{IsTrue, ◌↔◌}
use Rattle.program_model.specs.declared.alphabet.TheConstants.{MAX_LINES}
use Rattle.program_model.specs.Semantics.{Semantics}
use Rattle.refutation_tree.specs.declared.evidence.Mark.{Mark}
use Rattle.refutation_tree.specs.declared.evidence.Mark.TheVariants as marks
use Rattle.refutation_tree.specs.declared.evidence.Outcome.{Outcome}
use Rattle.refutation_tree.specs.Covers.{Child}
use Rattle.answer_writer.specs.Document.{mark_line}
use Rattle.answer_lines.specs.Lines.{IsMarkOf, SplitsWithin}
use Rattle.answer_lines.proofs.OneReading as readings
use Rattle.refutation_check.specs.Walking.{IsWalk, SplitsOpen, Stands, Takes, pending}
use Rattle.refutation_check.specs.declared.walk.Walk.{Walk}
use Rattle.refutation_check.proofs.Short.{next_short}
use Rattle.document_check.specs.Remaining.{MarksToCome}
use Rattle.document_check.proofs.Steps.{mark_on, no_mark_on}

splits_within : (c : Child) (mark : Mark) → length c.program ≤ MAX_LINES → SplitsOpen c.program mark → SplitsWithin MAX_LINES mark
splits_within c (marks.Split line stamp) short open_here = omega (arith, short, open_here.within)
splits_within c (marks.Unmet t j) short open_here = tt
splits_within c (marks.Loops t i j) short open_here = tt
splits_within c marks.Twin short open_here = tt
splits_within c marks.Waiting short open_here = tt
splits_within c marks.Solved short open_here = tt
splits_within c (marks.AtLimit t) short open_here = tt

record First (cs : List Child) : Type 0 where
  first : Child
  others : List Child
  split : cs ≡ first ∷ others

first_of : (cs : List Child) → cs ≢ [] → First cs
first_of [] some = absurd (some refl)
first_of (c ∷ cs) some = record { first = c; others = cs; split = refl }

module _ {C : Type 0} (m : Semantics C) (belongs : ℕ → C → Type 0) (texts : List (List ℕ)) (lines : ℕ) where
  is_mark_of : (covering : Bool) (c : Child) (mark : Mark) (text : List ℕ) → length c.program ≤ MAX_LINES → Stands m covering c mark → text ≡ mark_line mark → IsMarkOf m.instances text mark
  is_mark_of covering c mark text short stands is = record { written = is; in_range = stands.in_range; within = splits_within c mark short stands.splits_open }

  -- the line is this mark
  pub mark_step : (old new : Walk C) (outcome : Outcome) (size : ℕ) (mark : Mark) (stood : Bool) (text : List ℕ) (more : List (List ℕ)) → IsWalk m belongs old → pending m old ≢ [] → m.instances ≤ 2 ^ 8 → IsMarkOf m.instances text mark → Takes m mark old new stood
      → MarksToCome m texts lines outcome size old.covering (pending m old) (text ∷ more) ↔ (IsTrue stood × MarksToCome m texts lines outcome size new.covering (pending m new) more)
  mark_step old new outcome size mark stood text more walk some few is takes =
      let it = first_of (pending m old) some in
      let short = next_short m belongs old it.first it.others walk it.split in
      mark_on m texts lines outcome size old.covering new.covering it.first it.others (pending m old) (pending m new) mark stood text more it.split is.written
      (λ other stands says. readings.one_mark m.instances text other mark few (is_mark_of old.covering it.first other text short stands says) is) takes

  -- the line is no mark
  pub no_mark_step : (old : Walk C) (outcome : Outcome) (size : ℕ) (text : List ℕ) (more : List (List ℕ)) → IsWalk m belongs old → pending m old ≢ [] → ((other : Mark) → IsMarkOf m.instances text other → ⊥)
      → MarksToCome m texts lines outcome size old.covering (pending m old) (text ∷ more) → ⊥
  no_mark_step old outcome size text more walk some none =
      let it = first_of (pending m old) some in
      let short = next_short m belongs old it.first it.others walk it.split in
      no_mark_on m texts lines outcome size old.covering it.first it.others (pending m old) text more it.split (λ other stands says. none other (is_mark_of old.covering it.first other text short stands says))
