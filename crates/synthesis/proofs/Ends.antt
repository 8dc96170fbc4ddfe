-- Where the runs of a program end, they end in each program that extends it.
use Rattle.std.proofs.Common.{ℕ, ◌+◌, List, [], ◌∷◌, sym, ◌∙◌}
use Rattle.program_model.specs.Semantics.{Semantics}
use Rattle.program_model.specs.Program.{Program, Extends}
use Rattle.program_model.specs.Run.{Ends}
use Rattle.program_model.proofs.Runs.{at-extends}
use Rattle.refutation_tree.specs.Accepted.{AreEndsFrom}

-- the run of a program that extends another ends where that of the other does
pub end_extends : {C : Type 0} (m : Semantics C) (p q : Program) (t j : ℕ) → Ends m q t j → Extends p q → Ends m p t j
end_extends m p q t j end extends = record { config = end.config; comes = at-extends m p q t j end.config extends end.comes; last = end.last ∙ sym extends.size; lacks = end.lacks }

-- so do the runs on all instances
pub ends_extend : {C : Type 0} (m : Semantics C) (p q : Program) (t : ℕ) (js : List ℕ) → AreEndsFrom m q t js → Extends p q → AreEndsFrom m p t js
ends_extend m p q t [] ends extends = ends
ends_extend m p q t (j ∷ js) ends extends = (ends.0, end_extends m p q t j ends.1 extends, ends_extend m p q (t + 1) js ends.2 extends)
