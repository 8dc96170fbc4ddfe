-- What a checker tells of a file that it was given.
use Rattle.std.proofs.Common.{◌≡◌, ℕ, ◌≤◌, Bool, List, length, ap, subst}
use Rattle.std.specs.Prelude.{◌↔◌, IsTrue, Option, Ok}
use Rattle.program_model.specs.Semantics.{Semantics}
use Rattle.bfgp_outside.specs.Shelf.{Files, Told}
use Rattle.bfgp_outside.specs.Whole.{whole_of}
use Rattle.document_check.specs.Documents.{IsAcceptedDocument}
use Rattle.document_check.specs.Files.{IsVerdictOn}

pub verdict_on : {M C : Type 0} (semantics : M → Semantics C) (machine now : M) (texts texts_now : List (List ℕ)) (lines lines_now : ℕ) (told : Option Files) (name bytes : List ℕ) (limit : ℕ) (accepted : Bool) → ◌≡◌ {A = M × List (List ℕ) × ℕ} (now, texts_now, lines_now) (machine, texts, lines)
    → length bytes ≤ limit → Told told name (λ held. whole_of held limit ≡ Ok bytes) → IsTrue accepted ↔ IsAcceptedDocument (semantics now) texts_now lines_now bytes → IsVerdictOn (semantics machine) texts lines told name limit accepted
verdict_on {M} {C} semantics machine now texts texts_now lines lines_now told name bytes limit accepted asked within held exactly = record {
  bytes = bytes;
  within = within;
  held = held;
  exactly = subst (λ (n : ℕ). IsTrue accepted ↔ IsAcceptedDocument (semantics machine) texts n bytes) (ap (λ (p : M × List (List ℕ) × ℕ). p.2) asked)
      (subst (λ (t : List (List ℕ)). IsTrue accepted ↔ IsAcceptedDocument (semantics machine) t lines_now bytes) (ap (λ (p : M × List (List ℕ) × ℕ). p.1) asked)
      (subst (λ (m : M). IsTrue accepted ↔ IsAcceptedDocument (semantics m) texts_now lines_now bytes) (ap (λ (p : M × List (List ℕ) × ℕ). p.0) asked) exactly));
}
