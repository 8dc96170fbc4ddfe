-- Before anything is read, what completes a reading is an accepted document.
use Rattle.std.proofs.Common.{◌≡◌, ℕ, ◌<◌, ◌≤◌, true, List, [], ◌∷◌, ◌++◌, length, refl, sym, ◌∙◌, ap, subst}
use Rattle.std.specs.Prelude.{IsTrue, ◌↔◌, All}
use Rattle.flag_rules.specs.Line.{lines_of}
use Rattle.program_model.specs.declared.machine.TheConstants.{MAX_INSTANCES, MAX_POINTERS}
use Rattle.program_model.specs.Semantics.{Semantics}
use Rattle.program_text.specs.Names.{AreNames}
use Rattle.refutation_tree.specs.declared.evidence.Answer.{Answer}
use Rattle.refutation_tree.specs.Grammar.{IsFromOneTo, IsGrammatical}
use Rattle.answer_writer.specs.Document.{document_lines}
use Rattle.answer_lines.specs.Lines.{IsLine}
use Rattle.answer_lines.proofs.Documents.{are_lines}
use Rattle.answer_lines.proofs.NoFeed.{line_free}
use Rattle.document_check.specs.declared.stage.Stage.{Stage}
use Rattle.document_check.specs.declared.stage.Stage.TheVariants as stages
use Rattle.document_check.specs.declared.reading.Reading.{Reading}
use Rattle.document_check.specs.Fronts.{LineFront}
use Rattle.document_check.specs.Documents.{IsAcceptedDocument}
use Rattle.document_check.specs.Standing.{CompletesReading, Expects, ExpectsAt, FitsRoom}
use Rattle.document_check.proofs.Whole.{to_come, come}

module _ {C : Type 0} (m : Semantics C) (texts : List (List ℕ)) where
  pub starts : (reading : Reading C) → AreNames texts → length texts ≡ m.ops → IsFromOneTo MAX_POINTERS m.pointers → IsFromOneTo MAX_INSTANCES m.instances
      → reading.progress.stage ≡ stages.Form → reading.front.bytes ≡ [] → ((text : List ℕ) → IsLine texts text → length text ≤ reading.front.room)
      → (more : List ℕ) → IsAcceptedDocument m texts reading.lines more ↔ CompletesReading m texts reading more
  starts reading names ops pointers instances form none room more = (
    λ h.
        let a = h.answer in
        let lines = are_lines texts a h.says.0 in
        record {
          rest = document_lines texts a;
          whole = ap (λ (l : List ℕ). l ++ more) none ∙ h.says.1;
          each = λ place d less. record { free = line_free texts _ names (lines place d less); short = room _ (lines place d less) };
          expected = subst (λ (s : Stage). ExpectsAt m texts reading.lines reading.progress.walk reading.progress.program s (document_lines texts a)) (sym form) (to_come m texts reading.lines a h.is_accepted);
        },
    λ h.
        let it = come m texts reading.lines h.rest pointers instances (subst (λ (s : Stage). ExpectsAt m texts reading.lines reading.progress.walk reading.progress.program s h.rest) form h.expected) in
        record {
          answer = it.answer;
          says = (subst (λ (n : ℕ). IsGrammatical n it.answer) (sym ops) it.is_accepted.grammatical, sym (ap (λ (l : List ℕ). l ++ more) none) ∙ h.whole ∙ ap lines_of it.written);
          is_accepted = it.is_accepted;
        },
  )
