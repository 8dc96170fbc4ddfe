-- A program has one report under a limit.
use Rattle.std.proofs.Common.{◌≡◌, ℕ, refl, sym, ◌∙◌, ap}
use Rattle.std.specs.List.{list_all}
use Rattle.program_model.specs.Semantics.{Semantics}
use Rattle.program_model.specs.Program.{Program, IsPartial}
use Rattle.program_model.proofs.Outcomes.{same_outcomes}
use Rattle.instance_report.specs.declared.answer.Report.{Report}
use Rattle.instance_report.specs.Runs.{is_solved}
use Rattle.instance_report.specs.Report.{report_text, IsReport}

report_by : (x y : Report) → x.text ≡ y.text → x.all_solved ≡ y.all_solved → x ≡ y
report_by x y text all_solved =
    let same : ◌≡◌ {A = Report} (record { text = x.text; all_solved = x.all_solved }) y = rw (text, all_solved) refl in same

module _ {C : Type 0} (m : Semantics C) (ops : ℕ) (p : Program) (limit : ℕ) (partial : IsPartial ops p) where
  pub same_report : (x y : Report) → IsReport m p limit x → IsReport m p limit y → x ≡ y
  same_report x y h k =
      let runs : h.runs ≡ k.runs = same_outcomes m ops p limit partial h.runs k.runs 0 h.are_runs k.are_runs in
      report_by x y
      (h.text ∙ ap (report_text limit m.instances) runs ∙ sym k.text)
      (h.all_solved ∙ ap (list_all is_solved) runs ∙ sym k.all_solved)
