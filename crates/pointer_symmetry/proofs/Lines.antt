-- The lines of a partial program: that the operations are there, and the pointers of one line more.
use Rattle.std.proofs.Common.{◌≡◌, ℕ, ◌+◌, ◌-◌, ◌<◌, ◌||◌, length, take, Some, None, sym, ◌∙◌, ap, inl, inr, arith}
use Rattle.std.specs.Prelude.{option_and_then}
use Rattle.std.specs.List.{list_any}
use Rattle.std.proofs.lemmas.Bool.{cases_order}
use Rattle.std.proofs.lemmas.Option.{none-some, same_Some, slice_get_past, slice_get-get_or}
use Rattle.std.proofs.lemmas.List.Folds.{list_any_more}
use Rattle.program_model.specs.declared.instr.Instr.TheVariants.{Op, End}
use Rattle.program_model.specs.Semantics.{Semantics}
use Rattle.program_model.specs.Program.{Program, line_at, IsPartial}
use Rattle.program_model.proofs.Alphabets.{contains_op}
use Rattle.pointer_symmetry.specs.Used.{names}

-- an operation on a line of a partial program is there
pub op_is_there : (ops : ℕ) (q : Program) (line op : ℕ) → IsPartial ops q → line_at q line ≡ Some (Op op) → op < ops
op_is_there ops q line op partial defined = elim (cases_order (line + 1) (length q)) [
  | inl e ↦
      let last : line ≡ length q - 1 = omega arith in
      let no : Op op ≡ End = same_Some (Op op) End (sym defined ∙ ap (line_at q) last ∙ partial.last) in
      absurd (cc no)
  | inr o ↦ elim o [
    | inl inner ↦ (contains_op ops (length q) line op inner).0 (partial.each line (Op op) defined)
    | inr past ↦ absurd (none-some (Op op) (sym (ap (option_and_then (λ instr. instr)) (slice_get_past q line (omega arith))) ∙ defined))
  ]
]

-- what one line more names
pub used_more : {C : Type 0} (m : Semantics C) (q : Program) (line pointer : ℕ) → line < length q → list_any (names m pointer) (take (line + 1) q) ≡ (list_any (names m pointer) (take line q) || names m pointer (line_at q line))
used_more m q line pointer inside =
    list_any_more (names m pointer) q line None inside
    ∙ ap (λ instr. list_any (names m pointer) (take line q) || names m pointer instr)
    (sym (ap (option_and_then (λ instr. instr)) (slice_get-get_or q line None inside)))
