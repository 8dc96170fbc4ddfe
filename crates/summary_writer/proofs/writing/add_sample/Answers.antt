use Rattle.std.proofs.Common.{ℕ, ◌≤◌, List, [], ◌∷◌, ◌++◌, length, flat_map, sym, ◌∙◌, ap, subst}
use Rattle.std.specs.Prelude.{codes}
use Rattle.flag_rules.specs.Line.{then_number}
use Rattle.program_text.proofs.Gathering.{all_gathered}
use Rattle.answer_writer.proofs.Puts.{then_lines, first_stopped, before_lines}
use Rattle.family_gen.specs.Families.{family_name, sizes_of}
use Rattle.summary_writer.specs.declared.written_lines.TheConstants.{MAX_SIZES}
use Rattle.summary_writer.proofs.Sizes.{few_sizes}
use Rattle.summary_writer.proofs.writing.add_sample.Goals as goal

pub sizes_line-requires : goal.sizes_line-requires
sizes_line-requires g c =
    let sample = c.args.sample.now in
    subst (λ (sizes : List ℕ). length sizes ≤ MAX_SIZES) (sym (c.as_slice.ensures ∙ c.requires)) (few_sizes sample.family sample.number)

pub returns-in_err-add_line : goal.returns-in_err-add_line
returns-in_err-add_line g c =
    let written = g.K.Sink.written in
    let faults = g.K.Sink.faults in
    let sample = c.args.sample.now in
    let named : List (List ℕ) = (codes "family " ++ family_name sample.family ++ codes " number" ++ then_number sample.number) ∷ [] in
    let sized : List (List ℕ) = (codes "sizes" ++ flat_map then_number (sizes_of sample.family sample.number)) ∷ [] in
    before_lines written faults c.args.sink.now c.add_line.new.sink c.args.gathered.now c.add_line.new.gathered c.from_residual.result named sized c.from_residual.ensures.0
    (first_stopped written faults c.args.sink.now c.add_line.new.sink c.args.gathered.now c.add_line.new.gathered c.in_err-add_line.field-0.0 c.from_residual.result _ c.from_residual.ensures.0 (rw c.family_line.ensures at c.in_err-add_line.ensures))

pub returns : goal.returns
returns g c =
    let written = g.K.Sink.written in
    let faults = g.K.Sink.faults in
    let sample = c.args.sample.now in
    let named : List (List ℕ) = (codes "family " ++ family_name sample.family ++ codes " number" ++ then_number sample.number) ∷ [] in
    let sized : List (List ℕ) = (codes "sizes" ++ flat_map then_number (sizes_of sample.family sample.number)) ∷ [] in
    let line_is = c.sizes_line.ensures ∙ ap (λ (sizes : List ℕ). codes "sizes" ++ flat_map then_number sizes) (c.as_slice.ensures ∙ c.requires) in
    then_lines written faults c.args.sink.now c.add_line.new.sink c.add_line-2.new.sink c.args.gathered.now c.add_line.new.gathered c.add_line-2.new.gathered c.add_line-2.result named sized
    (all_gathered written faults c.args.sink.now c.add_line.new.sink c.args.gathered.now c.add_line.new.gathered c.in_ok-add_line.field-0 _ (rw c.family_line.ensures at c.in_ok-add_line.ensures))
    (rw line_is at c.add_line-2.ensures)
