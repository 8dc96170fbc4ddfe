use Rattle.std.proofs.Common.{[], subst, sym, arith}
use Rattle.std.specs.Prelude.{Ok, Err}
use Rattle.refutation_tree.specs.declared.evidence.Outcome.{Outcome}
use Rattle.answer_reader.specs.declared.heading.Heading.{Heading}
use Rattle.answer_reader.specs.Inner.Following.{Place, at_pointers, at_lines, at_instances, at_verdict, at_tree, past_tree}
use Rattle.answer_reader.specs.Inner.ReadingOn.{StandsAt}
use Rattle.answer_reader.proofs.Whole.{tree_next}
use Rattle.answer_reader.proofs.Onwards.{form_reads, pointers_reads, lines_reads, instances_reads, outcome_reads}
use Rattle.answer_reader.proofs.Refused.{refused}
use Rattle.answer_reader.proofs.Sections.{after_form, after_pointers, after_lines, after_instances}
use Rattle.answer_reader.proofs.reading.read_heading.Goals as goal

abbrev to : Heading → Place
to heading = past_tree heading []

pub returns-in_err-read_known-clause-on : goal.returns-in_err-read_known-clause-on
returns-in_err-read_known-clause-on c = λ texts names bytes at.
    let one = c.read_known.new.reader in
    refused texts bytes (λ (u : Unit {0}). at_pointers) to one one c.in_err-read_known.field-0.0 c.from_residual.result c.from_residual.ensures.1
    (form_reads {U = Unit {0}} tt texts names c.args.reader.now one (Err c.in_err-read_known.field-0.0) c.in_err-read_known.ensures bytes at)

pub returns-in_err-pointers-clause-on : goal.returns-in_err-pointers-clause-on
returns-in_err-pointers-clause-on c = λ texts names bytes at.
    let one = c.read_known.new.reader in
    let two = c.read_number.new.reader in
    refused texts bytes at_lines to two two c.in_err-pointers.field-0.0 c.from_residual-in_err-pointers.result c.from_residual-in_err-pointers.ensures.1
    (pointers_reads texts names one two (Err c.in_err-pointers.field-0.0) c.in_err-pointers.ensures bytes (after_form texts names bytes c.args.reader.now at one c.in_ok-read_known.ensures))

pub returns-in_err-lines-clause-on : goal.returns-in_err-lines-clause-on
returns-in_err-lines-clause-on c = λ texts names bytes at.
    let two = c.read_number.new.reader in
    let three = c.read_number-2.new.reader in
    let k = c.in_ok-pointers.pointers in
    refused texts bytes (at_instances k) to three three c.in_err-lines.field-0.0 c.from_residual-in_err-lines.result c.from_residual-in_err-lines.ensures.1
    (lines_reads texts names two three k (Err c.in_err-lines.field-0.0) c.in_err-lines.ensures bytes
    (after_pointers texts names bytes c.args.reader.now at c.read_known.new.reader c.in_ok-read_known.ensures two k c.in_ok-pointers.ensures))

pub returns-in_err-instances-clause-on : goal.returns-in_err-instances-clause-on
returns-in_err-instances-clause-on c = λ texts names bytes at.
    let three = c.read_number-2.new.reader in
    let four = c.read_number-3.new.reader in
    let k = c.in_ok-pointers.pointers in
    let n = c.in_ok-lines.lines in
    refused texts bytes (at_verdict k n) to four four c.in_err-instances.field-0.0 c.from_residual-in_err-instances.result c.from_residual-in_err-instances.ensures.1
    (instances_reads texts names three four k n (Err c.in_err-instances.field-0.0) c.in_err-instances.ensures bytes
    (after_lines texts names bytes c.args.reader.now at c.read_known.new.reader c.in_ok-read_known.ensures c.read_number.new.reader k c.in_ok-pointers.ensures three n c.in_ok-lines.ensures))

pub returns-in_err-outcome-clause-on : goal.returns-in_err-outcome-clause-on
returns-in_err-outcome-clause-on c = λ texts names bytes at.
    let four = c.read_number-3.new.reader in
    let five = c.read_outcome.new.reader in
    let k = c.in_ok-pointers.pointers in
    let n = c.in_ok-lines.lines in
    let t = c.in_ok-instances.instances in
    refused texts bytes (λ (o : Outcome). at_tree (record { pointers = k; lines = n; instances = t; outcome = o }) []) to five five c.in_err-outcome.field-0.0 c.from_residual-in_err-outcome.result c.from_residual-in_err-outcome.ensures.1
    (outcome_reads texts names four five k n t (Err c.in_err-outcome.field-0.0) c.in_err-outcome.ensures bytes
    (after_instances texts names bytes c.args.reader.now at c.read_known.new.reader c.in_ok-read_known.ensures c.read_number.new.reader k c.in_ok-pointers.ensures c.read_number-2.new.reader n c.in_ok-lines.ensures four t c.in_ok-instances.ensures))

pub returns-clause-on : goal.returns-clause-on
returns-clause-on c = λ texts names bytes at.
    let four = c.read_number-3.new.reader in
    let five = c.read_outcome.new.reader in
    let k = c.in_ok-pointers.pointers in
    let n = c.in_ok-lines.lines in
    let t = c.in_ok-instances.instances in
    let h : Heading = record { pointers = k; lines = n; instances = t; outcome = c.in_ok-outcome.outcome } in
    subst (StandsAt texts bytes five) (sym (tree_next h [] (omega (arith, c.in_ok-outcome.ensures.2.size.0))))
    (outcome_reads texts names four five k n t (Ok c.in_ok-outcome.outcome) c.in_ok-outcome.ensures bytes
    (after_instances texts names bytes c.args.reader.now at c.read_known.new.reader c.in_ok-read_known.ensures c.read_number.new.reader k c.in_ok-pointers.ensures c.read_number-2.new.reader n c.in_ok-lines.ensures four t c.in_ok-instances.ensures))
