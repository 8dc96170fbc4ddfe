use Rattle.std.proofs.Common.{◌∙◌, List, [], subst, sym}
use Rattle.std.specs.Prelude.{Err}
use Rattle.std.proofs.lemmas.Bool.{true≢false}
use Rattle.refutation_tree.specs.declared.evidence.Tree.{Tree}
use Rattle.answer_reader.specs.declared.heading.Heading.{Heading}
use Rattle.answer_reader.specs.declared.reading.Found.{Found}
use Rattle.answer_reader.specs.Reading.{IsAstray}
use Rattle.answer_reader.specs.Inner.Following.{at_end, at_rest, past_tree, past_trees, answer_of}
use Rattle.answer_reader.proofs.Said.{at_start, whole_document, astray_at_rest}
use Rattle.answer_reader.proofs.Onwards.{last_reads}
use Rattle.answer_reader.proofs.Refused.{document_refused}
use Rattle.answer_reader.proofs.Sections.{after_heading, after_trees, after_found, after_last}
use Rattle.answer_reader.proofs.reading.read_answer.Goals as goal

pub returns-in_err-heading : goal.returns-in_err-heading
returns-in_err-heading c =
    let texts = c.args.names.now in
    let bytes = c.args.bytes.now in
    let start = at_start texts bytes c.new-reader.result c.new-reader.ensures.rest c.new-reader.ensures.number in
    document_refused texts bytes (λ (h : Heading). past_tree h []) c.read_heading.new.reader c.in_err-heading.field-0.0 c.from_residual.result c.from_residual.ensures.1
    (c.in_err-heading.ensures.on texts c.count-ops.ensures.are_names bytes start)

pub returns-in_err-trees : goal.returns-in_err-trees
returns-in_err-trees c =
    let texts = c.args.names.now in
    let bytes = c.args.bytes.now in
    let named = c.count-ops.ensures.are_names in
    let h = c.in_ok-heading.heading in
    let start = at_start texts bytes c.new-reader.result c.new-reader.ensures.rest c.new-reader.ensures.number in
    document_refused texts bytes (λ (trees : List Tree). past_trees h trees h.outcome) c.read_trees.new.reader c.in_err-trees.field-0.0 c.from_residual-in_err-trees.result c.from_residual-in_err-trees.ensures.1
    (c.in_err-trees.ensures texts named (sym c.count-ops.ensures.count) bytes
    (after_heading texts named bytes c.new-reader.result start c.read_heading.new.reader h (c.in_ok-heading.ensures.on texts named)))

pub returns-in_err-found : goal.returns-in_err-found
returns-in_err-found c =
    let texts = c.args.names.now in
    let bytes = c.args.bytes.now in
    let named = c.count-ops.ensures.are_names in
    let h = c.in_ok-heading.heading in
    let trees = c.in_ok-trees.trees in
    let start = at_start texts bytes c.new-reader.result c.new-reader.ensures.rest c.new-reader.ensures.number in
    document_refused texts bytes (λ (found : Found). at_end h trees found.program found.ends) c.read_found.new.reader c.in_err-found.field-0.0 c.from_residual-in_err-found.result c.from_residual-in_err-found.ensures.1
    (c.in_err-found.ensures trees named bytes
    (after_trees texts named bytes c.new-reader.result start c.read_heading.new.reader h (c.in_ok-heading.ensures.on texts named) c.read_trees.new.reader trees (c.in_ok-trees.ensures texts named (sym c.count-ops.ensures.count))))

pub returns-in_err-read_known : goal.returns-in_err-read_known
returns-in_err-read_known c =
    let texts = c.args.names.now in
    let bytes = c.args.bytes.now in
    let named = c.count-ops.ensures.are_names in
    let h = c.in_ok-heading.heading in
    let trees = c.in_ok-trees.trees in
    let found = c.in_ok-found.found in
    let three = c.read_found.new.reader in
    let four = c.read_known.new.reader in
    let start = at_start texts bytes c.new-reader.result c.new-reader.ensures.rest c.new-reader.ensures.number in
    document_refused texts bytes (λ (u : Unit {0}). at_rest (answer_of h trees found.program found.ends)) four c.in_err-read_known.field-0.0 c.from_residual-in_err-read_known.result c.from_residual-in_err-read_known.ensures.1
    (last_reads {U = Unit {0}} tt texts named three four (Err c.in_err-read_known.field-0.0) h trees found.program found.ends c.in_err-read_known.ensures bytes
    (after_found texts named bytes c.new-reader.result start c.read_heading.new.reader h (c.in_ok-heading.ensures.on texts named) c.read_trees.new.reader trees (c.in_ok-trees.ensures texts named (sym c.count-ops.ensures.count)) three found (c.in_ok-found.ensures trees named)))

pub returns-then-not-is_at_end : goal.returns-then-not-is_at_end
returns-then-not-is_at_end c =
    let texts = c.args.names.now in
    let bytes = c.args.bytes.now in
    let named = c.count-ops.ensures.are_names in
    let h = c.in_ok-heading.heading in
    let trees = c.in_ok-trees.trees in
    let found = c.in_ok-found.found in
    let four = c.read_known.new.reader in
    let start = at_start texts bytes c.new-reader.result c.new-reader.ensures.rest c.new-reader.ensures.number in
    subst (IsAstray texts bytes) (sym c.number.ensures)
    (astray_at_rest texts bytes four (answer_of h trees found.program found.ends) named
    (after_last texts named bytes c.new-reader.result start c.read_heading.new.reader h (c.in_ok-heading.ensures.on texts named) c.read_trees.new.reader trees (c.in_ok-trees.ensures texts named (sym c.count-ops.ensures.count)) c.read_found.new.reader found (c.in_ok-found.ensures trees named) four c.in_ok-read_known.ensures)
    (λ none. true≢false (sym (c.is_at_end.ensures.1 none) ∙ c.if-not-is_at_end.true)))

pub returns : goal.returns
returns c =
    let texts = c.args.names.now in
    let bytes = c.args.bytes.now in
    let named = c.count-ops.ensures.are_names in
    let h = c.in_ok-heading.heading in
    let trees = c.in_ok-trees.trees in
    let found = c.in_ok-found.found in
    let four = c.read_known.new.reader in
    let start = at_start texts bytes c.new-reader.result c.new-reader.ensures.rest c.new-reader.ensures.number in
    whole_document texts bytes four (answer_of h trees found.program found.ends)
    (after_last texts named bytes c.new-reader.result start c.read_heading.new.reader h (c.in_ok-heading.ensures.on texts named) c.read_trees.new.reader trees (c.in_ok-trees.ensures texts named (sym c.count-ops.ensures.count)) c.read_found.new.reader found (c.in_ok-found.ensures trees named) four c.in_ok-read_known.ensures)
    (c.is_at_end.ensures.0 c.if-not-is_at_end.false)
