use Rattle.std.proofs.Common.{◌≡◌, ◌∙◌, ℕ, ◌+◌, ◌<◌, List, [], ◌∷◌, ◌++◌, length, sym, refl, ap, subst, arith}
use Rattle.std.specs.Prelude.{Ok, Err}
use Rattle.std.proofs.lemmas.List.{length_push}
use Rattle.program_model.specs.Program.{empty}
use Rattle.refutation_tree.specs.declared.evidence.Mark.{Mark}
use Rattle.refutation_tree.specs.declared.evidence.Tree.{Tree}
use Rattle.refutation_tree.specs.Grammar.{last_size}
use Rattle.answer_reader.specs.Inner.Following.{past_trees, past_tree, past_marks}
use Rattle.answer_reader.specs.Inner.ReadingOn.{StandsAt}
use Rattle.answer_reader.proofs.Whole.{tree_next}
use Rattle.answer_reader.proofs.Onwards.{tree_line_reads}
use Rattle.answer_reader.proofs.Refused.{refused}
use Rattle.answer_reader.proofs.read_trees.read_trees.Goals as goal

pub returns-in_err-read_tree_line : goal.returns-in_err-read_tree_line
returns-in_err-read_tree_line c = λ texts are count bytes at.
    let heading = c.args.heading in
    let trees = c.loop-count.trees in
    let size = c.loop-count.count + 1 in
    let new = c.read_tree_line.new.reader in
    let refusal = c.in_err-read_tree_line.field-0.0 in
    let more : length trees < last_size heading.lines heading.outcome = omega (arith, c.loop-count.invariant.sizes, c.loop-count-test.true, c.last_size-count-end.ensures) in
    let here = subst (StandsAt texts bytes c.loop-count.reader) (tree_next heading trees more) (c.loop-count.invariant.on texts bytes are count at) in
    refused texts bytes (λ (u : Unit {0}). past_marks heading trees [] (empty size ∷ [])) (λ (all : List Tree). past_trees heading all heading.outcome) new new refusal c.from_residual.result c.from_residual.ensures.1
    (tree_line_reads tt texts are c.loop-count.reader new (Err refusal) heading trees size (omega (arith, c.loop-count.invariant.sizes)) c.in_err-read_tree_line.ensures bytes here)

pub returns-in_err-marks : goal.returns-in_err-marks
returns-in_err-marks c = λ texts are count bytes at.
    let heading = c.args.heading in
    let trees = c.loop-count.trees in
    let size = c.loop-count.count + 1 in
    let lined = c.read_tree_line.new.reader in
    let new = c.read_marks.new.reader in
    let refusal = c.in_err-marks.field-0.0 in
    let more : length trees < last_size heading.lines heading.outcome = omega (arith, c.loop-count.invariant.sizes, c.loop-count-test.true, c.last_size-count-end.ensures) in
    let here = subst (StandsAt texts bytes c.loop-count.reader) (tree_next heading trees more) (c.loop-count.invariant.on texts bytes are count at) in
    refused texts bytes (λ (ms : List Mark). past_marks heading trees ms []) (λ (all : List Tree). past_trees heading all heading.outcome) new new refusal c.from_residual-in_err-marks.result c.from_residual-in_err-marks.ensures.1
    (c.in_err-marks.ensures texts heading trees are count refl bytes
    (tree_line_reads tt texts are c.loop-count.reader lined (Ok c.in_ok-read_tree_line.field-0) heading trees size (omega (arith, c.loop-count.invariant.sizes)) c.in_ok-read_tree_line.ensures bytes here))

pub loop-count-preserved : goal.loop-count-preserved
loop-count-preserved c =
    let heading = c.args.heading in
    let trees = c.loop-count.trees in
    let size = c.loop-count.count + 1 in
    let lined = c.read_tree_line.new.reader in
    let new = c.read_marks.new.reader in
    let ms = c.in_ok-marks.marks in
    let size_is : size ≡ length trees + 1 = omega (arith, c.loop-count.invariant.sizes) in
    let tree : Tree = record { size = size; marks = ms } in
    let pushed : c.push.new.self ≡ trees ++ tree ∷ [] = c.in_ok-push.ensures.ok in
    record {
      sizes = omega (arith, ap length pushed, length_push trees tree, c.loop-count.invariant.sizes);
      on = λ texts bytes are count at.
          let more : length trees < last_size heading.lines heading.outcome = omega (arith, c.loop-count.invariant.sizes, c.loop-count-test.true, c.last_size-count-end.ensures) in
          let here = subst (StandsAt texts bytes c.loop-count.reader) (tree_next heading trees more) (c.loop-count.invariant.on texts bytes are count at) in
          let read = c.in_ok-marks.ensures texts heading trees are count refl bytes
          (tree_line_reads tt texts are c.loop-count.reader lined (Ok c.in_ok-read_tree_line.field-0) heading trees size size_is c.in_ok-read_tree_line.ensures bytes here) in
          let all : c.push.new.self ≡ trees ++ record { size = length trees + 1; marks = ms } ∷ [] =
          pushed ∙ ap (λ (n : ℕ). let made : Tree = record { size = n; marks = ms } in trees ++ made ∷ []) size_is in
          subst (λ (l : List Tree). StandsAt texts bytes new (past_tree heading l)) (sym all) read;
    }
