use Rattle.std.proofs.Common.{◌≡◌, ◌+◌, ◌<◌, ◌++◌, ◌∷◌, [], ◌∙◌, ℕ, List, length, map, sym, ap, Bor, rules, tests, arith}
use Rattle.std.specs.Prelude.{◌==◌}
use Rattle.std.proofs.lemmas.List.{map-append, length-map, length_push}
use Rattle.std.proofs.lemmas.Iterator.Consumers.{YieldsList-at}
use Rattle.std.proofs.lemmas.Iterator.Splits.{YieldsList-from_slice_split}
use Rattle.program_text.specs.declared.lines.InstructionLine.{InstructionLine}
use Rattle.program_text.specs.Lines.{lines_of_text, numbered_from}
use Rattle.program_text.proofs.Turns.{turn_within, all_yielded}
use Rattle.program_text.proofs.Numbered.{few_lines, numbered-append}
use Rattle.program_text.proofs.lines.instruction_lines.Goals as goal

pub overflow_add-number : goal.overflow_add-number
overflow_add-number c =
    let bytes = c.args.bytes.now in
    let within : length c.loop-line.yielded < length (lines_of_text bytes) =
    turn_within c.loop-line.yielded c.loop-line.line-iterator c.loop-line.yielded_by c.next.result c.next.new.self c.in-Some.line c.in-Some.is c.next.ensures.steps
    (YieldsList-at c.into_iter-line-iterator.ensures.into_iter_gives (YieldsList-from_slice_split _ (λ b. b == 10) bytes c.split-line-items.ensures.rest c.split-line-items.ensures.done c.split-line-items.ensures.closure (λ x b q k. search (rules, tests)))) in
    omega (arith, within, few_lines bytes)

pub loop-line-preserved : goal.loop-line-preserved
loop-line-preserved c =
    let told = λ (line : Bor (List ℕ)). line.now in
    let before : List (List ℕ) = map told c.loop-line.yielded in
    let here : List ℕ = c.in-Some.line.now in
    let number : c.loop-line.number + 1 ≡ 1 + length before = omega (arith, c.loop-line.invariant.counted, length-map c.loop-line.yielded told) in
    record {
      counted = omega (arith, c.loop-line.invariant.counted, length_push c.loop-line.yielded c.in-Some.line);
      numbered =
          c.in_ok-add_line.ensures
          ∙ ap (λ (l : List InstructionLine). l ++ numbered_from (c.loop-line.number + 1) (here ∷ [])) c.loop-line.invariant.numbered
          ∙ ap (λ (n : ℕ). numbered_from 1 before ++ numbered_from n (here ∷ [])) number
          ∙ sym (numbered-append 1 before (here ∷ []))
          ∙ ap (numbered_from 1) (sym (map-append told c.loop-line.yielded (c.in-Some.line ∷ [])));
    }

pub returns : goal.returns
returns c =
    let bytes = c.args.bytes.now in
    c.loop-line.invariant.numbered
    ∙ ap (numbered_from 1)
    (all_yielded c.loop-line.yielded c.loop-line.line-iterator c.loop-line.yielded_by c.next.result c.next.new.self c.in-None.is c.next.ensures.steps
    (YieldsList-at c.into_iter-line-iterator.ensures.into_iter_gives (YieldsList-from_slice_split _ (λ b. b == 10) bytes c.split-line-items.ensures.rest c.split-line-items.ensures.done c.split-line-items.ensures.closure (λ x b q k. search (rules, tests)))))
