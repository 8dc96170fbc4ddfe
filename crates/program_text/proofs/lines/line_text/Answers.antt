use Rattle.std.proofs.Common.{◌∙◌, ◌∷◌, [], sym, ap, map, List, ℕ, Bor, rules, tests}
use Rattle.std.specs.Prelude.{filter}
use Rattle.std.specs.List.{join_with_byte}
use Rattle.std.specs.Char.{to_ascii_lowercase}
use Rattle.std.proofs.lemmas.List.{map-append}
use Rattle.std.proofs.lemmas.Iterator.Consumers.{YieldsList-at}
use Rattle.std.proofs.lemmas.Iterator.Splits.{YieldsList-from_slice_split}
use Rattle.program_text.specs.Lines.{is_blank, has_items, said_by_line}
use Rattle.program_text.specs.Inner.Words.{with_word}
use Rattle.program_text.proofs.Turns.{all_yielded}
use Rattle.program_text.proofs.LineWords.{join_more}
use Rattle.program_text.proofs.lines.line_text.Goals as goal

pub loop-word-preserved : goal.loop-word-preserved
loop-word-preserved c =
    let told = λ (w : Bor (List ℕ)). w.now in
    c.in_ok-add_word.ensures
    ∙ ap (λ (t : List ℕ). with_word t c.in-Some.word.now) c.loop-word.invariant
    ∙ join_more (map told c.loop-word.yielded) c.in-Some.word.now
    ∙ ap (λ (l : List (List ℕ)). join_with_byte 32 (filter has_items l)) (sym (map-append told c.loop-word.yielded (c.in-Some.word ∷ [])))

pub returns : goal.returns
returns c =
    let said = c.split-word-items.ensures.rest ∙ c.deref.ensures.value ∙ c.in_ok-said.ensures.ok ∙ ap (map to_ascii_lowercase) c.before_comment.ensures in
    c.loop-word.invariant
    ∙ ap (λ (l : List (List ℕ)). join_with_byte 32 (filter has_items l))
    (all_yielded c.loop-word.yielded c.loop-word.word-iterator c.loop-word.yielded_by c.next.result c.next.new.self c.in-None.is c.next.ensures.steps
    (YieldsList-at c.into_iter-word-iterator.ensures.into_iter_gives (YieldsList-from_slice_split _ is_blank (said_by_line c.args.line.now) said c.split-word-items.ensures.done c.split-word-items.ensures.closure (λ x b q k. search (rules, tests)))))
