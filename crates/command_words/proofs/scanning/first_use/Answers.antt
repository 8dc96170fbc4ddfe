use Rattle.std.proofs.Common.{◌≡◌, ◌-◌, ◌∷◌, ◌++◌, ◌∙◌, length, map, take, drop, List, ℕ, sym, string_bytes, ap, lit<, rules, arith}
use Rattle.std.proofs.lemmas.Str.Pattern.{split_parts}
use Rattle.command_words.specs.Inner.Scanning.{HasNoEquals}
use Rattle.command_words.proofs.Beginnings.{in_one_word, in_two_words, no_value, stripped}
use Rattle.command_words.proofs.Spelled.{first_word}
use Rattle.command_words.proofs.scanning.first_use.Goals as goal

pub returns-in-Some-clause-some : goal.returns-in-Some-clause-some
returns-in-Some-clause-some c =
    let words = c.args.words.now in
    let others = take (length words - 1) (drop 1 words) in
    let option = c.in_ok-option.option.now in
    let parts = split_parts 61 option c.split_once.result c.split_once.ensures.cases (lit< tt) in
    let cut : (option ≡ c.in-Some.name.now ++ (61 ∷ c.in-Some.value.now)) × HasNoEquals c.in-Some.name.now = rw c.in-Some.is at parts in
    in_one_word (string_bytes c.word-item.result) option c.in-Some.name.now c.in-Some.value.now (map string_bytes others) (map string_bytes words)
    (first_word string_bytes words c.word-item.result (omega arith) c.word-item.is)
    (stripped (string_bytes c.word-item.result) option (search (rules, c.in_ok-option.ensures.cases)))
    cut.0 cut.1

pub returns-in_default-others-clause-none : goal.returns-in_default-others-clause-none
returns-in_default-others-clause-none c =
    let words = c.args.words.now in
    let others = take (length words - 1) (drop 1 words) in
    let option = c.in_ok-option.option.now in
    let parts = split_parts 61 option c.split_once.result c.split_once.ensures.cases (lit< tt) in
    let none : HasNoEquals option = rw c.in_default-split_once.is at parts in
    no_value string_bytes (string_bytes c.word-item.result) option others (map string_bytes words)
    (first_word string_bytes words c.word-item.result (omega arith) c.word-item.is)
    (stripped (string_bytes c.word-item.result) option (search (rules, c.in_ok-option.ensures.cases)))
    none
    (omega arith)

pub returns-clause-some : goal.returns-clause-some
returns-clause-some c =
    let words = c.args.words.now in
    let others = take (length words - 1) (drop 1 words) in
    let option = c.in_ok-option.option.now in
    let parts = split_parts 61 option c.split_once.result c.split_once.ensures.cases (lit< tt) in
    let none : HasNoEquals option = rw c.in_default-split_once.is at parts in
    let word = string_bytes c.word-item.result in
    let rest = map string_bytes (take (length others - 1) (drop 1 others)) in
    in_two_words word option c.as_str-2.result.now rest (map string_bytes words)
    (first_word string_bytes words c.word-item.result (omega arith) c.word-item.is
    ∙ ap (λ (l : List (List ℕ)). word ∷ l) (first_word string_bytes others c.value-item.result (omega arith) c.value-item.is)
    ∙ ap (λ (value : List ℕ). word ∷ value ∷ rest) (sym c.as_str-2.ensures.value))
    (stripped (string_bytes c.word-item.result) option (search (rules, c.in_ok-option.ensures.cases)))
    none
