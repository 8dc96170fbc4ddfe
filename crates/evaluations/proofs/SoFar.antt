-- What was read of a text so far.
use Rattle.std.proofs.Common.{◌≡◌, ◌≢◌, ◌∙◌, ℕ, List, length, map, take, Option, Some, None, sym, ap, arith}
use Rattle.std.specs.Prelude.{◌==◌, AllPairs, slice_get}
use Rattle.std.specs.List.{join_with_byte}
use Rattle.std.specs.Iterator.{Yields}
use Rattle.std.proofs.lemmas.Iterator.{YieldsList}
use Rattle.std.proofs.lemmas.Iterator.Consumers.{YieldsList-so_far, YieldsList-turn, YieldsList-end}
use Rattle.std.proofs.lemmas.List.{length-map}
use Rattle.std.proofs.lemmas.List.Splits.{join_with_byte-slice_split, length-slice_split}
use Rattle.std.proofs.lemmas.Option.{slice_get_read}
use Rattle.evaluations.specs.declared.evaluation.Evaluation.{Evaluation}
use Rattle.evaluations.specs.Orders.{COMMA, name_of, order_text, entries_of, IsOrder, AreEntriesBefore}

all_read : (text : List ℕ) (order : List Evaluation) → entries_of text ≡ map name_of order → AllPairs (λ a b. a ≢ b) order → IsOrder order × (text ≡ order_text order)
all_read text order named different =
    let count : length order ≡ length (entries_of text) = sym (ap length named ∙ length-map order name_of) in
    (record { some = omega (arith, count, length-slice_split (λ byte. byte == COMMA) text); different = different }, sym (join_with_byte-slice_split COMMA text) ∙ ap (join_with_byte COMMA) named)

-- at a turn of a `for` over the entries: what stands before its place, and the entry there. What was yielded comes before the chain, so that it tells the steps.
pub at_turn : {S A : Type 0} {steps : S → Option A → S → Type 0} {s : S} (told : A → List ℕ) (text : List ℕ) (place : ℕ) (earlier : List Evaluation) (xs : List A) (t : S) → Yields steps s xs t → (r : Option A) (u : S) (x : A) → r ≡ Some x → steps t r u → place ≡ length earlier → map told xs ≡ map name_of earlier → AllPairs (λ a b. a ≢ b) earlier → YieldsList steps told s (entries_of text) → AreEntriesBefore text place earlier × (slice_get (entries_of text) place ≡ Some (told x))
at_turn told text place earlier xs t yielded r u x is step count named different road =
    let same : length xs ≡ place = sym (length-map xs told) ∙ ap length named ∙ length-map earlier name_of ∙ sym count in
    let turn = YieldsList-turn road xs t yielded r u x is step in (
      record {
        count = sym count;
        named = ap (λ n. take n (entries_of text)) (sym same) ∙ sym (YieldsList-so_far road xs t yielded) ∙ named;
        different = different;
      },
      ap (slice_get (entries_of text)) (sym same) ∙ slice_get_read (entries_of text) (length (entries_of text)) (length xs) (told x) (λ i. length (entries_of text)) turn.0 turn.1,
    )

pub at_end : {S A : Type 0} {steps : S → Option A → S → Type 0} {s : S} (told : A → List ℕ) (text : List ℕ) (order : List Evaluation) (xs : List A) (t : S) → Yields steps s xs t → (r : Option A) (u : S) → r ≡ None → steps t r u → map told xs ≡ map name_of order → AllPairs (λ a b. a ≢ b) order → YieldsList steps told s (entries_of text) → IsOrder order × (text ≡ order_text order)
at_end told text order xs t yielded r u is step named different road = all_read text order (sym (YieldsList-end road xs t yielded r u is step).0 ∙ named) different
