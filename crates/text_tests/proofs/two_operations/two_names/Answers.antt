use Rattle.std.proofs.Common.{◌≢◌, ℕ, List, [], ◌∷◌, refl, sym, ap, subst, arith}
use Rattle.std.specs.Prelude.{codes, bytes_eq, IsTrue}
use Rattle.std.proofs.lemmas.Bool.{true≢false}
use Rattle.std.proofs.lemmas.List.Elements.{All-nil, All-cons}
use Rattle.std.proofs.lemmas.List.Kept.{AllPairs-cons}
use Rattle.program_text.specs.Names.{is_word, IsOperationText, AreNames}
use Rattle.text_tests.proofs.two_operations.two_names.Goals as goal

abbrev is_word_text : List ℕ → Type 0
is_word_text word = IsTrue (is_word word)

light : IsOperationText (codes "act light p0")
light = record {
  words = record {
    words = codes "act" ∷ codes "light" ∷ codes "p0" ∷ [];
    some = omega arith;
    each = All-cons is_word_text (codes "act") (codes "light" ∷ codes "p0" ∷ []) refl (All-cons is_word_text (codes "light") (codes "p0" ∷ []) refl (All-cons is_word_text (codes "p0") [] refl (All-nil is_word_text)));
    joined = refl;
  };
  no_end = λ e. true≢false (ap (bytes_eq (codes "act light p0")) e);
  no_jump = refl;
}

inc : IsOperationText (codes "inc p0")
inc = record {
  words = record {
    words = codes "inc" ∷ codes "p0" ∷ [];
    some = omega arith;
    each = All-cons is_word_text (codes "inc") (codes "p0" ∷ []) refl (All-cons is_word_text (codes "p0") [] refl (All-nil is_word_text));
    joined = refl;
  };
  no_end = λ e. true≢false (ap (bytes_eq (codes "inc p0")) e);
  no_jump = refl;
}

abbrev differ : List ℕ → List ℕ → Type 0
differ one other = one ≢ other

are_names : AreNames (codes "act light p0" ∷ codes "inc p0" ∷ [])
are_names = record {
  some = omega arith;
  few = omega arith;
  each = All-cons IsOperationText (codes "act light p0") (codes "inc p0" ∷ []) light (All-cons IsOperationText (codes "inc p0") [] inc (All-nil IsOperationText));
  apart =
      AllPairs-cons differ (codes "act light p0") (codes "inc p0" ∷ [])
      (All-cons (differ (codes "act light p0")) (codes "inc p0") [] (λ e. true≢false (ap (bytes_eq (codes "act light p0")) e)) (All-nil (differ (codes "act light p0"))))
      (AllPairs-cons differ (codes "inc p0") [] (All-nil (differ (codes "inc p0"))) (λ i j d h k. absurd (omega (arith, k))));
}

pub build-requires : goal.build-requires
build-requires c = subst AreNames (sym c.in_ok-texts.ensures) are_names
