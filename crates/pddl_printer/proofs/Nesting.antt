-- Words whose parentheses are in order, and nested no deeper than a number.
use Rattle.std.proofs.Common.{◌≡◌, ℕ, suc, ◌+◌, ◌≤◌, nat_le, Bool, true, false, List, [], ◌∷◌, ◌++◌, length, Option, codes, refl, ap, ◌∙◌, arith, append_assoc}
use Rattle.std.specs.Prelude.{All}
use Rattle.std.specs.List.{flat_map}
use Rattle.std.proofs.lemmas.Bool.Decides.{nat_tests}
use Rattle.pddl_lexer.specs.declared.lexer.Kind.{Kind}
use Rattle.pddl_lexer.specs.declared.lexer.Kind.TheVariants.{LeftParen, RightParen, Name, Variable, Keyword, Dash, Equal}
use Rattle.pddl_lexer.specs.declared.parentheses.Misplaced.{Misplaced}
use Rattle.pddl_lexer.specs.declared.parentheses.TheConstants.{MAX_NESTING}
use Rattle.pddl_lexer.specs.Parentheses.{at_token, misplaced}
use Rattle.pddl_printer.specs.Printing.{in_parentheses}
use Rattle.pddl_printer.proofs.Tokens.{kind_of, IsToken, token-open, token-close}
use Rattle.pddl_printer.proofs.Lines.{AreTokens, tokens_from}

-- words that are read as one token each, after which as many parentheses are open as before
pub record IsNested (depth : ℕ) (us : List (List ℕ)) : Type 0 where
  pub tokens : AreTokens us
  pub level : (vs : List (List ℕ)) (at : ℕ) (pending : List ℕ) → length pending + depth ≤ MAX_NESTING → (next : ℕ) × (misplaced (tokens_from at (us ++ vs)) pending ≡ misplaced (tokens_from next vs) pending)

-- a word that is read as one token, which is no parenthesis
abbrev is_parenthesis : Kind → Bool
is_parenthesis LeftParen = true
is_parenthesis RightParen = true
is_parenthesis _ = false

pub record IsPlain (w : List ℕ) : Type 0 where
  pub token : IsToken w
  pub plain : is_parenthesis (kind_of w) ≡ false

plain-token : (k : Kind) (at : ℕ) (pending : List ℕ) (further : List ℕ → Option Misplaced) → is_parenthesis k ≡ false → at_token k at pending further ≡ further pending
plain-token LeftParen at pending further is = absurd (cc)
plain-token RightParen at pending further is = absurd (cc)
plain-token Name at pending further is = refl
plain-token Variable at pending further is = refl
plain-token Keyword at pending further is = refl
plain-token Dash at pending further is = refl
plain-token Equal at pending further is = refl

tokens-append : (us vs : List (List ℕ)) → AreTokens us → AreTokens vs → AreTokens (us ++ vs)
tokens-append [] vs are then = then
tokens-append (u ∷ us) vs are then = (are.0, tokens-append us vs are.1 then)

pub nested-none : (depth : ℕ) → IsNested depth []
nested-none depth = record { tokens = tt; level = λ vs at pending fits. (at, refl) }

pub nested-append : (depth : ℕ) (us vs : List (List ℕ)) → IsNested depth us → IsNested depth vs → IsNested depth (us ++ vs)
nested-append depth us vs first then = record {
  tokens = tokens-append us vs first.tokens then.tokens;
  level = λ ws at pending fits.
      let one = first.level (vs ++ ws) at pending fits in
      let two = then.level ws one.0 pending fits in
      (two.0, ap (λ l. misplaced (tokens_from at l) pending) (append_assoc us vs ws) ∙ one.1 ∙ two.1);
}

pub nested-cons : (depth : ℕ) (w : List ℕ) (us : List (List ℕ)) → IsPlain w → IsNested depth us → IsNested depth (w ∷ us)
unfolding misplaced
nested-cons depth w us plain then = record {
  tokens = (plain.token, then.tokens);
  level = λ vs at pending fits.
      let rest = then.level vs (at + 1 + length w) pending fits in
      (rest.0, plain-token (kind_of w) (at + 1) pending (misplaced (tokens_from (at + 1 + length w) (us ++ vs))) plain.plain ∙ rest.1);
}

pub nested-parentheses : (depth : ℕ) (us : List (List ℕ)) → IsNested depth us → IsNested (suc depth) (in_parentheses us)
unfolding misplaced
nested-parentheses depth us inner = record {
  tokens = (token-open, tokens-append us (codes ")" ∷ []) inner.tokens (token-close, tt));
  level = λ vs at pending fits.
      let room : nat_le MAX_NESTING (length pending) ≡ false = grind (arith, nat_tests) in
      let within : length ((at + 1) ∷ pending) + depth ≤ MAX_NESTING = omega arith in
      let rest = inner.level (codes ")" ∷ vs) (at + 1 + 1) ((at + 1) ∷ pending) within in
      let regroup = append_assoc us (codes ")" ∷ []) vs in
      (rest.0 + 1 + 1, rw (room, regroup) rest.1);
}

pub nested-deeper : (depth deeper : ℕ) (us : List (List ℕ)) → depth ≤ deeper → IsNested depth us → IsNested deeper us
nested-deeper depth deeper us less nested = record { tokens = nested.tokens; level = λ vs at pending fits. nested.level vs at pending (omega arith) }

pub all-first : {X : Type 0} (P : X → Type 0) (x : X) (xs : List X) → All P (x ∷ xs) → P x
all-first P x xs all = all 0 x (omega arith)

pub all-rest : {X : Type 0} (P : X → Type 0) (x : X) (xs : List X) → All P (x ∷ xs) → All P xs
all-rest P x xs all = λ k d less. all (suc k) d (omega arith)

pub nested-each : {X : Type 0} (P : X → Type 0) (f : X → List (List ℕ)) (depth : ℕ) → ((x : X) → P x → IsNested depth (f x)) → (xs : List X) → All P xs → IsNested depth (flat_map f xs)
nested-each P f depth nests [] all = nested-none depth
nested-each P f depth nests (x ∷ xs) all = nested-append depth (f x) (flat_map f xs) (nests x (all-first P x xs all)) (nested-each P f depth nests xs (all-rest P x xs all))
