-- What is read of bytes is the reply that they have: by their tokens, by their parentheses, or by the grammar.
use Rattle.std.proofs.Common.{◌≡◌, ℕ, List, [], ◌∷◌, length, Option, Some, None, Result, Ok, Err, refl, sym, ap, ◌∙◌, subst}
use Rattle.pddl_lexer.specs.declared.lexer.Token.{Token}
use Rattle.pddl_lexer.specs.declared.parentheses.Misplaced.{Misplaced}
use Rattle.pddl_lexer.specs.declared.parentheses.Misplaced.TheVariants as parentheses
use Rattle.pddl_lexer.specs.Lexing.{tokens_of}
use Rattle.pddl_lexer.specs.Parentheses.{misplaced_in}
use Rattle.pddl_forms.specs.declared.stop.Why.{Why}
use Rattle.pddl_forms.specs.declared.stop.Why.TheVariants as kinds
use Rattle.pddl_parser.specs.declared.refusal.ParseRefusal.{ParseRefusal}
use Rattle.pddl_parser.specs.declared.refusal.ParseRefusal.TheVariants.{Byte, Unclosed, Unopened, TooDeep, Shape, Unsupported, OutOfMemory}
use Rattle.pddl_forms.specs.Lexemes.{Lexeme, lexemes}
use Rattle.pddl_forms.specs.Inner.Reading.{Read, got, stuck}
use Rattle.pddl_parser.specs.Inner.Choosing.{ended, all_of}
use Rattle.pddl_forms.specs.Offending.{Offends}
use Rattle.pddl_parser.specs.Inner.Answering.{unless_misplaced, ordered, reply_to_read, reply_to_tokens, reply_by}
use Rattle.pddl_parser.specs.Replies.{HasReply, OrMemory}
use Rattle.pddl_forms.proofs.Fronts.{and_then-cases, same_got}
use Rattle.pddl_forms.proofs.ItemSteps.{Parses}

-- a value that is read to the end leaves nothing
ended-got : {A : Type 0} (value text : A) (mid rest : List Lexeme) → ended value mid ≡ got text rest → (value ≡ text) × (mid ≡ [])
ended-got value text [] rest e = ((same_got e).0, refl)
ended-got value text (t ∷ mid) rest e = absurd cc

-- reading to the end reads all
pub all_of-got : {A : Type 0} (read : List Lexeme → Read A) (ts rest : List Lexeme) (text : A) → all_of read ts ≡ got text rest → read ts ≡ got text []
unfolding all_of
all_of-got read ts rest text e =
    let one = and_then-cases _ _ _ _ e in
    let at_end = ended-got one.0 text one.1 rest one.3 in
    one.2 ∙ ap (λ value. got value one.1) at_end.0 ∙ ap (got text) at_end.1

-- one answer for another, where there is no want of memory
OrMemory-map : {A : Type 0} (P Q : Result A ParseRefusal → Type 0) → ((reply : Result A ParseRefusal) → P reply → Q reply) → (reply : Result A ParseRefusal) → OrMemory P reply → OrMemory Q reply
OrMemory-map P Q f (Ok text) p = f _ p
OrMemory-map P Q f (Err OutOfMemory) p = tt
OrMemory-map P Q f (Err (Byte at)) p = f _ p
OrMemory-map P Q f (Err (Unclosed at)) p = f _ p
OrMemory-map P Q f (Err (Unopened at)) p = f _ p
OrMemory-map P Q f (Err (TooDeep at)) p = f _ p
OrMemory-map P Q f (Err (Shape at)) p = f _ p
OrMemory-map P Q f (Err (Unsupported at)) p = f _ p

module _ {A : Type 0} (sections : List (List ℕ)) (Text : List Lexeme → A → List Lexeme → Type 0) (read : List Lexeme → Read A) (parses : Parses Text read)
    (offends : (ts bad : List Lexeme) (why : Why) → all_of read ts ≡ stuck why bad → Offends sections Text ts why bad) (bytes : List ℕ) where
  at_read : (tokens : List Token) → tokens_of bytes ≡ Ok tokens → misplaced_in tokens ≡ None → (r : Read A) → all_of read (lexemes bytes tokens) ≡ r → HasReply sections Text bytes (reply_to_read (length bytes) r)
  at_read tokens are none (got text rest) is = (tokens, are, none, parses.sound _ [] text (all_of-got read _ rest text is))
  at_read tokens are none (stuck kinds.Shape bad) is = (tokens, are, none, bad, offends _ bad kinds.Shape is, refl)
  at_read tokens are none (stuck kinds.Unsupported bad) is = (tokens, are, none, bad, offends _ bad kinds.Unsupported is, refl)

  at_parentheses : (tokens : List Token) → tokens_of bytes ≡ Ok tokens → (misplaced : Option Misplaced) → misplaced_in tokens ≡ misplaced → HasReply sections Text bytes (reply_to_tokens read bytes (unless_misplaced tokens misplaced))
  at_parentheses tokens are None none = at_read tokens are none (all_of read (lexemes bytes tokens)) refl
  at_parentheses tokens are (Some (parentheses.Unopened at)) is = (tokens, are, is)
  at_parentheses tokens are (Some (parentheses.TooDeep at)) is = (tokens, are, is)
  at_parentheses tokens are (Some (parentheses.Unclosed at)) is = (tokens, are, is)

  at_tokens : (t : Result (List Token) ℕ) → tokens_of bytes ≡ t → HasReply sections Text bytes (reply_to_tokens read bytes (ordered t))
  at_tokens (Ok tokens) are = at_parentheses tokens are (misplaced_in tokens) refl
  at_tokens (Err at) is = is

  -- bytes have the reply that is read of them
  pub has-reply : HasReply sections Text bytes (reply_by read bytes)
  has-reply = at_tokens (tokens_of bytes) refl

  -- so what is read of them is their reply
  pub is-reply : (reply : Result A ParseRefusal) → OrMemory (λ reply. reply ≡ reply_by read bytes) reply → OrMemory (HasReply sections Text bytes) reply
  is-reply = OrMemory-map (λ reply. reply ≡ reply_by read bytes) (HasReply sections Text bytes) (λ reply is. subst (HasReply sections Text bytes) (sym is) has-reply)
