-- The contract of the code for typed lists: reading them lexeme by lexeme.
use Rattle.std.specs.Prelude.{ℕ, Bool, true, false, ◌&&◌, List, [], ◌∷◌, ◌++◌, map, Some, None, codes, bytes_eq, if◌then◌else◌}
use Rattle.pddl_lexer.specs.declared.lexer.Kind.{Kind}
use Rattle.pddl_lexer.specs.declared.lexer.Kind.TheVariants.{LeftParen, RightParen, Name, Dash}
use Rattle.pddl_forms.specs.declared.stop.Why.{Why}
use Rattle.pddl_forms.specs.declared.stop.Why.TheVariants.{Shape, Unsupported}
use Rattle.pddl_forms.specs.declared.texts.Word.{Word}
use Rattle.pddl_forms.specs.declared.texts.Typed.{Typed}
use Rattle.pddl_forms.specs.Lexemes.{Lexeme, gap}
use Rattle.pddl_forms.specs.Forms.{typed}
use Rattle.pddl_forms.specs.Inner.Reading.{Read, got, stuck, is_of, word_of}

-- the lexeme is this name
abbrev pub is_name : List ℕ → Lexeme → Bool
is_name text t = is_of Name t && bytes_eq (word_of t).text text

-- the lexeme is a gap
abbrev pub is_gap : Lexeme → Bool
is_gap (gap at) = true
is_gap _ = false

-- there are words
abbrev pub some_words : List Word → Bool
some_words [] = false
some_words (w ∷ ws) = true

-- why a lexeme may not stand after a dash and a left parenthesis
abbrev pub why_no_type : Lexeme → Why
why_no_type t = if is_name (codes "either") t then Unsupported else Shape

unfoldable mutual
  -- a typed list, of which these words are done, and these wait for a type
  pub words_of : Kind → List Typed → List Word → List Lexeme → Read (List Typed)
  words_of kind done waiting [] = stuck Shape []
  words_of kind done waiting (t ∷ ts) =
      if is_of RightParen t then got (done ++ map (typed None) waiting) ts
      else (if is_of kind t then words_of kind done (waiting ++ word_of t ∷ []) ts
      else (if is_of Dash t && some_words waiting then type_of kind done waiting ts
      else stuck Shape (t ∷ ts)))

  -- the same after a dash
  pub type_of : Kind → List Typed → List Word → List Lexeme → Read (List Typed)
  type_of kind done waiting [] = stuck Shape []
  type_of kind done waiting (t ∷ ts) =
      if is_of Name t then words_of kind (done ++ map (typed (Some (word_of t))) waiting) [] ts
      else (if is_of LeftParen t then no_type_of kind done waiting ts
      else stuck Shape (t ∷ ts))

  -- the same after a dash and a left parenthesis
  pub no_type_of : Kind → List Typed → List Word → List Lexeme → Read (List Typed)
  no_type_of kind done waiting [] = stuck Shape []
  no_type_of kind done waiting (t ∷ ts) =
      if is_gap t then words_of kind (done ++ map (typed None) waiting) [] ts
      else stuck (why_no_type t) (t ∷ ts)

-- a typed list of words of a kind, up to the right parenthesis
abbrev pub typed_list : Kind → List Lexeme → Read (List Typed)
typed_list kind ts = words_of kind [] [] ts
