-- The names of a domain are no longer than the text that it is read of.
use Rattle.std.proofs.Common.{ℕ, ◌-◌, ◌≤◌, List, [], ◌∷◌, length, drop, Option, Some, None, IfSome, All, arith, length-drop}
use Rattle.std.specs.Prelude.{slice_range}
use Rattle.std.proofs.lemmas.List.{length-map, length-take}
use Rattle.std.specs.Char.{to_ascii_lowercase}
use Rattle.std.proofs.lemmas.List.Elements.{All-nil, All-cons, All-push}
use Rattle.pddl_lexer.specs.declared.lexer.Kind.{Kind}
use Rattle.pddl_lexer.specs.declared.lexer.Kind.TheVariants.{Name}
use Rattle.pddl_lexer.specs.declared.lexer.Token.{Token}
use Rattle.pddl_forms.specs.declared.texts.Word.{Word}
use Rattle.pddl_forms.specs.Lexemes.{Lexeme, left, right, name, dash, gap, lower, lexeme, lexemes}
use Rattle.pddl_forms.specs.Forms.{IsNameWord, is_name_word, IsHead, is_head, IsTerm, is_constant, is_argument, IsVariableWord, is_variable_word, Many, close, more, Closed, closed, Group, last, with_next, TypedList, untyped_words, typed_group, open_group, is_atom, IsLiftedAtom, Conjunction, nothing, all_of, just, Conjuncts, finished, also, IsChange, is_added, is_deleted, IsNames, IsVariables}
use Rattle.pddl_parser.specs.declared.texts.PredText.{PredText}
use Rattle.pddl_parser.specs.declared.texts.ActionText.{ActionText}
use Rattle.pddl_parser.specs.declared.texts.DomainText.{DomainText}
use Rattle.pddl_parser.specs.Grammar
use Rattle.pddl_parser.specs.Grammar.{or_empty, IsRequirement, is_requirement, Opened, opened, IsSection, is_section, IsPart, is_part, IsOpening, is_opening, IsPredicate, is_predicate, ActionParts, no_parts, IsParts, IsAction, is_action, DomainSections, no_domain_sections, IsDomainSections, IsDomain, is_domain}
use Rattle.pddl_parser.specs.Replies.{HasDomain}

module _ (most : ℕ) where
  -- a lexeme that is no name of more bytes
  abbrev IsShort : Lexeme → Type 0
  IsShort (name text at) = length text ≤ most
  IsShort _ = Unit {0}

  abbrev AreShort : List Lexeme → Type 0
  AreShort [] = Unit {0}
  AreShort (t ∷ ts) = IsShort t × AreShort ts

  -- a rule leaves short lexemes of short ones
  abbrev Keeps : {A : Type 0} → (List Lexeme → A → List Lexeme → Type 0) → Type 0
  Keeps {A} Rule = (ts rest : List Lexeme) (value : A) → Rule ts value rest → AreShort ts → AreShort rest

  -- and what it gives is so
  abbrev Gives : {A : Type 0} → (List Lexeme → A → List Lexeme → Type 0) → (A → Type 0) → Type 0
  Gives {A} Rule Good = (ts rest : List Lexeme) (value : A) → Rule ts value rest → AreShort ts → Good value × AreShort rest

  -- ---- words and lists

  name_word_keeps : Keeps IsNameWord
  name_word_keeps ts rest w is_name_word short = short.1

  variable_word_keeps : Keeps IsVariableWord
  variable_word_keeps ts rest w is_variable_word short = short.1

  head_keeps : Keeps IsHead
  head_keeps ts rest w (is_head free) short = short.1

  term_keeps : Keeps IsTerm
  term_keeps ts rest w is_constant short = short.1
  term_keeps ts rest w is_argument short = short.1

  requirement_keeps : Keeps IsRequirement
  requirement_keeps ts rest w (is_requirement is) short = short.1

  opening_keeps : (kind : List ℕ) → Keeps (IsOpening kind)
  opening_keeps kind ts rest own is_opening short = short.1.1.1.1.1.1

  module _ {A : Type 0} (Body : List Lexeme → A → List Lexeme → Type 0) (each : Keeps Body) where
    section_keeps : (key : List ℕ) → Keeps (IsSection key Body)
    section_keeps key ts rest value (is_section {ts = after} d) short = each after rest value d short.1.1

    part_keeps : (key : List ℕ) → Keeps (IsPart key Body)
    part_keeps key ts rest value (is_part {ts = after} d) short = each after rest value d short.1

    opened_keeps : Keeps (Opened Body)
    opened_keeps ts rest value (opened {ts = after} d) short = each after rest value d short.1

    closed_keeps : Keeps (Closed Body)
    closed_keeps ts rest value (closed {p = p} d) short = (each ts (right p ∷ rest) value d short).1

    many_keeps : Keeps (Many Body)
    many_keeps ts rest items close short = short.1
    many_keeps ts rest items (more {mid = mid} {item = first} {items = others} d ds) short = many_keeps mid rest others ds (each ts mid first d short)

    mutual
      conjunction_keeps : Keeps (Conjunction Body)
      conjunction_keeps ts rest items nothing short = short.1.1
      conjunction_keeps ts rest items (all_of {ts = after} d) short = conjuncts_keeps after rest items d short.1.1
      conjunction_keeps ts rest items (just {item = item} d) short = each ts rest item d short

      conjuncts_keeps : Keeps (Conjuncts Body)
      conjuncts_keeps ts rest items finished short = short.1
      conjuncts_keeps ts rest items (also {mid = mid} {some = some} {others = others} d ds) short = conjuncts_keeps mid rest others ds (conjunction_keeps ts mid some d short)

  module _ (Item : List Lexeme → Word → List Lexeme → Type 0) (each : Keeps Item) where
    group_keeps : Keeps (Group Item)
    group_keeps ts rest ws (last {p = p} {w = w} d) short = (each ts (dash p ∷ rest) w d short).1
    group_keeps ts rest ws (with_next {mid = mid} {w = w} {ws = others} d ds) short = group_keeps mid rest others ds (each ts mid w d short)

    typed_list_keeps : Keeps (TypedList Item)
    typed_list_keeps ts rest items (untyped_words {ws = ws} d) short = many_keeps Item each ts rest ws d short
    typed_list_keeps ts rest items (typed_group {q = q} {text = text} {mid = mid} {ws = ws} {others = others} d ds) short =
        typed_list_keeps mid rest others ds (group_keeps ts (name text q ∷ mid) ws d short).1
    typed_list_keeps ts rest items (open_group {p = p} {q = q} {mid = mid} {ws = ws} {others = others} d ds) short =
        typed_list_keeps mid rest others ds (group_keeps ts (left p ∷ gap q ∷ mid) ws d short).1.1

  names_keep : Keeps IsNames
  names_keep = typed_list_keeps IsNameWord name_word_keeps

  variables_keep : Keeps IsVariables
  variables_keep = typed_list_keeps IsVariableWord variable_word_keeps

  -- ---- atoms and changes

  atom_keeps : Keeps IsLiftedAtom
  atom_keeps ts rest a (is_atom {ts = after} {mid = mid} {head = h} {args = args} d ds) short = many_keeps IsTerm term_keeps mid rest args ds (head_keeps after mid h d short.1)

  change_keeps : Keeps IsChange
  change_keeps ts rest change (is_added {atom = a} d) short = atom_keeps ts rest a d short
  change_keeps ts rest change (is_deleted {ts = after} {atom = a} d) short = closed_keeps IsLiftedAtom atom_keeps after rest a d short.1.1

  -- ---- predicates and actions

  abbrev pub IsShortPredicate : PredText → Type 0
  IsShortPredicate predicate = length predicate.head.text ≤ most

  abbrev pub IsShortAction : ActionText → Type 0
  IsShortAction action = length action.name.text ≤ most

  head_short : Gives IsHead (λ w. length w.text ≤ most)
  head_short ts rest w (is_head free) short = short

  name_word_short : Gives IsNameWord (λ w. length w.text ≤ most)
  name_word_short ts rest w is_name_word short = short

  predicate_short : Gives IsPredicate IsShortPredicate
  predicate_short ts rest p (is_predicate {ts = after} {mid = mid} {head = h} {params = params} d ds) short =
      let first = head_short after mid h d short.1 in
      (first.0, variables_keep mid rest params ds first.1)

  predicates_short : Gives (Many IsPredicate) (All IsShortPredicate)
  predicates_short ts rest items close short = (All-nil IsShortPredicate, short.1)
  predicates_short ts rest items (more {mid = mid} {item = first} {items = others} d ds) short =
      let one = predicate_short ts mid first d short in
      let all = predicates_short mid rest others ds one.1 in
      (All-cons IsShortPredicate first others one.0 all.0, all.1)

  parts_keep : (seen all : ActionParts) (ts rest : List Lexeme) → IsParts seen ts all rest → AreShort ts → AreShort rest
  parts_keep seen all ts rest Grammar.no_more_parts short = short.1
  parts_keep seen all ts rest (Grammar.parameters {mid = mid} {params = v} none d ds) short =
      parts_keep _ all mid rest ds (part_keeps _ (opened_keeps IsVariables variables_keep) _ ts mid v d short)
  parts_keep seen all ts rest (Grammar.precondition {mid = mid} {pre = v} none d ds) short =
      parts_keep _ all mid rest ds (part_keeps _ (conjunction_keeps IsLiftedAtom atom_keeps) _ ts mid v d short)
  parts_keep seen all ts rest (Grammar.effect {mid = mid} {changes = v} none d ds) short =
      parts_keep _ all mid rest ds (part_keeps _ (conjunction_keeps IsChange change_keeps) _ ts mid v d short)

  action_short : Gives IsAction IsShortAction
  action_short ts rest a (is_action {mid = mid} {own = own} {parts = all} d ds) short =
      let first = name_word_short ts mid own d short in
      (first.0, parts_keep no_parts all mid rest ds first.1)

  module _ {A : Type 0} (Body : List Lexeme → A → List Lexeme → Type 0) (Good : A → Type 0) (each : Gives Body Good) where
    section_short : (key : List ℕ) → Gives (IsSection key Body) Good
    section_short key ts rest value (is_section {ts = after} d) short = each after rest value d short.1.1

  -- ---- domains

  -- the predicates and the actions that stand already have short names
  record AreShortSections (s : DomainSections) : Type 0 where
    predicates : IfSome s.predicates (All IsShortPredicate)
    actions : All IsShortAction s.actions

  sections_short : (seen all : DomainSections) (ts rest : List Lexeme) → IsDomainSections seen ts all rest → AreShortSections seen → AreShort ts → AreShortSections all
  sections_short seen all ts rest Grammar.no_more_sections good short = good
  sections_short seen all ts rest (Grammar.requirements {mid = mid} {words = v} none d ds) good short =
      sections_short _ all mid rest ds (record { predicates = good.predicates; actions = good.actions }) (section_keeps _ (many_keeps IsRequirement requirement_keeps) _ ts mid v d short)
  sections_short seen all ts rest (Grammar.types {mid = mid} {names = v} none d ds) good short =
      sections_short _ all mid rest ds (record { predicates = good.predicates; actions = good.actions }) (section_keeps IsNames names_keep _ ts mid v d short)
  sections_short seen all ts rest (Grammar.constants {mid = mid} {names = v} none d ds) good short =
      sections_short _ all mid rest ds (record { predicates = good.predicates; actions = good.actions }) (section_keeps IsNames names_keep _ ts mid v d short)
  sections_short seen all ts rest (Grammar.predicates {mid = mid} {preds = v} none d ds) good short =
      let one = section_short _ _ predicates_short _ ts mid v d short in
      sections_short _ all mid rest ds (record { predicates = one.0; actions = good.actions }) one.1
  sections_short seen all ts rest (Grammar.action {mid = mid} {a = v} d ds) good short =
      let one = section_short IsAction _ action_short _ ts mid v d short in
      sections_short _ all mid rest ds (record { predicates = good.predicates; actions = All-push IsShortAction seen.actions v good.actions one.0 }) one.1

  -- the names of a domain's predicates and actions have at most so many bytes
  pub record HasShortNames (d : DomainText) : Type 0 where
    pub predicates : All IsShortPredicate d.predicates
    pub actions : All IsShortAction d.actions

  all_or_none : (o : Option (List PredText)) → IfSome o (All IsShortPredicate) → All IsShortPredicate (or_empty o)
  all_or_none None all = All-nil IsShortPredicate
  all_or_none (Some items) all = all

  domain_short : (ts rest : List Lexeme) (d : DomainText) → IsDomain ts d rest → AreShort ts → HasShortNames d
  domain_short ts rest d (is_domain {mid = mid} {own = own} {all = all} o ds) short =
      let sections = sections_short no_domain_sections all mid rest ds (record { predicates = tt; actions = All-nil IsShortAction }) (opening_keeps _ ts mid own o short) in
      record { predicates = all_or_none all.predicates sections.predicates; actions = sections.actions }

  -- ---- the lexemes of bytes

  lexeme_short : (kind : Kind) (text : List ℕ) (at : ℕ) → length text ≤ most → IsShort (lexeme kind text at)
  lexeme_short Name text at short = short
  lexeme_short _ text at short = tt

  piece_short : (bytes : List ℕ) (from to : ℕ) → length (slice_range bytes from to) ≤ length bytes
  piece_short bytes from to = omega (arith, length-take (to - from) (drop from bytes), length-drop from bytes)

  lexemes_short : (bytes : List ℕ) (tokens : List Token) → length bytes ≤ most → AreShort (lexemes bytes tokens)
  lexemes_short bytes [] few = tt
  lexemes_short bytes (t ∷ tokens) few =
      let piece : List ℕ = slice_range bytes t.from t.to in
      (lexeme_short t.kind (lower piece) t.from (omega (arith, few, length-map piece to_ascii_lowercase, piece_short bytes t.from t.to)), lexemes_short bytes tokens few)

  pub names_short : (bytes : List ℕ) (d : DomainText) → length bytes ≤ most → HasDomain bytes d → HasShortNames d
  names_short bytes d few has = domain_short _ [] d has.3 (lexemes_short bytes has.0 few)
