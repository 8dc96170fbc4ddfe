-- Each list of a text has no more items than there are lexemes.
use Rattle.std.proofs.Common.{◌≡◌, ℕ, ◌+◌, ◌<◌, ◌≤◌, false, List, [], ◌∷◌, ◌++◌, map, Option, Some, None, IfSome, All, length, refl, arith}
use Rattle.std.proofs.lemmas.List.{length-append, length-map}
use Rattle.std.proofs.lemmas.List.Elements.{All-nil, All-push}
use Rattle.pddl_lexer.specs.declared.lexer.Kind.TheVariants.{RightParen}
use Rattle.pddl_forms.specs.declared.texts.Word.{Word}
use Rattle.pddl_forms.specs.declared.texts.Typed.{Typed}
use Rattle.pddl_parser.specs.declared.texts.DomainText.{DomainText}
use Rattle.pddl_parser.specs.declared.texts.ProblemText.{ProblemText}
use Rattle.pddl_forms.specs.declared.formulas.Terms.TheVariants.{Names, NamesAndVariables}
use Rattle.pddl_forms.specs.declared.texts.AtomChange.{AtomChange}
use Rattle.pddl_forms.specs.declared.texts.AtomChange.TheVariants.{Added, Deleted}
use Rattle.pddl_forms.specs.Lexemes.{Lexeme, left, right, name, dash, gap}
use Rattle.pddl_parser.specs.Grammar
use Rattle.pddl_forms.specs.Forms.{word, typed, IsNameWord, IsVariableWord, is_variable_word, Many, Closed, closed}
use Rattle.pddl_parser.specs.Grammar.{or_empty, IsRequirement, Opened, opened, IsSection, is_section, IsPart, is_part, IsOpening, is_opening}
use Rattle.pddl_forms.specs.Forms.{Group, last, with_next, TypedList, untyped_words, typed_group, open_group, IsGroundAtom, IsLiftedAtom, Conjunction, IsChange, added, deleted, IsNames, IsVariables}
use Rattle.pddl_parser.specs.Grammar.{IsPredicate}
use Rattle.pddl_parser.specs.Grammar.{ActionParts, no_parts, IsParts, IsAction, is_action, DomainSections, no_domain_sections, IsDomainSections, IsDomain, is_domain, ProblemSections, no_problem_sections, IsProblemSections, IsProblem, is_problem}
use Rattle.pddl_forms.specs.Inner.Reading.{comes}
use Rattle.pddl_parser.specs.Spelled.{IsActionWithin, IsDomainWithin, IsProblemWithin}
use Rattle.pddl_forms.proofs.ItemSteps.{IsItem, Many-count}
use Rattle.pddl_forms.proofs.Exact.{name_word_is_item, atom_is_item}
use Rattle.pddl_forms.proofs.ConjunctionRules.{formula-count, effect-count}
use Rattle.pddl_parser.proofs.Sections.{requirement_is_item}
use Rattle.pddl_parser.proofs.DomainRules.{predicate_is_item}

-- the items that a rule gives and what is left are fewer than the lexemes
abbrev IsCounted : {A : Type 0} → (List Lexeme → List A → List Lexeme → Type 0) → Type 0
IsCounted {A} Rule = (ts rest : List Lexeme) (items : List A) → Rule ts items rest → length items + length rest < length ts

-- of lexemes that are no more than `count` a rule gives what is so, and leaves fewer
abbrev Gives : {A : Type 0} → ℕ → (List Lexeme → A → List Lexeme → Type 0) → (A → Type 0) → Type 0
Gives {A} count Rule Good = (ts rest : List Lexeme) (value : A) → Rule ts value rest → length ts ≤ count → Good value × (length rest < length ts)

-- a list of at most so many items
abbrev IsListWithin : {A : Type 0} → ℕ → List A → Type 0
IsListWithin count items = length items ≤ count

counted : {A : Type 0} (count : ℕ) (Rule : List Lexeme → List A → List Lexeme → Type 0) → IsCounted Rule → Gives count Rule (IsListWithin count)
counted count Rule counts ts rest items d fits = let fewer = counts ts rest items d in (omega arith, omega arith)

-- typed lists
module _ (Item : List Lexeme → Word → List Lexeme → Type 0) (is_item : IsItem Item) where
  group-count : IsCounted (Group Item)
  group-count ts rest ws (last {p = p} {w = w} d) = omega (arith, is_item.shorter ts (dash p ∷ rest) w d)
  group-count ts rest ws (with_next {mid = mid} {w = w} {ws = others} d ds) = omega (arith, is_item.shorter ts mid w d, group-count mid rest others ds)

  grouped : (of : Option Word) (ws : List Word) (others : List Typed) → length (map (typed of) ws ++ others) ≡ length ws + length others
  grouped of ws others = omega (arith, length-append (map (typed of) ws) others, length-map ws (typed of))

  typed_list-count : IsCounted (TypedList Item)
  typed_list-count ts rest items (untyped_words {ws = ws} d) = omega (arith, length-map ws (typed None), Many-count is_item ts rest ws d)
  typed_list-count ts rest items (typed_group {q = q} {text = text} {mid = mid} {ws = ws} {others = others} d ds) =
      omega (arith, grouped (Some (word text q)) ws others, group-count ts (name text q ∷ mid) ws d, typed_list-count mid rest others ds)
  typed_list-count ts rest items (open_group {p = p} {q = q} {mid = mid} {ws = ws} {others = others} d ds) =
      omega (arith, grouped None ws others, group-count ts (left p ∷ gap q ∷ mid) ws d, typed_list-count mid rest others ds)

names-count : IsCounted IsNames
names-count = typed_list-count IsNameWord name_word_is_item

variable_word_is_item : IsItem IsVariableWord
variable_word_is_item = record { shorter = shorter; inside = inside }
  where
    shorter : (ts rest : List Lexeme) (w : Word) → IsVariableWord ts w rest → length rest < length ts
    shorter ts rest w is_variable_word = omega arith

    inside : (ts rest : List Lexeme) (w : Word) → IsVariableWord ts w rest → comes RightParen ts ≡ false
    inside ts rest w is_variable_word = refl

variables-count : IsCounted IsVariables
variables-count = typed_list-count IsVariableWord variable_word_is_item

-- a body between marks and keywords
module _ {A : Type 0} (count : ℕ) (Body : List Lexeme → A → List Lexeme → Type 0) (Good : A → Type 0) (each : Gives count Body Good) where
  section-within : (key : List ℕ) → Gives count (IsSection key Body) Good
  section-within key ts rest value (is_section {ts = after} d) fits = let one = each after rest value d (omega arith) in (one.0, omega (arith, one.1))

  part-within : (key : List ℕ) → Gives count (IsPart key Body) Good
  part-within key ts rest value (is_part {ts = after} d) fits = let one = each after rest value d (omega arith) in (one.0, omega (arith, one.1))

  opened-within : Gives count (Opened Body) Good
  opened-within ts rest value (opened {ts = after} d) fits = let one = each after rest value d (omega arith) in (one.0, omega (arith, one.1))

  closed-within : Gives count (Closed Body) Good
  closed-within ts rest value (closed {p = p} d) fits = let one = each ts (right p ∷ rest) value d fits in (one.0, omega (arith, one.1))

-- a list that may be absent
none_or_within : {A : Type 0} (count : ℕ) (o : Option (List A)) → IfSome o (IsListWithin count) → length (or_empty o) ≤ count
none_or_within count None within = omega arith
none_or_within count (Some items) within = within

-- changes that add and changes that delete are no more than all
added-count : (changes : List AtomChange) → length (added changes) ≤ length changes
added-count [] = omega arith
added-count (Added a ∷ changes) = omega (arith, added-count changes)
added-count (Deleted a ∷ changes) = omega (arith, added-count changes)

deleted-count : (changes : List AtomChange) → length (deleted changes) ≤ length changes
deleted-count [] = omega arith
deleted-count (Added a ∷ changes) = omega (arith, deleted-count changes)
deleted-count (Deleted a ∷ changes) = omega (arith, deleted-count changes)

module _ (count : ℕ) where
  -- the parts of an action that stand already have lists of at most so many items
  record ArePartsWithin (parts : ActionParts) : Type 0 where
    params : IfSome parts.params (IsListWithin count)
    pre : IfSome parts.pre (IsListWithin count)
    changes : IfSome parts.changes (IsListWithin count)

  parts-within : (seen all : ActionParts) (ts rest : List Lexeme) → IsParts seen ts all rest → ArePartsWithin seen → length ts ≤ count → ArePartsWithin all × (length rest < length ts)
  parts-within seen all ts rest Grammar.no_more_parts good fits = (good, omega arith)
  parts-within seen all ts rest (Grammar.parameters {mid = mid} {params = v} none d ds) good fits =
      let one = part-within count _ _ (opened-within count IsVariables _ (counted count IsVariables variables-count)) _ ts mid v d fits in
      let further = parts-within _ all mid rest ds (record { params = one.0; pre = good.pre; changes = good.changes }) (omega (arith, one.1)) in
      (further.0, omega (arith, one.1, further.1))
  parts-within seen all ts rest (Grammar.precondition {mid = mid} {pre = v} none d ds) good fits =
      let one = part-within count _ _ (counted count (Conjunction IsLiftedAtom) (formula-count NamesAndVariables)) _ ts mid v d fits in
      let further = parts-within _ all mid rest ds (record { params = good.params; pre = one.0; changes = good.changes }) (omega (arith, one.1)) in
      (further.0, omega (arith, one.1, further.1))
  parts-within seen all ts rest (Grammar.effect {mid = mid} {changes = v} none d ds) good fits =
      let one = part-within count _ _ (counted count (Conjunction IsChange) effect-count) _ ts mid v d fits in
      let further = parts-within _ all mid rest ds (record { params = good.params; pre = good.pre; changes = one.0 }) (omega (arith, one.1)) in
      (further.0, omega (arith, one.1, further.1))

  action-within : Gives count IsAction (IsActionWithin count)
  action-within ts rest a (is_action {mid = mid} {own = own} {parts = all} d ds) fits =
      let first = name_word_is_item.shorter ts mid own d in
      let further = parts-within no_parts all mid rest ds (record { params = tt; pre = tt; changes = tt }) (omega (arith, first)) in
      let changes = none_or_within count all.changes further.0.changes in (
        record {
          params = none_or_within count all.params further.0.params;
          pre = none_or_within count all.pre further.0.pre;
          add = omega (arith, changes, added-count (or_empty all.changes));
          del = omega (arith, changes, deleted-count (or_empty all.changes));
        },
        omega (arith, first, further.1),
      )

  -- the sections of a domain that stand already have lists of at most so many items
  record AreDomainSectionsWithin (s : DomainSections) : Type 0 where
    types : IfSome s.types (IsListWithin count)
    constants : IfSome s.constants (IsListWithin count)
    predicates : IfSome s.predicates (IsListWithin count)
    each : All (IsActionWithin count) s.actions

  domain_sections-within : (seen all : DomainSections) (ts rest : List Lexeme) → IsDomainSections seen ts all rest → AreDomainSectionsWithin seen → length seen.actions + length ts ≤ count → AreDomainSectionsWithin all × (length all.actions ≤ count)
  domain_sections-within seen all ts rest Grammar.no_more_sections good fits = (good, omega (arith, fits))
  domain_sections-within seen all ts rest (Grammar.requirements {mid = mid} {words = v} none d ds) good fits =
      let one = section-within count _ _ (counted count (Many IsRequirement) (Many-count requirement_is_item)) _ ts mid v d (omega (arith, fits)) in
      domain_sections-within _ all mid rest ds (record { types = good.types; constants = good.constants; predicates = good.predicates; each = good.each }) (omega (arith, fits, one.1))
  domain_sections-within seen all ts rest (Grammar.types {mid = mid} {names = v} none d ds) good fits =
      let one = section-within count _ _ (counted count IsNames names-count) _ ts mid v d (omega (arith, fits)) in
      domain_sections-within _ all mid rest ds (record { types = one.0; constants = good.constants; predicates = good.predicates; each = good.each }) (omega (arith, fits, one.1))
  domain_sections-within seen all ts rest (Grammar.constants {mid = mid} {names = v} none d ds) good fits =
      let one = section-within count _ _ (counted count IsNames names-count) _ ts mid v d (omega (arith, fits)) in
      domain_sections-within _ all mid rest ds (record { types = good.types; constants = one.0; predicates = good.predicates; each = good.each }) (omega (arith, fits, one.1))
  domain_sections-within seen all ts rest (Grammar.predicates {mid = mid} {preds = v} none d ds) good fits =
      let one = section-within count _ _ (counted count (Many IsPredicate) (Many-count predicate_is_item)) _ ts mid v d (omega (arith, fits)) in
      domain_sections-within _ all mid rest ds (record { types = good.types; constants = good.constants; predicates = one.0; each = good.each }) (omega (arith, fits, one.1))
  domain_sections-within seen all ts rest (Grammar.action {mid = mid} {a = v} d ds) good fits =
      let one = section-within count _ _ action-within _ ts mid v d (omega (arith, fits)) in
      domain_sections-within _ all mid rest ds
      (record { types = good.types; constants = good.constants; predicates = good.predicates; each = All-push (IsActionWithin count) seen.actions v good.each one.0 })
      (omega (arith, fits, one.1, length-append seen.actions (v ∷ [])))

  opening-shorter : (kind : List ℕ) (ts rest : List Lexeme) (own : Word) → IsOpening kind ts own rest → length rest < length ts
  opening-shorter kind ts rest own is_opening = omega arith

  pub IsDomain-within : (ts rest : List Lexeme) (d : DomainText) → IsDomain ts d rest → length ts ≤ count → IsDomainWithin count d
  IsDomain-within ts rest d (is_domain {mid = mid} {own = own} {all = all} o ds) fits =
      let first = opening-shorter _ ts mid own o in
      let further = domain_sections-within no_domain_sections all mid rest ds (record { types = tt; constants = tt; predicates = tt; each = All-nil (IsActionWithin count) }) (omega (arith, first)) in
      record {
        types = none_or_within count all.types further.0.types;
        constants = none_or_within count all.constants further.0.constants;
        predicates = none_or_within count all.predicates further.0.predicates;
        actions = further.1;
        each = further.0.each;
      }

  -- the sections of a problem that stand already have lists of at most so many items
  record AreProblemSectionsWithin (s : ProblemSections) : Type 0 where
    objects : IfSome s.objects (IsListWithin count)
    init : IfSome s.init (IsListWithin count)
    goal : IfSome s.goal (IsListWithin count)

  -- a word alone
  name_word-within : Gives count IsNameWord (λ w. Unit {0})
  name_word-within ts rest w d fits = (tt, name_word_is_item.shorter ts rest w d)

  problem_sections-within : (seen all : ProblemSections) (ts rest : List Lexeme) → IsProblemSections seen ts all rest → AreProblemSectionsWithin seen → length ts ≤ count → AreProblemSectionsWithin all
  problem_sections-within seen all ts rest (Grammar.all_stand of goal) good fits = good
  problem_sections-within seen all ts rest (Grammar.of_domain {mid = mid} {of = v} none d ds) good fits =
      let one = section-within count _ _ (closed-within count IsNameWord _ name_word-within) _ ts mid v d fits in
      problem_sections-within _ all mid rest ds (record { objects = good.objects; init = good.init; goal = good.goal }) (omega (arith, fits, one.1))
  problem_sections-within seen all ts rest (Grammar.needs {mid = mid} {words = v} none d ds) good fits =
      let one = section-within count _ _ (counted count (Many IsRequirement) (Many-count requirement_is_item)) _ ts mid v d fits in
      problem_sections-within _ all mid rest ds (record { objects = good.objects; init = good.init; goal = good.goal }) (omega (arith, fits, one.1))
  problem_sections-within seen all ts rest (Grammar.objects {mid = mid} {names = v} none d ds) good fits =
      let one = section-within count _ _ (counted count IsNames names-count) _ ts mid v d fits in
      problem_sections-within _ all mid rest ds (record { objects = one.0; init = good.init; goal = good.goal }) (omega (arith, fits, one.1))
  problem_sections-within seen all ts rest (Grammar.init {mid = mid} {atoms = v} none d ds) good fits =
      let one = section-within count _ _ (counted count (Many IsGroundAtom) (Many-count (atom_is_item Names))) _ ts mid v d fits in
      problem_sections-within _ all mid rest ds (record { objects = good.objects; init = one.0; goal = good.goal }) (omega (arith, fits, one.1))
  problem_sections-within seen all ts rest (Grammar.goal {mid = mid} {atoms = v} none d ds) good fits =
      let one = section-within count _ _ (closed-within count _ _ (counted count (Conjunction IsGroundAtom) (formula-count Names))) _ ts mid v d fits in
      problem_sections-within _ all mid rest ds (record { objects = good.objects; init = good.init; goal = one.0 }) (omega (arith, fits, one.1))

  pub IsProblem-within : (ts rest : List Lexeme) (p : ProblemText) → IsProblem ts p rest → length ts ≤ count → IsProblemWithin count p
  IsProblem-within ts rest p (is_problem {mid = mid} {own = own} {all = all} o ds is) fits =
      let first = opening-shorter _ ts mid own o in
      let further = problem_sections-within no_problem_sections all mid rest ds (record { objects = tt; init = tt; goal = tt }) (omega (arith, first, fits)) in
      record { objects = none_or_within count all.objects further.objects; init = none_or_within count all.init further.init; goal = none_or_within count all.goal further.goal }
