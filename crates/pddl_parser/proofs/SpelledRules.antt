-- What each rule of the grammar gives is spelled as it has to be, where the lexemes are those of tokens.
use Rattle.std.proofs.Common.{◌≡◌, ℕ, Bool, true, false, ◌||◌, codes, bytes_eq, List, [], ◌∷◌, map, Option, Some, None, IfSome, All, inl, inr, refl, subst}
use Rattle.std.proofs.lemmas.Slice.Eq.{bytes_eq-Decides}
use Rattle.std.proofs.lemmas.List.Elements.{All-nil, All-cons, All-head, All-tail, All-append, All-push, All-map, All-weaker}
use Rattle.flag_rules.specs.Name.{IsName}
use Rattle.pddl_forms.specs.declared.texts.Word.{Word}
use Rattle.pddl_parser.specs.declared.texts.DomainText.{DomainText}
use Rattle.pddl_parser.specs.declared.texts.ProblemText.{ProblemText}
use Rattle.pddl_forms.specs.declared.texts.AtomChange.{AtomChange}
use Rattle.pddl_forms.specs.declared.texts.AtomChange.TheVariants.{Added, Deleted}
use Rattle.pddl_forms.specs.Lexemes.{Lexeme, left, right, name, dash, gap}
use Rattle.pddl_parser.specs.Grammar
use Rattle.pddl_forms.specs.Forms.{word, typed, IsNameWord, is_name_word, IsHead, is_head, IsTerm, is_constant, is_argument, IsVariableWord, is_variable_word}
use Rattle.pddl_parser.specs.Grammar.{or_empty, IsRequirement, is_requirement}
use Rattle.pddl_forms.specs.Forms.{Many, close, more, Closed, closed, Group, last, with_next, TypedList, untyped_words, typed_group, open_group}
use Rattle.pddl_parser.specs.Grammar.{Opened, opened, IsSection, is_section, IsPart, is_part, IsOpening, is_opening}
use Rattle.pddl_forms.specs.Forms.{IsAtom, is_atom, IsGroundAtom, IsLiftedAtom, Conjunction, nothing, all_of, just, Conjuncts, finished, also, IsChange, is_added, is_deleted, added, deleted, IsNames, IsVariables}
use Rattle.pddl_parser.specs.Grammar.{IsPredicate, is_predicate}
use Rattle.pddl_parser.specs.Grammar.{ActionParts, no_parts, IsParts, IsAction, is_action, DomainSections, no_domain_sections, IsDomainSections, IsDomain, is_domain, ProblemSections, no_problem_sections, IsProblemSections, IsProblem, is_problem}
use Rattle.pddl_parser.specs.Spelled.{IsVariable, IsTermText, IsRequirementText, IsTypedSpelled, IsHeadText, IsPredicateSpelled, IsAtomSpelled, IsActionSpelled, IsDomainSpelled, IsProblemSpelled}
use Rattle.pddl_parser.proofs.Spelling.{AreSpelled}

-- what a rule gives is spelled so, and the lexemes that are left are spelled
abbrev pub GivesSpelled : {A : Type 0} → (List Lexeme → A → List Lexeme → Type 0) → (A → Type 0) → Type 0
GivesSpelled {A} Rule Good = (ts rest : List Lexeme) (value : A) → Rule ts value rest → AreSpelled ts → Good value × AreSpelled rest

-- a word whose text is so
abbrev IsWordWith : (List ℕ → Type 0) → Word → Type 0
IsWordWith IsText w = IsText w.text

-- one word
name_word-spelled : GivesSpelled IsNameWord (IsWordWith IsName)
name_word-spelled ts rest w is_name_word spelled = spelled

variable_word-spelled : GivesSpelled IsVariableWord (IsWordWith IsVariable)
variable_word-spelled ts rest w is_variable_word spelled = spelled

head-spelled : GivesSpelled IsHead (IsWordWith IsHeadText)
head-spelled ts rest w (is_head free) spelled = (record { own = spelled.0; free = free }, spelled.1)

term-spelled : GivesSpelled IsTerm (IsWordWith IsTermText)
term-spelled ts rest w is_constant spelled = (inl spelled.0, spelled.1)
term-spelled ts rest w is_argument spelled = (inr spelled.0, spelled.1)

requirement-spelled : GivesSpelled IsRequirement (IsWordWith IsRequirementText)
requirement-spelled ts rest w (is_requirement {text = text} is) spelled = (spelled_as (bytes_eq text (codes ":strips")) (bytes_eq text (codes ":typing")) refl refl is, spelled.1)
  where
    spelled_as : (strips typing : Bool) → bytes_eq text (codes ":strips") ≡ strips → bytes_eq text (codes ":typing") ≡ typing → (strips || (typing || false)) ≡ true → IsRequirementText text
    spelled_as true typing is_strips is_typing one = inl ((bytes_eq-Decides text (codes ":strips")).0 is_strips)
    spelled_as false true is_strips is_typing one = inr ((bytes_eq-Decides text (codes ":typing")).0 is_typing)
    spelled_as false false is_strips is_typing one = absurd (cc)

opening-spelled : (kind : List ℕ) → GivesSpelled (IsOpening kind) (IsWordWith IsName)
opening-spelled kind ts rest own is_opening spelled = let after = spelled.1.1.1.1 in (after.0, after.1.1)

-- a body between marks and keywords
module _ {A : Type 0} (Body : List Lexeme → A → List Lexeme → Type 0) (Good : A → Type 0) (each : GivesSpelled Body Good) where
  section-spelled : (key : List ℕ) → GivesSpelled (IsSection key Body) Good
  section-spelled key ts rest value (is_section {ts = after} d) spelled = each after rest value d spelled.1.1

  part-spelled : (key : List ℕ) → GivesSpelled (IsPart key Body) Good
  part-spelled key ts rest value (is_part {ts = after} d) spelled = each after rest value d spelled.1

  opened-spelled : GivesSpelled (Opened Body) Good
  opened-spelled ts rest value (opened {ts = after} d) spelled = each after rest value d spelled.1

  closed-spelled : GivesSpelled (Closed Body) Good
  closed-spelled ts rest value (closed {p = p} d) spelled = let one = each ts (right p ∷ rest) value d spelled in (one.0, one.1.1)

-- lists of items, and conjunctions
module _ {A : Type 0} (Item : List Lexeme → A → List Lexeme → Type 0) (Good : A → Type 0) (each : GivesSpelled Item Good) where
  many-spelled : GivesSpelled (Many Item) (All Good)
  many-spelled ts rest items close spelled = (All-nil Good, spelled.1)
  many-spelled ts rest items (more {mid = mid} {item = first} {items = others} d ds) spelled =
      let one = each ts mid first d spelled in
      let all = many-spelled mid rest others ds one.1 in
      (All-cons Good first others one.0 all.0, all.1)

  mutual
    conjunction-spelled : GivesSpelled (Conjunction Item) (All Good)
    conjunction-spelled ts rest items nothing spelled = (All-nil Good, spelled.1.1)
    conjunction-spelled ts rest items (all_of {ts = after} d) spelled = conjuncts-spelled after rest items d spelled.1.1
    conjunction-spelled ts rest items (just {item = item} d) spelled =
        let one = each ts rest item d spelled in
        (All-cons Good item [] one.0 (All-nil Good), one.1)

    conjuncts-spelled : GivesSpelled (Conjuncts Item) (All Good)
    conjuncts-spelled ts rest items finished spelled = (All-nil Good, spelled.1)
    conjuncts-spelled ts rest items (also {mid = mid} {some = some} {others = others} d ds) spelled =
        let one = conjunction-spelled ts mid some d spelled in
        let all = conjuncts-spelled mid rest others ds one.1 in
        (All-append Good some others one.0 all.0, all.1)

-- typed lists
module _ (Item : List Lexeme → Word → List Lexeme → Type 0) (IsWord : List ℕ → Type 0) (each : GivesSpelled Item (IsWordWith IsWord)) where
  group-spelled : GivesSpelled (Group Item) (All (IsWordWith IsWord))
  group-spelled ts rest ws (last {p = p} {w = w} d) spelled =
      let one = each ts (dash p ∷ rest) w d spelled in
      (All-cons (IsWordWith IsWord) w [] one.0 (All-nil (IsWordWith IsWord)), one.1.1)
  group-spelled ts rest ws (with_next {mid = mid} {w = w} {ws = others} d ds) spelled =
      let one = each ts mid w d spelled in
      let all = group-spelled mid rest others ds one.1 in
      (All-cons (IsWordWith IsWord) w others one.0 all.0, all.1)

  -- words that are given one type, or none
  given : (of : Option Word) (ws : List Word) → IfSome of (IsWordWith IsName) → All (IsWordWith IsWord) ws → All (IsTypedSpelled IsWord) (map (typed of) ws)
  given of ws named all = All-map (IsTypedSpelled IsWord) (typed of) ws (All-weaker (IsWordWith IsWord) (λ w. IsTypedSpelled IsWord (typed of w)) (λ w own. record { own = own; of = named }) ws all)

  typed_list-spelled : GivesSpelled (TypedList Item) (All (IsTypedSpelled IsWord))
  typed_list-spelled ts rest items (untyped_words {ws = ws} d) spelled =
      let all = many-spelled Item (IsWordWith IsWord) each ts rest ws d spelled in
      (given None ws tt all.0, all.1)
  typed_list-spelled ts rest items (typed_group {q = q} {text = text} {mid = mid} {ws = ws} {others = others} d ds) spelled =
      let first = group-spelled ts (name text q ∷ mid) ws d spelled in
      let all = typed_list-spelled mid rest others ds first.1.1 in
      (All-append (IsTypedSpelled IsWord) _ others (given (Some (word text q)) ws first.1.0 first.0) all.0, all.1)
  typed_list-spelled ts rest items (open_group {p = p} {q = q} {mid = mid} {ws = ws} d ds) spelled =
      let first = group-spelled ts (left p ∷ gap q ∷ mid) ws d spelled in
      absurd first.1.1.0

names-spelled : GivesSpelled IsNames (All (IsTypedSpelled IsName))
names-spelled = typed_list-spelled IsNameWord IsName name_word-spelled

variables-spelled : GivesSpelled IsVariables (All (IsTypedSpelled IsVariable))
variables-spelled = typed_list-spelled IsVariableWord IsVariable variable_word-spelled

-- atoms, predicates and changes
atom-spelled : (Term : List Lexeme → Word → List Lexeme → Type 0) (IsArgument : List ℕ → Type 0) → GivesSpelled Term (IsWordWith IsArgument) → GivesSpelled (IsAtom Term) (IsAtomSpelled IsArgument)
atom-spelled Term IsArgument each ts rest a (is_atom {ts = after} {mid = mid} {head = h} {args = args} d ds) spelled =
    let one = head-spelled after mid h d spelled.1 in
    let all = many-spelled Term (IsWordWith IsArgument) each mid rest args ds one.1 in
    (record { head = one.0; args = all.0 }, all.1)

ground_atom-spelled : GivesSpelled IsGroundAtom (IsAtomSpelled IsName)
ground_atom-spelled = atom-spelled IsNameWord IsName name_word-spelled

lifted_atom-spelled : GivesSpelled IsLiftedAtom (IsAtomSpelled IsTermText)
lifted_atom-spelled = atom-spelled IsTerm IsTermText term-spelled

predicate-spelled : GivesSpelled IsPredicate IsPredicateSpelled
predicate-spelled ts rest p (is_predicate {ts = after} {mid = mid} {head = h} {params = params} d ds) spelled =
    let one = head-spelled after mid h d spelled.1 in
    let all = variables-spelled mid rest params ds one.1 in
    (record { head = one.0; params = all.0 }, all.1)

-- the atom of a change is spelled
abbrev IsChangeSpelled : AtomChange → Type 0
IsChangeSpelled (Added a) = IsAtomSpelled IsTermText a
IsChangeSpelled (Deleted a) = IsAtomSpelled IsTermText a

change-spelled : GivesSpelled IsChange IsChangeSpelled
change-spelled ts rest change (is_added {atom = a} d) spelled = lifted_atom-spelled ts rest a d spelled
change-spelled ts rest change (is_deleted {ts = after} {atom = a} d) spelled = closed-spelled IsLiftedAtom (IsAtomSpelled IsTermText) lifted_atom-spelled after rest a d spelled.1.1

added-spelled : (changes : List AtomChange) → All IsChangeSpelled changes → All (IsAtomSpelled IsTermText) (added changes)
added-spelled [] all = All-nil (IsAtomSpelled IsTermText)
added-spelled (Added a ∷ changes) all = All-cons (IsAtomSpelled IsTermText) a _ (All-head IsChangeSpelled _ changes all) (added-spelled changes (All-tail IsChangeSpelled _ changes all))
added-spelled (Deleted a ∷ changes) all = added-spelled changes (All-tail IsChangeSpelled _ changes all)

deleted-spelled : (changes : List AtomChange) → All IsChangeSpelled changes → All (IsAtomSpelled IsTermText) (deleted changes)
deleted-spelled [] all = All-nil (IsAtomSpelled IsTermText)
deleted-spelled (Added a ∷ changes) all = deleted-spelled changes (All-tail IsChangeSpelled _ changes all)
deleted-spelled (Deleted a ∷ changes) all = All-cons (IsAtomSpelled IsTermText) a _ (All-head IsChangeSpelled _ changes all) (deleted-spelled changes (All-tail IsChangeSpelled _ changes all))

-- the items of what may be absent
all_or_none : {A : Type 0} (Good : A → Type 0) (o : Option (List A)) → IfSome o (All Good) → All Good (or_empty o)
all_or_none Good None all = All-nil Good
all_or_none Good (Some items) all = all

-- the parts of an action that stand already are spelled
record ArePartsSpelled (parts : ActionParts) : Type 0 where
  params : IfSome parts.params (All (IsTypedSpelled IsVariable))
  pre : IfSome parts.pre (All (IsAtomSpelled IsTermText))
  changes : IfSome parts.changes (All IsChangeSpelled)

parts-spelled : (seen all : ActionParts) (ts rest : List Lexeme) → IsParts seen ts all rest → ArePartsSpelled seen → AreSpelled ts → ArePartsSpelled all × AreSpelled rest
parts-spelled seen all ts rest Grammar.no_more_parts good spelled = (good, spelled.1)
parts-spelled seen all ts rest (Grammar.parameters {mid = mid} {params = v} none d ds) good spelled =
    let one = part-spelled _ _ (opened-spelled IsVariables _ variables-spelled) _ ts mid v d spelled in
    parts-spelled _ all mid rest ds (record { params = one.0; pre = good.pre; changes = good.changes }) one.1
parts-spelled seen all ts rest (Grammar.precondition {mid = mid} {pre = v} none d ds) good spelled =
    let one = part-spelled _ _ (conjunction-spelled IsLiftedAtom _ lifted_atom-spelled) _ ts mid v d spelled in
    parts-spelled _ all mid rest ds (record { params = good.params; pre = one.0; changes = good.changes }) one.1
parts-spelled seen all ts rest (Grammar.effect {mid = mid} {changes = v} none d ds) good spelled =
    let one = part-spelled _ _ (conjunction-spelled IsChange _ change-spelled) _ ts mid v d spelled in
    parts-spelled _ all mid rest ds (record { params = good.params; pre = good.pre; changes = one.0 }) one.1

action-spelled : GivesSpelled IsAction IsActionSpelled
action-spelled ts rest a (is_action {mid = mid} {own = own} {parts = all} d ds) spelled =
    let first = name_word-spelled ts mid own d spelled in
    let last = parts-spelled no_parts all mid rest ds (record { params = tt; pre = tt; changes = tt }) first.1 in
    let changes = all_or_none IsChangeSpelled all.changes last.0.changes in (
      record {
        own = first.0;
        params = all_or_none (IsTypedSpelled IsVariable) all.params last.0.params;
        pre = all_or_none (IsAtomSpelled IsTermText) all.pre last.0.pre;
        add = added-spelled (or_empty all.changes) changes;
        del = deleted-spelled (or_empty all.changes) changes;
      },
      last.1,
    )

-- the sections of a domain that stand already are spelled
record AreDomainSectionsSpelled (s : DomainSections) : Type 0 where
  requirements : IfSome s.requirements (All (IsWordWith IsRequirementText))
  types : IfSome s.types (All (IsTypedSpelled IsName))
  constants : IfSome s.constants (All (IsTypedSpelled IsName))
  predicates : IfSome s.predicates (All IsPredicateSpelled)
  actions : All IsActionSpelled s.actions

domain_sections-spelled : (seen all : DomainSections) (ts rest : List Lexeme) → IsDomainSections seen ts all rest → AreDomainSectionsSpelled seen → AreSpelled ts → AreDomainSectionsSpelled all
domain_sections-spelled seen all ts rest Grammar.no_more_sections good spelled = good
domain_sections-spelled seen all ts rest (Grammar.requirements {mid = mid} {words = v} none d ds) good spelled =
    let one = section-spelled _ _ (many-spelled IsRequirement _ requirement-spelled) _ ts mid v d spelled in
    domain_sections-spelled _ all mid rest ds (record { requirements = one.0; types = good.types; constants = good.constants; predicates = good.predicates; actions = good.actions }) one.1
domain_sections-spelled seen all ts rest (Grammar.types {mid = mid} {names = v} none d ds) good spelled =
    let one = section-spelled IsNames _ names-spelled _ ts mid v d spelled in
    domain_sections-spelled _ all mid rest ds (record { requirements = good.requirements; types = one.0; constants = good.constants; predicates = good.predicates; actions = good.actions }) one.1
domain_sections-spelled seen all ts rest (Grammar.constants {mid = mid} {names = v} none d ds) good spelled =
    let one = section-spelled IsNames _ names-spelled _ ts mid v d spelled in
    domain_sections-spelled _ all mid rest ds (record { requirements = good.requirements; types = good.types; constants = one.0; predicates = good.predicates; actions = good.actions }) one.1
domain_sections-spelled seen all ts rest (Grammar.predicates {mid = mid} {preds = v} none d ds) good spelled =
    let one = section-spelled _ _ (many-spelled IsPredicate _ predicate-spelled) _ ts mid v d spelled in
    domain_sections-spelled _ all mid rest ds (record { requirements = good.requirements; types = good.types; constants = good.constants; predicates = one.0; actions = good.actions }) one.1
domain_sections-spelled seen all ts rest (Grammar.action {mid = mid} {a = v} d ds) good spelled =
    let one = section-spelled IsAction _ action-spelled _ ts mid v d spelled in
    domain_sections-spelled _ all mid rest ds
    (record { requirements = good.requirements; types = good.types; constants = good.constants; predicates = good.predicates; actions = All-push IsActionSpelled seen.actions v good.actions one.0 }) one.1

-- the words of a domain are spelled as names and variables
pub IsDomain-spelled : (ts rest : List Lexeme) (d : DomainText) → IsDomain ts d rest → AreSpelled ts → IsDomainSpelled d
IsDomain-spelled ts rest d (is_domain {mid = mid} {own = own} {all = all} o ds) spelled =
    let first = opening-spelled _ ts mid own o spelled in
    let last = domain_sections-spelled no_domain_sections all mid rest ds (record { requirements = tt; types = tt; constants = tt; predicates = tt; actions = All-nil IsActionSpelled }) first.1 in
    record {
      own = first.0;
      requirements = all_or_none (IsWordWith IsRequirementText) all.requirements last.requirements;
      types = all_or_none (IsTypedSpelled IsName) all.types last.types;
      constants = all_or_none (IsTypedSpelled IsName) all.constants last.constants;
      predicates = all_or_none IsPredicateSpelled all.predicates last.predicates;
      actions = last.actions;
    }

-- the sections of a problem that stand already are spelled
record AreProblemSectionsSpelled (s : ProblemSections) : Type 0 where
  domain : IfSome s.domain (IsWordWith IsName)
  requirements : IfSome s.requirements (All (IsWordWith IsRequirementText))
  objects : IfSome s.objects (All (IsTypedSpelled IsName))
  init : IfSome s.init (All (IsAtomSpelled IsName))
  goal : IfSome s.goal (All (IsAtomSpelled IsName))

problem_sections-spelled : (seen all : ProblemSections) (ts rest : List Lexeme) → IsProblemSections seen ts all rest → AreProblemSectionsSpelled seen → AreSpelled ts → AreProblemSectionsSpelled all
problem_sections-spelled seen all ts rest (Grammar.all_stand of goal) good spelled = good
problem_sections-spelled seen all ts rest (Grammar.of_domain {mid = mid} {of = v} none d ds) good spelled =
    let one = section-spelled _ _ (closed-spelled IsNameWord _ name_word-spelled) _ ts mid v d spelled in
    problem_sections-spelled _ all mid rest ds (record { domain = one.0; requirements = good.requirements; objects = good.objects; init = good.init; goal = good.goal }) one.1
problem_sections-spelled seen all ts rest (Grammar.needs {mid = mid} {words = v} none d ds) good spelled =
    let one = section-spelled _ _ (many-spelled IsRequirement _ requirement-spelled) _ ts mid v d spelled in
    problem_sections-spelled _ all mid rest ds (record { domain = good.domain; requirements = one.0; objects = good.objects; init = good.init; goal = good.goal }) one.1
problem_sections-spelled seen all ts rest (Grammar.objects {mid = mid} {names = v} none d ds) good spelled =
    let one = section-spelled IsNames _ names-spelled _ ts mid v d spelled in
    problem_sections-spelled _ all mid rest ds (record { domain = good.domain; requirements = good.requirements; objects = one.0; init = good.init; goal = good.goal }) one.1
problem_sections-spelled seen all ts rest (Grammar.init {mid = mid} {atoms = v} none d ds) good spelled =
    let one = section-spelled _ _ (many-spelled IsGroundAtom _ ground_atom-spelled) _ ts mid v d spelled in
    problem_sections-spelled _ all mid rest ds (record { domain = good.domain; requirements = good.requirements; objects = good.objects; init = one.0; goal = good.goal }) one.1
problem_sections-spelled seen all ts rest (Grammar.goal {mid = mid} {atoms = v} none d ds) good spelled =
    let one = section-spelled _ _ (closed-spelled _ _ (conjunction-spelled IsGroundAtom _ ground_atom-spelled)) _ ts mid v d spelled in
    problem_sections-spelled _ all mid rest ds (record { domain = good.domain; requirements = good.requirements; objects = good.objects; init = good.init; goal = one.0 }) one.1

-- the words of a problem are spelled as names
pub IsProblem-spelled : (ts rest : List Lexeme) (p : ProblemText) → IsProblem ts p rest → AreSpelled ts → IsProblemSpelled p
IsProblem-spelled ts rest p (is_problem {mid = mid} {own = own} {of = of} {all = all} o ds is) spelled =
    let first = opening-spelled _ ts mid own o spelled in
    let last = problem_sections-spelled no_problem_sections all mid rest ds (record { domain = tt; requirements = tt; objects = tt; init = tt; goal = tt }) first.1 in
    record {
      own = first.0;
      domain = subst (λ o. IfSome o (IsWordWith IsName)) is last.domain;
      requirements = all_or_none (IsWordWith IsRequirementText) all.requirements last.requirements;
      objects = all_or_none (IsTypedSpelled IsName) all.objects last.objects;
      init = all_or_none (IsAtomSpelled IsName) all.init last.init;
      goal = all_or_none (IsAtomSpelled IsName) all.goal last.goal;
    }
