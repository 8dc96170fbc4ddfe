-- The grammar of the texts, after PDDL 1.2, one relation for each rule, over the forms of `pddl_forms`. `Rule lexemes value
-- rest` says that the first lexemes are spelled by the rule and have this value, and that the others are the rest. A rule that
-- stands within a list carries the right parenthesis that closes the list.
--
--     domain    = ( define ( domain NAME ) dsection* )
--     dsection  = ( :requirements REQ* ) | ( :types names ) | ( :constants names ) | ( :predicates pred* ) | ( :action NAME part* )
--     problem   = ( define ( problem NAME ) psection* )
--     psection  = ( :domain NAME ) | ( :requirements REQ* ) | ( :objects names ) | ( :init gatom* ) | ( :goal gformula )
--     pred      = ( HEAD vars )                          REQ = :strips | :typing
--     part      = :parameters ( vars ) | :precondition formula | :effect effect
--
-- Sections come in any order, each at most once, `:action` any number of times; so do the parts of an action, each at most
-- once. A problem has `:domain` and `:goal`. Any other section, and any part, may be absent and is then empty.
use Rattle.std.specs.Prelude.{◌≡◌, ℕ, true, List, [], ◌∷◌, ◌++◌, Option, Some, None, codes}
use Rattle.pddl_forms.specs.declared.texts.Word.{Word}
use Rattle.pddl_forms.specs.declared.texts.Typed.{Typed}
use Rattle.pddl_forms.specs.declared.texts.AtomText.{AtomText}
use Rattle.pddl_parser.specs.declared.texts.PredText.{PredText}
use Rattle.pddl_parser.specs.declared.texts.ActionText.{ActionText}
use Rattle.pddl_parser.specs.declared.texts.DomainText.{DomainText}
use Rattle.pddl_parser.specs.declared.texts.ProblemText.{ProblemText}
use Rattle.pddl_forms.specs.declared.texts.AtomChange.{AtomChange}
pub use Rattle.pddl_parser.specs.Sections.{ActionParts, DomainSections, ProblemSections}
use Rattle.pddl_forms.specs.Forms.{is_one_of, word, IsNameWord, IsHead, Many, Closed, IsGroundAtom, IsLiftedAtom, Conjunction, IsChange, added, deleted, IsNames, IsVariables}
use Rattle.pddl_forms.specs.Offending.{requirement_keywords}
use Rattle.pddl_forms.specs.Lexemes.{Lexeme, left, right, name, keyword}

-- ( define ( KIND NAME )
pub data IsOpening (kind : List ℕ) : List Lexeme → Word → List Lexeme → Type 0 where
  is_opening : {a b c d e f : ℕ} {text : List ℕ} {rest : List Lexeme} → IsOpening kind (left a ∷ name (codes "define") b ∷ left c ∷ name kind d ∷ name text e ∷ right f ∷ rest) (word text e) rest

-- ( KEYWORD body, where the body carries the right parenthesis
pub data IsSection {A : Type 0} (key : List ℕ) (Body : List Lexeme → A → List Lexeme → Type 0) : List Lexeme → A → List Lexeme → Type 0 where
  is_section : {a b : ℕ} {ts rest : List Lexeme} {value : A} → Body ts value rest → IsSection key Body (left a ∷ keyword key b ∷ ts) value rest

-- KEYWORD body, a part of an action
pub data IsPart {A : Type 0} (key : List ℕ) (Body : List Lexeme → A → List Lexeme → Type 0) : List Lexeme → A → List Lexeme → Type 0 where
  is_part : {p : ℕ} {ts rest : List Lexeme} {value : A} → Body ts value rest → IsPart key Body (keyword key p ∷ ts) value rest

-- REQ
pub data IsRequirement : List Lexeme → Word → List Lexeme → Type 0 where
  is_requirement : {text : List ℕ} {at : ℕ} {rest : List Lexeme} → is_one_of requirement_keywords text ≡ true → IsRequirement (keyword text at ∷ rest) (word text at) rest

-- ( body, where the body carries the right parenthesis
pub data Opened {A : Type 0} (Body : List Lexeme → A → List Lexeme → Type 0) : List Lexeme → A → List Lexeme → Type 0 where
  opened : {p : ℕ} {ts rest : List Lexeme} {value : A} → Body ts value rest → Opened Body (left p ∷ ts) value rest

-- pred = ( HEAD vars )
pub data IsPredicate : List Lexeme → PredText → List Lexeme → Type 0 where
  is_predicate : {p : ℕ} {ts mid rest : List Lexeme} {head : Word} {params : List Typed} → IsHead ts head mid → IsVariables mid params rest → IsPredicate (left p ∷ ts) (record { head = head; params = params }) rest

-- nothing, where there is none
abbrev pub or_empty : {A : Type 0} → Option (List A) → List A
or_empty None = []
or_empty (Some items) = items

-- none of the parts
abbrev pub no_parts : ActionParts
no_parts = record { params = None; pre = None; changes = None }

-- part* ), each at most once, after those that stand already
pub data IsParts : ActionParts → List Lexeme → ActionParts → List Lexeme → Type 0 where
  no_more_parts : {p : ℕ} {rest : List Lexeme} {seen : ActionParts} → IsParts seen (right p ∷ rest) seen rest
  parameters : {seen all : ActionParts} {ts mid rest : List Lexeme} {params : List Typed} → seen.params ≡ None
      → IsPart (codes ":parameters") (Opened IsVariables) ts params mid → IsParts (record seen { params = Some params }) mid all rest → IsParts seen ts all rest
  precondition : {seen all : ActionParts} {ts mid rest : List Lexeme} {pre : List AtomText} → seen.pre ≡ None
      → IsPart (codes ":precondition") (Conjunction IsLiftedAtom) ts pre mid → IsParts (record seen { pre = Some pre }) mid all rest → IsParts seen ts all rest
  effect : {seen all : ActionParts} {ts mid rest : List Lexeme} {changes : List AtomChange} → seen.changes ≡ None
      → IsPart (codes ":effect") (Conjunction IsChange) ts changes mid → IsParts (record seen { changes = Some changes }) mid all rest → IsParts seen ts all rest

-- an action of these parts
abbrev pub action_of : Word → ActionParts → ActionText
action_of own parts =
    record { name = own; params = or_empty parts.params; pre = or_empty parts.pre; add = added (or_empty parts.changes); del = deleted (or_empty parts.changes) }

-- NAME part* )
pub data IsAction : List Lexeme → ActionText → List Lexeme → Type 0 where
  is_action : {ts mid rest : List Lexeme} {own : Word} {parts : ActionParts} → IsNameWord ts own mid → IsParts no_parts mid parts rest → IsAction ts (action_of own parts) rest

-- none of the sections
abbrev pub no_domain_sections : DomainSections
no_domain_sections = record { requirements = None; types = None; constants = None; predicates = None; actions = [] }

-- dsection* ), each at most once but for actions, after those that stand already
pub data IsDomainSections : DomainSections → List Lexeme → DomainSections → List Lexeme → Type 0 where
  no_more_sections : {p : ℕ} {rest : List Lexeme} {seen : DomainSections} → IsDomainSections seen (right p ∷ rest) seen rest
  requirements : {seen all : DomainSections} {ts mid rest : List Lexeme} {words : List Word} → seen.requirements ≡ None
      → IsSection (codes ":requirements") (Many IsRequirement) ts words mid → IsDomainSections (record seen { requirements = Some words }) mid all rest → IsDomainSections seen ts all rest
  types : {seen all : DomainSections} {ts mid rest : List Lexeme} {names : List Typed} → seen.types ≡ None
      → IsSection (codes ":types") IsNames ts names mid → IsDomainSections (record seen { types = Some names }) mid all rest → IsDomainSections seen ts all rest
  constants : {seen all : DomainSections} {ts mid rest : List Lexeme} {names : List Typed} → seen.constants ≡ None
      → IsSection (codes ":constants") IsNames ts names mid → IsDomainSections (record seen { constants = Some names }) mid all rest → IsDomainSections seen ts all rest
  predicates : {seen all : DomainSections} {ts mid rest : List Lexeme} {preds : List PredText} → seen.predicates ≡ None
      → IsSection (codes ":predicates") (Many IsPredicate) ts preds mid → IsDomainSections (record seen { predicates = Some preds }) mid all rest → IsDomainSections seen ts all rest
  action : {seen all : DomainSections} {ts mid rest : List Lexeme} {a : ActionText}
      → IsSection (codes ":action") IsAction ts a mid → IsDomainSections (record seen { actions = seen.actions ++ a ∷ [] }) mid all rest → IsDomainSections seen ts all rest

-- a domain of these sections
abbrev pub domain_of : Word → DomainSections → DomainText
domain_of own s =
    record { name = own; requirements = or_empty s.requirements; types = or_empty s.types; constants = or_empty s.constants; predicates = or_empty s.predicates; actions = s.actions }

-- domain = ( define ( domain NAME ) dsection* )
pub data IsDomain : List Lexeme → DomainText → List Lexeme → Type 0 where
  is_domain : {ts mid rest : List Lexeme} {own : Word} {all : DomainSections}
      → IsOpening (codes "domain") ts own mid → IsDomainSections no_domain_sections mid all rest → IsDomain ts (domain_of own all) rest

-- none of the sections
abbrev pub no_problem_sections : ProblemSections
no_problem_sections = record { domain = None; requirements = None; objects = None; init = None; goal = None }

-- psection* ), each at most once, after those that stand already; at the end `:domain` and `:goal` stand
pub data IsProblemSections : ProblemSections → List Lexeme → ProblemSections → List Lexeme → Type 0 where
  all_stand : {p : ℕ} {rest : List Lexeme} {seen : ProblemSections} {of : Word} {goal : List AtomText} → seen.domain ≡ Some of → seen.goal ≡ Some goal → IsProblemSections seen (right p ∷ rest) seen rest
  of_domain : {seen all : ProblemSections} {ts mid rest : List Lexeme} {of : Word} → seen.domain ≡ None
      → IsSection (codes ":domain") (Closed IsNameWord) ts of mid → IsProblemSections (record seen { domain = Some of }) mid all rest → IsProblemSections seen ts all rest
  needs : {seen all : ProblemSections} {ts mid rest : List Lexeme} {words : List Word} → seen.requirements ≡ None
      → IsSection (codes ":requirements") (Many IsRequirement) ts words mid → IsProblemSections (record seen { requirements = Some words }) mid all rest → IsProblemSections seen ts all rest
  objects : {seen all : ProblemSections} {ts mid rest : List Lexeme} {names : List Typed} → seen.objects ≡ None
      → IsSection (codes ":objects") IsNames ts names mid → IsProblemSections (record seen { objects = Some names }) mid all rest → IsProblemSections seen ts all rest
  init : {seen all : ProblemSections} {ts mid rest : List Lexeme} {atoms : List AtomText} → seen.init ≡ None
      → IsSection (codes ":init") (Many IsGroundAtom) ts atoms mid → IsProblemSections (record seen { init = Some atoms }) mid all rest → IsProblemSections seen ts all rest
  goal : {seen all : ProblemSections} {ts mid rest : List Lexeme} {atoms : List AtomText} → seen.goal ≡ None
      → IsSection (codes ":goal") (Closed (Conjunction IsGroundAtom)) ts atoms mid → IsProblemSections (record seen { goal = Some atoms }) mid all rest → IsProblemSections seen ts all rest

-- problem = ( define ( problem NAME ) psection* )
pub data IsProblem : List Lexeme → ProblemText → List Lexeme → Type 0 where
  is_problem : {ts mid rest : List Lexeme} {own of : Word} {all : ProblemSections}
      → IsOpening (codes "problem") ts own mid → IsProblemSections no_problem_sections mid all rest → all.domain ≡ Some of
      → IsProblem ts (record { name = own; domain = of; requirements = or_empty all.requirements; objects = or_empty all.objects; init = or_empty all.init; goal = or_empty all.goal }) rest
