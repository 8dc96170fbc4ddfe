-- How texts of PDDL are printed: as a line of words with one space between two of them. Every section of a text is printed,
-- also where it is empty, and so is every part of an action.
use Rattle.std.specs.Prelude.{ℕ, Bool, true, false, List, [], ◌∷◌, ◌++◌, map, Option, Some, None, codes}
use Rattle.std.specs.List.{flat_map, list_any}
use Rattle.std.specs.Option.{is_some}
use Rattle.flag_rules.specs.Line.{line}
use Rattle.pddl_forms.specs.declared.texts.Word.{Word}
use Rattle.pddl_forms.specs.declared.texts.Typed.{Typed}
use Rattle.pddl_forms.specs.declared.texts.AtomText.{AtomText}
use Rattle.pddl_parser.specs.declared.texts.PredText.{PredText}
use Rattle.pddl_parser.specs.declared.texts.ActionText.{ActionText}
use Rattle.pddl_parser.specs.declared.texts.DomainText.{DomainText}
use Rattle.pddl_parser.specs.declared.texts.ProblemText.{ProblemText}

-- words, each with a space before it
abbrev pub spaced : List (List ℕ) → List ℕ
spaced [] = []
spaced (word ∷ words) = 32 ∷ word ++ spaced words

-- a line of words, with one space between two of them
abbrev pub line_of_words : List (List ℕ) → List ℕ
line_of_words [] = line []
line_of_words (word ∷ words) = line (word ++ spaced words)

-- words between parentheses
abbrev pub in_parentheses : List (List ℕ) → List (List ℕ)
in_parentheses words = codes "(" ∷ words ++ codes ")" ∷ []

-- a section, or another list that begins with a word of its own
abbrev pub section : List ℕ → List (List ℕ) → List (List ℕ)
section key words = in_parentheses (key ∷ words)

-- the texts of some words
abbrev pub texts_of : List Word → List (List ℕ)
texts_of words = map (λ (word : Word). word.text) words

-- the word has a type
abbrev pub has_type : Typed → Bool
has_type typed = is_some typed.of

-- what follows a word of a typed list: its own type, else `object` where a later word has a type
abbrev pub type_words : Option Word → Bool → List (List ℕ)
type_words (Some type) typed_later = codes "-" ∷ type.text ∷ []
type_words None true = codes "-" ∷ codes "object" ∷ []
type_words None false = []

-- a typed list
abbrev pub typed_words : List Typed → List (List ℕ)
typed_words [] = []
typed_words (typed ∷ later) = typed.word.text ∷ type_words typed.of (list_any has_type later) ++ typed_words later

-- a predicate with its variables
unfoldable pub predicate_words : PredText → List (List ℕ)
predicate_words predicate = in_parentheses (predicate.head.text ∷ typed_words predicate.params)

-- an atom
unfoldable pub atom_words : AtomText → List (List ℕ)
atom_words atom = in_parentheses (atom.head.text ∷ texts_of atom.args)

-- an atom that is deleted
unfoldable pub deleted_words : AtomText → List (List ℕ)
deleted_words atom = in_parentheses (codes "not" ∷ atom_words atom)

-- a conjunction of atoms
unfoldable pub formula_words : List AtomText → List (List ℕ)
formula_words atoms = in_parentheses (codes "and" ∷ flat_map atom_words atoms)

-- an effect: the atoms that it adds, and then those that it deletes
unfoldable pub effect_words : List AtomText → List AtomText → List (List ℕ)
effect_words added deleted = in_parentheses (codes "and" ∷ flat_map atom_words added ++ flat_map deleted_words deleted)

-- the parts of an action
unfoldable pub part_words : ActionText → List (List ℕ)
part_words action =
    (codes ":parameters" ∷ in_parentheses (typed_words action.params)) ++
    (codes ":precondition" ∷ formula_words action.pre) ++
    (codes ":effect" ∷ effect_words action.add action.del)

-- an action
unfoldable pub action_words : ActionText → List (List ℕ)
action_words action = section (codes ":action") (action.name.text ∷ part_words action)

-- the sections of a domain
unfoldable pub domain_section_words : DomainText → List (List ℕ)
domain_section_words domain =
    section (codes ":requirements") (texts_of domain.requirements) ++
    section (codes ":types") (typed_words domain.types) ++
    section (codes ":constants") (typed_words domain.constants) ++
    section (codes ":predicates") (flat_map predicate_words domain.predicates) ++
    flat_map action_words domain.actions

-- a domain
unfoldable pub domain_words : DomainText → List (List ℕ)
domain_words domain = in_parentheses (codes "define" ∷ section (codes "domain") (domain.name.text ∷ []) ++ domain_section_words domain)

-- the sections of a problem
unfoldable pub problem_section_words : ProblemText → List (List ℕ)
problem_section_words problem =
    section (codes ":domain") (problem.domain.text ∷ []) ++
    section (codes ":requirements") (texts_of problem.requirements) ++
    section (codes ":objects") (typed_words problem.objects) ++
    section (codes ":init") (flat_map atom_words problem.init) ++
    section (codes ":goal") (formula_words problem.goal)

-- a problem
unfoldable pub problem_words : ProblemText → List (List ℕ)
problem_words problem = in_parentheses (codes "define" ∷ section (codes "problem") (problem.name.text ∷ []) ++ problem_section_words problem)

-- the bytes of a domain
abbrev pub printed_domain : DomainText → List ℕ
printed_domain domain = line_of_words (domain_words domain)

-- the bytes of a problem
abbrev pub printed_problem : ProblemText → List ℕ
printed_problem problem = line_of_words (problem_words problem)
