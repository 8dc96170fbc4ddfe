-- The domains of the families, as texts.
use Rattle.std.specs.Prelude.{ℕ, List, [], ◌∷◌, map, None, codes}
use Rattle.pddl_forms.specs.declared.texts.Word.{Word}
use Rattle.pddl_forms.specs.declared.texts.Typed.{Typed}
use Rattle.pddl_forms.specs.declared.texts.AtomText.{AtomText}
use Rattle.pddl_parser.specs.declared.texts.PredText.{PredText}
use Rattle.pddl_parser.specs.declared.texts.ActionText.{ActionText}
use Rattle.pddl_parser.specs.declared.texts.DomainText.{DomainText}
use Rattle.family_gen.specs.declared.kinds.Family.{Family}
use Rattle.family_gen.specs.declared.kinds.Family.TheVariants.{Lights, Corridor}

-- a word that is made, not read, and so stands at no place of its own
abbrev pub word : List ℕ → Word
word text = record { text = text; at = 0 }

-- a word of a typed list that is given no type
abbrev pub untyped : List ℕ → Typed
untyped text = record { word = word text; of = None }

-- an atom: its predicate, and the names or variables that it is of
abbrev pub atom : List ℕ → List (List ℕ) → AtomText
atom head args = record { head = word head; args = map word args }

-- a predicate with its variables
abbrev pub predicate : List ℕ → List (List ℕ) → PredText
predicate head params = record { head = word head; params = map untyped params }

-- an action: its name, its variables, its precondition, and the atoms that it adds and deletes
abbrev pub action : List ℕ → List (List ℕ) → (pre added deleted : List AtomText) → ActionText
action name params pre added deleted = record { name = word name; params = map untyped params; pre = pre; add = added; del = deleted }

-- a domain without requirements, types and constants
abbrev pub domain : List ℕ → List PredText → List ActionText → DomainText
domain name predicates actions = record { name = word name; requirements = []; types = []; constants = []; predicates = predicates; actions = actions }

-- lamps, each of which can be lit
abbrev pub lights_domain : DomainText
lights_domain = domain (codes "lights")
    (predicate (codes "lit") (codes "?x" ∷ []) ∷ [])
    (action (codes "light") (codes "?x" ∷ []) [] (atom (codes "lit") (codes "?x" ∷ []) ∷ []) [] ∷ [])

-- cells, of which some are next to others; somebody who is at a cell can move to one that is next to it
abbrev pub corridor_domain : DomainText
corridor_domain = domain (codes "corridor")
    (predicate (codes "at") (codes "?c" ∷ []) ∷ predicate (codes "next") (codes "?x" ∷ codes "?y" ∷ []) ∷ [])
    (action (codes "move") (codes "?x" ∷ codes "?y" ∷ [])
    (atom (codes "at") (codes "?x" ∷ []) ∷ atom (codes "next") (codes "?x" ∷ codes "?y" ∷ []) ∷ [])
    (atom (codes "at") (codes "?y" ∷ []) ∷ [])
    (atom (codes "at") (codes "?x" ∷ []) ∷ []) ∷ [])

-- the domain of a family
abbrev pub domain_of : Family → DomainText
domain_of Lights = lights_domain
domain_of Corridor = corridor_domain
