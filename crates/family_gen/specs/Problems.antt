-- The instances of the families, as texts.
use Rattle.std.specs.Prelude.{ℕ, ◌+◌, ◌-◌, List, [], ◌∷◌, ◌++◌, map, codes, decimal}
use Rattle.std.specs.List.{range_with_len}
use Rattle.pddl_forms.specs.declared.texts.AtomText.{AtomText}
use Rattle.pddl_parser.specs.declared.texts.ProblemText.{ProblemText}
use Rattle.family_gen.specs.declared.kinds.Family.{Family}
use Rattle.family_gen.specs.declared.kinds.Family.TheVariants.{Lights, Corridor}
use Rattle.family_gen.specs.Domains.{word, untyped, atom}

-- the lamp of a number: o0, o1 and so on
abbrev pub lamp : ℕ → List ℕ
lamp number = codes "o" ++ decimal number

-- the cell of a number: c0, c1 and so on
abbrev pub cell : ℕ → List ℕ
cell number = codes "c" ++ decimal number

-- that the lamp of a number is lit
abbrev pub lit : ℕ → AtomText
lit number = atom (codes "lit") (lamp number ∷ [])

-- that somebody is at the cell of a number
abbrev pub at : ℕ → AtomText
at number = atom (codes "at") (cell number ∷ [])

-- that the cell after that of a number is next to it
abbrev pub next : ℕ → AtomText
next number = atom (codes "next") (cell number ∷ cell (number + 1) ∷ [])

-- an instance of a domain of the same name, over objects that are given no type
abbrev pub problem : List ℕ → List (List ℕ) → (init goal : List AtomText) → ProblemText
problem name objects init goal = record { name = word name; domain = word name; requirements = []; objects = map untyped objects; init = init; goal = goal }

-- so many lamps, of which none is lit; all are to be lit
abbrev pub lights_problem : ℕ → ProblemText
lights_problem size = problem (codes "lights") (map lamp (range_with_len 0 size)) [] (map lit (range_with_len 0 size))

-- so many cells in a row, each of which is next to the one before it; somebody is at the first cell, and is to be at the last
abbrev pub corridor_problem : ℕ → ProblemText
corridor_problem size = problem (codes "corridor") (map cell (range_with_len 0 size)) (at 0 ∷ map next (range_with_len 0 (size - 1))) (at (size - 1) ∷ [])

-- the instance of a family that has a size
abbrev pub problem_of : Family → ℕ → ProblemText
problem_of Lights size = lights_problem size
problem_of Corridor size = corridor_problem size
