-- The families of instances that are made from a number.
use Rattle.std.specs.Prelude.{ℕ, ◌+◌, ◌*◌, ◌%◌, List, [], ◌∷◌, map, codes}
use Rattle.std.specs.List.{range_with_len}
use Rattle.evaluations.specs.declared.evaluation.Evaluation.TheVariants.{MissingAtoms, Jumps}
use Rattle.search_bounds.specs.declared.bounds.Bounds.{Bounds}
use Rattle.pddl_printer.specs.Printing.{printed_domain, printed_problem}
use Rattle.family_gen.specs.declared.kinds.Family.{Family}
use Rattle.family_gen.specs.declared.kinds.Family.TheVariants.{Lights, Corridor}
use Rattle.family_gen.specs.declared.texts.FamilyTexts.{FamilyTexts}
use Rattle.family_gen.specs.Domains.{domain_of}
use Rattle.family_gen.specs.Problems.{problem_of}

-- the name of a family
abbrev pub family_name : Family → List ℕ
family_name Lights = codes "lights"
family_name Corridor = codes "corridor"

-- the sizes of so many instances: they go round so many sizes from the least one on, in strides from where the number stands
abbrev pub sizes_from : (least span stride count number : ℕ) → List ℕ
sizes_from least span stride count number = map (λ i. least + (number + stride * i) % span) (range_with_len 0 count)

-- the sizes of a family's instances: eight rows of 2 to 256 lamps, or three corridors of 3 to 10 cells
abbrev pub sizes_of : Family → ℕ → List ℕ
sizes_of Lights number = sizes_from 2 255 37 8 number
sizes_of Corridor number = sizes_from 3 8 5 3 number

-- how many pointers the programs of a family have
abbrev pub pointers_of : Family → ℕ
pointers_of Lights = 1
pointers_of Corridor = 2

-- how far a family is searched
abbrev pub bounds_of : Family → Bounds
bounds_of Lights = record { lines = 5; budget = 10000; run = 100000; order = MissingAtoms ∷ Jumps ∷ [] }
bounds_of Corridor = record { lines = 5; budget = 100000; run = 100000; order = MissingAtoms ∷ Jumps ∷ [] }

-- the texts of a family at a number: its domain and its instances, printed, and what they are searched with
abbrev pub family_texts : Family → ℕ → FamilyTexts
family_texts family number = record {
  domain = printed_domain (domain_of family);
  problems = map (λ size. printed_problem (problem_of family size)) (sizes_of family number);
  sizes = sizes_of family number;
  pointers = pointers_of family;
  bounds = bounds_of family;
}
