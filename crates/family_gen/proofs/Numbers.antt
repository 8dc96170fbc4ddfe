-- How many instances a family has, of which sizes, and how many ground atoms they have.
use Rattle.std.proofs.Common.{◌≡◌, ℕ, ◌+◌, ◌*◌, ◌%◌, ◌^◌, ◌<◌, ◌≤◌, [], ◌∷◌, ◌++◌, length, sum_by, sym, ◌∙◌, subst, arith}
use Rattle.std.proofs.Math.Nat.{pow-le-pow_left}
use Rattle.std.specs.Prelude.{All}
use Rattle.std.proofs.lemmas.List.{length-map}
use Rattle.ground_state.specs.declared.parts.TheConstants.{MAX_ATOMS}
use Rattle.ground_state.specs.Ground.{atoms_needed}
use Rattle.pddl_task.specs.Types.{type_names}
use Rattle.pddl_task.specs.Parts.{object_of}
use Rattle.program_model.specs.declared.machine.TheConstants.{MAX_INSTANCES}
use Rattle.family_gen.specs.declared.kinds.Family.{Family}
use Rattle.family_gen.specs.declared.kinds.Family.TheVariants.{Lights, Corridor}
use Rattle.family_gen.specs.Domains.{domain_of}
use Rattle.family_gen.specs.Problems.{problem_of}
use Rattle.family_gen.specs.Families.{sizes_of}
use Rattle.family_gen.specs.Parts.{family_task, family_instance}
use Rattle.family_gen.proofs.Lists.{all_numbered}
use Rattle.family_gen.proofs.Reading.{length_objects}

pub some_sizes : (family : Family) (number : ℕ) → 0 < length (sizes_of family number)
some_sizes Lights number = omega arith
some_sizes Corridor number = omega arith

pub few_sizes : (family : Family) (number : ℕ) → length (sizes_of family number) ≤ MAX_INSTANCES
few_sizes Lights number = omega arith
few_sizes Corridor number = omega arith

pub sizes_within : (family : Family) (number : ℕ) → All (λ size. (1 < size) × (size ≤ 256)) (sizes_of family number)
sizes_within Lights number = all_numbered (λ size. (1 < size) × (size ≤ 256)) (λ i. 2 + (number + 37 * i) % 255) 8 (λ k less. (omega arith, omega arith))
sizes_within Corridor number = all_numbered (λ size. (1 < size) × (size ≤ 256)) (λ i. 3 + (number + 5 * i) % 8) 3 (λ k less. (omega arith, omega arith))

-- no more atoms than there may be
abbrev IsSmall : Family → ℕ → Type 0
IsSmall family size = atoms_needed (family_task family) (family_instance family size) ≤ MAX_ATOMS

-- an instance has as many objects as its size says
instance_size : (family : Family) (size : ℕ) → length (family_instance family size).objects ≡ size
instance_size family size =
    length-map ((domain_of family).constants ++ (problem_of family size).objects) (object_of (type_names (domain_of family).types)) ∙ length_objects family size

rows_are_small : (n : ℕ) → n ≤ 256 → sum_by (λ arity. n ^ arity) (1 ∷ []) ≤ MAX_ATOMS
rows_are_small n few = omega (arith, pow-le-pow_left few 1)

corridors_are_small : (n : ℕ) → n ≤ 10 → sum_by (λ arity. n ^ arity) (1 ∷ 2 ∷ []) ≤ MAX_ATOMS
corridors_are_small n few = omega (arith, pow-le-pow_left few 1, pow-le-pow_left few 2)

row_is_small : (size : ℕ) → size ≤ 256 → IsSmall Lights size
row_is_small size few = subst (λ n. sum_by (λ arity. n ^ arity) (1 ∷ []) ≤ MAX_ATOMS) (sym (instance_size Lights size)) (rows_are_small size few)

corridor_is_small : (size : ℕ) → size ≤ 10 → IsSmall Corridor size
corridor_is_small size few = subst (λ n. sum_by (λ arity. n ^ arity) (1 ∷ 2 ∷ []) ≤ MAX_ATOMS) (sym (instance_size Corridor size)) (corridors_are_small size few)

pub few_atoms : (family : Family) (number : ℕ) → All (IsSmall family) (sizes_of family number)
few_atoms Lights number = all_numbered (IsSmall Lights) (λ i. 2 + (number + 37 * i) % 255) 8 (λ k less. row_is_small (2 + (number + 37 * k) % 255) (omega arith))
few_atoms Corridor number = all_numbered (IsSmall Corridor) (λ i. 3 + (number + 5 * i) % 8) 3 (λ k less. corridor_is_small (3 + (number + 5 * k) % 8) (omega arith))
