-- The planning task and the instances of a family.
use Rattle.std.specs.Prelude.{ℕ, List, map}
use Rattle.ground_state.specs.declared.parts.TaskParts.{TaskParts}
use Rattle.ground_state.specs.declared.parts.InstanceParts.{InstanceParts}
use Rattle.pddl_task.specs.Parts.{task_of, instance_of}
use Rattle.family_gen.specs.declared.kinds.Family.{Family}
use Rattle.family_gen.specs.Domains.{domain_of}
use Rattle.family_gen.specs.Problems.{problem_of}
use Rattle.family_gen.specs.Families.{sizes_of}

-- the task of a family
abbrev pub family_task : Family → TaskParts
family_task family = task_of (domain_of family)

-- the instance of a family that has a size
abbrev pub family_instance : Family → ℕ → InstanceParts
family_instance family size = instance_of (domain_of family) (problem_of family size)

-- the instances of a family at a number
abbrev pub family_instances : Family → ℕ → List InstanceParts
family_instances family number = map (family_instance family) (sizes_of family number)
