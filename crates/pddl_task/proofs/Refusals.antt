-- Refusals as answers.
use Rattle.std.proofs.Common.{◌≡◌, Option, Some, None, subst, inr}
use Rattle.std.specs.Prelude.{Result, Err}
use Rattle.pddl_task.specs.declared.fault.Fault.{Fault}
use Rattle.pddl_task.specs.declared.refusal.TaskRefusal.{TaskRefusal}
use Rattle.pddl_task.specs.declared.refusal.TaskRefusal.TheVariants.{OutOfMemory}
use Rattle.pddl_task.specs.Faults.{IsFirst}
use Rattle.pddl_task.specs.Replies.{HasReply, OrMemory}

-- a refusal that has to be given may be given
or_memory : {A : Type 0} (Is : Result A TaskRefusal → Type 0) (refusal : TaskRefusal) → Is (Err refusal) → OrMemory Is (Err refusal)
or_memory Is OutOfMemory is = tt
or_memory Is refusal is = is

-- a limit that is exceeded where there is no fault is told
pub told_limit : {A : Type 0} (Of : A → Type 0) (P : Fault → Type 0) (limit : Option TaskRefusal) (refusal : TaskRefusal)
    → IsFirst P None → limit ≡ Some refusal → OrMemory (HasReply Of P limit) (Err refusal)
told_limit Of P limit refusal none is = or_memory (HasReply Of P limit) refusal (inr (none, is))

-- where no fault is told, there is none
pub none_told : (P : Fault → Type 0) (told : Option Fault) → told ≡ None → IsFirst P told → IsFirst P None
none_told P told is first = subst (IsFirst P) is first
