-- What a job comes to that reads one more file once its machine is made, from its second step to its first.
use Rattle.std.proofs.Common.{◌≡◌, ℕ, List, Option, Result, Ok, Err, subst}
use Rattle.bfgp_outside.specs.Shelf.{Files, Knowing}
use Rattle.pointer_machine.specs.Machine.{MachineParts}
use Rattle.command_words.specs.declared.job.Inputs.{Inputs}
use Rattle.input_reading.specs.declared.halt.Halt.{Halt}
use Rattle.input_reading.specs.Steps.{◌>>=◌, Gives}
use Rattle.input_reading.specs.Inputs.{file_due, machine_due}
use Rattle.input_reading.proofs.Chain.{knowing_always, knowing_same, known_next, known_end}
use Rattle.bfgp_jobs.specs.Reply.{Reply}
use Rattle.bfgp_jobs.proofs.Sequels.{after_machine}

module _ (told : Option Files) (inputs : Inputs) (pointers limit : ℕ) (file : List ℕ) (after_bytes : MachineParts → List ℕ → Result Reply (List ℕ) → Type 0) where
  -- what a step over the files may come to
  abbrev Comes : {A : Type 0} → (Files → Result A (List ℕ) → Type 0) → Result A Halt → Type 0
  Comes step r = Knowing told (λ (files : Files). Gives (step files) r)

  -- the job
  abbrev all_due : Files → Result Reply (List ℕ) → Type 0
  all_due files = machine_due files inputs pointers >>= after_machine limit file after_bytes files

  -- after the machine
  pub from_machine : (machine : MachineParts) (r : Result Reply Halt) → Comes (λ files. machine_due files inputs pointers) (Ok machine) → Comes (λ files. after_machine limit file after_bytes files machine) r → Comes all_due r
  from_machine = known_next told (λ files. machine_due files inputs pointers) (after_machine limit file after_bytes)

  pub at_machine : (halt : Halt) → Comes (λ files. machine_due files inputs pointers) (Err halt) → Comes all_due (Err halt)
  at_machine = known_end told (λ files. machine_due files inputs pointers) (after_machine limit file after_bytes)

  module _ (later : Option Files) (kept : later ≡ told) (name : List ℕ) (same : name ≡ file) (machine : MachineParts) where
    -- the file by a slice of its name, as the shelf tells later
    file_at : (r : Result (List ℕ) Halt) → Knowing later (λ (files : Files). Gives (file_due files limit name) r) → Comes (λ files. file_due files limit file) r
    file_at r here =
        knowing_same (λ (files : Files). Gives (file_due files limit file) r) kept (subst (λ (n : List ℕ). Knowing later (λ (files : Files). Gives (file_due files limit n) r)) same here)

    -- after the bytes of the file
    pub from_bytes : (bytes : List ℕ) (r : Result Reply Halt) → Knowing later (λ (files : Files). Gives (file_due files limit name) (Ok bytes)) → Gives (after_bytes machine bytes) r → Comes (λ files. after_machine limit file after_bytes files machine) r
    from_bytes bytes r read rest =
        known_next told (λ files. file_due files limit file) (λ files. after_bytes machine) bytes r (file_at (Ok bytes) read) (knowing_always told (λ (files : Files). Gives (after_bytes machine bytes) r) (λ files. rest))

    pub at_bytes : (halt : Halt) → Knowing later (λ (files : Files). Gives (file_due files limit name) (Err halt)) → Comes (λ files. after_machine limit file after_bytes files machine) (Err halt)
    at_bytes halt ended =
        known_end told (λ files. file_due files limit file) (λ files. after_bytes machine) halt (file_at (Err halt) ended)
