-- Words that were taken, and words that were not.
use Rattle.std.proofs.Common.{◌≡◌, ℕ, List, ◌∷◌, codes, None, Some, Err, refl, subst}
use Rattle.std.specs.Prelude.{Option, IfSome, IfNone, ok_or}
use Rattle.command_words.specs.declared.job.CheckJob.{CheckJob}
use Rattle.command_words.specs.declared.job.GenJob.{GenJob}
use Rattle.command_words.specs.declared.job.Job.{Job}
use Rattle.command_words.specs.declared.job.Job.TheVariants.{Synth, Check, Run, Gen}
use Rattle.command_words.specs.declared.job.RunJob.{RunJob}
use Rattle.command_words.specs.declared.job.SynthJob.{SynthJob}
use Rattle.command_words.specs.declared.refusal.JobRefusal.{JobRefusal}
use Rattle.command_words.specs.declared.refusal.JobRefusal.TheVariants.{Usage, OutOfMemory}
use Rattle.command_words.specs.Words.{IsReading, SynthJobOf, CheckJobOf, RunJobOf, GenJobOf, JobOf}
use Rattle.command_words.proofs.OneJob.{differ}

-- where a part of the words spells nothing, all of them spell nothing
pub refused : {A B : Type 0} (Part : A → Type 0) (Spells : B → Type 0) (refusal : JobRefusal) → ((b : B) → Spells b → (a : A) × Part a) → IsReading Part (Err refusal) → IsReading Spells (Err refusal)
refused Part Spells Usage part none = λ b spells. let here = part b spells in none here.0 here.1
refused Part Spells OutOfMemory part none = tt

-- what values spell, the words spell; and where they spell nothing, the words spell nothing
pub read_by_values : {A : Type 0} (Values Spells : A → Type 0) (read : Option A) → ((a : A) → Values a → Spells a) → ((a : A) → Spells a → Values a) → IfSome read Values → IfNone read ((a : A) → Values a → ⊥) → IsReading Spells (ok_or read Usage)
read_by_values Values Spells None from to some none = λ a spells. none a (to a spells)
read_by_values Values Spells (Some a) from to some none = from a some

-- the words after each command are those of its job
pub after_synth : (words rest : List (List ℕ)) (command : List ℕ) → words ≡ command ∷ rest → command ≡ codes "synth" → (job : Job) → JobOf words job → (synth : SynthJob) × SynthJobOf rest synth
after_synth words rest command words_are named job is = by_command job (subst (λ (w : List (List ℕ)). JobOf w job) words_are is)
  where
    by_command : (job : Job) → JobOf (command ∷ rest) job → (synth : SynthJob) × SynthJobOf rest synth
    by_command (Synth job) is = (job, is.1)
    by_command (Check job) is = absurd (differ command (codes "synth") (codes "check") refl named is.0)
    by_command (Run job) is = absurd (differ command (codes "synth") (codes "run") refl named is.0)
    by_command (Gen job) is = absurd (differ command (codes "synth") (codes "gen") refl named is.0)

pub after_check : (words rest : List (List ℕ)) (command : List ℕ) → words ≡ command ∷ rest → command ≡ codes "check" → (job : Job) → JobOf words job → (check : CheckJob) × CheckJobOf rest check
after_check words rest command words_are named job is = by_command job (subst (λ (w : List (List ℕ)). JobOf w job) words_are is)
  where
    by_command : (job : Job) → JobOf (command ∷ rest) job → (check : CheckJob) × CheckJobOf rest check
    by_command (Synth job) is = absurd (differ command (codes "check") (codes "synth") refl named is.0)
    by_command (Check job) is = (job, is.1)
    by_command (Run job) is = absurd (differ command (codes "check") (codes "run") refl named is.0)
    by_command (Gen job) is = absurd (differ command (codes "check") (codes "gen") refl named is.0)

pub after_run : (words rest : List (List ℕ)) (command : List ℕ) → words ≡ command ∷ rest → command ≡ codes "run" → (job : Job) → JobOf words job → (run : RunJob) × RunJobOf rest run
after_run words rest command words_are named job is = by_command job (subst (λ (w : List (List ℕ)). JobOf w job) words_are is)
  where
    by_command : (job : Job) → JobOf (command ∷ rest) job → (run : RunJob) × RunJobOf rest run
    by_command (Synth job) is = absurd (differ command (codes "run") (codes "synth") refl named is.0)
    by_command (Check job) is = absurd (differ command (codes "run") (codes "check") refl named is.0)
    by_command (Run job) is = (job, is.1)
    by_command (Gen job) is = absurd (differ command (codes "run") (codes "gen") refl named is.0)

pub after_gen : (words rest : List (List ℕ)) (command : List ℕ) → words ≡ command ∷ rest → command ≡ codes "gen" → (job : Job) → JobOf words job → (gen : GenJob) × GenJobOf rest gen
after_gen words rest command words_are named job is = by_command job (subst (λ (w : List (List ℕ)). JobOf w job) words_are is)
  where
    by_command : (job : Job) → JobOf (command ∷ rest) job → (gen : GenJob) × GenJobOf rest gen
    by_command (Synth job) is = absurd (differ command (codes "gen") (codes "synth") refl named is.0)
    by_command (Check job) is = absurd (differ command (codes "gen") (codes "check") refl named is.0)
    by_command (Run job) is = absurd (differ command (codes "gen") (codes "run") refl named is.0)
    by_command (Gen job) is = (job, is.1)
