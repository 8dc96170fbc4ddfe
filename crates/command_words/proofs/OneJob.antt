-- Words are those of one job at most.
use Rattle.std.proofs.Common.{◌≡◌, ℕ, false, List, [], ◌∷◌, get_or, codes, decimal, refl, sym, ◌∙◌, ap, arith}
use Rattle.std.specs.Prelude.{◌==◌}
use Rattle.std.proofs.lemmas.Bool.{eqb-false}
use Rattle.std.proofs.lemmas.Fmt.{decimal_injective}
use Rattle.family_gen.specs.declared.kinds.Family.{Family}
use Rattle.family_gen.specs.declared.kinds.Family.TheVariants.{Lights, Corridor}
use Rattle.family_gen.specs.Families.{family_name}
use Rattle.command_words.specs.declared.job.GenJob.{GenJob}
use Rattle.command_words.specs.declared.job.Job.{Job}
use Rattle.command_words.specs.declared.job.Job.TheVariants.{Synth, Check, Run, Gen}
use Rattle.command_words.specs.Words.{GenJobOf, IsJob, JobOf}
use Rattle.command_words.proofs.SynthWords.{synth_job_same}
use Rattle.command_words.proofs.CheckWords.{check_job_same}
use Rattle.command_words.proofs.RunWords.{run_job_same}

-- the job of words keeps its limits
pub job_kept : (words : List (List ℕ)) (job : Job) → JobOf words job → IsJob job
job_kept [] job is = absurd is
job_kept (command ∷ words) (Synth job) is = is.1.is_job
job_kept (command ∷ words) (Check job) is = is.1.is_job
job_kept (command ∷ words) (Run job) is = is.1.is_job
job_kept (command ∷ words) (Gen job) is = is.1.is_job

-- words whose first bytes differ are different
pub differ : (command one other : List ℕ) → (get_or one 0 0 == get_or other 0 0) ≡ false → command ≡ one → command ≡ other → ⊥
differ command one other first is is_too = eqb-false (get_or one 0 0) (get_or other 0 0) first (ap (λ (word : List ℕ). get_or word 0 0) (sym is ∙ is_too))

-- a name is that of one family
family_same : (one other : Family) → family_name one ≡ family_name other → one ≡ other
family_same Lights Lights same = refl
family_same Lights Corridor same = absurd (differ (codes "lights") (codes "lights") (codes "corridor") refl refl same)
family_same Corridor Lights same = absurd (differ (codes "corridor") (codes "corridor") (codes "lights") refl refl same)
family_same Corridor Corridor same = refl

gen_job_same : (words : List (List ℕ)) (one other : GenJob) → GenJobOf words one → GenJobOf words other → one ≡ other
gen_job_same words one other p q =
    let both = sym p.spelled ∙ q.spelled in
    let family : family_name one.family ≡ family_name other.family = cc in
    let number : decimal one.number ≡ decimal other.number = cc in
    λ i. record {
      family = family_same one.family other.family family i;
      number = decimal_injective one.number other.number (omega (arith, p.is_job)) (omega (arith, q.is_job)) number i;
    }

pub JobOf-unique : (words : List (List ℕ)) (one other : Job) → JobOf words one → JobOf words other → one ≡ other
JobOf-unique [] one other p q = absurd p
JobOf-unique (command ∷ words) (Synth one) (Synth other) p q = ap Synth (synth_job_same words one other p.1 q.1)
JobOf-unique (command ∷ words) (Synth one) (Check other) p q = absurd (differ command (codes "synth") (codes "check") refl p.0 q.0)
JobOf-unique (command ∷ words) (Synth one) (Run other) p q = absurd (differ command (codes "synth") (codes "run") refl p.0 q.0)
JobOf-unique (command ∷ words) (Synth one) (Gen other) p q = absurd (differ command (codes "synth") (codes "gen") refl p.0 q.0)
JobOf-unique (command ∷ words) (Check one) (Synth other) p q = absurd (differ command (codes "check") (codes "synth") refl p.0 q.0)
JobOf-unique (command ∷ words) (Check one) (Check other) p q = ap Check (check_job_same words one other p.1 q.1)
JobOf-unique (command ∷ words) (Check one) (Run other) p q = absurd (differ command (codes "check") (codes "run") refl p.0 q.0)
JobOf-unique (command ∷ words) (Check one) (Gen other) p q = absurd (differ command (codes "check") (codes "gen") refl p.0 q.0)
JobOf-unique (command ∷ words) (Run one) (Synth other) p q = absurd (differ command (codes "run") (codes "synth") refl p.0 q.0)
JobOf-unique (command ∷ words) (Run one) (Check other) p q = absurd (differ command (codes "run") (codes "check") refl p.0 q.0)
JobOf-unique (command ∷ words) (Run one) (Run other) p q = ap Run (run_job_same words one other p.1 q.1)
JobOf-unique (command ∷ words) (Run one) (Gen other) p q = absurd (differ command (codes "run") (codes "gen") refl p.0 q.0)
JobOf-unique (command ∷ words) (Gen one) (Synth other) p q = absurd (differ command (codes "gen") (codes "synth") refl p.0 q.0)
JobOf-unique (command ∷ words) (Gen one) (Check other) p q = absurd (differ command (codes "gen") (codes "check") refl p.0 q.0)
JobOf-unique (command ∷ words) (Gen one) (Run other) p q = absurd (differ command (codes "gen") (codes "run") refl p.0 q.0)
JobOf-unique (command ∷ words) (Gen one) (Gen other) p q = ap Gen (gen_job_same words one other p.1 q.1)
