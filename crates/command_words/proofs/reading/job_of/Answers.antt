use Rattle.std.proofs.Common.{arith, rules, sym, ◌≡◌, ◌-◌, List, ℕ, map, take, drop, length, string_bytes, codes, subst}
use Rattle.std.proofs.lemmas.Result.{err_from_is_err_and}
use Rattle.command_words.specs.Words.{SynthJobOf, CheckJobOf, RunJobOf, GenJobOf, JobOf}
use Rattle.command_words.proofs.Readings.{refused, after_synth, after_check, after_run, after_gen}
use Rattle.command_words.specs.declared.job.Job.TheVariants.{Synth, Check, Run, Gen}
use Rattle.command_words.proofs.Spelled.{first_word}
use Rattle.command_words.proofs.reading.job_of.Goals as goal

pub returns-in_err-synth_job_of : goal.returns-in_err-synth_job_of
returns-in_err-synth_job_of c =
    let p = err_from_is_err_and c.from_residual.result c.from_residual.ensures.1 in
    let words = c.args.words.now in
    let others = map string_bytes (take (length words - 1) (drop 1 words)) in
    let command : string_bytes c.command-item.result ≡ codes "synth" = search rules in
    let spelled = first_word string_bytes words c.command-item.result (omega arith) c.command-item.is in
    rw (p.1, p.2) (refused (SynthJobOf others) (JobOf (map string_bytes words)) c.in_err-synth_job_of.field-0.0 (after_synth (map string_bytes words) others (string_bytes c.command-item.result) spelled command) c.in_err-synth_job_of.ensures)

pub returns-in_err-check_job_of : goal.returns-in_err-check_job_of
returns-in_err-check_job_of c =
    let p = err_from_is_err_and c.from_residual-in_err-check_job_of.result c.from_residual-in_err-check_job_of.ensures.1 in
    let words = c.args.words.now in
    let others = map string_bytes (take (length words - 1) (drop 1 words)) in
    let command : string_bytes c.command-item.result ≡ codes "check" = search rules in
    let spelled = first_word string_bytes words c.command-item.result (omega arith) c.command-item.is in
    rw (p.1, p.2) (refused (CheckJobOf others) (JobOf (map string_bytes words)) c.in_err-check_job_of.field-0.0 (after_check (map string_bytes words) others (string_bytes c.command-item.result) spelled command) c.in_err-check_job_of.ensures)

pub returns-in_err-run_job_of : goal.returns-in_err-run_job_of
returns-in_err-run_job_of c =
    let p = err_from_is_err_and c.from_residual-in_err-run_job_of.result c.from_residual-in_err-run_job_of.ensures.1 in
    let words = c.args.words.now in
    let others = map string_bytes (take (length words - 1) (drop 1 words)) in
    let command : string_bytes c.command-item.result ≡ codes "run" = search rules in
    let spelled = first_word string_bytes words c.command-item.result (omega arith) c.command-item.is in
    rw (p.1, p.2) (refused (RunJobOf others) (JobOf (map string_bytes words)) c.in_err-run_job_of.field-0.0 (after_run (map string_bytes words) others (string_bytes c.command-item.result) spelled command) c.in_err-run_job_of.ensures)

pub returns-in_err-gen_job_of : goal.returns-in_err-gen_job_of
returns-in_err-gen_job_of c =
    let p = err_from_is_err_and c.from_residual-in_err-gen_job_of.result c.from_residual-in_err-gen_job_of.ensures.1 in
    let words = c.args.words.now in
    let others = map string_bytes (take (length words - 1) (drop 1 words)) in
    let command : string_bytes c.command-item.result ≡ codes "gen" = search rules in
    let spelled = first_word string_bytes words c.command-item.result (omega arith) c.command-item.is in
    rw (p.1, p.2) (refused (GenJobOf others) (JobOf (map string_bytes words)) c.in_err-gen_job_of.field-0.0 (after_gen (map string_bytes words) others (string_bytes c.command-item.result) spelled command) c.in_err-gen_job_of.ensures)

pub returns-in_ok-synth_job_of : goal.returns-in_ok-synth_job_of
returns-in_ok-synth_job_of c =
    let command : string_bytes c.command-item.result ≡ codes "synth" = search rules in
    let words = first_word string_bytes c.args.words.now c.command-item.result (omega arith) c.command-item.is in
    subst (λ (w : List (List ℕ)). JobOf w (Synth c.in_ok-synth_job_of.field-0)) (sym words) (command, c.in_ok-synth_job_of.ensures)

pub returns-in_ok-check_job_of : goal.returns-in_ok-check_job_of
returns-in_ok-check_job_of c =
    let command : string_bytes c.command-item.result ≡ codes "check" = search rules in
    let words = first_word string_bytes c.args.words.now c.command-item.result (omega arith) c.command-item.is in
    subst (λ (w : List (List ℕ)). JobOf w (Check c.in_ok-check_job_of.field-0)) (sym words) (command, c.in_ok-check_job_of.ensures)

pub returns-in_ok-run_job_of : goal.returns-in_ok-run_job_of
returns-in_ok-run_job_of c =
    let command : string_bytes c.command-item.result ≡ codes "run" = search rules in
    let words = first_word string_bytes c.args.words.now c.command-item.result (omega arith) c.command-item.is in
    subst (λ (w : List (List ℕ)). JobOf w (Run c.in_ok-run_job_of.field-0)) (sym words) (command, c.in_ok-run_job_of.ensures)

pub returns-in_ok-gen_job_of : goal.returns-in_ok-gen_job_of
returns-in_ok-gen_job_of c =
    let command : string_bytes c.command-item.result ≡ codes "gen" = search rules in
    let words = first_word string_bytes c.args.words.now c.command-item.result (omega arith) c.command-item.is in
    subst (λ (w : List (List ℕ)). JobOf w (Gen c.in_ok-gen_job_of.field-0)) (sym words) (command, c.in_ok-gen_job_of.ensures)
