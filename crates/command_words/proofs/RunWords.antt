-- The words of a run, and the values in them.
use Rattle.std.proofs.Common.{◌≡◌, ℕ, zero, suc, ◌<◌, List, [], ◌∷◌, length, get_or, codes, decimal, refl, sym, ◌∙◌, ap, subst, arith}
use Rattle.std.specs.Prelude.{IsTrue}
use Rattle.std.proofs.lemmas.Fmt.{decimal_injective}
use Rattle.std.proofs.lemmas.Option.{same_Some}
use Rattle.std.proofs.lemmas.List.Elements.{All-nil, All-cons, Contains-get_or}
use Rattle.command_words.specs.declared.job.TheConstants.{USUAL_RUN}
use Rattle.command_words.specs.declared.job.RunJob.{RunJob}
use Rattle.command_words.specs.declared.matching.Command.TheVariants.{Run}
use Rattle.command_words.specs.declared.matching.Matched.{Matched}
use Rattle.command_words.specs.Words.{Use, AreOptions, RunJobOf, Tells, is_file_name, names_of, run_options}
use Rattle.command_words.specs.Inner.Matching.{IsForm, IsMatched, value_in}
use Rattle.command_words.specs.Inner.Values.{AreRunValues, IsTextOrUsual}
use Rattle.command_words.proofs.Forms.{one_form}
use Rattle.command_words.proofs.InputNames.{inputs_same, names_fit, matched_from}
use Rattle.command_words.proofs.Plain.{plain_decimal, plain_told, plain_usual}
use Rattle.command_words.proofs.Uses.{one_text, text_told, told_text, value_tells, value_told}

run_value : (words : List (List ℕ)) (job : RunJob) (is : RunJobOf words job) (name value : List ℕ) → Tells is.uses name value → (k : ℕ) → k < length run_options → get_or run_options k name ≡ name → IsTrue (is_file_name value)
run_value words job is name value tells zero within same =
    plain_told is.uses (codes "pointers") name value (decimal job.pointers) is.options.once same tells is.pointers (plain_decimal job.pointers (omega (arith, is.is_job.few_pointers)))
run_value words job is name value tells (suc zero) within same =
    plain_told is.uses (codes "program") name value job.program is.options.once same tells is.program is.is_job.program
run_value words job is name value tells (suc (suc zero)) within same =
    plain_usual is.uses (codes "run") name value decimal USUAL_RUN job.run is.options.once same tells is.run (plain_decimal job.run (omega (arith, is.is_job.most_run)))
run_value words job is name value tells (suc (suc (suc k))) within same = absurd (omega (arith, within))

-- the words of a run have the form
run_form : (words : List (List ℕ)) (job : RunJob) (is : RunJobOf words job) → IsForm Run is.uses (names_of job.inputs) words
run_form words job is =
    let names = names_fit job.inputs is.is_job.inputs in
    record {
      options = is.options;
      values = λ k d within.
          let known = is.options.known k d within in
          run_value words job is (get_or is.uses k d).name (get_or is.uses k d).value (Contains-get_or is.uses k d within) known.0 known.1 known.2;
      required =
          All-cons (λ name. (value : List ℕ) × Tells is.uses name value) (codes "pointers") (codes "program" ∷ []) (decimal job.pointers, is.pointers)
          (All-cons (λ name. (value : List ℕ) × Tells is.uses name value) (codes "program") [] (job.program, is.program) (All-nil (λ name. (value : List ℕ) × Tells is.uses name value)));
      are_names = names.0;
      some_instances = names.1;
      few_instances = names.2;
    }

-- and so there is what is matched in them
pub run_matched : (words : List (List ℕ)) (job : RunJob) → RunJobOf words job → (matched : Matched) × IsMatched Run words matched
run_matched words job is = (
  matched_from is.uses (names_of job.inputs),
  record {
    uses = is.uses;
    form = run_form words job is;
    pointers = refl;
    lines = refl;
    budget = refl;
    run = refl;
    order = refl;
    answer = refl;
    program = refl;
  },
)

-- what is matched are the values of the run
pub run_values : (words : List (List ℕ)) (matched : Matched) (job : RunJob) → IsMatched Run words matched → RunJobOf words job → AreRunValues matched job
run_values words matched job found is =
    let same = one_form Run found.uses is.uses matched.names (names_of job.inputs) words found.form (run_form words job is) in
    let value = λ (name : List ℕ). ap (λ (uses : List Use). value_in uses name) same.0 in
    record {
      pointers = found.pointers ∙ value (codes "pointers") ∙ value_told is.uses (codes "pointers") (decimal job.pointers) is.options.once is.pointers;
      program = found.program ∙ value (codes "program") ∙ value_told is.uses (codes "program") job.program is.options.once is.program;
      run = subst (IsTextOrUsual decimal USUAL_RUN job.run) (sym (found.run ∙ value (codes "run"))) (told_text is.uses (codes "run") decimal USUAL_RUN job.run is.options.once is.run);
      names = sym same.1;
      is_job = is.is_job;
    }

-- and the other way round
pub run_words : (words : List (List ℕ)) (matched : Matched) (job : RunJob) → IsMatched Run words matched → AreRunValues matched job → RunJobOf words job
run_words words matched job found is =
    record {
      uses = found.uses;
      options = subst (λ (names : List (List ℕ)). AreOptions run_options found.uses names words) (sym is.names) found.form.options;
      pointers = value_tells found.uses (codes "pointers") (decimal job.pointers) (sym found.pointers ∙ is.pointers);
      program = value_tells found.uses (codes "program") job.program (sym found.program ∙ is.program);
      run = text_told found.uses (codes "run") decimal USUAL_RUN job.run matched.run (sym found.run) is.run;
      is_job = is.is_job;
    }

-- values are those of one run
one_run : (matched : Matched) (one other : RunJob) → AreRunValues matched one → AreRunValues matched other → one ≡ other
one_run matched one other p q =
    let pointers = same_Some (decimal one.pointers) (decimal other.pointers) (sym p.pointers ∙ q.pointers) in
    let run = one_text decimal USUAL_RUN one.run other.run matched.run p.run q.run in
    λ i. record {
      pointers = decimal_injective one.pointers other.pointers (omega (arith, p.is_job.few_pointers)) (omega (arith, q.is_job.few_pointers)) pointers i;
      run = decimal_injective one.run other.run (omega (arith, p.is_job.most_run)) (omega (arith, q.is_job.most_run)) run i;
      program = same_Some one.program other.program (sym p.program ∙ q.program) i;
      inputs = inputs_same one.inputs other.inputs (p.names ∙ sym q.names) i;
    }

-- words are those of one run at most
pub run_job_same : (words : List (List ℕ)) (one other : RunJob) → RunJobOf words one → RunJobOf words other → one ≡ other
run_job_same words one other p q =
    let found = run_matched words one p in
    one_run found.0 one other (run_values words found.0 one found.1 p) (run_values words found.0 other found.1 q)
