-- The words of a search, and the values in them.
use Rattle.std.proofs.Common.{◌≡◌, ℕ, zero, suc, ◌<◌, List, [], ◌∷◌, length, get_or, codes, decimal, refl, sym, ◌∙◌, ap, subst, arith}
use Rattle.std.specs.Prelude.{IsTrue}
use Rattle.std.proofs.lemmas.Fmt.{decimal_injective}
use Rattle.std.proofs.lemmas.Option.{same_Some}
use Rattle.std.proofs.lemmas.List.Elements.{All-nil, All-cons, Contains-get_or}
use Rattle.evaluations.specs.Orders.{order_text}
use Rattle.command_words.specs.declared.job.TheConstants.{USUAL_BUDGET, USUAL_RUN}
use Rattle.command_words.specs.declared.job.SynthJob.{SynthJob}
use Rattle.command_words.specs.declared.matching.Command.TheVariants.{Synth}
use Rattle.command_words.specs.declared.matching.Matched.{Matched}
use Rattle.command_words.specs.Words.{Use, AreOptions, SynthJobOf, Tells, is_file_name, names_of, synth_options, usual_order}
use Rattle.command_words.specs.Inner.Matching.{IsForm, IsMatched, value_in}
use Rattle.command_words.specs.Inner.Values.{AreSynthValues, IsTextOrUsual}
use Rattle.command_words.proofs.Forms.{one_form}
use Rattle.command_words.proofs.InputNames.{inputs_same, names_fit, matched_from}
use Rattle.command_words.proofs.Orders.{order_text_injective}
use Rattle.command_words.proofs.Plain.{plain_decimal, plain_order, plain_told, plain_usual}
use Rattle.command_words.proofs.Uses.{one_text, text_told, told_text, value_tells, value_told}

synth_value : (words : List (List ℕ)) (job : SynthJob) (is : SynthJobOf words job) (name value : List ℕ) → Tells is.uses name value → (k : ℕ) → k < length synth_options → get_or synth_options k name ≡ name → IsTrue (is_file_name value)
synth_value words job is name value tells zero within same =
    plain_told is.uses (codes "pointers") name value (decimal job.pointers) is.options.once same tells is.pointers (plain_decimal job.pointers (omega (arith, is.is_job.few_pointers)))
synth_value words job is name value tells (suc zero) within same =
    plain_told is.uses (codes "lines") name value (decimal job.bounds.lines) is.options.once same tells is.lines (plain_decimal job.bounds.lines (omega (arith, is.is_job.bounds.few_lines)))
synth_value words job is name value tells (suc (suc zero)) within same =
    plain_usual is.uses (codes "budget") name value decimal USUAL_BUDGET job.bounds.budget is.options.once same tells is.budget (plain_decimal job.bounds.budget (omega (arith, is.is_job.bounds.few_splits)))
synth_value words job is name value tells (suc (suc (suc zero))) within same =
    plain_usual is.uses (codes "run") name value decimal USUAL_RUN job.bounds.run is.options.once same tells is.run (plain_decimal job.bounds.run (omega (arith, is.is_job.bounds.few_steps)))
synth_value words job is name value tells (suc (suc (suc (suc zero)))) within same =
    plain_usual is.uses (codes "order") name value order_text usual_order job.bounds.order is.options.once same tells is.order (plain_order job.bounds.order is.is_job.order)
synth_value words job is name value tells (suc (suc (suc (suc (suc k))))) within same = absurd (omega (arith, within))

-- the words of a search have the form
synth_form : (words : List (List ℕ)) (job : SynthJob) (is : SynthJobOf words job) → IsForm Synth is.uses (names_of job.inputs) words
synth_form words job is =
    let names = names_fit job.inputs is.is_job.inputs in
    record {
      options = is.options;
      values = λ k d within.
          let known = is.options.known k d within in
          synth_value words job is (get_or is.uses k d).name (get_or is.uses k d).value (Contains-get_or is.uses k d within) known.0 known.1 known.2;
      required =
          All-cons (λ name. (value : List ℕ) × Tells is.uses name value) (codes "pointers") (codes "lines" ∷ []) (decimal job.pointers, is.pointers)
          (All-cons (λ name. (value : List ℕ) × Tells is.uses name value) (codes "lines") [] (decimal job.bounds.lines, is.lines) (All-nil (λ name. (value : List ℕ) × Tells is.uses name value)));
      are_names = names.0;
      some_instances = names.1;
      few_instances = names.2;
    }

-- and so there is what is matched in them
pub synth_matched : (words : List (List ℕ)) (job : SynthJob) → SynthJobOf words job → (matched : Matched) × IsMatched Synth words matched
synth_matched words job is = (
  matched_from is.uses (names_of job.inputs),
  record {
    uses = is.uses;
    form = synth_form words job is;
    pointers = refl;
    lines = refl;
    budget = refl;
    run = refl;
    order = refl;
    answer = refl;
    program = refl;
  },
)

-- what is matched are the values of the search
pub synth_values : (words : List (List ℕ)) (matched : Matched) (job : SynthJob) → IsMatched Synth words matched → SynthJobOf words job → AreSynthValues matched job
synth_values words matched job found is =
    let same = one_form Synth found.uses is.uses matched.names (names_of job.inputs) words found.form (synth_form words job is) in
    let value = λ (name : List ℕ). ap (λ (uses : List Use). value_in uses name) same.0 in
    record {
      pointers = found.pointers ∙ value (codes "pointers") ∙ value_told is.uses (codes "pointers") (decimal job.pointers) is.options.once is.pointers;
      lines = found.lines ∙ value (codes "lines") ∙ value_told is.uses (codes "lines") (decimal job.bounds.lines) is.options.once is.lines;
      budget = subst (IsTextOrUsual decimal USUAL_BUDGET job.bounds.budget) (sym (found.budget ∙ value (codes "budget"))) (told_text is.uses (codes "budget") decimal USUAL_BUDGET job.bounds.budget is.options.once is.budget);
      run = subst (IsTextOrUsual decimal USUAL_RUN job.bounds.run) (sym (found.run ∙ value (codes "run"))) (told_text is.uses (codes "run") decimal USUAL_RUN job.bounds.run is.options.once is.run);
      order = subst (IsTextOrUsual order_text usual_order job.bounds.order) (sym (found.order ∙ value (codes "order"))) (told_text is.uses (codes "order") order_text usual_order job.bounds.order is.options.once is.order);
      names = sym same.1;
      is_job = is.is_job;
    }

-- and the other way round
pub synth_words : (words : List (List ℕ)) (matched : Matched) (job : SynthJob) → IsMatched Synth words matched → AreSynthValues matched job → SynthJobOf words job
synth_words words matched job found is =
    record {
      uses = found.uses;
      options = subst (λ (names : List (List ℕ)). AreOptions synth_options found.uses names words) (sym is.names) found.form.options;
      pointers = value_tells found.uses (codes "pointers") (decimal job.pointers) (sym found.pointers ∙ is.pointers);
      lines = value_tells found.uses (codes "lines") (decimal job.bounds.lines) (sym found.lines ∙ is.lines);
      budget = text_told found.uses (codes "budget") decimal USUAL_BUDGET job.bounds.budget matched.budget (sym found.budget) is.budget;
      run = text_told found.uses (codes "run") decimal USUAL_RUN job.bounds.run matched.run (sym found.run) is.run;
      order = text_told found.uses (codes "order") order_text usual_order job.bounds.order matched.order (sym found.order) is.order;
      is_job = is.is_job;
    }

-- values are those of one search
one_search : (matched : Matched) (one other : SynthJob) → AreSynthValues matched one → AreSynthValues matched other → one ≡ other
one_search matched one other p q =
    let limits = p.is_job.bounds in
    let limits_too = q.is_job.bounds in
    let pointers = same_Some (decimal one.pointers) (decimal other.pointers) (sym p.pointers ∙ q.pointers) in
    let lines = same_Some (decimal one.bounds.lines) (decimal other.bounds.lines) (sym p.lines ∙ q.lines) in
    let budget = one_text decimal USUAL_BUDGET one.bounds.budget other.bounds.budget matched.budget p.budget q.budget in
    let run = one_text decimal USUAL_RUN one.bounds.run other.bounds.run matched.run p.run q.run in
    let order = one_text order_text usual_order one.bounds.order other.bounds.order matched.order p.order q.order in
    λ i. record {
      pointers = decimal_injective one.pointers other.pointers (omega (arith, p.is_job.few_pointers)) (omega (arith, q.is_job.few_pointers)) pointers i;
      bounds = record {
        lines = decimal_injective one.bounds.lines other.bounds.lines (omega (arith, limits.few_lines)) (omega (arith, limits_too.few_lines)) lines i;
        budget = decimal_injective one.bounds.budget other.bounds.budget (omega (arith, limits.few_splits)) (omega (arith, limits_too.few_splits)) budget i;
        run = decimal_injective one.bounds.run other.bounds.run (omega (arith, limits.few_steps)) (omega (arith, limits_too.few_steps)) run i;
        order = order_text_injective one.bounds.order other.bounds.order p.is_job.order q.is_job.order order i;
      };
      inputs = inputs_same one.inputs other.inputs (p.names ∙ sym q.names) i;
    }

-- words are those of one search at most
pub synth_job_same : (words : List (List ℕ)) (one other : SynthJob) → SynthJobOf words one → SynthJobOf words other → one ≡ other
synth_job_same words one other p q =
    let found = synth_matched words one p in
    one_search found.0 one other (synth_values words found.0 one found.1 p) (synth_values words found.0 other found.1 q)
