-- The words of a check, and the values in them.
use Rattle.std.proofs.Common.{◌≡◌, ℕ, zero, suc, ◌<◌, List, [], ◌∷◌, length, get_or, codes, decimal, refl, sym, ◌∙◌, ap, subst, arith}
use Rattle.std.specs.Prelude.{IsTrue}
use Rattle.std.proofs.lemmas.Fmt.{decimal_injective}
use Rattle.std.proofs.lemmas.Option.{same_Some}
use Rattle.std.proofs.lemmas.List.Elements.{All-nil, All-cons, Contains-get_or}
use Rattle.command_words.specs.declared.job.CheckJob.{CheckJob}
use Rattle.command_words.specs.declared.matching.Command.TheVariants.{Check}
use Rattle.command_words.specs.declared.matching.Matched.{Matched}
use Rattle.command_words.specs.Words.{Use, AreOptions, CheckJobOf, Tells, check_options, is_file_name, names_of}
use Rattle.command_words.specs.Inner.Matching.{IsForm, IsMatched, value_in}
use Rattle.command_words.specs.Inner.Values.{AreCheckValues}
use Rattle.command_words.proofs.Forms.{one_form}
use Rattle.command_words.proofs.InputNames.{inputs_same, names_fit, matched_from}
use Rattle.command_words.proofs.Plain.{plain_decimal, plain_told}
use Rattle.command_words.proofs.Uses.{value_tells, value_told}

check_value : (words : List (List ℕ)) (job : CheckJob) (is : CheckJobOf words job) (name value : List ℕ) → Tells is.uses name value → (k : ℕ) → k < length check_options → get_or check_options k name ≡ name → IsTrue (is_file_name value)
check_value words job is name value tells zero within same =
    plain_told is.uses (codes "pointers") name value (decimal job.pointers) is.options.once same tells is.pointers (plain_decimal job.pointers (omega (arith, is.is_job.few_pointers)))
check_value words job is name value tells (suc zero) within same =
    plain_told is.uses (codes "lines") name value (decimal job.lines) is.options.once same tells is.lines (plain_decimal job.lines (omega (arith, is.is_job.few_lines)))
check_value words job is name value tells (suc (suc zero)) within same =
    plain_told is.uses (codes "answer") name value job.answer is.options.once same tells is.answer is.is_job.answer
check_value words job is name value tells (suc (suc (suc k))) within same = absurd (omega (arith, within))

-- the words of a check have the form
check_form : (words : List (List ℕ)) (job : CheckJob) (is : CheckJobOf words job) → IsForm Check is.uses (names_of job.inputs) words
check_form words job is =
    let names = names_fit job.inputs is.is_job.inputs in
    record {
      options = is.options;
      values = λ k d within.
          let known = is.options.known k d within in
          check_value words job is (get_or is.uses k d).name (get_or is.uses k d).value (Contains-get_or is.uses k d within) known.0 known.1 known.2;
      required =
          All-cons (λ name. (value : List ℕ) × Tells is.uses name value) (codes "pointers") (codes "lines" ∷ codes "answer" ∷ []) (decimal job.pointers, is.pointers)
          (All-cons (λ name. (value : List ℕ) × Tells is.uses name value) (codes "lines") (codes "answer" ∷ []) (decimal job.lines, is.lines)
          (All-cons (λ name. (value : List ℕ) × Tells is.uses name value) (codes "answer") [] (job.answer, is.answer) (All-nil (λ name. (value : List ℕ) × Tells is.uses name value))));
      are_names = names.0;
      some_instances = names.1;
      few_instances = names.2;
    }

-- and so there is what is matched in them
pub check_matched : (words : List (List ℕ)) (job : CheckJob) → CheckJobOf words job → (matched : Matched) × IsMatched Check words matched
check_matched words job is = (
  matched_from is.uses (names_of job.inputs),
  record {
    uses = is.uses;
    form = check_form words job is;
    pointers = refl;
    lines = refl;
    budget = refl;
    run = refl;
    order = refl;
    answer = refl;
    program = refl;
  },
)

-- what is matched are the values of the check
pub check_values : (words : List (List ℕ)) (matched : Matched) (job : CheckJob) → IsMatched Check words matched → CheckJobOf words job → AreCheckValues matched job
check_values words matched job found is =
    let same = one_form Check found.uses is.uses matched.names (names_of job.inputs) words found.form (check_form words job is) in
    let value = λ (name : List ℕ). ap (λ (uses : List Use). value_in uses name) same.0 in
    record {
      pointers = found.pointers ∙ value (codes "pointers") ∙ value_told is.uses (codes "pointers") (decimal job.pointers) is.options.once is.pointers;
      lines = found.lines ∙ value (codes "lines") ∙ value_told is.uses (codes "lines") (decimal job.lines) is.options.once is.lines;
      answer = found.answer ∙ value (codes "answer") ∙ value_told is.uses (codes "answer") job.answer is.options.once is.answer;
      names = sym same.1;
      is_job = is.is_job;
    }

-- and the other way round
pub check_words : (words : List (List ℕ)) (matched : Matched) (job : CheckJob) → IsMatched Check words matched → AreCheckValues matched job → CheckJobOf words job
check_words words matched job found is =
    record {
      uses = found.uses;
      options = subst (λ (names : List (List ℕ)). AreOptions check_options found.uses names words) (sym is.names) found.form.options;
      pointers = value_tells found.uses (codes "pointers") (decimal job.pointers) (sym found.pointers ∙ is.pointers);
      lines = value_tells found.uses (codes "lines") (decimal job.lines) (sym found.lines ∙ is.lines);
      answer = value_tells found.uses (codes "answer") job.answer (sym found.answer ∙ is.answer);
      is_job = is.is_job;
    }

-- values are those of one check
one_check : (matched : Matched) (one other : CheckJob) → AreCheckValues matched one → AreCheckValues matched other → one ≡ other
one_check matched one other p q =
    let pointers = same_Some (decimal one.pointers) (decimal other.pointers) (sym p.pointers ∙ q.pointers) in
    let lines = same_Some (decimal one.lines) (decimal other.lines) (sym p.lines ∙ q.lines) in
    λ i. record {
      pointers = decimal_injective one.pointers other.pointers (omega (arith, p.is_job.few_pointers)) (omega (arith, q.is_job.few_pointers)) pointers i;
      lines = decimal_injective one.lines other.lines (omega (arith, p.is_job.few_lines)) (omega (arith, q.is_job.few_lines)) lines i;
      answer = same_Some one.answer other.answer (sym p.answer ∙ q.answer) i;
      inputs = inputs_same one.inputs other.inputs (p.names ∙ sym q.names) i;
    }

-- words are those of one check at most
pub check_job_same : (words : List (List ℕ)) (one other : CheckJob) → CheckJobOf words one → CheckJobOf words other → one ≡ other
check_job_same words one other p q =
    let found = check_matched words one p in
    one_check found.0 one other (check_values words found.0 one found.1 p) (check_values words found.0 other found.1 q)
