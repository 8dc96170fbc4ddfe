-- From the reply that is due to the headline.
use Rattle.std.proofs.Common.{◌≡◌, ℕ, ◌<◌, ◌≤◌, List, [], length, map, slice_get, Option, Some, Ok, Bool, true, false, refl, sym, ◌∙◌, ap, subst, arith}
use Rattle.std.specs.Prelude.{slice_index_or}
use Rattle.std.proofs.lemmas.List.{length-map}
use Rattle.std.proofs.lemmas.List.Elements.{All-map}
use Rattle.std.proofs.lemmas.Option.{slice_get-get_or}
use Rattle.std.proofs.lemmas.Slice.Zip.{AllZip-long}
use Rattle.bfgp_outside.specs.Shelf.{Files}
use Rattle.bfgp_outside.specs.Sink.{Appends}
use Rattle.flag_rules.specs.declared.file.TheConstants.{MAX_FILE_BYTES}
use Rattle.ground_state.specs.declared.parts.TaskParts.{TaskParts}
use Rattle.ground_state.specs.declared.parts.InstanceParts.{InstanceParts}
use Rattle.ground_state.specs.Instance.{IsInstance}
use Rattle.ground_state.specs.Ground.{ground_of}
use Rattle.ground_state.specs.Action.{IsTableOf}
use Rattle.program_model.specs.declared.alphabet.TheConstants.{MAX_OPS}
use Rattle.program_model.specs.declared.machine.TheConstants.{MAX_INSTANCES, MAX_POINTERS}
use Rattle.program_model.specs.Program.{Program, IsProgram}
use Rattle.program_model.specs.Semantics.{Semantics}
use Rattle.program_text.specs.Names.{AreNames}
use Rattle.program_text.specs.Reading.{Reads}
use Rattle.pointer_machine.specs.declared.pointing.Pointing.{Pointing}
use Rattle.pointer_machine.specs.Machine.{MachineParts, AreMachineParts, meaning_of}
use Rattle.pointer_machine.specs.Meaning.{IsValueOf, table_at}
use Rattle.pointer_machine.specs.Operations.{operations_of, operation_count}
use Rattle.pointer_machine.specs.Texts.{form_text, operation_texts}
use Rattle.pointer_machine.proofs.Counts.{length-operations}
use Rattle.pointer_machine.proofs.Symmetry.{symmetric_meaning}
use Rattle.instance_report.specs.declared.answer.Report.{Report}
use Rattle.instance_report.specs.Report.{IsReport}
use Rattle.instance_report.proofs.Solving.{solved_exactly, unsolved_somewhere}
use Rattle.refutation_tree.specs.declared.evidence.Answer.{Answer}
use Rattle.refutation_tree.specs.declared.evidence.Outcome.{Outcome}
use Rattle.refutation_tree.specs.declared.evidence.Outcome.TheVariants as outcomes
use Rattle.refutation_tree.specs.Accepted.{IsAccepted, IsSpentAt}
use Rattle.refutation_tree.specs.Covers.{IsFair}
use Rattle.refutation_tree.specs.Grammar.{IsFromOneTo, IsGrammatical, FitsOutcome}
use Rattle.refutation_tree.proofs.Holding.{accepted_least, accepted_none, accepted_spent}
use Rattle.pointer_symmetry.specs.Twins.{twins}
use Rattle.pointer_symmetry.proofs.FairTwins.{twins_fair}
use Rattle.answer_writer.specs.Document.{document}
use Rattle.search_bounds.specs.declared.bounds.Bounds.{Bounds}
use Rattle.search_bounds.specs.Limits.{AreWithinLimits}
use Rattle.family_gen.specs.Families.{pointers_of, bounds_of}
use Rattle.family_gen.specs.Parts.{family_task, family_instances}
use Rattle.summary_writer.specs.Summary.{summary}
use Rattle.answer_reader.specs.Reading.{IsDocument}
use Rattle.synthesis.specs.BestFirst.{best_first, IsBestFirstAnswer}
use Rattle.synthesis.proofs.Accepting.{searched_accepted}
use Rattle.synthesis.proofs.SpentBudgets.{spent_budget_shown}
use Rattle.synthesis.proofs.SpentRuns.{spent_run_shown}
use Rattle.command_words.specs.declared.job.Job.{Job}
use Rattle.command_words.specs.declared.job.Job.TheVariants.{Synth, Check, Run, Gen}
use Rattle.command_words.specs.declared.job.SynthJob.{SynthJob}
use Rattle.command_words.specs.declared.job.CheckJob.{CheckJob}
use Rattle.command_words.specs.declared.job.RunJob.{RunJob}
use Rattle.command_words.specs.declared.job.GenJob.{GenJob}
use Rattle.command_words.specs.Words.{JobOf, IsSynthJob, IsCheckJob, IsJob}
use Rattle.command_words.proofs.OneJob.{job_kept}
use Rattle.input_reading.specs.Posed.{Poses, HoldsInstance}
use Rattle.input_reading.specs.Steps.{goes_on}
use Rattle.input_reading.specs.Inputs.{machine_due}
use Rattle.input_reading.proofs.Held.{machine_held, whole_held}
use Rattle.input_reading.proofs.OperationNames.{operations-named}
use Rattle.bfgp_jobs.specs.declared.check.TheConstants.{MAX_DOCUMENT_BYTES}
use Rattle.bfgp_jobs.specs.declared.status.Status.{Status}
use Rattle.bfgp_jobs.specs.declared.status.Status.TheVariants.{Done, No, Usage, Input, SpentExpansions, SpentRun, ReadFault, WriteFault, OutOfMemory}
use Rattle.bfgp_jobs.specs.Reply.{Reply}
use Rattle.bfgp_jobs.specs.Due.{Due, answer, fault, usage, synth_due, check_due, run_due, gen_due, job_due, status_of, report_status, VerdictDue, accepted, rejected}
use Rattle.bfgp_jobs.specs.Headline.{Headline, Succeeds, Refutes, posed_parts, posed_machine, NoneShorter, NoneSolvesEach, GivesLeast, Shows, SaysAnswer, FindsLeast, RefutesAll, SpendsBudgetAt, SpendsRunAt, SearchResult, OfSynth, OfGen, OfSearch, TellsSummary, family_operations, PosesCheck, DocumentShows, DocumentFails, PosesProgram, ProgramSolves, ProgramFails}
use Rattle.bfgp_jobs.specs.Inner.Replying.{Writes}
use Rattle.bfgp_jobs.proofs.Checks.{one_document}
use Rattle.bfgp_jobs.proofs.Runs.{program_over}
use Rattle.bfgp_jobs.proofs.FamilyMachines.{family_machine_is, family_holds, family_operations_few, family_pointers_few, family_instances_few}
use Rattle.bfgp_jobs.proofs.Searches.{family_bounds_within}
use Rattle.bfgp_jobs.proofs.Summaries.{ends_with_program}
use Rattle.bfgp_jobs.proofs.GoalRuns.{solves_each, each_within, fails_one, solves_all, ends_each}

-- ---- what an accepted answer shows
-- instances of a task, as parts that are valid
abbrev pub AreFit : TaskParts → List InstanceParts → Type 0
AreFit task instances = (t : ℕ) (instance : InstanceParts) → slice_get instances t ≡ Some instance → IsInstance task instance

-- they are valid, and the machine over them is within its limits
pub record ArePosed (task : TaskParts) (instances : List InstanceParts) (pointers : ℕ) : Type 0 where
  pub fit : AreFit task instances
  pub few_pointers : IsFromOneTo MAX_POINTERS pointers
  pub few_instances : IsFromOneTo MAX_INSTANCES (length instances)
  pub few_operations : operation_count task pointers ≤ MAX_OPS

-- so they are the parts of a machine
posed_are_parts : (task : TaskParts) (instances : List InstanceParts) (pointers : ℕ) → ArePosed task instances pointers → AreMachineParts (posed_parts task instances pointers)
posed_are_parts task instances pointers are =
    let tables = length-map instances (ground_of task) in
    record {
      tables = All-map (IsTableOf task) (ground_of task) instances (λ t otherwise within. record {
        instance = slice_index_or instances t otherwise;
        fits = are.fit t (slice_index_or instances t otherwise) (slice_get-get_or instances t otherwise within);
        made = refl;
      });
      some_tables = omega (arith, tables, are.few_instances.0);
      few_tables = omega (arith, tables, are.few_instances.1);
      some_pointers = are.few_pointers.0;
      few_pointers = are.few_pointers.1;
      few_operations = are.few_operations;
    }

-- and passing twins over loses no solution
twins_are_fair : (task : TaskParts) (instances : List InstanceParts) (pointers : ℕ) → ArePosed task instances pointers → IsFair (posed_machine task instances pointers) (twins (posed_machine task instances pointers))
twins_are_fair task instances pointers are =
    let tables = map (ground_of task) instances in
    twins_fair (posed_machine task instances pointers) (λ t value. (t < length tables) × IsValueOf (table_at tables t) pointers value)
    (symmetric_meaning task tables pointers (posed_are_parts task instances pointers are)) are.few_pointers.1

module _ (task : TaskParts) (instances : List InstanceParts) (pointers lines : ℕ) (are : ArePosed task instances pointers) (found : Answer) (is_accepted : IsAccepted (posed_machine task instances pointers) (twins (posed_machine task instances pointers)) lines found) where
  -- its program is a least one
  gives_least : (size : ℕ) → found.outcome ≡ outcomes.Program size → GivesLeast task instances pointers lines found
  gives_least size is =
      let machine = posed_machine task instances pointers in
      let shown = accepted_least machine (twins machine) (twins_are_fair task instances pointers are) lines size found is_accepted is in
      record {
        program = shown.program;
        is_least = record {
          is_program = shown.least.is_program;
          at_most = omega (arith, shown.size_is, shown.within);
          solves = solves_each task instances pointers are.fit shown.program shown.least.solves;
          least = λ other is_one fewer solved. shown.least.least other is_one fewer (solves_all task instances pointers are.fit other solved);
        };
        found = is ∙ ap outcomes.Program (sym shown.size_is);
        given = shown.given;
        ends = ends_each task instances pointers are.fit shown.program found.ends shown.ends;
      }

  -- there is none where it says so
  none_solves_each : found.outcome ≡ outcomes.Nothing → NoneSolvesEach task instances pointers lines
  none_solves_each is program is_one few solved =
      let machine = posed_machine task instances pointers in
      accepted_none machine (twins machine) (twins_are_fair task instances pointers are) lines found is_accepted is program is_one few (solves_all task instances pointers are.fit program solved)

  -- there is none of fewer lines than the size at which a budget was spent
  none_shorter : (size : ℕ) → IsSpentAt size found.outcome → NoneShorter task instances pointers size
  none_shorter size is program is_one fewer solved =
      let machine = posed_machine task instances pointers in
      accepted_spent machine (twins machine) (twins_are_fair task instances pointers are) lines size found is_accepted is program is_one fewer (solves_all task instances pointers are.fit program solved)

  -- so what it says is so
  shows : (outcome : Outcome) → found.outcome ≡ outcome → Shows task instances pointers lines found outcome
  shows (outcomes.Program size) is = gives_least size is
  shows outcomes.Nothing is = none_solves_each is
  shows (outcomes.SpentExpansions size) is = none_shorter size (subst (IsSpentAt size) (sym is) refl)
  shows (outcomes.SpentRun size t) is = none_shorter size (subst (IsSpentAt size) (sym is) refl)

-- ---- what the answer of a search shows
-- the answer of a search over instances of a task that are valid, where its numbers are within their limits
pub record IsSearched (task : TaskParts) (instances : List InstanceParts) (pointers : ℕ) (bounds : Bounds) (found : Answer) : Type 0 where
  pub are : ArePosed task instances pointers
  pub within : AreWithinLimits bounds
  pub is_answer : IsBestFirstAnswer (posed_machine task instances pointers) bounds found

-- the outcome by its status
done_is : (outcome : Outcome) → status_of outcome ≡ Done → (size : ℕ) × (outcome ≡ outcomes.Program size)
done_is (outcomes.Program size) done = (size, refl)
done_is outcomes.Nothing done = absurd (cc)
done_is (outcomes.SpentExpansions size) done = absurd (cc)
done_is (outcomes.SpentRun size t) done = absurd (cc)

no_is : (outcome : Outcome) → status_of outcome ≡ No → outcome ≡ outcomes.Nothing
no_is (outcomes.Program size) refuted = absurd (cc)
no_is outcomes.Nothing refuted = refl
no_is (outcomes.SpentExpansions size) refuted = absurd (cc)
no_is (outcomes.SpentRun size t) refuted = absurd (cc)

budget_is : (outcome : Outcome) → status_of outcome ≡ SpentExpansions → (size : ℕ) × (outcome ≡ outcomes.SpentExpansions size)
budget_is (outcomes.Program size) spent = absurd (cc)
budget_is outcomes.Nothing spent = absurd (cc)
budget_is (outcomes.SpentExpansions size) spent = (size, refl)
budget_is (outcomes.SpentRun size t) spent = absurd (cc)

run_is : (outcome : Outcome) → status_of outcome ≡ SpentRun → (size t : ℕ) × (outcome ≡ outcomes.SpentRun size t)
run_is (outcomes.Program size) spent = absurd (cc)
run_is outcomes.Nothing spent = absurd (cc)
run_is (outcomes.SpentExpansions size) spent = absurd (cc)
run_is (outcomes.SpentRun size t) spent = (size, t, refl)

module _ (task : TaskParts) (instances : List InstanceParts) (pointers : ℕ) (bounds : Bounds) (found : Answer) (known : IsSearched task instances pointers bounds found) where
  abbrev machine : Semantics Pointing
  machine = posed_machine task instances pointers

  abbrev texts : List (List ℕ)
  texts = operation_texts task pointers

  ops : length texts ≡ machine.ops
  ops = length-map (operations_of task pointers) (form_text task)

  -- the answer is accepted
  searched_is_accepted : IsAccepted machine (twins machine) bounds.lines found
  searched_is_accepted =
      let count = length-operations task pointers in
      let tables = length-map instances (ground_of task) in
      let within = known.within in
      searched_accepted (best_first machine bounds) bounds.budget (omega (arith, within.few_splits)) (omega (arith, within.few_steps)) bounds.lines found
      (omega (arith, count, known.are.few_pointers.0))
      known.are.few_pointers
      (omega (arith, tables, known.are.few_instances.0), omega (arith, tables, known.are.few_instances.1))
      (within.some_lines, within.few_lines)
      known.is_answer

  -- it is of the grammar
  searched_is_grammatical : IsGrammatical (length texts) found
  searched_is_grammatical = subst (λ (n : ℕ). IsGrammatical n found) (sym ops) searched_is_accepted.grammatical

  module _ (Written : Answer → Type 0) (written : Written found) where
    -- with status 0 a program solves, and none with fewer lines does
    finds : status_of found.outcome ≡ Done → FindsLeast task instances pointers bounds Written
    finds done =
        let outcome = done_is found.outcome done in
        record {
          answer = found;
          gives = gives_least task instances pointers bounds.lines known.are found searched_is_accepted outcome.0 outcome.1;
          searched = known.is_answer;
          written = written;
        }

    -- with status 1 none does
    refutes : status_of found.outcome ≡ No → RefutesAll task instances pointers bounds Written
    refutes refuted =
        let outcome = no_is found.outcome refuted in
        record {
          none = none_solves_each task instances pointers bounds.lines known.are found searched_is_accepted outcome;
          answer = found;
          nothing = outcome;
          no_program = (subst (FitsOutcome machine.ops found) outcome searched_is_accepted.grammatical.outcome).0;
          searched = known.is_answer;
          written = written;
        }

    -- with status 4 the budget is spent
    spends_budget : status_of found.outcome ≡ SpentExpansions → SpendsBudgetAt task instances pointers bounds Written
    spends_budget spent =
        let outcome = budget_is found.outcome spent in
        record {
          answer = found;
          size = outcome.0;
          says = outcome.1;
          spends = spent_budget_shown (best_first machine bounds) bounds.budget bounds.lines outcome.0 found known.is_answer outcome.1;
          none = none_shorter task instances pointers bounds.lines known.are found searched_is_accepted outcome.0 (subst (IsSpentAt outcome.0) (sym outcome.1) refl);
          no_program = (subst (FitsOutcome machine.ops found) outcome.1 searched_is_accepted.grammatical.outcome).0;
          searched = known.is_answer;
          written = written;
        }

    -- with status 5 a run is at its limit
    spends_run : status_of found.outcome ≡ SpentRun → SpendsRunAt task instances pointers bounds Written
    spends_run spent =
        let outcome = run_is found.outcome spent in
        record {
          answer = found;
          size = outcome.0;
          t = outcome.1;
          says = outcome.2;
          spends = spent_run_shown (best_first machine bounds) bounds.budget bounds.lines outcome.0 outcome.1 found known.is_answer outcome.2;
          none = none_shorter task instances pointers bounds.lines known.are found searched_is_accepted outcome.0 (subst (IsSpentAt outcome.0) (sym outcome.2) refl);
          no_program = (subst (FitsOutcome machine.ops found) outcome.2 searched_is_accepted.grammatical.outcome).1.0;
          searched = known.is_answer;
          written = written;
        }

-- the result of a search that ends with a status
abbrev ResultOf : Status → SearchResult
ResultOf Done = FindsLeast
ResultOf No = RefutesAll
ResultOf SpentExpansions = SpendsBudgetAt
ResultOf SpentRun = SpendsRunAt
ResultOf _ = λ task instances pointers bounds Written. Unit {0}

search_shows : (task : TaskParts) (instances : List InstanceParts) (pointers : ℕ) (bounds : Bounds) (found : Answer) → IsSearched task instances pointers bounds found → (Written : Answer → Type 0) → Written found → (status : Status) → status_of found.outcome ≡ status → ResultOf status task instances pointers bounds Written
search_shows task instances pointers bounds found known Written written Done is = finds task instances pointers bounds found known Written written is
search_shows task instances pointers bounds found known Written written No is = refutes task instances pointers bounds found known Written written is
search_shows task instances pointers bounds found known Written written SpentExpansions is = spends_budget task instances pointers bounds found known Written written is
search_shows task instances pointers bounds found known Written written SpentRun is = spends_run task instances pointers bounds found known Written written is
search_shows task instances pointers bounds found known Written written Usage is = tt
search_shows task instances pointers bounds found known Written written Input is = tt
search_shows task instances pointers bounds found known Written written ReadFault is = tt
search_shows task instances pointers bounds found known Written written WriteFault is = tt
search_shows task instances pointers bounds found known Written written OutOfMemory is = tt

-- ---- a reply of `synth`
-- what is posed, the machine over it, and the search's answer on it
pub record Answered (files : Files) (job : SynthJob) (reply : Reply) : Type 0 where
  pub posed : Poses job.inputs files
  pub machine : MachineParts
  pub made : machine_due files job.inputs job.pointers (Ok machine)
  pub machine_is : machine ≡ posed_parts posed.task posed.instances job.pointers
  pub found : Answer
  pub searched : IsSearched posed.task posed.instances job.pointers job.bounds found
  pub is : reply ≡ record { status = status_of found.outcome; text = document (operation_texts posed.task job.pointers) found }
  pub named : AreNames (operation_texts posed.task job.pointers)

pub answered : (files : Files) (job : SynthJob) (reply : Reply) → IsSynthJob job → synth_due files job (Ok reply) → Answered files job reply
answered files job reply is_job (goes_on {a = machine} made found) =
    let held = machine_held files job.inputs job.pointers machine made in
    let given = AllZip-long (HoldsInstance files held.posed.domain) job.inputs.instances held.posed.instances held.posed.instances_are in
    let inputs = is_job.inputs in
    record {
      posed = held.posed;
      machine = machine;
      made = made;
      machine_is = held.is;
      found = found.0;
      searched = record {
        are = record {
          fit = held.fit;
          few_pointers = (is_job.some_pointers, is_job.few_pointers);
          few_instances = (omega (arith, given, inputs.some_instances), omega (arith, given, inputs.few_instances));
          few_operations = held.few;
        };
        within = is_job.bounds;
        is_answer = subst (λ (m : MachineParts). IsBestFirstAnswer (meaning_of m) job.bounds found.0) held.is found.1;
      };
      is = subst (λ (m : MachineParts). reply ≡ record { status = status_of found.0.outcome; text = document (operation_texts m.task m.pointers) found.0 }) held.is found.2;
      named = operations-named held.posed.task job.pointers held.is_task is_job.some_pointers is_job.few_pointers held.few;
    }

module _ (files : Files) (job : SynthJob) (reply : Reply) (known : Answered files job reply) where
  abbrev posed_texts : List (List ℕ)
  posed_texts = operation_texts known.posed.task job.pointers

  -- the answer is accepted
  pub answer_accepted : IsAccepted (posed_machine known.posed.task known.posed.instances job.pointers) (twins (posed_machine known.posed.task known.posed.instances job.pointers)) job.bounds.lines known.found
  answer_accepted = searched_is_accepted known.posed.task known.posed.instances job.pointers job.bounds known.found known.searched

  -- the document says it
  pub document_says : IsDocument posed_texts (document posed_texts known.found) known.found
  document_says = (searched_is_grammatical known.posed.task known.posed.instances job.pointers job.bounds known.found known.searched, refl)

  -- what was written says this answer, and no other
  writes_answer : (old new : Option (List ℕ)) → Appends old new reply.text → SaysAnswer posed_texts old new known.found
  writes_answer old new appended = record {
    bytes = document posed_texts known.found;
    appended = subst (λ (r : Reply). Appends old new r.text) known.is appended;
    says = document_says;
    only = λ other says_too. one_document posed_texts (document posed_texts known.found) other known.found known.named says_too document_says;
  }

  -- the result of the search
  synth_shows : (status : Status) (old new : Option (List ℕ)) → reply.status ≡ status → Appends old new reply.text → OfSynth (ResultOf status) job files old new
  synth_shows status old new ended appended =
      (known.posed, search_shows known.posed.task known.posed.instances job.pointers job.bounds known.found known.searched (SaysAnswer posed_texts old new) (writes_answer old new appended) status (sym (ap (λ (r : Reply). r.status) known.is) ∙ ended))

-- ---- a reply of `gen`
-- the search's answer on the instances of the family
record FamilyAnswered (job : GenJob) (reply : Reply) : Type 0 where
  found : Answer
  named : AreNames (family_operations job.family)
  searched : IsSearched (family_task job.family) (family_instances job.family job.number) (pointers_of job.family) (bounds_of job.family) found
  is : reply ≡ record { status = status_of found.outcome; text = summary (family_operations job.family) job.family job.number found }

family_answered : (job : GenJob) (reply : Reply) → gen_due job (Ok reply) → FamilyAnswered job reply
family_answered job reply (goes_on {a = machine} made found) =
    let family = job.family in
    let is = family_machine_is family job.number machine made in
    let holds = family_holds family job.number machine made in
    record {
      found = found.0;
      named = holds.named;
      searched = record {
        are = record {
          fit = holds.fit;
          few_pointers = family_pointers_few family;
          few_instances = family_instances_few family job.number;
          few_operations = family_operations_few family;
        };
        within = family_bounds_within family;
        is_answer = subst (λ (m : MachineParts). IsBestFirstAnswer (meaning_of m) (bounds_of family) found.0) is found.1;
      };
      is = subst (λ (m : MachineParts). reply ≡ record { status = status_of found.0.outcome; text = summary (operation_texts m.task m.pointers) family job.number found.0 }) is found.2;
    }

-- the result of the search
gen_shows : (job : GenJob) (reply : Reply) (status : Status) (old new : Option (List ℕ)) → gen_due job (Ok reply) → reply.status ≡ status → Appends old new reply.text → OfGen (ResultOf status) job old new
gen_shows job reply status old new due ended appended =
    let family = job.family in
    let known = family_answered job reply due in
    let instances = family_instances family job.number in
    let is_grammatical = searched_is_grammatical (family_task family) instances (pointers_of family) (bounds_of family) known.found known.searched in
    let tells : TellsSummary job old new known.found = record {
      appended = subst (λ (r : Reply). Appends old new r.text) known.is appended;
      program = λ program given. ends_with_program (family_operations family) family job.number known.found program given known.named is_grammatical;
    } in
    search_shows (family_task family) instances (pointers_of family) (bounds_of family) known.found known.searched (TellsSummary job old new) tells status (sym (ap (λ (r : Reply). r.status) known.is) ∙ ended)

-- ---- a reply of `check`
-- what is posed, and the verdict on the document that its file holds
record Checked (files : Files) (job : CheckJob) (reply : Reply) : Type 0 where
  poses : PosesCheck job files
  are : ArePosed poses.posed.task poses.posed.instances job.pointers
  named : AreNames (operation_texts poses.posed.task job.pointers)
  verdict : VerdictDue (posed_parts poses.posed.task poses.posed.instances job.pointers) job.lines poses.bytes (Ok reply)

checked : (files : Files) (job : CheckJob) (reply : Reply) → IsCheckJob job → check_due files job (Ok reply) → Checked files job reply
checked files job reply is_job (goes_on {a = machine} made (goes_on {a = bytes} read verdict)) =
    let held = machine_held files job.inputs job.pointers machine made in
    let given = AllZip-long (HoldsInstance files held.posed.domain) job.inputs.instances held.posed.instances held.posed.instances_are in
    let inputs = is_job.inputs in
    record {
      poses = record { posed = held.posed; bytes = bytes; held = whole_held (files job.answer) MAX_DOCUMENT_BYTES bytes read };
      are = record {
        fit = held.fit;
        few_pointers = (is_job.some_pointers, is_job.few_pointers);
        few_instances = (omega (arith, given, inputs.some_instances), omega (arith, given, inputs.few_instances));
        few_operations = held.few;
      };
      named = operations-named held.posed.task job.pointers held.is_task is_job.some_pointers is_job.few_pointers held.few;
      verdict = subst (λ (m : MachineParts). VerdictDue m job.lines bytes (Ok reply)) held.is verdict;
    }

module _ (files : Files) (job : CheckJob) (poses : PosesCheck job files) (are : ArePosed poses.posed.task poses.posed.instances job.pointers) (named : AreNames (operation_texts poses.posed.task job.pointers)) where
  abbrev parts : MachineParts
  parts = posed_parts poses.posed.task poses.posed.instances job.pointers

  -- with status 0 the document is that of an accepted answer
  document_shows : (reply : Reply) → VerdictDue parts job.lines poses.bytes (Ok reply) → reply.status ≡ Done → DocumentShows job files
  document_shows _ (accepted is) done = record {
    poses = poses;
    is_accepted = is;
    only = λ other says_too. one_document (operation_texts poses.posed.task job.pointers) poses.bytes other is.answer named says_too is.says;
    shows = shows poses.posed.task poses.posed.instances job.pointers job.lines are is.answer is.is_accepted is.answer.outcome refl;
  }
  document_shows _ (rejected none) done = absurd (cc)

  -- with status 1 it is not
  document_fails : (reply : Reply) → VerdictDue parts job.lines poses.bytes (Ok reply) → reply.status ≡ No → DocumentFails job files
  document_fails _ (accepted is) refuted = absurd (cc)
  document_fails _ (rejected none) refuted = record { poses = poses; fails = none }

-- ---- a reply of `run`
-- what is posed, the program that its file holds, and the report on its runs
record Reported (files : Files) (job : RunJob) (reply : Reply) : Type 0 where
  posed : Poses job.inputs files
  fit : AreFit posed.task posed.instances
  bytes : List ℕ
  held : files job.program ≡ Some bytes
  program : Program
  reads : Reads (operation_texts posed.task job.pointers) bytes (Ok program)
  report : Report
  is_report : IsReport (posed_machine posed.task posed.instances job.pointers) program job.run report
  status_is : reply.status ≡ report_status report.all_solved

reported : (files : Files) (job : RunJob) (reply : Reply) → run_due files job (Ok reply) → Reported files job reply
reported files job reply (goes_on {a = machine} made (goes_on {a = bytes} read (goes_on {a = program} reads found))) =
    let held = machine_held files job.inputs job.pointers machine made in
    record {
      posed = held.posed;
      fit = held.fit;
      bytes = bytes;
      held = whole_held (files job.program) MAX_FILE_BYTES bytes read;
      program = program;
      reads = subst (λ (m : MachineParts). Reads (operation_texts m.task m.pointers) bytes (Ok program)) held.is reads;
      report = found.0;
      is_report = subst (λ (m : MachineParts). IsReport (meaning_of m) program job.run found.0) held.is found.1;
      status_is = ap (λ (r : Reply). r.status) found.2;
    }

-- the status 0 is that of a report on which all instances are solved, and the status 1 that of any other
all_are_solved : (all_solved : Bool) → report_status all_solved ≡ Done → all_solved ≡ true
all_are_solved true done = refl
all_are_solved false done = absurd (cc)

not_all_are_solved : (all_solved : Bool) → report_status all_solved ≡ No → all_solved ≡ false
not_all_are_solved true refuted = absurd (cc)
not_all_are_solved false refuted = refl

module _ (files : Files) (job : RunJob) (reply : Reply) (known : Reported files job reply) where
  abbrev run_machine : Semantics Pointing
  run_machine = posed_machine known.posed.task known.posed.instances job.pointers

  is_whole : IsProgram run_machine.ops known.program
  is_whole = program_over (record { task = known.posed.task; tables = []; pointers = job.pointers }) known.bytes known.program known.reads

  abbrev poses : PosesProgram job files
  poses = record { posed = known.posed; bytes = known.bytes; held = known.held; program = known.program; reads = known.reads }

  program_solves : reply.status ≡ Done → ProgramSolves job files
  program_solves done =
      let all_solved = all_are_solved known.report.all_solved (sym known.status_is ∙ done) in
      let exactly = solved_exactly run_machine run_machine.ops known.program is_whole.is_partial job.run known.is_report.runs known.is_report.are_runs in
      record {
        poses = poses;
        solves = each_within known.posed.task known.posed.instances job.pointers known.fit known.program job.run (exactly.0 (sym known.is_report.all_solved ∙ all_solved));
      }

  program_fails : reply.status ≡ No → ProgramFails job files
  program_fails refuted =
      let not_all = not_all_are_solved known.report.all_solved (sym known.status_is ∙ refuted) in
      let one = unsolved_somewhere run_machine run_machine.ops known.program is_whole.is_partial job.run known.is_report.runs known.is_report.are_runs (sym known.is_report.all_solved ∙ not_all) in
      record {
        poses = poses;
        fails = fails_one known.posed.task known.posed.instances job.pointers known.fit known.program job.run one.t one.within one.fails;
      }

-- ---- the statuses of `check` and `run`
abbrev IsYesOrNo : Status → Type 0
IsYesOrNo Done = Unit {0}
IsYesOrNo No = Unit {0}
IsYesOrNo _ = ⊥

verdict_status : (machine : MachineParts) (lines : ℕ) (bytes : List ℕ) (reply : Reply) → VerdictDue machine lines bytes (Ok reply) → IsYesOrNo reply.status
verdict_status _ _ _ _ (accepted is) = tt
verdict_status _ _ _ _ (rejected none) = tt

solved_status : (all_solved : Bool) → IsYesOrNo (report_status all_solved)
solved_status true = tt
solved_status false = tt

checked_status : (files : Files) (job : CheckJob) (reply : Reply) → check_due files job (Ok reply) → IsYesOrNo reply.status
checked_status files job reply (goes_on {a = machine} made (goes_on {a = bytes} read verdict)) = verdict_status machine job.lines bytes reply verdict

run_status : (files : Files) (job : RunJob) (reply : Reply) → run_due files job (Ok reply) → IsYesOrNo reply.status
run_status files job reply here = let known = reported files job reply here in subst IsYesOrNo (sym known.status_is) (solved_status known.report.all_solved)

-- ---- the headline
-- with status 0
succeeds : (files : Files) (job : Job) (reply : Reply) (old new : Option (List ℕ)) → IsJob job → job_due files job (Ok reply) → reply.status ≡ Done → Appends old new reply.text → Succeeds job files old new
succeeds files (Synth job) reply old new is_job here done appended = synth_shows files job reply (answered files job reply is_job here) Done old new done appended
succeeds files (Check job) reply old new is_job here done appended = let known = checked files job reply is_job here in document_shows files job known.poses known.are known.named reply known.verdict done
succeeds files (Run job) reply old new is_job here done appended = program_solves files job reply (reported files job reply here) done
succeeds files (Gen job) reply old new is_job here done appended = gen_shows job reply Done old new here done appended

-- with status 1
refuted : (files : Files) (job : Job) (reply : Reply) (old new : Option (List ℕ)) → IsJob job → job_due files job (Ok reply) → reply.status ≡ No → Appends old new reply.text → Refutes job files old new
refuted files (Synth job) reply old new is_job here status appended = synth_shows files job reply (answered files job reply is_job here) No old new status appended
refuted files (Check job) reply old new is_job here status appended = let known = checked files job reply is_job here in document_fails files job known.poses known.are known.named reply known.verdict status
refuted files (Run job) reply old new is_job here status appended = program_fails files job reply (reported files job reply here) status
refuted files (Gen job) reply old new is_job here status appended = gen_shows job reply No old new here status appended

-- with status 4 and with status 5
spent : (files : Files) (job : Job) (reply : Reply) (status : Status) (old new : Option (List ℕ)) → IsJob job → job_due files job (Ok reply) → (IsYesOrNo status → ⊥) → reply.status ≡ status → Appends old new reply.text → OfSearch (ResultOf status) job files old new
spent files (Synth job) reply status old new is_job here neither ended appended = synth_shows files job reply (answered files job reply is_job here) status old new ended appended
spent files (Check job) reply status old new is_job here neither ended appended = absurd (neither (subst IsYesOrNo ended (checked_status files job reply here)))
spent files (Run job) reply status old new is_job here neither ended appended = absurd (neither (subst IsYesOrNo ended (run_status files job reply here)))
spent files (Gen job) reply status old new is_job here neither ended appended = gen_shows job reply status old new here ended appended

-- a reply that tells neither a fault nor the usage is what a job comes to
pub record Concluded (words : List (List ℕ)) (files : Files) (reply : Reply) : Type 0 where
  pub job : Job
  pub job_is : JobOf words job
  pub comes : job_due files job (Ok reply)

pub concluded : (words : List (List ℕ)) (files : Files) (reply : Reply) → ((reply.status ≡ Input) → ⊥) → ((reply.status ≡ Usage) → ⊥) → Due words files reply → Concluded words files reply
concluded words files reply no_input no_usage (answer job job_is here) = record { job = job; job_is = job_is; comes = here }
concluded words files _ no_input no_usage (fault job job_is here) = absurd (no_input refl)
concluded words files _ no_input no_usage (usage none) = absurd (no_usage refl)

-- what was written gives the headline
pub headline : (words : List (List ℕ)) (files : Files) (reply : Reply) (status : Status) (old new : Option (List ℕ)) → Due words files reply → Writes reply status old new → Headline words files status old new
headline words files reply Done old new due writes =
    let wrote = writes.whole (λ e. cc) in
    let known = concluded words files reply (λ is. let both = wrote.0 ∙ is in cc) (λ is. let both = wrote.0 ∙ is in cc) due in
    (known.job, known.job_is, succeeds files known.job reply old new (job_kept words known.job known.job_is) known.comes (sym wrote.0) wrote.1)
headline words files reply No old new due writes =
    let wrote = writes.whole (λ e. cc) in
    let known = concluded words files reply (λ is. let both = wrote.0 ∙ is in cc) (λ is. let both = wrote.0 ∙ is in cc) due in
    (known.job, known.job_is, refuted files known.job reply old new (job_kept words known.job known.job_is) known.comes (sym wrote.0) wrote.1)
headline words files reply Usage old new due writes = tt
headline words files reply Input old new due writes = tt
headline words files reply SpentExpansions old new due writes =
    let wrote = writes.whole (λ e. cc) in
    let known = concluded words files reply (λ is. let both = wrote.0 ∙ is in cc) (λ is. let both = wrote.0 ∙ is in cc) due in
    (known.job, known.job_is, spent files known.job reply SpentExpansions old new (job_kept words known.job known.job_is) known.comes (λ yes_or_no. yes_or_no) (sym wrote.0) wrote.1)
headline words files reply SpentRun old new due writes =
    let wrote = writes.whole (λ e. cc) in
    let known = concluded words files reply (λ is. let both = wrote.0 ∙ is in cc) (λ is. let both = wrote.0 ∙ is in cc) due in
    (known.job, known.job_is, spent files known.job reply SpentRun old new (job_kept words known.job known.job_is) known.comes (λ yes_or_no. yes_or_no) (sym wrote.0) wrote.1)
headline words files reply ReadFault old new due writes = tt
headline words files reply WriteFault old new due writes = tt
headline words files reply OutOfMemory old new due writes = tt
