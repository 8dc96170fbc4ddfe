use Rattle.std.proofs.Common.{Ok, Err, ◌∙◌, ap, arith}
use Rattle.std.proofs.lemmas.Result.{err_from_is_err_and}
use Rattle.family_gen.specs.declared.texts.FamilyTexts.{FamilyTexts}
use Rattle.bfgp_jobs.proofs.FamilyMachines.{domain_slice_short, problems_slice, pointers_few, due_of_slices}
use Rattle.bfgp_jobs.proofs.WithoutFiles.{gen_next, gen_end, gen_memory}
use Rattle.bfgp_jobs.proofs.family_search.search_family.Goals as goal

pub machine_of_texts-requires-clause-short_domain : goal.machine_of_texts-requires-clause-short_domain
machine_of_texts-requires-clause-short_domain c =
    domain_slice_short c.args.job.now.family c.args.job.now.number c.in_ok-texts.texts c.as_slice.result.now c.in_ok-texts.ensures c.as_slice.ensures

pub machine_of_texts-requires-clause-short_problems : goal.machine_of_texts-requires-clause-short_problems
machine_of_texts-requires-clause-short_problems c =
    (problems_slice c.args.job.now.family c.args.job.now.number c.in_ok-texts.texts c.as_slice-2.result.now c.in_ok-texts.ensures c.as_slice-2.ensures).0

pub machine_of_texts-requires-clause-some_problems : goal.machine_of_texts-requires-clause-some_problems
machine_of_texts-requires-clause-some_problems c =
    (problems_slice c.args.job.now.family c.args.job.now.number c.in_ok-texts.texts c.as_slice-2.result.now c.in_ok-texts.ensures c.as_slice-2.ensures).1

pub machine_of_texts-requires-clause-few_problems : goal.machine_of_texts-requires-clause-few_problems
machine_of_texts-requires-clause-few_problems c =
    (problems_slice c.args.job.now.family c.args.job.now.number c.in_ok-texts.texts c.as_slice-2.result.now c.in_ok-texts.ensures c.as_slice-2.ensures).2

pub machine_of_texts-requires-clause-some_pointers : goal.machine_of_texts-requires-clause-some_pointers
machine_of_texts-requires-clause-some_pointers c = (pointers_few c.args.job.now.family c.args.job.now.number c.in_ok-texts.texts c.in_ok-texts.ensures).0

pub machine_of_texts-requires-clause-few_pointers : goal.machine_of_texts-requires-clause-few_pointers
machine_of_texts-requires-clause-few_pointers c = (pointers_few c.args.job.now.family c.args.job.now.number c.in_ok-texts.texts c.in_ok-texts.ensures).1

pub summary-requires-clause-pointers : goal.summary-requires-clause-pointers
summary-requires-clause-pointers c =
    let few = pointers_few c.args.job.now.family c.args.job.now.number c.in_ok-texts.texts c.in_ok-texts.ensures in
    let same = c.in_ok-machine.ensures.pointers in
    (omega (arith, same, few.0), omega (arith, same, few.1))

pub summary-requires-clause-bounds : goal.summary-requires-clause-bounds
summary-requires-clause-bounds c = ap (λ (t : FamilyTexts). t.bounds) c.in_ok-texts.ensures

pub summary-requires-clause-sizes : goal.summary-requires-clause-sizes
summary-requires-clause-sizes c = ap (λ (t : FamilyTexts). t.sizes) c.in_ok-texts.ensures

pub returns-in_err-machine-clause-due : goal.returns-in_err-machine-clause-due
returns-in_err-machine-clause-due c =
    let p = err_from_is_err_and c.from_residual-in_err-machine.result c.from_residual-in_err-machine.ensures.1 in
    let job = c.args.job.now in
    let halt = c.in_err-machine.field-0.0 in
    rw (p.1, p.2) (gen_end job halt (due_of_slices job.family job.number c.in_ok-texts.texts c.as_bytes.result.now c.as_slice.result.now c.as_slice-2.result.now (Err halt) c.in_ok-texts.ensures (c.as_bytes.ensures.value ∙ c.name.ensures) c.as_slice.ensures c.as_slice-2.ensures c.in_err-machine.ensures.due))

pub returns-in_err-machine-clause-cause : goal.returns-in_err-machine-clause-cause
returns-in_err-machine-clause-cause c =
    let p = err_from_is_err_and c.from_residual-in_err-machine.result c.from_residual-in_err-machine.ensures.1 in
    let job = c.args.job.now in
    let halt = c.in_err-machine.field-0.0 in
    rw (p.1, p.2) (gen_memory job halt (due_of_slices job.family job.number c.in_ok-texts.texts c.as_bytes.result.now c.as_slice.result.now c.as_slice-2.result.now (Err halt) c.in_ok-texts.ensures (c.as_bytes.ensures.value ∙ c.name.ensures) c.as_slice.ensures c.as_slice-2.ensures c.in_err-machine.ensures.due) c.in_err-machine.ensures.cause)

pub returns-clause-due : goal.returns-clause-due
returns-clause-due c =
    let job = c.args.job.now in
    let machine = c.in_ok-machine.machine in
    gen_next job machine c.in_ok-summary.field-0 (due_of_slices job.family job.number c.in_ok-texts.texts c.as_bytes.result.now c.as_slice.result.now c.as_slice-2.result.now (Ok machine) c.in_ok-texts.ensures (c.as_bytes.ensures.value ∙ c.name.ensures) c.as_slice.ensures c.as_slice-2.ensures c.in_ok-machine.ensures.due) c.in_ok-summary.ensures.due
