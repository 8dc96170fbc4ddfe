use Rattle.std.proofs.Common.{refl, ap, subst, [], List, ℕ}
use Rattle.std.specs.Prelude.{Some}
use Rattle.program_model.specs.Program.{Program}
use Rattle.answer_reader.specs.declared.reading.Found.{Found}
use Rattle.answer_reader.specs.Inner.Following.{past_trees, past_ends, at_end}
use Rattle.answer_reader.specs.Inner.ReadingOn.{StandsAt}
use Rattle.answer_reader.proofs.Refused.{refused}
use Rattle.answer_reader.proofs.reading.read_found.Goals as goal

pub returns-in_err-program : goal.returns-in_err-program
returns-in_err-program c = λ trees are bytes at.
    let texts = c.args.names.now in
    let heading = c.args.heading in
    let new = c.read_program.new.reader in
    let at_once = subst (StandsAt texts bytes c.args.reader.now) (ap (past_trees heading trees) c.in-Program.is) at in
    refused texts bytes (λ (program : Program). past_ends heading trees program []) (λ (found : Found). at_end heading trees found.program found.ends) new new c.in_err-program.field-0.0 c.from_residual.result c.from_residual.ensures.1
    (c.in_err-program.ensures heading trees are bytes at_once)

pub returns-in_err-ends : goal.returns-in_err-ends
returns-in_err-ends c = λ trees are bytes at.
    let texts = c.args.names.now in
    let heading = c.args.heading in
    let program = c.in_ok-program.program in
    let new = c.read_ends.new.reader in
    let at_once = subst (StandsAt texts bytes c.args.reader.now) (ap (past_trees heading trees) c.in-Program.is) at in
    refused texts bytes (λ (ends : List ℕ). at_end heading trees (Some program) ends) (λ (found : Found). at_end heading trees found.program found.ends) new new c.in_err-ends.field-0.0
    c.from_residual-in_err-ends.result c.from_residual-in_err-ends.ensures.1
    (c.in_err-ends.ensures texts heading trees program are refl bytes (c.in_ok-program.ensures heading trees are bytes at_once))
