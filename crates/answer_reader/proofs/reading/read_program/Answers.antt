use Rattle.std.proofs.Common.{◌≡◌, ◌∙◌, ◌+◌, [], ◌∷◌, ◌++◌, length, take, drop, sym, refl, ap, subst, arith, length-set}
use Rattle.std.specs.Prelude.{Some, Ok, Err}
use Rattle.std.proofs.lemmas.List.{length-take-le}
use Rattle.program_model.specs.declared.instr.Instr.{Instr}
use Rattle.program_model.specs.declared.instr.Instr.TheVariants.{End}
use Rattle.program_model.specs.Program.{Program}
use Rattle.program_model.proofs.Programs.{length-empty}
use Rattle.answer_reader.specs.Inner.Following.{past_instrs, past_ends}
use Rattle.answer_reader.specs.Inner.ReadingOn.{StandsAt}
use Rattle.answer_reader.proofs.Whole.{instrs_end}
use Rattle.answer_reader.proofs.Onwards.{program_line_reads, instr_reads, end_reads}
use Rattle.answer_reader.proofs.Refused.{refused}
use Rattle.answer_reader.proofs.Instrs.{one_more_instr, rest_unread, all_but_end}
use Rattle.answer_reader.proofs.reading.read_program.Goals as goal

pub returns-in_err-read_known : goal.returns-in_err-read_known
returns-in_err-read_known c = λ heading trees are bytes at.
    let texts = c.args.names.now in
    let size = c.args.size in
    let new = c.read_known.new.reader in
    let refusal = c.in_err-read_known.field-0.0 in
    refused texts bytes (λ (u : Unit {0}). past_instrs heading trees size []) (λ (program : Program). past_ends heading trees program []) new new refusal c.from_residual.result c.from_residual.ensures.1
    (program_line_reads tt texts are c.args.reader.now new (Err refusal) heading trees size c.in_err-read_known.ensures bytes at)

pub loop-line-init : goal.loop-line-init
loop-line-init c =
    let size = c.args.size in
    record {
      size = ap length c.empty-program.ensures ∙ length-empty size c.requires.some;
      rest = c.empty-program.ensures;
      on = λ bytes heading trees are at.
          program_line_reads tt c.args.names.now are c.args.reader.now c.read_known.new.reader (Ok c.in_ok-read_known.field-0) heading trees size c.in_ok-read_known.ensures bytes at;
    }

pub returns-in_err-instr : goal.returns-in_err-instr
returns-in_err-instr c = λ heading trees are bytes at.
    let texts = c.args.names.now in
    let size = c.args.size in
    let line = c.loop-line.line in
    let before = take line c.loop-line.program in
    let new = c.read_instr_line.new.reader in
    let refusal = c.in_err-instr.field-0.0 in
    let count : line ≡ length before = sym (length-take-le line c.loop-line.program (omega (arith, c.loop-line.invariant.size, c.loop-line-test.true))) in
    refused texts bytes (λ (instr : Instr). past_instrs heading trees size (before ++ Some instr ∷ [])) (λ (program : Program). past_ends heading trees program []) new new refusal
    c.from_residual-in_err-instr.result c.from_residual-in_err-instr.ensures.1
    (instr_reads texts are c.loop-line.reader new heading trees size line before (Err refusal) count (omega (arith, c.loop-line-test.true)) c.in_err-instr.ensures bytes (c.loop-line.invariant.on bytes heading trees are at))

pub loop-line-preserved : goal.loop-line-preserved
loop-line-preserved c =
    let size = c.args.size in
    let line = c.loop-line.line in
    let program = c.loop-line.program in
    let before = take line program in
    let instr = c.in_ok-instr.instr in
    let new = c.read_instr_line.new.reader in
    record {
      size = ap length c.define.ensures ∙ length-set program line (Some instr) ∙ c.loop-line.invariant.size;
      rest = ap (drop (line + 1)) c.define.ensures ∙ rest_unread program size line (line + 1) instr refl c.loop-line.invariant.rest;
      on = λ bytes heading trees are at.
          let texts = c.args.names.now in
          let count : line ≡ length before = sym (length-take-le line program (omega (arith, c.loop-line.invariant.size, c.loop-line-test.true))) in
          let more : take (line + 1) c.define.new.self ≡ before ++ Some instr ∷ [] =
          ap (take (line + 1)) c.define.ensures ∙ one_more_instr program line (line + 1) instr refl (omega (arith, c.loop-line.invariant.size, c.loop-line-test.true)) in
          subst (λ (p : Program). StandsAt texts bytes new (past_instrs heading trees size p)) (sym more)
          (instr_reads texts are c.loop-line.reader new heading trees size line before (Ok instr) count (omega (arith, c.loop-line-test.true)) c.in_ok-instr.ensures bytes (c.loop-line.invariant.on bytes heading trees are at));
    }

pub returns-in_err-read_known-2 : goal.returns-in_err-read_known-2
returns-in_err-read_known-2 c = λ heading trees are bytes at.
    let texts = c.args.names.now in
    let size = c.args.size in
    let line = c.loop-line.line in
    let before = take line c.loop-line.program in
    let new = c.read_known-2.new.reader in
    let refusal = c.in_err-read_known-2.field-0.0 in
    let last : line + 1 ≡ size = omega (arith, c.loop-line-test.false, c.loop-line.auto.line-end, c.requires.some) in
    let count : length before ≡ line = length-take-le line c.loop-line.program (omega (arith, c.loop-line.invariant.size, last)) in
    refused texts bytes (λ (u : Unit {0}). past_instrs heading trees size (before ++ Some End ∷ [])) (λ (program : Program). past_ends heading trees program []) new new refusal
    c.from_residual-in_err-read_known-2.result c.from_residual-in_err-read_known-2.ensures.1
    (end_reads tt texts are c.loop-line.reader new (Err refusal) heading trees size before (omega (arith, count, last)) c.in_err-read_known-2.ensures bytes (c.loop-line.invariant.on bytes heading trees are at))

pub returns : goal.returns
returns c = λ heading trees are bytes at.
    let texts = c.args.names.now in
    let size = c.args.size in
    let line = c.loop-line.line in
    let program = c.loop-line.program in
    let before = take line program in
    let new = c.read_known-2.new.reader in
    let last : line + 1 ≡ size = omega (arith, c.loop-line-test.false, c.loop-line.auto.line-end, c.requires.some) in
    let count : length before ≡ line = length-take-le line program (omega (arith, c.loop-line.invariant.size, last)) in
    let all : before ++ Some End ∷ [] ≡ program = all_but_end program size line (omega (arith, c.requires.some)) last c.loop-line.invariant.rest in
    subst (StandsAt texts bytes new) (ap (λ (p : Program). past_instrs heading trees size p) all ∙ instrs_end heading trees size program (omega (arith, c.loop-line.invariant.size)))
    (end_reads tt texts are c.loop-line.reader new (Ok c.in_ok-read_known-2.field-0) heading trees size before (omega (arith, count, last)) c.in_ok-read_known-2.ensures bytes (c.loop-line.invariant.on bytes heading trees are at))
