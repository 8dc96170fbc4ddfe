use Rattle.std.proofs.Common.{◌≡◌, ◌∙◌, ◌++◌, ◌+◌, ℕ, List, [], ◌∷◌, length, sym, subst, refl, ap, arith}
use Rattle.std.proofs.lemmas.List.{length-append}
use Rattle.flag_rules.specs.Line.{line}
use Rattle.document_check.specs.Inner.Pieces.{Advances}
use Rattle.document_check.proofs.Completing.{nothing_taken, goes_on, line_taken}
use Rattle.document_check.proofs.reading.Reading.take.Goals as goal

pub loop-front-init : goal.loop-front-init
loop-front-init g c = record {
  lines = refl;
  reading = c.requires.reading;
  taken = record { before = []; cut = refl; goes_on = nothing_taken (g.M.Machine.semantics c.args.machine.now) c.args.names.now c.args.self.now };
}

pub loop-front-smaller : goal.loop-front-smaller
loop-front-smaller g c =
    let cut = ap length c.in-Some.ensures.some.0 in
    let all = length-append (line c.in-Some.front.now) c.in-Some.after.now in
    let one = length-append c.in-Some.front.now (10 ∷ []) in
    omega (arith, cut, all, one)

pub loop-front-preserved : goal.loop-front-preserved
loop-front-preserved g c = record {
  lines = c.end_line.ensures.lines ∙ c.loop-front.invariant.lines;
  reading = c.end_line.ensures.reading;
  taken = line_taken (g.M.Machine.semantics c.args.machine.now) c.args.names.now c.args.self.now c.loop-front.self c.end_line.new.self c.args.piece.now c.loop-front.rest.now c.in-Some.front.now c.in-Some.after.now
      c.loop-front.invariant.taken c.in-Some.ensures.some.0 c.end_line.ensures.goes_on;
}

pub returns-clause-goes_on : goal.returns-clause-goes_on
returns-clause-goes_on g c =
    let m = g.M.Machine.semantics c.args.machine.now in
    let texts = c.args.names.now in
    let taken = c.loop-front.invariant.taken in
    subst (λ (l : List ℕ). Advances m texts c.args.self.now l c.add.new.self) (sym taken.cut) (goes_on m texts c.args.self.now c.loop-front.self c.add.new.self taken.before c.loop-front.rest.now taken.goes_on c.add.ensures.goes_on)
