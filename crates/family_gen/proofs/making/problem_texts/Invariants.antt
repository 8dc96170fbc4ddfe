use Rattle.std.proofs.Common.{◌≡◌, map, take}
use Rattle.pddl_printer.specs.Printing.{printed_problem}
use Rattle.family_gen.specs.Problems.{problem_of}
use Rattle.family_gen.proofs.making.problem_texts.Given as goal

abbrev pub invariant-loop-size : goal.invariant-loop-size
invariant-loop-size l = l.texts ≡ map (λ size. printed_problem (problem_of l.which size)) (take l.size-index l.sizes)
