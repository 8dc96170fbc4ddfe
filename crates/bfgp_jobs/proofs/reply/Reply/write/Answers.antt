use Rattle.std.proofs.Common.{ℕ, List, sym, ◌∙◌, ap, subst}
use Rattle.bfgp_outside.specs.Sink.{Puts}
use Rattle.bfgp_jobs.specs.Reply.{Reply}
use Rattle.bfgp_jobs.specs.Inner.Body.{text_of}
use Rattle.bfgp_jobs.proofs.reply.Reply.write.Goals as goal

pub returns-in-Summary : goal.returns-in-Summary
returns-in-Summary g c =
    subst (λ (text : List ℕ). Puts g.K.Sink.written g.K.Sink.faults c.args.sink.now c.write_summary.new.sink c.write_summary.result text)
    (ap text_of (sym c.in-Summary.is) ∙ ap (λ (r : Reply). r.text) c.self.view_is)
    c.write_summary.ensures
