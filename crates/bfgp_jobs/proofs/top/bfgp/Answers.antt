use Rattle.std.proofs.Common.{map, string_bytes}
use Rattle.bfgp_outside.specs.Shelf.{Files}
use Rattle.input_reading.proofs.Chain.{knowing}
use Rattle.bfgp_jobs.specs.Due.{Due}
use Rattle.bfgp_jobs.specs.Headline.{Headline}
use Rattle.bfgp_jobs.specs.Answers.{Answers}
use Rattle.bfgp_jobs.specs.Acceptance.{CheckAccepts}
use Rattle.bfgp_jobs.proofs.Headlines.{headline}
use Rattle.bfgp_jobs.proofs.Accepting.{check_accepts}
use Rattle.bfgp_jobs.proofs.Statuses.{spent_written}
use Rattle.bfgp_jobs.proofs.Written.{written_due}
use Rattle.bfgp_jobs.proofs.WithoutFiles.{reply_stands, memory_stands, no_read_fault}
use Rattle.bfgp_jobs.proofs.top.bfgp.Goals as goal

pub returns-in-Ok-clause-headline : goal.returns-in-Ok-clause-headline
returns-in-Ok-clause-headline g c =
    let words = map string_bytes c.args.words.now in
    let old = g.K.Sink.written c.args.out.now in
    let new = g.K.Sink.written c.write.new.out in
    knowing (g.S.Shelf.files c.args.shelf.now) (λ (files : Files). Due words files c.in-Ok.reply) (λ (files : Files). Headline words files c.write.result old new)
    (λ files due. headline words files c.in-Ok.reply c.write.result old new due c.write.ensures.writes)
    c.in-Ok.ensures.due

pub returns-in-Ok-clause-check_accepts : goal.returns-in-Ok-clause-check_accepts
returns-in-Ok-clause-check_accepts g c =
    let words = map string_bytes c.args.words.now in
    let old = g.K.Sink.written c.args.out.now in
    let new = g.K.Sink.written c.write.new.out in
    knowing (g.S.Shelf.files c.args.shelf.now) (λ (files : Files). Due words files c.in-Ok.reply) (λ (files : Files). CheckAccepts words files c.write.result old new)
    (λ files due. check_accepts words files c.in-Ok.reply c.write.result old new due c.write.ensures.writes)
    c.in-Ok.ensures.due

pub returns-in-Ok-clause-due : goal.returns-in-Ok-clause-due
returns-in-Ok-clause-due g c =
    let words = map string_bytes c.args.words.now in
    let old = g.K.Sink.written c.args.out.now in
    let new = g.K.Sink.written c.write.new.out in
    knowing (g.S.Shelf.files c.args.shelf.now) (λ (files : Files). Due words files c.in-Ok.reply) (λ (files : Files). Answers (Due words files) c.write.result old new)
    (λ files due. written_due (Due words files) c.in-Ok.reply c.write.result old new due c.in-Ok.ensures.status c.write.ensures.writes)
    c.in-Ok.ensures.due

pub returns-in-Ok-clause-search_alone : goal.returns-in-Ok-clause-search_alone
returns-in-Ok-clause-search_alone g c = λ spent.
    spent_written (map string_bytes c.args.words.now) c.in-Ok.reply c.write.result (g.K.Sink.written c.args.out.now) (g.K.Sink.written c.write.new.out) c.write.ensures.writes c.in-Ok.ensures.spent spent

pub returns-in-Ok-clause-family : goal.returns-in-Ok-clause-family
returns-in-Ok-clause-family g c = λ family.
    reply_stands (map string_bytes c.args.words.now) c.in-Ok.reply c.write.result (g.K.Sink.written c.args.out.now) (g.K.Sink.written c.write.new.out) c.write.ensures.writes (c.in-Ok.ensures.family family)

pub returns-in-Err-ReadFault-clause-family : goal.returns-in-Err-ReadFault-clause-family
returns-in-Err-ReadFault-clause-family g c = λ family.
    let replies = rw c.in-Err-ReadFault.field-0-is at c.in-Err-ReadFault.ensures.family family in
    no_read_fault (map string_bytes c.args.words.now) _ _ replies

pub returns-in-Err-OutOfMemory-clause-family : goal.returns-in-Err-OutOfMemory-clause-family
returns-in-Err-OutOfMemory-clause-family g c = λ family. memory_stands (map string_bytes c.args.words.now) (g.K.Sink.written c.args.out.now)
