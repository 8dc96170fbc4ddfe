use Rattle.std.proofs.Common.{[]}
use Rattle.document_check.proofs.Verdicts.{verdict_on}
use Rattle.document_check.proofs.file.check_file.Goals as goal

pub returns-clause-verdict : goal.returns-clause-verdict
returns-clause-verdict g c =
    let file = c.in_ok-read_through.ensures.ok in
    let old = c.args.checker in
    let new = c.read_through.new.taker.checker in
    verdict_on g.M.Machine.semantics old.machine new.machine old.texts new.texts old.lines new.lines (g.S.Shelf.files c.args.shelf.now) c.args.name.now file.bytes c.args.limit c.finish.result
    c.in_ok-read_through.ensures.asked file.within file.whole (c.finish.ensures file.bytes (file.took [] c.requires))
