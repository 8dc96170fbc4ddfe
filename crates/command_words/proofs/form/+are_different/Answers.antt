use Rattle.std.proofs.Common.{[]}
use Rattle.command_words.specs.declared.scanning.OptionUse.{OptionUse}
use Rattle.command_words.proofs.FormTests.{new_first, first_again}
use Rattle.command_words.proofs.form.+are_different.Goals as goal

abbrev none : OptionUse
none = record { name = record { ref_ptr = (0, 0); now = [] }; value = record { ref_ptr = (0, 0); now = [] } }

pub returns-then-not-is_used : goal.returns-then-not-is_used
returns-then-not-is_used t c =
    new_first c.args.uses.now none c.is_used.result c.are_different.result c.in-len1-up.len_at_least c.is_used.ensures c.if-not-is_used.true c.are_different.ensures

pub returns-else-not-is_used : goal.returns-else-not-is_used
returns-else-not-is_used t c =
    first_again c.args.uses.now none c.is_used.result c.in-len1-up.len_at_least c.is_used.ensures c.if-not-is_used.false
