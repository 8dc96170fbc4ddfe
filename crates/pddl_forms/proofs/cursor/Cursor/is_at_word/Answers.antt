use Rattle.std.proofs.Common.{sym, rules}
use denote.Enum.Bare.{same_true}
use Rattle.pddl_lexer.specs.contracts.lexer.Kind.{the_type}
use Rattle.pddl_forms.proofs.Fronts.{comes_as-seen}
use Rattle.pddl_forms.proofs.cursor.Cursor.is_at_word.Goals as goal

pub returns-then-eq : goal.returns-then-eq
returns-then-eq c =
    let same = same_true the_type (search rules) _ _ (sym c.if-eq.ensures) in
    rw (← c.self.view_is) (comes_as-seen _ _ _ _ _ _ c.in-len1-up.len_at_least same c.requires.word c.requires.lower c.eq_ignore_ascii_case.ensures.test)
