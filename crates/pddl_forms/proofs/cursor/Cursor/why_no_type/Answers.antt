use Rattle.std.proofs.Common.{true, false, sym, ◌∙◌}
use Rattle.pddl_forms.proofs.TypedSteps.{no_type_of-tokens}
use Rattle.pddl_forms.proofs.cursor.Cursor.why_no_type.Goals as goal

pub returns-then-is_at_word : goal.returns-then-is_at_word
returns-then-is_at_word c =
    let comes = sym c.is_at_word.ensures ∙ c.if-is_at_word.true in
    rw (← c.self.view_is) (no_type_of-tokens c.self.inside.bytes.now c.self.inside.tokens.now true (rw c.self.view_is comes))

pub returns-else-is_at_word : goal.returns-else-is_at_word
returns-else-is_at_word c =
    let comes = sym c.is_at_word.ensures ∙ c.if-is_at_word.false in
    rw (← c.self.view_is) (no_type_of-tokens c.self.inside.bytes.now c.self.inside.tokens.now false (rw c.self.view_is comes))
