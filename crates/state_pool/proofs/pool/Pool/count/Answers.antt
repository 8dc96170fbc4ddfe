use Rattle.std.proofs.Common.{sym, ◌∙◌}
use Rattle.state_pool.proofs.Entries.{count-held}
use Rattle.state_pool.proofs.pool.Pool.count.Goals as goal

pub returns : goal.returns
returns g c = rw (← c.self.view_is) (c.len.ensures ∙ sym (count-held c.self.inside.entries.slots c.self.invariant))
