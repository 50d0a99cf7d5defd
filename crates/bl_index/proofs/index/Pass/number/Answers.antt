use Rattle.std.proofs.Common.{sym, ◌∙◌}
use Rattle.bl_index.proofs.index.Pass.number.Goals as goal

pub returns : goal.returns
returns c = rw (← c.self.view_is) (c.number.ensures ∙ sym c.self.inside.hand.own.0)
