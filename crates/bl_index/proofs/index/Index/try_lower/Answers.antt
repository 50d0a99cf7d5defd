use Rattle.std.proofs.Common.{◌∙◌}
use Rattle.bl_index_events.specs.Answered.{WritesNothing}
use Rattle.bl_index.proofs.Taken.{same_pass, of_inside}
use Rattle.bl_index.proofs.Attempts.{undone_told}
use Rattle.bl_index.proofs.GivingUp.{sunk_told}
use Rattle.bl_index.proofs.index.Index.try_lower.Goals as goal

pub returns-clause-same : goal.returns-clause-same
returns-clause-same c = rw (← c.pass.view_is) (same_pass c.pass.inside.hand c.lower_briefly.new.hand c.lower_briefly.ensures.same c.lower_briefly.ensures.first)

pub returns-clause-lowers : goal.returns-clause-lowers
returns-clause-lowers c = let own = of_inside c.self.view_is c.pass.view_is c.requires.own in rw (← c.self.view_is, ← c.pass.view_is) (sunk_told _ _ _ _ own.2 c.lower_briefly.result c.lower_briefly.ensures.sunk)

pub returns-clause-undone : goal.returns-clause-undone
returns-clause-undone c = let own = of_inside c.self.view_is c.pass.view_is c.requires.own in rw (← c.self.view_is, ← c.pass.view_is) (undone_told WritesNothing _ _ _ _ own.2 c.lower_briefly.result c.lower_briefly.ensures.undone)

pub invariant_of-pass-inside : goal.invariant_of-pass-inside
invariant_of-pass-inside c = let e = c.lower_briefly.ensures in (e.rests.idle, (e.empty, (e.rests.within, (e.rests.over, (∣ e.seen ∣₁, tt)))))
