use Rattle.std.proofs.Common.{refl}
use Rattle.bl_proc_steps.specs.declared.acts.Seen.TheVariants as seen
use Rattle.bl_proc_steps.specs.declared.approach.Approach.TheVariants as approach
use Rattle.bl_store.specs.Hands.{known}
use Rattle.bl_index_events.proofs.Standing.{on_goes, same_latch}
use Rattle.bl_index_descend.proofs.coming.latch_there.Goals as goal

pub returns-clause-done : goal.returns-clause-done
returns-clause-done g c = λ e. on_goes c.args.tree.now.store.layout seen.Done _ _ _ _ c.requires.runs.on (c.try_latch.ensures.done e) (g.met.J.Target.goes c.args.target.now c.args.path.now (approach.Latching c.args.page) (approach.Latched c.args.page) seen.Done tt refl)

pub returns-clause-missed : goal.returns-clause-missed
returns-clause-missed g c = λ e. on_goes c.args.tree.now.store.layout seen.Missed _ _ _ _ c.requires.runs.on (c.try_latch.ensures.missed e) (g.met.J.Target.goes c.args.target.now c.args.path.now (approach.Latching c.args.page) (approach.At c.args.page) seen.Missed tt refl)

pub returns-clause-since : goal.returns-clause-since
returns-clause-since g c = same_latch c.try_latch.result (known c.args.hand.now.seat) (known c.try_latch.new.hand.seat) c.try_latch.ensures.done c.try_latch.ensures.missed
