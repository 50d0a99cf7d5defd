use Rattle.std.proofs.Common.{◌∙◌}
use Rattle.bl_index_events.proofs.Standing.{same_all}
use Rattle.bl_index_edit.proofs.Walked.{leaves_since}
use Rattle.bl_index_edit.proofs.parents.walk.Goals as goal

pub returns-in-Ok : goal.returns-in-Ok
returns-in-Ok g c =
    leaves_since c.args.tree.now c.args.hand.now.seat c.loop.hand.seat c.walk_within.new.hand _ _ _ _ _ c.loop.invariant.same c.loop.invariant.since
    c.in-Ok.ensures.left

pub loop-preserved : goal.loop-preserved
loop-preserved g c =
    let on = c.in-Err.ensures.walks in let one = c.loop.invariant.same in let two = on.same in
    record {
      same = (two.0 ∙ one.0, two.1 ∙ one.1, two.2 ∙ one.2);
      empty = on.empty;
      runs = on.runs;
      walking = on.walking;
      since = same_all _ _ _ c.loop.invariant.since on.since;
    }
