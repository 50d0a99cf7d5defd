use Rattle.bl_index_compress.proofs.CompressionCourses.{leaves_since}
use Rattle.bl_index_compress.proofs.children.compress_two.Goals as goal

pub open_family-requires-clause-runs : goal.open_family-requires-clause-runs
open_family-requires-clause-runs g c = c.latch_and_compress-decision.ensures.runs

pub open_family-requires-clause-empty : goal.open_family-requires-clause-empty
open_family-requires-clause-empty g c = c.latch_and_compress-decision.ensures.empty

pub open_family-requires-clause-no_room : goal.open_family-requires-clause-no_room
open_family-requires-clause-no_room g c = c.latch_and_compress-decision.ensures.no_room

pub returns : goal.returns
returns g c =
    let d = c.latch_and_compress-decision.ensures in
    leaves_since c.args.tree.now c.args.hand.now.seat c.latch_and_compress-decision.new.hand.seat c.open_family.new.hand c.args.target c.open_family.result d.same d.since c.open_family.ensures
