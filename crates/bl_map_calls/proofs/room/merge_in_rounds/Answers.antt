use Rattle.std.proofs.Common.{rules}
use Rattle.bl_map_calls.specs.Follows.{NothingDone}
use Rattle.bl_map_calls.proofs.Following.{keeps_on}
use Rattle.bl_map_calls.proofs.room.merge_in_rounds.Goals as goal

pub loop-round-init : goal.loop-round-init
loop-round-init g c = record { same = search rules; readies = NothingDone }

pub loop-round-preserved : goal.loop-round-preserved
loop-round-preserved g c = let inv = c.loop-round.invariant in record { same = search rules; readies = keeps_on _ _ _ _ _ _ inv.same.2 inv.readies c.walk_all.ensures.readies }

pub returns-then-not-walk_all-clause-readies : goal.returns-then-not-walk_all-clause-readies
returns-then-not-walk_all-clause-readies g c = let inv = c.loop-round.invariant in keeps_on _ _ _ _ _ _ inv.same.2 inv.readies c.walk_all.ensures.readies
