use Rattle.std.proofs.Common.{rules, refl, ◌∙◌}
use Rattle.bl_map_calls.specs.Follows.{NothingDone}
use Rattle.bl_map_calls.proofs.Following.{keeps_on, keeps_swept}
use Rattle.bl_map_calls.proofs.room.find_pages.Goals as goal

pub loop-walk-init : goal.loop-walk-init
loop-walk-init g c = record { same = search rules; readies = keeps_swept _ _ _ _ _ _ refl NothingDone c.wait_for.ensures.swept }

pub loop-walk-preserved : goal.loop-walk-preserved
loop-walk-preserved g c = let inv = c.loop-walk.invariant in record {
  same = search rules;
  readies = keeps_swept _ _ _ _ _ _ (c.walk_all.ensures.same.2 ∙ inv.same.2) (keeps_on _ _ _ _ _ _ inv.same.2 inv.readies c.walk_all.ensures.readies) c.wait_for-in-loop-walk.ensures.swept;
}

pub returns-then-not-wants_walk-clause-readies : goal.returns-then-not-wants_walk-clause-readies
returns-then-not-wants_walk-clause-readies g c = let inv = c.loop-walk.invariant in keeps_on _ _ _ _ _ _ inv.same.2 inv.readies c.walk_piece.ensures.readies
