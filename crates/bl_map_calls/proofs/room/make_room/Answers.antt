use Rattle.std.proofs.Common.{refl}
use Rattle.bl_map_calls.specs.Follows.{NothingDone}
use Rattle.bl_map_calls.proofs.Following.{keeps_on, keeps_swept}
use Rattle.bl_map_calls.proofs.room.make_room.Goals as goal

pub returns-then-may_lack_pages-clause-readies : goal.returns-then-may_lack_pages-clause-readies
returns-then-may_lack_pages-clause-readies g c = keeps_on _ _ _ _ _ _ c.wait_for.ensures.same.2 (keeps_swept _ _ _ _ _ _ refl NothingDone c.wait_for.ensures.swept) c.find_pages.ensures.readies

pub returns-else-may_lack_pages-clause-readies : goal.returns-else-may_lack_pages-clause-readies
returns-else-may_lack_pages-clause-readies g c = keeps_swept _ _ _ _ _ _ refl NothingDone c.wait_for.ensures.swept
