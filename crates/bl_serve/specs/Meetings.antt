-- All passes meet.
use Rattle.std.specs.Prelude.{List, Option, All}
use Rattle.std.specs.List.{AllZip}
use Rattle.bl_page.specs.declared.page.Page.{Page}
use Rattle.bl_index.specs.declared.index.Pass.{Pass}
use Rattle.bl_claims.specs.Trails.{Trail}
use Rattle.bl_claims.specs.Seeing.{IsLinearizable}
use Rattle.bl_index.specs.Calls.{trail}
use Rattle.bl_map.specs.Meetings.{Comes}

-- All have seen one trail. It is linearizable, if what they had seen was.
pub record AllMeet (first : List (Option Page)) (old new : List Pass) : Type 0 where
  pub seen : Trail
  pub each : AllZip (Comes seen) old new
  pub may_be : All (λ p. IsLinearizable first (trail p)) old → IsLinearizable first seen
