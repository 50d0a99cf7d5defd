-- Every state of a step list.
use Rattle.std.specs.Prelude.{ℕ, ◌≤◌, length, take}
use Rattle.bl_model.specs.Map.{Map}
use Rattle.bl_model.specs.History.{final_map}
use Rattle.bl_page.specs.declared.page.Page.{Page}
use Rattle.bl_page.specs.Machine.{State}
use Rattle.bl_claims.specs.Trails.{Trail, history_of, LeadsOn}
use Rattle.bl_claims.specs.Moments.{snapshot_of, HasLaws}

-- One moment: the marks so far lead from the start, each event enabled in its turn, to pages that have the laws of the tree,
-- with the map after the history so far, from the first map. So the lone walk of each key ends at its leaf there.
pub record Moment (first : Map) (start : State Page) (trail : Trail) : Type 0 where
  pub now : State Page
  pub leads : LeadsOn start trail now
  pub laws : HasLaws (snapshot_of now trail) (final_map first (history_of trail))

-- every moment so far: after any number of events
abbrev pub HasMoments : Map → State Page → Trail → Type 0
HasMoments first start trail = (i : ℕ) → i ≤ length trail → Moment first start (take i trail)
