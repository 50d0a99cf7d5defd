-- At every moment so far the pages have the laws of the tree.
use Rattle.std.proofs.Common.{◌≡◌, ap, ◌∙◌, subst}
use Rattle.bl_model.specs.Map.{empty}
use Rattle.bl_model.specs.History.{final_map}
use Rattle.bl_claims.specs.Trails.{history_of}
use Rattle.bl_claims.specs.Moments.{snapshot_of, HasLaws}
use Rattle.bl_claims.specs.States.{Moment}
use Rattle.bl_tree_worlds.specs.Worlds.{World as ModelWorld, IsGood}
use Rattle.bl_proc_invariant.specs.Logs.{AllLogs}
use Rattle.bl_proc_invariant.specs.Knowing.{Run, know}
use Rattle.bl_proc_invariant.proofs.Starting.{run_laws}

-- the map of a good world is the one after its history
pub world_map : (w : ModelWorld Run) → IsGood know w → w.first ≡ empty → w.map 0 ≡ final_map empty (history_of w.trail)
world_map w g first = λ i k. (g.recorded.map k ∙ ap (λ f. final_map f (history_of w.trail) k) first) i

pub world_moment : (w : ModelWorld Run) → IsGood know w → AllLogs w → w.first ≡ empty → Moment empty w.start w.trail
world_moment w g logs first = record {
  now = w.now;
  leads = g.recorded.leads;
  laws = subst (λ f. HasLaws (snapshot_of w.now w.trail) f) (world_map w g first) (run_laws w g (λ p since runs. logs p));
}
