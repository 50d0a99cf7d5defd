-- What a pass sees at its own event.
use Rattle.std.proofs.Common.{ℕ, ◌≡◌, ◌≢◌, ◌<◌, Option, List, sym, ap, ◌∙◌, subst}
use Rattle.bl_model.specs.Map.{Map}
use Rattle.bl_model.specs.History.{IsLegalFrom, final_map}
use Rattle.bl_page.specs.declared.page.Page.{Page}
use Rattle.bl_page.specs.Machine.{Name}
use Rattle.bl_page.specs.Machine.Owner.{Released, Held}
use Rattle.bl_claims.specs.Trails.{history_of}
use Rattle.bl_claims.specs.Moments.{snapshot_of, HasLaws}
use Rattle.bl_claims.specs.States.{Moment, HasMoments}
use Rattle.bl_tree_worlds.specs.Worlds.{World, IsGood}
use Rattle.bl_proc_steps.specs.declared.acts.Action.{Action}
use Rattle.bl_proc_steps.specs.declared.acts.Action.TheVariants as action
use Rattle.bl_proc_invariant.specs.Knowing.{Run, know}
use Rattle.bl_proc_invariant.proofs.Middles.{KeepsLogs}
use Rattle.bl_proc_invariant.proofs.Starting.{run_laws}
use Rattle.bl_proc_invariant.proofs.Near.{IsNear as IsNearIn}
use Rattle.bl_one_moment.specs.Moments.{IsFirm, FirmMoment}
use Rattle.bl_claims.specs.Seeing.{first_map, BeginsFrom, IsSeen}
use Rattle.bl_index_rule.specs.Observed.{IsNear}

-- the laws of the tree in a good world, with the map after its history
laws_now : (w : World Run) (image : List (Option Page)) → IsGood know w → KeepsLogs w → w.first ≡ first_map image → HasLaws (snapshot_of w.now w.trail) (final_map (first_map image) (history_of w.trail))
laws_now w image good logs first =
    let map : w.map 0 ≡ final_map (first_map image) (history_of w.trail) = λ i k. (good.recorded.map k ∙ ap (λ (z : Map). final_map z (history_of w.trail) k) first) i in
    subst (λ (z : Map). HasLaws (snapshot_of w.now w.trail) z) map (run_laws w good logs)

pub world_moment : (w : World Run) (image : List (Option Page)) → IsGood know w → KeepsLogs w → w.first ≡ first_map image → Moment (first_map image) w.start w.trail
world_moment w image good logs first = record { now = w.now; leads = good.recorded.leads; laws = laws_now w image good logs first }

pub firm_moment : (w : World Run) (image : List (Option Page)) → IsGood know w → KeepsLogs w → w.first ≡ first_map image → IsFirm w.now w.trail → FirmMoment (first_map image) w.start w.trail
firm_moment w image good logs first firm = record { moment = record { now = w.now; leads = good.recorded.leads; laws = laws_now w image good logs first }; firm = firm }

-- the trail of a good world that began so
pub world_seen : (w : World Run) (image : List (Option Page)) → IsGood know w → BeginsFrom image w.start → w.first ≡ first_map image → HasMoments (first_map image) w.start w.trail → IsSeen image w.trail
world_seen w image good opening first moments = record {
  linear = record {
    start = w.start;
    now = w.now;
    opening = opening;
    leads = good.recorded.leads;
    marked = good.recorded.marked;
    legal = subst (λ (z : Map). IsLegalFrom z (history_of w.trail)) first good.recorded.legal;
  };
  moments = moments;
}

module _ (w : World Run) (good : IsGood know w) (p : Name) where
  not_free : (x : ℕ) → w.now.owner x ≢ Released → x < w.size
  not_free x ne = good.owned.small x (λ e. ne (good.owned.free x e))

  mine : (x : ℕ) → w.now.owner x ≡ Held p → x < w.size
  mine x e = not_free x (λ r. let z : Held p ≡ Released = sym e ∙ r in cc)

  -- its next pages are pages of the world
  pub near_pages : (a : Action) → IsNearIn w p a → IsNear w.size a
  near_pages (action.Get x) h = not_free x h
  near_pages (action.Put x c) h = mine x h
  near_pages (action.Latch x) h = good.owned.small x h
  near_pages (action.Open x) h = mine x h
  near_pages action.Begin h = tt
  near_pages action.End h = tt
  near_pages action.Take h = tt
  near_pages (action.Retire x) h = mine x h
  near_pages (action.Look q) h = tt
  near_pages (action.See x) h = tt
  near_pages (action.Probe x) h = tt
  near_pages (action.Release x) h = tt
