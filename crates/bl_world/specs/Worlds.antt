-- The world behind what stands in one: its pages, owners, processes and events are those of a good world.
use Rattle.std.specs.Prelude.{◌≡◌, ℕ, suc, ◌<◌, ◌≤◌, ◌≢◌, List, [], length, Some, slice_get}
use Rattle.bl_model.specs.Map.{empty}
use Rattle.bl_page.specs.declared.page.Page.{Page}
use Rattle.bl_page.specs.Machine.{Name}
use Rattle.bl_page.specs.Machine.Owner.{Retired}
use Rattle.bl_page.specs.Machine.Phase.{Waiting, Running, Ended}
use Rattle.bl_claims.specs.Trails.{events_of, marks_of}
use Rattle.bl_claims.specs.States.{HasMoments}
use Rattle.bl_tree_worlds.specs.Worlds.{World as ModelWorld, IsGood}
use Rattle.bl_tree_worlds.specs.Blank.{IsBlank}
use Rattle.bl_claims.specs.Opening.{Opening}
use Rattle.bl_proc.specs.declared.reclaiming.Reclaim.{Reclaim}
use Rattle.bl_proc.specs.declared.reclaiming.ReclaimStage.{ReclaimStage}
use Rattle.bl_proc.specs.declared.reclaiming.ReclaimStage.TheVariants as reclaim
use Rattle.bl_proc.specs.declared.kinds.Proc.{Proc}
use Rattle.bl_proc.specs.declared.kinds.Proc.TheVariants as proc
use Rattle.bl_proc_invariant.specs.Logs.{AllLogs}
use Rattle.bl_proc_invariant.specs.Knowing.{Run, know}
use Rattle.bl_proc_bounds.specs.Paces.{AllKept}
use Rattle.bl_world.specs.declared.turns.Act.TheVariants as shown
use Rattle.bl_world.specs.declared.turns.Event.{Event}
use Rattle.bl_world.specs.declared.owners.Owner.{Owner}
use Rattle.bl_world.specs.Views.{View, name_of, owner_of, events_shown}
use Rattle.bl_world.specs.Retirements.{Stands, IsRetired, HasSeen, MeansReclaimed, ReleasesSeen}
use Rattle.bl_world.specs.Accounts.{AllNumbered}

-- the key that a process is about
abbrev pub key_in : Proc → ℕ
key_in (proc.Find p) = p.key
key_in (proc.Write p) = p.key
key_in (proc.Post p) = p.key
key_in (proc.Part p) = p.from.key
key_in (proc.Compress p) = p.key
key_in (proc.Reclaim p) = 0
key_in (proc.Lower p) = 0
key_in (proc.InsertPost p) = p.key

-- none of the processes of that many has this name
abbrev pub IsUnknown : ℕ → Name → Type 0
IsUnknown count q = (n : ℕ) → n < count → q ≢ name_of (suc n)

-- Times are places of events: a page is retired since the event that retired it; and a process that runs began by an event
-- not later than it says, and has not ended.
pub record HasTimes (w : ModelWorld Run) (events : List Event) : Type 0 where
  pub clock : w.now.clock ≡ length events
  pub retired : (x k : ℕ) → w.now.owner x ≡ Retired k → IsRetired events x k (length events)
  pub only : (x k : ℕ) → IsRetired events x k (length events) → w.now.owner x ≡ Retired k
  pub began : (number since : ℕ) → w.now.phase (name_of number) ≡ Running since → (i : ℕ) × (i ≤ since) × Stands events i number shown.Begin
  pub going : (number : ℕ) → w.now.phase (name_of number) ≢ Ended → (j : ℕ) → ¬ Stands events j number shown.End

-- what the process with that number has done, that is to release page x, and since when it has seen it retired
abbrev pub IsReclaiming : List Event → ℕ → ℕ → ℕ → ReclaimStage → Type 0
IsReclaiming events number x k reclaim.Seeing = Unit {0}
IsReclaiming events number x k (reclaim.Looking r) = HasSeen events number x k (length events)
IsReclaiming events number x k reclaim.Releasing = HasSeen events number x k (length events)
IsReclaiming events number x k (reclaim.Over what) = MeansReclaimed events number x what

-- A good world that began with the opening index, has these pages and owners, in which each process stands as it does
-- here, and which shows these events. All other processes have done nothing.
pub record HasWorld (pages : List Page) (owners : List Owner) (processes : List Proc) (events : List Event) : Type 0 where
  pub world : ModelWorld Run
  pub good : IsGood know world
  pub logs : AllLogs world
  pub kept : AllKept world
  pub opening : Opening world.start
  pub first : world.first ≡ empty
  pub size : world.size ≡ length pages
  pub paired : length owners ≡ length pages
  pub contents : (x : ℕ) (c : Page) → slice_get pages x ≡ Some c → world.now.contents x ≡ c
  pub owner : (x : ℕ) (o : Owner) → slice_get owners x ≡ Some o → world.now.owner x ≡ owner_of o
  pub runs : (n : ℕ) (p : Proc) → slice_get processes n ≡ Some p → (world.proc (name_of (suc n))).state ≡ p
  pub others : (q : Name) → IsUnknown (length processes) q → (world.now.phase q ≡ Waiting) × IsBlank (know (world.proc q)) × (marks_of q world.trail ≡ [])
  pub shown : events ≡ events_shown (events_of world.trail)
  pub numbered : AllNumbered world.trail
  pub moments : HasMoments empty world.start world.trail
  pub times : HasTimes world events
  pub inside : (n : ℕ) (p : Reclaim) → slice_get processes n ≡ Some (proc.Reclaim p) → p.page < length pages
  pub reclaiming : (n : ℕ) (p : Reclaim) → slice_get processes n ≡ Some (proc.Reclaim p)
      → IsReclaiming events (suc n) p.page (world.proc (name_of (suc n))).time p.stage
  pub releases : ReleasesSeen events

-- There is such a world.
abbrev pub IsWorld : View → Type 0
IsWorld v = ∥ HasWorld v.pages v.owners v.processes v.events ∥₁
