-- What threads do at a map in rounds, between which it grows.
use Rattle.std.specs.Prelude.{◌≡◌, ◌≢◌, ◌⊎◌, ◌*◌, ◌<◌, ◌≤◌, ◌++◌, ℕ, min, Bool, true, false, List, All, length, map}
use Rattle.std.specs.List.{AllZip}
use Rattle.bl_model.specs.Map.{Map as PlainMap}
use Rattle.bl_check.specs.declared.quiet.Quiet.{Quiet}
use Rattle.bl_index.specs.Calls.{pages_of}
use Rattle.bl_index.specs.Lives.{Life, GoesOnBehind}
use Rattle.bl_index.specs.Resized.{IsResizeFault}
use Rattle.bl_index.specs.declared.config.ResizeFault.{ResizeFault}
use Rattle.bl_index.specs.declared.index.Pass.{Pass}
use Rattle.bl_map.specs.declared.handle.Handle.{Handle}
use Rattle.bl_map.specs.declared.map.Map.{Map}
use Rattle.bl_map.specs.declared.map.UnresizedMap.TheVariants as unresized
use Rattle.bl_map.specs.Handles.{IsSameHandle, seat_of}
use Rattle.bl_map.specs.Maps.{IsNewHandle, IsMapResized, IsMapNotResized}
use Rattle.bl_map_work.specs.declared.fault.Unworked.{Unworked}
use Rattle.bl_map_work.specs.declared.fault.Unworked.TheVariants.{Kept, Closed}
use Rattle.bl_map_work.specs.declared.fault.WorkFault.{WorkFault}
use Rattle.bl_map_work.specs.declared.fault.WorkFault.TheVariants as fault
use Rattle.bl_map_work.specs.declared.job.Task.{Task}
use Rattle.bl_map_work.specs.declared.rounds.Worker.{Worker}

-- what a turn of a job does: whether the map may grow behind it, the job and the handle before it, whether the job is done, and both behind it
abbrev pub Doing : Type 0 → Type 1
Doing J = Bool → J → Handle → Bool → J → Handle → Type 0

-- the seats and the tasks of workers
abbrev pub seats_of : {J : Type 0} → List (Worker J) → List Pass
seats_of workers = map (λ w. seat_of w.handle) workers

abbrev pub tasks_of : {J : Type 0} → List (Worker J) → List (Task J)
tasks_of workers = map (λ w. w.task) workers

-- the worker has a new handle of that map
abbrev pub IsFresh : {J : Type 0} → Map → Worker J → Type 0
IsFresh whole worker = IsNewHandle whole (seat_of worker.handle) worker.handle

-- A turn: a job that is not done goes on by the handle; one that is done rests.
abbrev pub HasTurn : {J : Type 0} → Doing J → Bool → Worker J → Worker J → Type 0
HasTurn Does may_grow old new =
    ((old.task.is_done ≡ false) × Does may_grow old.task.job old.handle new.task.is_done new.task.job new.handle × IsSameHandle old.handle new.handle)
    ⊎ ((old.task.is_done ≡ true) × (new ≡ old))

-- A round: each task has a worker, with a new handle from the seat of that place; all have their turns at once; and what they leave.
pub record MakesRound {J : Type 0} (Does : Doing J) (may_grow : Bool) (whole : Map) (seats : List Pass) (tasks : List (Task J)) (lefts : List Pass) (rests : List (Task J)) : Type 0 where
  pub before : List (Worker J)
  pub after : List (Worker J)
  pub fresh : All (IsFresh whole) before
  pub seats_are : seats_of before ≡ seats
  pub tasks_are : tasks_of before ≡ tasks
  pub turns : AllZip (HasTurn Does may_grow) before after
  pub lefts_are : seats_of after ≡ lefts
  pub rests_are : tasks_of after ≡ rests

-- all jobs are done
abbrev pub AreDone : {J : Type 0} → List (Task J) → Type 0
AreDone tasks = All (λ task. task.is_done ≡ true) tasks

-- twice as many pages, or the most that there may be
abbrev pub larger : ℕ → ℕ → ℕ
larger pages most = min (pages * 2) most

-- A round of a map that may grow, behind which a job is not done.
pub record LeavesWork {J : Type 0} (Does : Doing J) (most : ℕ) (whole : Map) (seats : List Pass) (tasks : List (Task J)) (lefts : List Pass) (rests : List (Task J)) : Type 0 where
  pub may_grow : pages_of whole.index < most
  pub round : MakesRound Does true whole seats tasks lefts rests
  pub undone : ¬ AreDone rests

-- The map grows behind it.
pub record Grows {J : Type 0} (Does : Doing J) (most : ℕ) (old : Map) (seats : List Pass) (tasks : List (Task J)) (new : Map) (news : List Pass) (rests : List (Task J)) : Type 0 where
  pub lefts : List Pass
  pub leaves : LeavesWork Does most old seats tasks lefts rests
  pub resized : IsMapResized old lefts (larger (pages_of old.index) most) new news

-- From that map, with its seats and tasks, one comes to this one by rounds behind each of which the map grows.
pub data GrowsByRounds {J : Type 0} (Does : Doing J) (most : ℕ) (first : Map) (seats : List Pass) (tasks : List (Task J)) : Map → List Pass → List (Task J) → Type 0 where
  NotYet : GrowsByRounds Does most first seats tasks first seats tasks
  Grown : (old : Map) (befores : List Pass) (works : List (Task J)) {new : Map} {news : List Pass} {rests : List (Task J)} → GrowsByRounds Does most first seats tasks old befores works
      → Grows Does most old befores works new news rests → GrowsByRounds Does most first seats tasks new news rests

-- Then the last round comes: the map has as many pages as it may have, or behind one round more growth was refused.
pub data ComesToLast {J : Type 0} (Does : Doing J) (most : ℕ) (first : Map) (seats : List Pass) (tasks : List (Task J)) : Map → List Pass → List (Task J) → Type 0 where
  AtMost : {whole : Map} {lefts : List Pass} {rests : List (Task J)} → GrowsByRounds Does most first seats tasks whole lefts rests → most ≤ pages_of whole.index
      → ComesToLast Does most first seats tasks whole lefts rests
  Refused : (befores : List Pass) (works : List (Task J)) (why : ResizeFault) {whole : Map} {lefts : List Pass} {rests : List (Task J)} → GrowsByRounds Does most first seats tasks whole befores works
      → LeavesWork Does most whole befores works lefts rests → IsResizeFault whole.index lefts (larger (pages_of whole.index) most) why
      → ComesToLast Does most first seats tasks whole lefts rests

-- Jobs were worked at from that map on: behind a round all are done, or the last round was made.
pub data IsWorked {J : Type 0} (Does : Doing J) (most : ℕ) (first : Map) (seats : List Pass) (tasks : List (Task J)) : Map → List Pass → List (Task J) → Type 0 where
  Done : (befores : List Pass) (works : List (Task J)) {whole : Map} {lefts : List Pass} {rests : List (Task J)} → GrowsByRounds Does most first seats tasks whole befores works
      → MakesRound Does true whole befores works lefts rests → AreDone rests → IsWorked Does most first seats tasks whole lefts rests
  Last : (befores : List Pass) (works : List (Task J)) {whole : Map} {lefts : List Pass} {rests : List (Task J)} → ComesToLast Does most first seats tasks whole befores works
      → MakesRound Does false whole befores works lefts rests → IsWorked Does most first seats tasks whole lefts rests

-- they are worked at, or come to the last round
abbrev pub EndsGrowing : {J : Type 0} → Doing J → ℕ → Map → List Pass → List (Task J) → Bool → Map → List Pass → List (Task J) → Type 0
EndsGrowing Does most first seats tasks true whole lefts rests = IsWorked Does most first seats tasks whole lefts rests
EndsGrowing Does most first seats tasks false whole lefts rests = ComesToLast Does most first seats tasks whole lefts rests

-- The map goes on behind lives that begin with these.
pub record GoesOnBehindMore (m : PlainMap) (lives : List Life) (whole : Map) : Type 0 where
  pub more : List Life
  pub behind : GoesOnBehind m (lives ++ more) whole.index

-- Behind whichever lives the old map goes on, the new one goes on behind these and more: no row is lost, and none comes but by a call.
abbrev pub KeepsLives : Map → Map → Type 0
KeepsLives old new = (m : PlainMap) (lives : List Life) → GoesOnBehind m lives old.index → GoesOnBehindMore m lives new

-- why no round begins from so many seats with so many tasks
abbrev pub IsWorkFault : {J : Type 0} → List Pass → List (Task J) → WorkFault → Type 0
IsWorkFault seats tasks fault.Seats = length seats ≢ length tasks
IsWorkFault seats tasks fault.Memory = length seats ≡ length tasks

-- Behind a round that left work the map was closed, and none was opened with more pages.
pub record WasClosed {J : Type 0} (Does : Doing J) (most : ℕ) (first : Map) (seats : List Pass) (tasks : List (Task J)) (quiet : Quiet) (rests : List (Task J)) : Type 0 where
  pub whole : Map
  pub befores : List Pass
  pub works : List (Task J)
  pub lefts : List Pass
  pub grown : GrowsByRounds Does most first seats tasks whole befores works
  pub leaves : LeavesWork Does most whole befores works lefts rests
  pub closed : IsMapNotResized whole lefts (larger (pages_of whole.index) most) (unresized.Closed quiet)

-- what there is in place of a map at which they were worked
abbrev pub IsUnworked : {J : Type 0} → Doing J → ℕ → Map → List Pass → List (Task J) → Unworked J → Type 0
IsUnworked Does most first seats tasks (Kept whole lefts rests why) =
    (GrowsByRounds Does most first seats tasks whole lefts.items rests.items ⊎ ComesToLast Does most first seats tasks whole lefts.items rests.items)
    × IsWorkFault lefts.items rests.items why
IsUnworked Does most first seats tasks (Closed quiet rests) = WasClosed Does most first seats tasks quiet rests.items
