-- What the events tell of the retirement of a page, and of those who look at it.
use Rattle.std.specs.Prelude.{◌≡◌, ◌⊎◌, ℕ, ◌<◌, Some, List, slice_get}
use Rattle.bl_answers.specs.declared.answers.Reclaimed.{Reclaimed}
use Rattle.bl_answers.specs.declared.answers.Reclaimed.TheVariants as reclaimed
use Rattle.bl_world.specs.declared.turns.Act.{Act}
use Rattle.bl_world.specs.declared.turns.Act.TheVariants as shown
use Rattle.bl_world.specs.declared.turns.Event.{Event}

-- that act of the process with that number stands at that place
abbrev pub Stands : List Event → ℕ → ℕ → Act → Type 0
Stands events place number act = slice_get events place ≡ Some (record { process = number; act = act })

-- Before event i page x is retired, since event k: that retired it, and nothing has retired or released it since.
pub record IsRetired (events : List Event) (x k i : ℕ) : Type 0 where
  pub before : k < i
  pub by : ℕ
  pub retires : Stands events k by (shown.Retire x)
  pub not_again : (j number : ℕ) → k < j → j < i → ¬ Stands events j number (shown.Retire x)
  pub kept : (j number : ℕ) → k < j → j < i → ¬ Stands events j number (shown.Release x)

-- Before event i the process with that number has seen page x retired, since event k, when it last looked at its owner.
pub record HasSeen (events : List Event) (number x k i : ℕ) : Type 0 where
  pub place : ℕ
  pub before : place < i
  pub sees : Stands events place number (shown.See x)
  pub last : (j : ℕ) → place < j → j < i → ¬ Stands events j number (shown.See x)
  pub retired : IsRetired events x k place

-- The process with that number blocks what was retired by event k: it began before that, and has not ended before event i.
pub record Blocks (events : List Event) (number k i : ℕ) : Type 0 where
  pub place : ℕ
  pub before : place < k
  pub begins : Stands events place number shown.Begin
  pub runs : (j : ℕ) → j < i → ¬ Stands events j number shown.End

-- it saw that the page was not retired
abbrev pub SawUnretired : List Event → ℕ → ℕ → Type 0
SawUnretired events number x = (i : ℕ) × Stands events i number (shown.See x) × ((k : ℕ) → ¬ IsRetired events x k i)

-- it looked at a process that blocked
abbrev pub SawBlocked : List Event → ℕ → ℕ → Type 0
SawBlocked events number x = (i : ℕ) × (k : ℕ) × (other : ℕ) × HasSeen events number x k i × Stands events i number (shown.Look other) × Blocks events other k i

-- it missed when the page was not retired any more as it had seen it
abbrev pub MissedRelease : List Event → ℕ → ℕ → Type 0
MissedRelease events number x = (i : ℕ) × (k : ℕ) × HasSeen events number x k i × Stands events i number shown.Miss × (¬ IsRetired events x k i)

-- What the process with that number means, which was to release page x, by what it answers.
abbrev pub MeansReclaimed : List Event → ℕ → ℕ → Reclaimed → Type 0
MeansReclaimed events number x reclaimed.Released = (i : ℕ) × Stands events i number (shown.Release x)
MeansReclaimed events number x reclaimed.Kept = SawUnretired events number x ⊎ (SawBlocked events number x ⊎ MissedRelease events number x)

-- Each release is of the retirement that its process saw.
abbrev pub ReleasesSeen : List Event → Type 0
ReleasesSeen events = (i number x : ℕ) → Stands events i number (shown.Release x) → (k : ℕ) × HasSeen events number x k i × IsRetired events x k i
