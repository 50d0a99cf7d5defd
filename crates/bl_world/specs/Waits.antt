-- Which processes may go on, which wait for others, and where a wait ends.
use Rattle.std.specs.Prelude.{◌≡◌, ℕ, ◌+◌, Bool, true, false, Some, None, slice_get}
use Rattle.bl_proc_steps.specs.declared.acts.Action.TheVariants as act
use Rattle.bl_proc.specs.declared.kinds.Proc.{Proc}
use Rattle.bl_proc.specs.Processes.{next_of, answer_of}
use Rattle.bl_world.specs.declared.owners.Owner.{Owner}
use Rattle.bl_world.specs.declared.owners.Owner.TheVariants as own
use Rattle.bl_world.specs.Views.{View}

-- The process with that number has not answered.
pub record IsGoing (v : View) (number : ℕ) : Type 0 where
  pub place : ℕ
  pub counts : number ≡ place + 1
  pub process : Proc
  pub stood : slice_get v.processes place ≡ Some process
  pub going : answer_of process ≡ None

-- Next it is to latch a page that the other one holds: it waits for that one.
pub record WaitsFor (v : View) (number other : ℕ) : Type 0 where
  pub place : ℕ
  pub counts : number ≡ place + 1
  pub process : Proc
  pub stood : slice_get v.processes place ≡ Some process
  pub page : ℕ
  pub latches : next_of process ≡ act.Latch page
  pub held : slice_get v.owners page ≡ Some (own.Held other)

-- It has not answered, and waits for none.
pub record MayGoOn (v : View) (number : ℕ) : Type 0 where
  pub runs : IsGoing v number
  pub free : (other : ℕ) → ¬ WaitsFor v number other

-- A wait ends at a process that may go on: each one on the way there waits for the next.
pub data EndsAt (v : View) : ℕ → ℕ → Type 0 where
  Here : {number : ℕ} → MayGoOn v number → EndsAt v number number
  Behind : {number last : ℕ} (other : ℕ) → WaitsFor v number other → EndsAt v other last → EndsAt v number last

pub record WaitEnds (v : View) (number : ℕ) : Type 0 where
  pub last : ℕ
  pub ends : EndsAt v number last

-- it holds a page; and no page is held
abbrev pub HoldsSome : View → ℕ → Type 0
HoldsSome v number = (x : ℕ) × (slice_get v.owners x ≡ Some (own.Held number))

abbrev pub NoneHeld : View → Type 0
NoneHeld v = (number : ℕ) → ¬ HoldsSome v number

-- all that were started have answered
abbrev pub HaveAnswered : View → Type 0
HaveAnswered v = (number : ℕ) → ¬ IsGoing v number

abbrev pub is_held : Owner → Bool
is_held own.Released = false
is_held own.Open = false
is_held (own.Held number) = true
is_held (own.Retired place) = false
