-- Which turn is chosen for a process, where a take may name its page.
use Rattle.std.specs.Prelude.{◌≡◌, ℕ, ◌≤◌, ◌+◌, Option, Some, None, slice_get}
use Rattle.bl_proc.specs.declared.kinds.Proc.{Proc}
use Rattle.bl_world.specs.declared.turns.Turn.{Turn}
use Rattle.bl_world.specs.declared.turns.Turn.TheVariants as turn
use Rattle.bl_world.specs.Views.{View}
use Rattle.bl_world.specs.Turns.{IsFree, MayTake}

-- The process with that number is to take a page.
pub record IsToTake (v : View) (number : ℕ) : Type 0 where
  pub place : ℕ
  pub counts : number ≡ place + 1
  pub process : Proc
  pub stood : slice_get v.processes place ≡ Some process
  pub may : MayTake process

-- no page is released
abbrev pub HasNoneFree : View → Type 0
HasNoneFree v = (x : ℕ) → ¬ IsFree v x

-- the least released page
abbrev pub IsLeastFree : View → ℕ → Type 0
IsLeastFree v x = IsFree v x × ((y : ℕ) → IsFree v y → x ≤ y)

-- the page that a take tries, where some page is released: the one that is named, or else the least released one
abbrev pub Tries : View → Option ℕ → ℕ → Type 0
Tries v (Some named) x = (x ≡ named) × ¬ HasNoneFree v
Tries v None x = IsLeastFree v x

-- The turn for the process with that number. Where it is to take a page, it takes the one that is named or the least
-- released one, and is refused where no page is released. Else it is a step.
abbrev pub Chooses : View → ℕ → Option ℕ → Turn → Type 0
Chooses v number page (turn.Step n) = (n ≡ number) × ¬ IsToTake v number
Chooses v number page (turn.Take n x) = (n ≡ number) × IsToTake v number × Tries v page x
Chooses v number page (turn.Refuse n) = (n ≡ number) × IsToTake v number × HasNoneFree v
