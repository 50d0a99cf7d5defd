-- What a process holds when it latches, told of its own marks.
use Rattle.std.specs.Prelude.{ℕ, ◌≡◌, ◌≢◌, ◌==◌, Bool, true, false, if◌then◌else◌, Some, fold, take, slice_get}
use Rattle.bl_model.specs.declared.operation.Reply.{Reply}
use Rattle.bl_page.specs.declared.page.Page.{Page}
use Rattle.bl_page.specs.Machine.{Act}
use Rattle.bl_page.specs.Machine.Act.{Put, Take, Latch, Retire, Release}
use Rattle.bl_claims.specs.Trails.{Mark, Trail}

-- whether it holds page y after an act, where it did or did not before
abbrev pub holds_after : ℕ → Bool → Act Page Reply → Bool
holds_after y held (Take x) = if x == y then true else held
holds_after y held (Latch x) = if x == y then true else held
holds_after y held (Act.Open x) = if x == y then false else held
holds_after y held (Retire x) = if x == y then false else held
holds_after y held act = held

-- It has latched or taken the page, and has neither opened nor retired it since.
abbrev pub KeepsPage : Trail → ℕ → Type 0
KeepsPage marks y = fold (λ (held : Bool) (m : Mark). holds_after y held m.event.act) false marks ≡ true

-- It holds no page when it latches one.
abbrev pub LatchesAlone : Trail → Type 0
LatchesAlone marks = (i : ℕ) (m : Mark) (x y : ℕ) → slice_get marks i ≡ Some m → m.event.act ≡ Latch x → KeepsPage (take i marks) y → ⊥

-- It holds no page but the anchor when it latches one.
abbrev pub LatchesBelowAnchor : Trail → Type 0
LatchesBelowAnchor marks = (i : ℕ) (m : Mark) (x y : ℕ) → slice_get marks i ≡ Some m → m.event.act ≡ Latch x → KeepsPage (take i marks) y → y ≡ 0

-- It latches no page.
abbrev pub LatchesNone : Trail → Type 0
LatchesNone marks = (i : ℕ) (m : Mark) (x : ℕ) → slice_get marks i ≡ Some m → m.event.act ≢ Latch x

-- an act that latches, takes, puts, retires and releases nothing
abbrev pub IsLook : Act Page Reply → Type 0
IsLook a = (x : ℕ) → (a ≢ Latch x) × (a ≢ Take x) × ((c : Page) → a ≢ Put x c) × (a ≢ Retire x) × (a ≢ Release x)

-- It latches, takes, puts, retires and releases nothing.
abbrev pub OnlyLooks : Trail → Type 0
OnlyLooks marks = (i : ℕ) (m : Mark) → slice_get marks i ≡ Some m → IsLook m.event.act
