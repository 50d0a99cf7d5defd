-- The page machine: pages with owners, and processes that begin, act and end, one event at a time.
-- It knows nothing of what stands in a page, nor of how a process chooses its next act.
use Rattle.std.specs.Prelude.{◌≡◌, ◌≢◌, ℕ, ◌<◌, ◌≤◌, Option, List, [], ◌∷◌}
use Rattle.bl_model.specs.Map.{SameMap}
use Rattle.bl_page.specs.declared.machine.Missed.{Missed}

-- A process: on threads the pass that runs it, and its number among that pass's processes.
pub record Name : Type 0 where
  pub pass : ℕ
  pub number : ℕ

-- Who has a page: nobody, so that a process may take it; anybody may latch it; a process holds it; or it was retired at that time.
pub data Owner : Type 0 where
  Released : Owner
  Open : Owner
  Held : Name → Owner
  Retired : ℕ → Owner

-- Where a process stands: it has not begun, runs since that time, or has ended.
pub data Phase : Type 0 where
  Waiting : Phase
  Running : ℕ → Phase
  Ended : Phase

-- The machine at one moment. C is what a page holds. The clock never goes back; it may move on at any event.
pub record State (C : Type 0) : Type 0 where
  pub contents : ℕ → C
  pub owner : ℕ → Owner
  pub phase : Name → Phase
  pub clock : ℕ

-- What a process looks at: where another process stands, or who has a page.
pub data Looked : Type 0 where
  Process : Name → Looked
  Page : ℕ → Looked

-- The eleven events of a process. An end may carry an answer, of the type A; a miss tells what was missed.
pub data Act (C A : Type 0) : Type 0 where
  Begin : Act C A
  End : Option A → Act C A
  Get : ℕ → Act C A
  Put : ℕ → C → Act C A
  Take : ℕ → Act C A
  Latch : ℕ → Act C A
  Open : ℕ → Act C A
  Retire : ℕ → Act C A
  Look : Looked → Act C A
  Release : ℕ → Act C A
  Miss : Missed → Act C A

pub record Event (C A : Type 0) : Type 0 where
  pub process : Name
  pub act : Act C A

-- new is old but at x, where it is that
pub record IsAt {X A : Type 0} (x : X) (that : A) (old new : X → A) : Type 0 where
  pub at : new x ≡ that
  pub others : (y : X) → y ≢ x → new y ≡ old y

abbrev pub IsUnderway : {C : Type 0} → State C → Name → Type 0
IsUnderway s p = (since : ℕ) × (s.phase p ≡ Running since)

abbrev pub HoldsNone : {C : Type 0} → State C → Name → Type 0
HoldsNone s p = (x : ℕ) → s.owner x ≢ Held p

-- Every process that runs began after that time.
abbrev pub AllBeganAfter : {C : Type 0} → State C → ℕ → Type 0
AllBeganAfter s time = (q : Name) (since : ℕ) → s.phase q ≡ Running since → time < since

-- When the event may happen: a look and a miss always.
abbrev pub Enabled : {C A : Type 0} → State C → Name → Act C A → Type 0
Enabled s p Begin = s.phase p ≡ Waiting
Enabled s p (End answer) = IsUnderway s p × HoldsNone s p
Enabled s p (Get x) = IsUnderway s p × (s.owner x ≢ Released)
Enabled s p (Put x c) = s.owner x ≡ Held p
Enabled s p (Take x) = s.owner x ≡ Released
Enabled s p (Latch x) = s.owner x ≡ Owner.Open
Enabled s p (Open x) = s.owner x ≡ Held p
Enabled s p (Retire x) = s.owner x ≡ Held p
Enabled s p (Release x) = (time : ℕ) × (s.owner x ≡ Retired time) × AllBeganAfter s time
Enabled s p act = Unit {0}

-- The owner of x changes, and no page's contents and no process's phase.
abbrev pub Owns : {C : Type 0} → State C → ℕ → Owner → State C → Type 0
Owns s x owner s' = SameMap s.contents s'.contents × IsAt x owner s.owner s'.owner × SameMap s.phase s'.phase

-- What the event changes, the clock apart: a get, a look and a miss nothing.
abbrev pub Changes : {C A : Type 0} → State C → Name → Act C A → State C → Type 0
Changes s p Begin s' = SameMap s.contents s'.contents × SameMap s.owner s'.owner
    × ((now : ℕ) × (s.clock ≤ now) × (now ≤ s'.clock) × IsAt p (Running now) s.phase s'.phase)
Changes s p (End answer) s' = SameMap s.contents s'.contents × SameMap s.owner s'.owner × IsAt p Ended s.phase s'.phase
Changes s p (Put x c) s' = IsAt x c s.contents s'.contents × SameMap s.owner s'.owner × SameMap s.phase s'.phase
Changes s p (Take x) s' = Owns s x (Held p) s'
Changes s p (Latch x) s' = Owns s x (Held p) s'
Changes s p (Open x) s' = Owns s x Owner.Open s'
Changes s p (Retire x) s' = (now : ℕ) × (s.clock ≤ now) × (now < s'.clock) × Owns s x (Retired now) s'
Changes s p (Release x) s' = Owns s x Released s'
Changes s p act s' = SameMap s.contents s'.contents × SameMap s.owner s'.owner × SameMap s.phase s'.phase

-- One event leads from a state in which it is enabled to the next.
pub record Steps {C A : Type 0} (s : State C) (e : Event C A) (s' : State C) : Type 0 where
  pub enabled : Enabled s e.process e.act
  pub changes : Changes s e.process e.act s'
  pub on : s.clock ≤ s'.clock

-- The events lead from one state to another, in their order.
abbrev pub Leads : {C A : Type 0} → State C → List (Event C A) → State C → Type 0
Leads s [] s' = s' ≡ s
Leads s (e ∷ events) s' = (mid : State _) × Steps s e mid × Leads mid events s'

-- A legal step list: each event is enabled in its turn.
abbrev pub IsLegal : {C A : Type 0} → State C → List (Event C A) → Type 0
IsLegal s events = (s' : State _) × Leads s events s'
