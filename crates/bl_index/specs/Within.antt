-- What functions of the index tell one another: the kind of an answer, and how a scan goes on behind one of its parts.
use Rattle.std.specs.Prelude.{◌≡◌, ℕ, ◌-◌, ◌^◌, ◌<◌, ◌≤◌, ◌++◌, Bool, true, false, Option, None, Some, Result, Ok, Err, List, IfSome, min, length, take, drop}
use Rattle.bl_claims.specs.Seeing.{IsSeen}
use Rattle.bl_claims.specs.Trails.{Trail}
use Rattle.bl_index_read.specs.Parts.{StandsBehind}
use Rattle.bl_index_read.specs.declared.leaf_rows.Behind.{Behind}
use Rattle.bl_index_read.specs.declared.leaf_rows.Behind.TheVariants.{Part, Nothing}
use Rattle.bl_index_read.specs.LeafRows.{first_key, IsBefore}
use Rattle.bl_index_read.specs.Searching.{Finds}
use Rattle.bl_index_range.specs.Parts.{rows_before}
use Rattle.bl_model.specs.declared.operation.Reply.{Reply}
use Rattle.bl_model.specs.Parts.{ended_at}
use Rattle.bl_page.specs.declared.page.Page.{Page}
use Rattle.bl_proc.specs.Parts.{op_toward}
use Rattle.bl_index.specs.declared.scanning.ScanFault.{ScanFault}
use Rattle.bl_index.specs.Scans.{LeavesPart}
use Rattle.bl_index.specs.Limits.{IsNext}
use Rattle.bl_proc.specs.declared.parts.Direction.{Direction}
use Rattle.bl_index_rule.specs.declared.known.PassState.{PassState}
use Rattle.bl_index_events.specs.Runs.{IsDone, Rests}
use Rattle.bl_index_events.specs.declared.tree.Tree.{Tree}
use Rattle.bl_answers.specs.declared.answers.Answer.TheVariants.{Op, Post, Compress, Reclaim, Lower, InsertPost}
use Rattle.bl_answers.specs.declared.answers.Answer.{Answer}
use Rattle.bl_proc_steps.specs.declared.descent.Descent.{Descent}
use Rattle.bl_answers.specs.declared.answers.Lowered.{Lowered}
use Rattle.bl_proc_steps.specs.declared.lowering.Lowering.{Lowering}
use Rattle.bl_proc_steps.specs.declared.lowering.Lowering.TheVariants.{LatchingTop}
use Rattle.bl_proc.specs.declared.lowering.Lower.{Lower as LowerIs}
use Rattle.bl_proc.specs.declared.lowering.LowerStage.{LowerStage}
use Rattle.bl_proc.specs.declared.lowering.LowerStage.TheVariants.{Sinking}
use Rattle.bl_proc.specs.declared.kinds.Proc.{Proc}
use Rattle.bl_proc.specs.declared.kinds.Proc.TheVariants as proc
use Rattle.bl_proc.specs.Lowers.{lower_answer}
use Rattle.bl_store.specs.Hands.{known}
use Rattle.bl_store.specs.declared.store.Hand.{Hand}

-- the answer of a lowering
abbrev pub IsLowerAnswer : Option Answer → Type 0
IsLowerAnswer None = ⊥
IsLowerAnswer (Some (Op reply hint)) = ⊥
IsLowerAnswer (Some (Post what hint)) = ⊥
IsLowerAnswer (Some (Reclaim what)) = ⊥
IsLowerAnswer (Some (Compress what hint)) = ⊥
IsLowerAnswer (Some (Lower what)) = Unit {0}
IsLowerAnswer (Some (InsertPost reply last left)) = ⊥

-- The part was answered and has ended, and the scan stands behind it.
pub record GoesBehind (tree : Tree) (hand : Hand PassState) (pass : ℕ) (direction : Direction) (behind : Behind) (way : Descent) (did : Trail → Trail → Type 0)
    (old : PassState) : Type 0 where
  pub new : PassState
  pub stands : StandsBehind tree hand pass direction behind way new
  pub first : new.first ≡ old.first
  pub seen : IsSeen new.first new.trail
  pub does : did old.trail new.trail

-- The part has ended, and the scan stops before it.
pub record StopsBefore (hand : Hand PassState) (did : Trail → Trail → Type 0) (old : PassState) : Type 0 where
  pub rests : Rests hand.seat
  pub first : (known hand.seat).first ≡ old.first
  pub seen : IsSeen (known hand.seat).first (known hand.seat).trail
  pub does : did old.trail (known hand.seat).trail

-- One or the other.
abbrev pub GoesOrStops : {E : Type 0} → Tree → Hand PassState → ℕ → Direction → (Behind → Trail → Trail → Type 0) → (E → Trail → Trail → Type 0)
    → PassState → Result (Behind × Descent) E → Type 0
GoesOrStops tree hand pass direction goes stops old (Ok on) = GoesBehind tree hand pass direction on.0 on.1 (goes on.0) old
GoesOrStops tree hand pass direction goes stops old (Err fault) = StopsBefore hand (stops fault) old

-- The lowering has ended, and has answered that.
pub record HasSunk (pass : ℕ) (old e : PassState) (what : Lowered) : Type 0 where
  pub first : Proc
  pub last : LowerIs
  pub done : IsDone pass old e first (proc.Lower last)
  pub answer : lower_answer last ≡ Some (Lower what)

abbrev pub is_sink_at_top : Lowering → Bool
is_sink_at_top (LatchingTop t) = true
is_sink_at_top l = false

-- it holds the anchor, and is to latch the top page
abbrev pub is_at_top : LowerStage → Bool
is_at_top (Sinking l) = is_sink_at_top l
is_at_top s = false

-- ---- scans that list so many rows at most

-- How a scan goes on behind a part, where more rows are wanted; or ends, and where the next one begins.
abbrev pub stand_of : Behind → Bool → Option ℕ → Behind × Option ℕ
stand_of behind true left = (behind, None)
stand_of behind false (Some key) = (Nothing, Some key)
stand_of (Part key near) false None = (Nothing, Some key)
stand_of Nothing false None = (Nothing, None)

-- Behind a part with these rows, of which so many are wanted, a scan goes on so, or ends and says where the next one begins.
abbrev pub GoesOnSome : Direction → Option ℕ → ℕ → List (ℕ × ℕ) → Option ℕ → Behind → Option ℕ → Type 0
GoesOnSome direction to most rows upto (Part key near) next = (upto ≡ Some key) × (key < 2 ^ 64) × IsBefore direction to key × (length rows < most)
GoesOnSome direction to most rows upto Nothing next = IsNext direction (first_key (drop most rows)) to upto next × IfSome next (λ _. most ≤ length rows)

-- One part of a scan was answered, and the first of its rows before the scan's end are appended, so many at most.
pub record GivesSome (first : List (Option Page)) (pages pass turns : ℕ) (direction : Direction) (from : ℕ) (to : Option ℕ) (most : ℕ)
    (behind : Behind) (next : Option ℕ) (before after : List (ℕ × ℕ)) (old new : Trail) : Type 0 where
  pub reply : Reply
  pub finds : Finds first pages pass turns (op_toward direction from) reply old new
  pub taken : after ≡ before ++ take most (rows_before direction to reply)
  pub goes : GoesOnSome direction to most (rows_before direction to reply) (ended_at reply) behind next

-- The scan stops at that part, and nothing of it is appended.
abbrev pub LeavesSome : List (Option Page) → ℕ → ℕ → ℕ → Direction → ℕ → Option ℕ → ℕ → ℕ → ScanFault → List (ℕ × ℕ) → List (ℕ × ℕ) → Trail → Trail → Type 0
LeavesSome first pages pass turns direction from to most room fault before after old new =
    LeavesPart first pages pass turns direction from to (λ many. room < min most many) fault before after old new

-- One or the other.
abbrev pub GoesSomeOrStops : Tree → Hand PassState → ℕ → Direction → (Behind → Option ℕ → Trail → Trail → Type 0) → (ScanFault → Trail → Trail → Type 0)
    → PassState → Result (Behind × Option ℕ × Descent) ScanFault → Type 0
GoesSomeOrStops tree hand pass direction goes stops old (Ok on) = GoesBehind tree hand pass direction on.0 on.2 (goes on.0 on.1) old
GoesSomeOrStops tree hand pass direction goes stops old (Err fault) = StopsBefore hand (stops fault) old
