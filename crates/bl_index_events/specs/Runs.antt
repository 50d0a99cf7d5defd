-- A pass that runs a process, from its begin on.
use Rattle.std.specs.Prelude.{◌≡◌, ◌≢◌, ℕ, ◌+◌, ◌++◌, true, false, ◌∷◌, Option, Some, None}
use Rattle.atomic_table.specs.declared.shared.Seat.{Seat}
use Rattle.bl_layout.specs.declared.layout.Layout.{Layout}
use Rattle.bl_store_rule.specs.declared.view.View.{View}
use Rattle.bl_store.specs.declared.stock.Stock.{Stock}
use Rattle.bl_store.specs.Hands.{HasNoStock, IsIdle, IsRunning, IsSameHand, IsSameStamp, IsSameStock, IsStockOf, MayRetire, IsSameRefusal, known}
use Rattle.bl_proc_steps.specs.declared.acts.Action.TheVariants as act
use Rattle.bl_proc_steps.specs.declared.acts.Seen.TheVariants as seen
use Rattle.bl_proc_invariant.specs.Knowing.{end_of_proc}
use Rattle.bl_proc_invariant.specs.Logs.{proc_log}
use Rattle.bl_proc_deterministic.specs.Frames.{op_of, work_of, frames_wanted, Follows}
use Rattle.bl_proc_steps.specs.declared.acts.Seen.{Seen}
use Rattle.bl_store.specs.declared.store.Hand.{Hand}
use Rattle.bl_store.specs.Owners.{IsHandOf}
use Rattle.bl_index_events.specs.declared.tree.Tree.{Tree}
use Rattle.bl_index_events.specs.declared.stepping.Stepped.{Stepped}
use Rattle.bl_index_events.specs.declared.stepping.Stepped.TheVariants.{On, AtEnd}
use Rattle.bl_page.specs.Machine.Act.{Begin}
use Rattle.bl_claims.specs.Trails.{Mark, Trail, marks_of}
use Rattle.bl_proc_bounds.specs.Latches.{IsTidy}
use Rattle.bl_proc.specs.declared.kinds.Proc.{Proc}
use Rattle.bl_proc.specs.Processes.{next_of, Takes}
use Rattle.bl_proc_deterministic.specs.Courses.{GoesOn}
use Rattle.bl_index_rule.specs.declared.known.PassState.{PassState}
use Rattle.bl_claims.specs.Seeing.{own, AreWithin, AreElse, AreOnlyOf, name}
use Rattle.bl_index_rule.specs.Observed.{IsNear, HasOwn, Goes, Finishes}
use Rattle.bl_index_events.specs.Held.{own_marks, proc_held}
use Rattle.bl_index_events.specs.Rooms.{TellsRoom}

-- the pass runs this process, in an index of that layout
pub record IsOn (l : Layout) (d : PassState) (process : Proc) : Type 0 where
  pub runs : d.runs ≡ true
  pub state : d.state ≡ process
  pub pages : d.pages ≡ l.pages
  pub passes : d.passes ≡ l.passes
  pub near : IsNear d.pages (next_of d.state)
  pub held : proc_held d.state (own_marks d)

-- The hand is one of the tree's, and runs this process.
pub record Runs (tree : Tree) (hand : Hand PassState) (process : Proc) : Type 0 where
  pub own : IsHandOf tree.store hand
  pub running : IsRunning hand.seat
  pub on : IsOn tree.store.layout (known hand.seat) process

-- It is the same hand, which goes on with its process or stays outside one, and has the same stock.
abbrev pub KeepsHand : Seat (Unit {0}) (View PassState) → Seat (Unit {0}) (View PassState) → Type 0
KeepsHand h h' = IsSameHand h h' × IsSameStamp h h' × IsSameStock h h'

-- The pass, of that number, knew old when the process began that it runs, and has done nothing else since.
pub record IsSince (pass : ℕ) (old d : PassState) : Type 0 where
  pub named : d.pass ≡ pass
  pub number : d.number ≡ old.number + 1
  pub beginning : d.first ≡ old.first
  pub past : d.past ≡ own pass old.trail
  pub own : HasOwn d
  pub before : Trail
  pub first : Mark
  pub since : Trail
  pub begins : d.trail ≡ old.trail ++ (before ++ first ∷ since)
  pub begun : first.event ≡ record { process = name pass (old.number + 1); act = Begin }
  pub none : AreElse pass before
  pub only : AreOnlyOf (name pass (old.number + 1)) since

-- what the pass knows then is of the same process
abbrev pub IsSameProcess : PassState → PassState → Type 0
IsSameProcess d e = (pass : ℕ) (old : PassState) → IsSince pass old d → IsSince pass old e

-- all that its pass has seen was done by the passes of its layout
abbrev pub IsWithin : Seat (Unit {0}) (View PassState) → Type 0
IsWithin h = AreWithin h.me.0.layout.passes (known h).trail

-- It runs no process, and has seen what the passes of its layout did.
pub record Rests (h : Seat (Unit {0}) (View PassState)) : Type 0 where
  pub idle : IsIdle h
  pub within : IsWithin h
  pub over : (known h).runs ≡ false

-- one event of the process
abbrev pub Moves : PassState → PassState → Type 0
Moves d e = (what : Seen) × Goes what d e

-- The hand has reserved what this process has left: so many frames, in a stock if it has one, and with that leave to retire a
-- page. A process that is to retire one has a stock.
abbrev pub HasReserved : Seat (Unit {0}) (View PassState) → Option Stock → Proc → Type 0
HasReserved h None p = (frames_wanted p ≡ 0) × HasNoStock h × ((x : ℕ) → next_of p ≢ act.Retire x)
HasReserved h (Some stock) p = IsStockOf h stock × (stock.count ≡ frames_wanted p) × MayRetire h

-- The process is to end, and is the last one then.
pub record EndsAs (state last : Proc) : Type 0 where
  pub at_end : next_of state ≡ act.End
  pub over : GoesOn state seen.Done
  pub ended : Takes state seen.Done last

-- The process opens that page, and is the next one then.
pub record OpensTo (state : Proc) (page : ℕ) (next : Proc) : Type 0 where
  pub act : next_of state ≡ act.Open page
  pub course : GoesOn state seen.Done
  pub opened : Takes state seen.Done next

-- The process that was begun as first has ended as last, and has done what its answer means.
pub record IsDone (pass : ℕ) (old e : PassState) (first last : Proc) : Type 0 where
  pub d : PassState
  pub before : Proc
  pub since : IsSince pass old d
  pub state : d.state ≡ before
  pub at_end : next_of before ≡ act.End
  pub observed : Finishes (end_of_proc before) d e
  pub takes : Takes before seen.Done last
  pub op : op_of before ≡ op_of first
  pub work : work_of before ≡ work_of first
  pub log : proc_log last (marks_of (name pass (old.number + 1)) e.trail)
  pub tidy : IsTidy last (marks_of (name pass (old.number + 1)) e.trail)

-- After a step of the process p, which is then q: it has gone on by one event; or it is to end, and nothing has happened.
abbrev pub IsAfter : Layout → Seat (Unit {0}) (View PassState) → Seat (Unit {0}) (View PassState) → Proc → Proc → Stepped → Type 0
IsAfter l h h' p q (On held) =
    IsOn l (known h') q × Moves (known h) (known h') × HasReserved h' held q × ((what : Seen) × Follows p what q × Takes p what q × TellsRoom h h' p what)
    × (next_of p ≢ act.End)
IsAfter l h h' p q AtEnd = (next_of p ≡ act.End) × (q ≡ p) × (known h' ≡ known h) × HasNoStock h' × IsSameRefusal h h'
