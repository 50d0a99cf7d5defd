-- What may be believed of a world, at every moment so far.
use Rattle.std.specs.Prelude.{◌≡◌, ◌≢◌, ℕ, ◌<◌, ◌+◌, ◌++◌, Option, Some, None, length, take, slice_get}
use Rattle.bl_model.specs.Map.{empty}
use Rattle.bl_model.specs.History.{IsLegalFrom, final_map}
use Rattle.bl_model.specs.declared.operation.Op.{Op}
use Rattle.bl_model.specs.declared.operation.Op.TheVariants as op
use Rattle.bl_model.specs.declared.operation.Reply.{Reply}
use Rattle.bl_model.specs.Writes.{write_op}
use Rattle.bl_page.specs.declared.page.Page.{Page}
use Rattle.bl_page.specs.Machine.{Name, State}
use Rattle.bl_page.specs.Machine.Act.{Begin, End, Get}
use Rattle.bl_page.specs.Machine.Owner.{Released}
use Rattle.bl_claims.specs.Trails.{Said, Mark, Trail, marks_of, events_of, history_of, DoesAt, SaysAt, IsMarked, LeadsOn}
use Rattle.bl_claims.specs.Moments.{snapshot_of, HasLaws}
use Rattle.bl_claims.specs.States.{HasMoments}
use Rattle.bl_claims.specs.Opening.{Opening}
use Rattle.bl_answers.specs.declared.answers.Answer.{Answer}
use Rattle.bl_answers.specs.declared.answers.Answer.TheVariants as answer
use Rattle.bl_answers.specs.declared.answers.Hint.{Hint}
use Rattle.bl_answers.specs.declared.answers.Posted.{Posted}
use Rattle.bl_proc_writes.specs.declared.post.Post.{Post}
use Rattle.bl_proc_writes.specs.Placings.{write_of}
use Rattle.bl_answers.specs.declared.answers.Squeezed.{Squeezed}
use Rattle.bl_answers.specs.declared.answers.Lowered.{Lowered}
use Rattle.bl_proc.specs.declared.lowering.Lower.{Lower}
use Rattle.bl_proc_writes.specs.declared.insert_post.InsertPost.{InsertPost}
use Rattle.bl_proc_compress.specs.declared.compress.Compress.{Compress}
use Rattle.bl_claims.specs.Squeezed.{MeansSqueezed}
use Rattle.bl_claims.specs.Lowered.{MeansLowered}
use Rattle.bl_claims.specs.Climbed.{MeansClimbed}
use Rattle.bl_answers.specs.declared.answers.Reclaimed.{Reclaimed}
use Rattle.bl_proc.specs.declared.reclaiming.Reclaim.{Reclaim}
use Rattle.bl_proc.specs.declared.kinds.Proc.{Proc}
use Rattle.bl_proc.specs.declared.kinds.Proc.TheVariants as proc
use Rattle.bl_proc.specs.Parts.{part_op}
use Rattle.bl_proc.specs.Processes.{answer_of}
use Rattle.bl_claims.specs.Answers.{MeansPosted}
use Rattle.bl_proc_invariant.specs.Beside.{MeansBeside}
use Rattle.bl_claims.specs.Bounds.{IsWithinBound}
use Rattle.bl_proc_bounds.specs.Searches.{IsSearch}
use Rattle.bl_proc_bounds.specs.Latches.{IsTidy}
use Rattle.bl_world.specs.declared.owners.Owner.{Owner}
use Rattle.bl_world.specs.Views.{View, name_of, owner_of, events_shown}
use Rattle.bl_world.specs.Retirements.{MeansReclaimed, ReleasesSeen}
use Rattle.bl_proc_deterministic.specs.Refusals.{IsNoRoom}
use Rattle.bl_world.specs.WorldSteps.{Way, turns_in, WasRefused}

-- no released page is got: before each get its page is not released
abbrev pub NoneReleased : State Page → Trail → Type 0
NoneReleased start trail =
    (i : ℕ) (q : Name) (x : ℕ) → DoesAt trail i q (Get x) → (before : State Page) × LeadsOn start (take i trail) before × (before.owner x ≢ Released)

-- each event is of a process of this world
abbrev pub AllNumbered : Trail → Type 0
AllNumbered trail = (i : ℕ) (m : Mark) → slice_get trail i ≡ Some m → m.event.process.number ≡ 0

-- an operation that ended before another began has its point before the other's
abbrev pub IsOrdered : Trail → Type 0
IsOrdered trail = (i j end begin : ℕ) (p q : Name) (said other : Said) (reply : Option Reply) → SaysAt trail i p said → SaysAt trail j q other
    → DoesAt trail end p (End reply) → DoesAt trail begin q Begin → end < begin → i < j

-- the operation that a process is, if it is one on the map
abbrev pub op_of : Proc → Option Op
op_of (proc.Find p) = Some (op.Find p.key)
op_of (proc.Write p) = Some (write_op p.key p.write)
op_of (proc.Post p) = None
op_of (proc.Part p) = Some (part_op p.from)
op_of (proc.Compress p) = None
op_of (proc.Reclaim p) = None
op_of (proc.Lower p) = None
op_of (proc.InsertPost p) = Some (write_op p.key (write_of p.placing))

-- a process that releases a page has neither a begin nor an end
abbrev pub HasEnd : Proc → Type 0
HasEnd (proc.Reclaim p) = ⊥
HasEnd p = Unit {0}

-- The operation of p has its point in the trail, with that reply.
pub record Replies (trail : Trail) (p : Name) (is : Option Op) (answer : Reply) : Type 0 where
  pub place : ℕ
  pub said : Said
  pub says : SaysAt trail place p said
  pub op : is ≡ Some said.op
  pub reply : said.reply ≡ answer

-- Whose operation an entry is: that of a process that was started.
pub record IsOwn (v : View) (q : Name) (said : Said) : Type 0 where
  pub place : ℕ
  pub process : Proc
  pub name : q ≡ name_of (place + 1)
  pub stood : slice_get v.processes place ≡ Some process
  pub op : op_of process ≡ Some said.op

-- The account of a world. A trail tells what has happened, event by event, with the point of each answered operation.
pub record Account (v : View) : Type 0 where
  -- starts and turns led here from the opening index; and whichever these were, there is one event for each turn
  pub way : Way v
  pub count : (way : Way v) → length v.events ≡ turns_in way.world_steps
  -- the step list is the one that is shown; it is legal from the opening index, so that no released page was got, and leads
  -- to the pages and owners that stand here
  pub trail : Trail
  pub shown : v.events ≡ events_shown (events_of trail)
  pub start : State Page
  pub opening : Opening start
  pub now : State Page
  pub leads : LeadsOn start trail now
  pub numbered : AllNumbered trail
  pub unreleased : NoneReleased start trail
  pub contents : (x : ℕ) (c : Page) → slice_get v.pages x ≡ Some c → now.contents x ≡ c
  pub owner : (x : ℕ) (o : Owner) → slice_get v.owners x ≡ Some o → now.owner x ≡ owner_of o
  -- the laws of the tree hold with the map after the history, now and at every moment so far
  pub laws : HasLaws (snapshot_of now trail) (final_map empty (history_of trail))
  pub moments : HasMoments empty start trail
  -- the history is one of the step list: each entry stands once, at its point between begin and end; it is legal from the
  -- empty map; and an operation that ended before another began stands before it
  pub marked : IsMarked trail
  pub legal : IsLegalFrom empty (history_of trail)
  pub ordered : IsOrdered trail
  -- each entry is the operation of a process that was started; and what a process answered is what its entry says
  pub own : (i : ℕ) (q : Name) (said : Said) → SaysAt trail i q said → IsOwn v q said
  pub answers : (n : ℕ) (p : Proc) (reply : Reply) (hint : Option Hint) → slice_get v.processes n ≡ Some p → answer_of p ≡ Some (answer.Op reply hint)
      → Replies trail (name_of (n + 1)) (op_of p) reply
  pub ended : (n : ℕ) (p : Proc) (a : Answer) → slice_get v.processes n ≡ Some p → HasEnd p → answer_of p ≡ Some a
      → (i : ℕ) × (reply : Option Reply) × DoesAt trail i (name_of (n + 1)) (End reply)
  -- what a post answered means what it says, with the hint beside it, by what its process has done
  pub posted : (n : ℕ) (p : Post) (a : Posted) (hint : Option Hint) → slice_get v.processes n ≡ Some (proc.Post p)
      → answer_of (proc.Post p) ≡ Some (answer.Post a hint) → MeansPosted p.level p.key a hint (marks_of (name_of (n + 1)) trail)
  -- so does the hint beside the reply of an operation
  pub beside : (n : ℕ) (p : Proc) (reply : Reply) (hint : Option Hint) → slice_get v.processes n ≡ Some p → answer_of p ≡ Some (answer.Op reply hint)
      → MeansBeside p reply hint (marks_of (name_of (n + 1)) trail)
  -- so does what a compression answered, with the hint beside it
  pub squeezed : (n : ℕ) (p : Compress) (a : Squeezed) (hint : Option Hint) → slice_get v.processes n ≡ Some (proc.Compress p)
      → answer_of (proc.Compress p) ≡ Some (answer.Compress a hint) → MeansSqueezed p.level p.key a hint (marks_of (name_of (n + 1)) trail)
  -- so does what a lowering answered
  pub lowered : (n : ℕ) (p : Lower) (a : Lowered) → slice_get v.processes n ≡ Some (proc.Lower p) → answer_of (proc.Lower p) ≡ Some (answer.Lower a)
      → MeansLowered a (marks_of (name_of (n + 1)) trail)
  -- So does what an insertion that posts answered, with the post that it left; and the reply in it is what its entry says.
  pub climbed : (n : ℕ) (p : InsertPost) (reply : Reply) (last : Option Posted) (left : Option Hint)
      → slice_get v.processes n ≡ Some (proc.InsertPost p) → answer_of (proc.InsertPost p) ≡ Some (answer.InsertPost reply last left)
      → Replies trail (name_of (n + 1)) (op_of (proc.InsertPost p)) reply × MeansClimbed reply last left (marks_of (name_of (n + 1)) trail)
  -- so does the answer of a process that was to release a page; and each release is of the retirement that its process saw
  pub reclaimed : (n : ℕ) (p : Reclaim) (a : Reclaimed) → slice_get v.processes n ≡ Some (proc.Reclaim p)
      → answer_of (proc.Reclaim p) ≡ Some (answer.Reclaim a) → MeansReclaimed v.events (n + 1) p.page a
  pub releases : ReleasesSeen v.events
  -- a search, and a part, gets no more pages than its bound beside the puts of others, at every moment so far
  pub bounded : (n : ℕ) (p : Proc) → slice_get v.processes n ≡ Some p → IsSearch p → IsWithinBound (length v.pages) (name_of (n + 1)) trail
  -- when they latch a page, a write of one key, a post, and an insertion that posts hold none, a compression the parent and the left child at most, and a
  -- lowering the anchor at most; a search and a part latch, take and put nothing
  pub latches : (n : ℕ) (p : Proc) → slice_get v.processes n ≡ Some p → IsTidy p (marks_of (name_of (n + 1)) trail)
  -- whichever the turns were: a process answers that there was no room only where one of them was a fit refusal of it
  pub refused : (way : Way v) (n : ℕ) (p : Proc) (a : Answer) → slice_get v.processes n ≡ Some p → answer_of p ≡ Some a → IsNoRoom a
      → WasRefused way.opened way.world_steps n

-- The account of what stands after goes on from that of what stood before.
pub record Continues (v v' : View) : Type 0 where
  pub before : Account v
  pub after : Account v'
  pub more : Trail
  pub goes_on : after.trail ≡ before.trail ++ more
