-- What each event tells the pass that makes it.
use Rattle.std.specs.Prelude.{true, false, ◌≡◌, ◌≢◌, ◌⊎◌, ℕ, ◌+◌, ◌<◌, ◌++◌, Option, None, Some, List, [], ◌∷◌, length}
use Rattle.bl_model.specs.declared.operation.Reply.{Reply}
use Rattle.bl_page.specs.declared.page.Page.{Page}
use Rattle.bl_page.specs.Words.{words_of}
use Rattle.bl_page.specs.Machine.{Name, State, Act}
use Rattle.bl_claims.specs.Trails.{Mark, Trail, entries_at, marks_of}
use Rattle.bl_proc_steps.specs.declared.acts.Action.{Action}
use Rattle.bl_proc_steps.specs.declared.acts.Action.TheVariants as action
use Rattle.bl_proc_steps.specs.declared.acts.Seen.{Seen}
use Rattle.bl_proc_steps.specs.declared.acts.Seen.TheVariants as seen
use Rattle.bl_proc_steps.specs.declared.lowering.Summit.{Summit}
use Rattle.bl_proc.specs.declared.kinds.Proc.{Proc}
use Rattle.bl_proc.specs.declared.kinds.Proc.TheVariants as proc
use Rattle.bl_proc.specs.Processes.{next_of}
use Rattle.bl_proc_invariant.specs.Logs.{proc_log}
use Rattle.bl_proc_invariant.specs.Walks.{LeavesWalk, looking, at_summit}
use Rattle.bl_proc_invariant.specs.Turns.{event_of}
use Rattle.bl_proc_invariant.specs.Knowing.{Run, know, end_of_proc}
use Rattle.bl_claims.specs.Bounds.{IsWithinBound, IsBelowBound}
use Rattle.bl_proc_bounds.specs.Searches.{IsSearch, IsUnderWay}
use Rattle.bl_claims.specs.Meanings.{writes_of, HasRaised}
use Rattle.bl_proc_bounds.specs.Latches.{IsTidy}
use Rattle.bl_tree_worlds.specs.Worlds.{Stage}
use Rattle.bl_claims.specs.Walks.{Each}
use Rattle.bl_one_moment.specs.Moments.{HasFirmMoments, PutsNone, puts_at}
use Rattle.bl_tree_worlds.specs.Blank.{IsBlank}
use Rattle.bl_proc_deterministic.specs.Courses.{GoesOn}
use Rattle.bl_store_rule.specs.Pages.{Owner, Open}
use Rattle.bl_index_rule.specs.declared.known.PassState.{PassState}
use Rattle.bl_claims.specs.Seeing.{first_map, BeginsFrom, IsSeen, AreWithin, AreElse, own, name}
use Rattle.bl_index_rule.specs.Simulation.{AreUpTo}

-- the page that a process is to get, latch, put, open or retire is one of so many
abbrev pub IsNear : ℕ → Action → Type 0
IsNear pages (action.Get x) = x < pages
IsNear pages (action.Put x c) = x < pages
IsNear pages (action.Latch x) = x < pages
IsNear pages (action.Open x) = x < pages
IsNear pages action.Begin = Unit {0}
IsNear pages action.End = Unit {0}
IsNear pages action.Take = Unit {0}
IsNear pages (action.Retire x) = x < pages
IsNear pages (action.Look p) = Unit {0}
IsNear pages (action.See x) = Unit {0}
IsNear pages (action.Probe x) = Unit {0}
IsNear pages (action.Release x) = Unit {0}

-- What the pass has said since its entries of before is what its process knows that it has said.
pub record HasOwn (d : PassState) : Type 0 where
  pub run : Run
  pub state : run.state ≡ d.state
  pub own : own d.pass d.trail ≡ d.past ++ entries_at (name d.pass d.number) (know run).said

-- One event of the pass's process of that count, after all that the pass knew and events of others: e is what it knows then.
-- Where the process is a search, it has been within its bound at every moment, and below it while it is to get another page.
-- Whatever it is, it has held at its latches no more than its kind may.
pub record Notes (by count : ℕ) (act : Act Page Reply) (d e : PassState) : Type 0 where
  pub between : Trail
  pub last : Mark
  pub trail : e.trail ≡ d.trail ++ (between ++ last ∷ [])
  pub event : last.event ≡ record { process = name by count; act = act }
  pub first : e.first ≡ d.first
  pub seen : IsSeen e.first e.trail
  pub within : AreWithin e.passes e.trail
  pub pass : e.pass ≡ by
  pub number : e.number ≡ count
  pub others : AreElse by between
  pub bounded : IsSearch e.state → IsWithinBound e.pages (name by count) e.trail
  pub below : IsUnderWay e.state → IsBelowBound e.pages (name by count) e.trail
  pub tidy : IsTidy e.state (marks_of (name by count) e.trail)

-- the process goes on by one event
pub record Steps (act : Act Page Reply) (d e : PassState) : Type 0 where
  pub notes : Notes d.pass d.number act d e
  pub runs : e.runs ≡ true
  pub pages : e.pages ≡ d.pages
  pub passes : e.passes ≡ d.passes
  pub past : e.past ≡ d.past
  pub own : HasOwn e
  pub near : IsNear e.pages (next_of e.state)

-- the process was told this of its next action, and goes on; where it got a page, its mark shows that page
pub record Goes (what : Seen) (d e : PassState) : Type 0 where
  pub steps : Steps (event_of (end_of_proc d.state) (next_of d.state) what) d e
  pub saw : (x : ℕ) (c : Page) → event_of (end_of_proc d.state) (next_of d.state) what ≡ Act.Get x → what ≡ seen.Words c → steps.notes.last.saw ≡ Some c
  pub course : GoesOn d.state what
  pub state : e.state ≡ course.new

abbrev pub gets : PassState → ℕ → Owner → List ℕ → PassState → Type 0
gets d x owner words e = (c : Page) × (words ≡ words_of c) × Goes (seen.Words c) d e

abbrev pub puts : PassState → ℕ → Owner → List ℕ → PassState → Type 0
puts d x owner words e = Goes seen.Done d e

abbrev pub opens : PassState → ℕ → Owner → List ℕ → PassState → Type 0
opens d x owner words e = Goes seen.Done d e

-- The process was a post on its walk from that page, and has given that up and opened the page: it goes on as one that had been about to.
abbrev pub HasLeftWalk : PassState → ℕ → PassState → Type 0
HasLeftWalk d x e = (off : Proc) × LeavesWalk d.state off x × Goes seen.Done (record d { state = off }) e

abbrev pub leaves_walk : PassState → ℕ → Owner → List ℕ → PassState → Type 0
leaves_walk d x owner words e = HasLeftWalk d x e

-- The process was a lowering that held the anchor and was to latch the top page. It has opened the anchor, and is to look at that again.
pub record HasLeftTop (d e : PassState) : Type 0 where
  pub top : Summit
  pub was : d.state ≡ at_summit top
  pub steps : Steps (Act.Open 0) d e
  pub is : e.state ≡ looking

abbrev pub leaves_top : PassState → ℕ → Owner → List ℕ → PassState → Type 0
leaves_top d x owner words e = HasLeftTop d e

abbrev pub takes : PassState → ℕ → Owner → List ℕ → PassState → Type 0
takes d x owner words e = Goes (seen.Took x) d e

abbrev pub tries : PassState → ℕ → Owner → List ℕ → PassState → Type 0
tries d x owner words e = (owner ≡ Open → Goes seen.Done d e) × (owner ≢ Open → Goes seen.Missed d e)

-- it is told whether the page is open
abbrev pub probes : PassState → ℕ → Owner → List ℕ → PassState → Type 0
probes d x owner words e = (owner ≡ Open → Goes (seen.Probed true) d e) × (owner ≢ Open → Goes (seen.Probed false) d e)

abbrev pub retires : PassState → ℕ → PassState → Type 0
retires d now e = Goes seen.Done d e

abbrev pub refuses : PassState → ℕ → PassState → Type 0
refuses d now e = Goes seen.Refused d e

-- a process begins, the next of its pass
pub record Begins (by many among : ℕ) (process : Proc) (d e : PassState) : Type 0 where
  pub notes : Notes by (d.number + 1) Act.Begin d e
  pub runs : e.runs ≡ true
  pub pages : e.pages ≡ many
  pub passes : e.passes ≡ among
  pub past : e.past ≡ own by d.trail
  pub fresh : AreUpTo by d.number d.trail
  pub own : HasOwn e
  pub near : IsNear e.pages (next_of e.state)
  pub course : GoesOn process seen.Done
  pub state : e.state ≡ course.new

abbrev pub begins : ℕ → ℕ → ℕ → Proc → PassState → ℕ → PassState → Type 0
begins pass pages passes process d now e = Begins pass pages passes process d e

-- the process has ended, and the entries of its pass are those of before
pub record Finishes (answer : Option Reply) (d e : PassState) : Type 0 where
  pub notes : Notes d.pass d.number (Act.End answer) d e
  pub runs : e.runs ≡ false
  pub pages : e.pages ≡ d.pages
  pub passes : e.passes ≡ d.passes
  pub own : own d.pass e.trail ≡ own d.pass d.trail

-- it has answered, and has done what its answer means
pub record HasDone (d e : PassState) : Type 0 where
  pub course : GoesOn d.state seen.Done
  pub state : e.state ≡ course.new
  pub log : proc_log course.new (marks_of (name d.pass d.number) e.trail)

abbrev pub ends : PassState → ℕ → PassState → Type 0
ends d now e = Finishes (end_of_proc d.state) d e × HasDone d e

-- All moments that the pass has seen are firm, from a first state that is as the index began.
pub record HasFirmTrail (d : PassState) : Type 0 where
  pub start : State Page
  pub opening : BeginsFrom d.first start
  pub firm : HasFirmMoments (first_map d.first) start d.trail

-- it got a page, and is told how often that was put by then
abbrev pub gets_kept : PassState → ℕ → ℕ → Owner → List ℕ → PassState → Type 0
gets_kept d x version owner words e = gets d x owner words e × (version ≡ puts_at x e.trail) × HasFirmTrail e

-- In all that the pass has seen the page was not put since a get of it, if it had been put so often by then.
abbrev pub is_unput : PassState → ℕ → ℕ → Type 0
is_unput d x version = (before since : Trail) (get : Mark) → d.trail ≡ before ++ get ∷ since → puts_at x (before ++ get ∷ []) ≡ version → PutsNone x since

-- the process has ended, and the next one has begun
abbrev pub relays : ℕ → ℕ → ℕ → Proc → PassState → ℕ → PassState → Type 0
relays pass pages passes process d now e = (between : PassState) × ends d now between × begins pass pages passes process between now e

-- What a process may leave that gives up: it has written nothing, or new top levels alone where it is a post.
abbrev pub Leaves : Proc → Trail → Type 0
Leaves (proc.Find p) marks = writes_of marks ≡ []
Leaves (proc.Write p) marks = writes_of marks ≡ []
Leaves (proc.Post p) marks = HasRaised p.level marks
Leaves (proc.Part p) marks = writes_of marks ≡ []
Leaves (proc.Compress p) marks = writes_of marks ≡ []
Leaves (proc.Reclaim p) marks = writes_of marks ≡ []
Leaves (proc.Lower p) marks = writes_of marks ≡ []
Leaves (proc.InsertPost p) marks = writes_of marks ≡ []

-- The process has ended without an answer. It has held at its latches no more than its kind may, and leaves no more than it may.
pub record GivesUp (d e : PassState) : Type 0 where
  pub finishes : Finishes None d e
  pub tidy : IsTidy d.state (marks_of (name d.pass d.number) e.trail)
  pub leaves : Leaves d.state (marks_of (name d.pass d.number) e.trail)

abbrev pub gives_up : PassState → ℕ → PassState → Type 0
gives_up d now e = GivesUp d e

-- p released a page there, and said nothing
abbrev pub IsRelease : Name → Mark → Type 0
IsRelease p m = (x : ℕ) × (m.event ≡ record { process = p; act = Act.Release x }) × (m.said ≡ None)

-- Of so many passes, pages were released by this one's process of that count, which is a process of its own: before its first release the pass
-- had none of it, and all that the pass does meanwhile is to release so many pages.
pub record ReleasesPages (by count among released : ℕ) (d e : PassState) : Type 0 where
  pub more : Trail
  pub trail : e.trail ≡ d.trail ++ more
  pub many : length (marks_of (name by count) more) ≡ released
  pub mine : Each (λ (m : Mark). m.event.process.pass ≡ by → IsRelease (name by count) m) more
  pub fresh : d.number < count → Each (λ (m : Mark). m.event.process ≢ name by count) d.trail
  pub first : e.first ≡ d.first
  pub seen : IsSeen e.first e.trail
  pub within : AreWithin among e.trail
  pub own : own by e.trail ≡ own by d.trail
  pub number : e.number ≡ count
  pub runs : e.runs ≡ false

-- or no page was released
abbrev pub sweeps : ℕ → ℕ → ℕ → PassState → ℕ → PassState → Type 0
sweeps by count among d released e = ((e ≡ d) × (released ≡ 0)) ⊎ ReleasesPages by count among released d e

-- a process that may end at once: it runs, has said nothing, holds nothing, and leaves no more than one may that gives up
pub record MayGiveUp (state : Proc) : Type 0 where
  pub busy : (r : Run) → r.state ≡ state → (know r).stage ≡ Stage.Busy
  pub silent : (r : Run) → r.state ≡ state → (know r).said ≡ None
  pub empty : (r : Run) → r.state ≡ state → (know r).holds ≡ []
  pub no_middle : (r : Run) → r.state ≡ state → (know r).middle ≡ None
  pub leaves : (marks : Trail) → proc_log state marks → Leaves state marks

-- a process that is to begin, and has nothing
abbrev pub IsUnborn : Proc → Type 0
IsUnborn state = (r : Run) → r.state ≡ state → IsBlank (know r)
