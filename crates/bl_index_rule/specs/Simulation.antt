-- The rule of threads.
use Rattle.std.specs.Prelude.{◌≡◌, ◌≢◌, ◌⊎◌, ℕ, zero, suc, ◌<◌, ◌≤◌, ◌++◌, true, false, Option as Optional, List, [], length, replicate}
use mathlib.Core.Option.{Option, none, some}
use lib.ListN.{get_elem?}
use Rattle.bl_page.specs.declared.page.Page.{Page}
use Rattle.bl_page.specs.declared.page.Page.TheVariants.{Anchor, Leaf, Inner, Dead}
use Rattle.bl_page.specs.Words.{words_of}
use Rattle.bl_page.specs.Machine.{Name}
use Rattle.bl_page.specs.Machine as machine
use Rattle.bl_claims.specs.Trails.{Mark, Trail, entries_at, marks_of}
use Rattle.bl_claims.specs.States.{HasMoments}
use Rattle.bl_tree_worlds.specs.Worlds.{World, IsGood}
use Rattle.bl_claims.specs.Walks.{Each}
use Rattle.bl_tree_worlds.specs.Blank.{IsBlank}
use Rattle.bl_proc.specs.declared.kinds.Proc.{Proc}
use Rattle.bl_proc.specs.declared.kinds.Proc.TheVariants.{Find}
use Rattle.bl_proc.specs.declared.searching.FindStage.TheVariants as find
use Rattle.bl_proc_invariant.specs.Knowing.{Run, know}
use Rattle.bl_proc_invariant.specs.Logs.{proc_log}
use Rattle.bl_proc_bounds.specs.Paces.{AllKept}
use Rattle.bl_one_moment.specs.Moments.{HasFirmMoments, puts_at}
use Rattle.bl_store_rule.specs.Pages.{Owner, Released, Open, Held, Retired, Stage, Idle, Running, Pages, Stands, HasVersion}
use Rattle.bl_index_rule.specs.declared.known.PassState.{PassState}
use Rattle.bl_claims.specs.Seeing.{name, first_map, BeginsFrom, own, AreWithin, AreElse}

-- a process that is to look a key up
abbrev pub unborn : Proc
unborn = Find (record { key = 0; stage = find.New })

-- what a pass knows that has begun no process, of an index that began so
abbrev pub beginner : List (Optional Page) → PassState
beginner first = record { pass = 0; pages = 0; passes = 0; number = 0; runs = false; state = unborn; first = first; past = []; trail = [] }

abbrev pub newcomer : PassState
newcomer = beginner []

abbrev pub IsAnchor : Page → Type 0
IsAnchor (Anchor a) = Unit {0}
IsAnchor (Leaf l) = ⊥
IsAnchor (Inner i) = ⊥
IsAnchor (Dead d) = ⊥

-- The words are those of the page. Where a page other than page 0 was never put, its words are zeros, and an anchor stands
-- for it, which no process may get there.
abbrev pub Shows : ℕ → List ℕ → Page → Type 0
Shows zero words c = words ≡ words_of c
Shows (suc x) words c = (words ≡ words_of c) ⊎ ((words ≡ replicate 32 0) × IsAnchor c)

-- how many processes the hand at that place has begun
abbrev pub number_in : Option (Stage × PassState) → ℕ
number_in none = 0
number_in (some h) = h.1.number

abbrev pub owner_in : List (Stage × PassState) → Owner → machine.Owner
owner_in hands Released = machine.Released
owner_in hands Open = machine.Owner.Open
owner_in hands (Held n) = machine.Held (name n (number_in (get_elem? hands n)))
owner_in hands (Retired time) = machine.Retired time

-- Where a hand runs a process, it is the last that it has begun, at that time or later, which stands as the pass knows and has done what it needs
-- to mean what it will answer, and what it has said is all that the pass has said since the entries of before. Where it runs
-- none, the last one holds no page any more.
abbrev pub IsAtStage : World Run → ℕ → Stage → PassState → Type 0
IsAtStage w n Idle d = (d.runs ≡ false) × ((x : ℕ) → w.now.owner x ≢ machine.Held (name n d.number))
IsAtStage w n (Running since) d =
    (d.runs ≡ true) × (d.number ≢ 0) × ((start : ℕ) × (since ≤ start) × (w.now.phase (name n d.number) ≡ machine.Running start)) × ((w.proc (name n d.number)).state ≡ d.state)
    × (own n w.trail ≡ d.past ++ entries_at (name n d.number) (know (w.proc (name n d.number))).said) × proc_log d.state (marks_of (name n d.number) w.trail)

-- the processes of that pass among these events have numbers up to that one
abbrev pub AreUpTo : ℕ → ℕ → Trail → Type 0
AreUpTo pass number marks = Each (λ (k : Mark). k.event.process.pass ≡ pass → k.event.process.number ≤ number) marks

-- The world knows the hand n, which stands there and knows d: all events of its pass, and the number of its last process.
pub record IsHand (w : World Run) (n : ℕ) (st : Stage) (d : PassState) : Type 0 where
  pub named : d.number ≢ 0 → (d.pass ≡ n) × (d.pages ≡ w.size)
  pub stage : IsAtStage w n st d
  pub later : (m : ℕ) → d.number < m → (w.now.phase (name n m) ≡ machine.Waiting) × IsBlank (know (w.proc (name n m)))
  pub begins : (rest : Trail) × (w.trail ≡ d.trail ++ rest) × AreElse n rest
  pub counted : AreUpTo n d.number d.trail
  pub mine : own n w.trail ≡ own n d.trail

-- The hand that the process names runs it, since that time. For the store it may count from an earlier one on, that of a process of the
-- hand behind which this one began without a rest.
abbrev pub IsRun : List (Stage × PassState) → Name → ℕ → Type 0
IsRun hands p since = (d : PassState) × ((from : ℕ) × (from ≤ since) × (get_elem? hands p.pass ≡ some (Running from, d))) × (p.number ≡ d.number)

-- One good world that began with an image or empty, and had the laws of the tree in every state since, has the pages and owners
-- of the store, and knows each hand, which knows what it began with. Each search keeps its bound there, and each process holds
-- what it may as it latches. No process runs there but those that hands run. And each page was put there as often as in the store.
pub record Simulates (s : Pages PassState) : Type 0 where
  pub world : World Run
  pub good : IsGood know world
  pub kept : AllKept world
  pub image : List (Optional Page)
  pub opening : BeginsFrom image world.start
  pub first : world.first ≡ first_map image
  pub moments : HasMoments (first_map image) world.start world.trail
  pub size : world.size ≡ length s.contents
  pub clock : world.now.clock ≤ s.clock
  pub pages : (x : ℕ) (words : List ℕ) → get_elem? s.contents x ≡ some words → Shows x words (world.now.contents x)
  pub owners : (x : ℕ) (o : Owner) → get_elem? s.owners x ≡ some o → world.now.owner x ≡ owner_in s.hands o
  pub hands : (n : ℕ) (st : Stage) (d : PassState) → Stands s n st d → IsHand world n st d
  pub within : AreWithin (length s.hands) world.trail
  pub counts : (n : ℕ) (st : Stage) (d : PassState) → Stands s n st d → d.number ≢ 0 → d.passes ≡ length s.hands
  pub firsts : (n : ℕ) (st : Stage) (d : PassState) → Stands s n st d → d.first ≡ image
  pub busy : (p : Name) (since : ℕ) → world.now.phase p ≡ machine.Running since → IsRun s.hands p since
  pub versions : (x version : ℕ) → HasVersion s x version → version ≡ puts_at x world.trail
  pub firm : HasFirmMoments (first_map image) world.start world.trail
