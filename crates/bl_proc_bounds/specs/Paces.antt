-- How each search keeps its bound: so many gets are ahead of it, if nothing changes any more, that with those that it has
-- done they are within the bound. Each turn of each process keeps that, and what the processes hold as they latch.
use Rattle.std.specs.Prelude.{ℕ, suc, ◌≡◌, ◌+◌, ◌≤◌}
use Rattle.bl_page.specs.declared.page.Page.{Page}
use Rattle.bl_page.specs.Machine.{Name}
use Rattle.bl_page.specs.Machine.Act.{Begin}
use Rattle.bl_claims.specs.Trails.{Trail, DoesAt}
use Rattle.bl_tree_worlds.specs.Worlds.{World}
use Rattle.bl_proc_steps.specs.declared.descent.Descent.{Descent}
use Rattle.bl_proc_steps.specs.declared.descent.Descent.TheVariants.{AtAnchor}
use Rattle.bl_proc_steps.specs.declared.descent.Descended.TheVariants as descended
use Rattle.bl_proc_steps.specs.Descents.{descent_page, Descends}
use Rattle.bl_proc.specs.declared.searching.FindStage.{FindStage}
use Rattle.bl_proc.specs.declared.searching.FindStage.TheVariants as find
use Rattle.bl_proc.specs.declared.parts.PartStage.{PartStage}
use Rattle.bl_proc.specs.declared.parts.PartStage.TheVariants as part
use Rattle.bl_proc.specs.declared.kinds.Proc.{Proc}
use Rattle.bl_proc.specs.declared.kinds.Proc.TheVariants as proc
use Rattle.bl_proc_invariant.specs.Knowing.{Run}
use Rattle.bl_proc_bounds.specs.Latches.{AllOwned, AllTidy}
use Rattle.bl_claims.specs.Bounds.{gets_of, puts_near, most_gets, IsWithinBound}

-- From there on so many gets lead to the leaf that covers the key.
pub data IsAhead (contents : ℕ → Page) (k : ℕ) : Descent → ℕ → Type 0 where
  Last : {d : Descent} → Descends k d (contents (descent_page d)) descended.Here → IsAhead contents k d 1
  On : {d e : Descent} {n : ℕ} → Descends k d (contents (descent_page d)) (descended.On e) → IsAhead contents k e n → IsAhead contents k d (suc n)

-- Where a process stands that searches: it is to begin, is to look at that page first, is on its way, or has found its leaf.
-- Others search nowhere.
pub data Place : Type 0 where
  Nowhere : Place
  Before : Place
  Trying : ℕ → Place
  Going : Descent → Place
  After : Place

-- so many gets are ahead of a search at that place
abbrev pub AreLeft : (ℕ → Page) → ℕ → Place → ℕ → Type 0
AreLeft contents k Nowhere n = ⊥
AreLeft contents k Before n = ⊥
AreLeft contents k (Trying x) n = ⊥
AreLeft contents k (Going d) n = IsAhead contents k d n
AreLeft contents k After n = n ≡ 0

-- p has begun, has kept the bound so far, and keeps it if nothing changes any more
pub record Spends (size : ℕ) (contents : ℕ → Page) (trail : Trail) (p : Name) (k : ℕ) (place : Place) : Type 0 where
  pub begin : ℕ
  pub begun : DoesAt trail begin p Begin
  pub within : IsWithinBound size p trail
  pub left : ℕ
  pub ahead : AreLeft contents k place left
  pub enough : gets_of p trail + left ≤ most_gets size (puts_near p trail)

abbrev pub find_place : FindStage → Place
find_place find.New = Before
find_place (find.Near x) = Before
find_place (find.Probing x) = Trying x
find_place (find.Descending d) = Going d
find_place (find.Ending value) = After
find_place (find.Over value) = After

abbrev pub part_place : PartStage → Place
part_place part.New = Before
part_place (part.Near x) = Before
part_place (part.Probing x) = Trying x
part_place (part.Descending d) = Going d
part_place (part.Ending r) = After
part_place (part.Over r) = After

abbrev pub place_of : Proc → Place
place_of (proc.Find p) = find_place p.stage
place_of (proc.Write p) = Nowhere
place_of (proc.Post p) = Nowhere
place_of (proc.Part p) = part_place p.stage
place_of (proc.Compress p) = Nowhere
place_of (proc.Reclaim p) = Nowhere
place_of (proc.Lower p) = Nowhere
place_of (proc.InsertPost p) = Nowhere

-- the key that it seeks
abbrev pub sought : Proc → ℕ
sought (proc.Find p) = p.key
sought (proc.Write p) = 0
sought (proc.Post p) = 0
sought (proc.Part p) = p.from.key
sought (proc.Compress p) = 0
sought (proc.Reclaim p) = 0
sought (proc.Lower p) = 0
sought (proc.InsertPost p) = 0

-- The bound of a search that has begun. While it looks at a page first, it has got none, and may go by the anchor.
abbrev pub IsKept : ℕ → (ℕ → Page) → Trail → Name → ℕ → Place → Type 0
IsKept size contents trail p k Nowhere = Unit {0}
IsKept size contents trail p k Before = Unit {0}
IsKept size contents trail p k (Trying x) = Spends size contents trail p k (Going AtAnchor) × (gets_of p trail ≡ 0)
IsKept size contents trail p k (Going d) = Spends size contents trail p k (Going d)
IsKept size contents trail p k After = Spends size contents trail p k After

-- each search keeps its bound
abbrev pub AllPaced : World Run → Type 0
AllPaced w = (p : Name) → IsKept w.size w.now.contents w.trail p (sought (w.proc p).state) (place_of (w.proc p).state)

-- What each process keeps, turn by turn: a search its bound, and a process that latches what it may hold then.
pub record AllKept (w : World Run) : Type 0 where
  pub paced : AllPaced w
  pub owned : AllOwned w
  pub tidy : AllTidy w
