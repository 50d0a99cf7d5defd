-- How many turns a process has left at most, of whatever kind and in whatever state it is, if no page is put any more and it never waits.
use Rattle.std.specs.Prelude.{ℕ, ◌≡◌, ◌⊎◌, ◌+◌, ◌-◌, ◌*◌, ◌≤◌, true}
use Rattle.bl_page.specs.declared.page.Page.{Page}
use Rattle.bl_proc_steps.specs.declared.acts.Seen.{Seen}
use Rattle.bl_proc_steps.specs.declared.acts.Seen.TheVariants as seen
use Rattle.bl_proc.specs.declared.reclaiming.ReclaimStage.{ReclaimStage}
use Rattle.bl_proc.specs.declared.reclaiming.ReclaimStage.TheVariants as reclaim
use Rattle.bl_proc.specs.declared.kinds.Proc.{Proc}
use Rattle.bl_proc.specs.declared.kinds.Proc.TheVariants as proc
use Rattle.bl_proc_progress.specs.Holds.{compress_hold}
use Rattle.bl_proc_ends.specs.Left.{IsMeant, TurnsLeft}

-- The same process, where it is a compression as one that waits for the children: while it misses none, both do the same.
abbrev pub patient : Proc → Proc
patient (proc.Find p) = proc.Find p
patient (proc.Write p) = proc.Write p
patient (proc.Post p) = proc.Post p
patient (proc.Part p) = proc.Part p
patient (proc.Compress p) = proc.Compress (record p { waits = true })
patient (proc.Reclaim p) = proc.Reclaim p
patient (proc.Lower p) = proc.Lower p
patient (proc.InsertPost p) = proc.InsertPost p

-- A release of a page looks at each of that many processes once.
abbrev pub reclaim_left : ℕ → ReclaimStage → ℕ
reclaim_left count reclaim.Seeing = count + 2
reclaim_left count (reclaim.Looking r) = 2 + (r.started - r.next)
reclaim_left count reclaim.Releasing = 1
reclaim_left count (reclaim.Over what) = 0

-- it looks at no more of them than there are
abbrev pub IsCountedIn : ℕ → ReclaimStage → Type 0
IsCountedIn count (reclaim.Looking r) = r.started ≤ count
IsCountedIn count stage = Unit {0}

abbrev pub IsCounted : ℕ → Proc → Type 0
IsCounted count (proc.Reclaim p) = IsCountedIn count p.stage
IsCounted count p = Unit {0}

-- as many processes are seen as were started
abbrev pub SeesStarted : ℕ → Seen → Type 0
SeesStarted count (seen.Owner retired started own) = started ≡ count
SeesStarted count what = Unit {0}

-- The turns of a process that is not meant, until it is over or begins again: it releases a page, or is a compression that is to begin
-- again.
abbrev pub odd_left : ℕ → Proc → ℕ
odd_left count (proc.Compress p) = compress_hold p.stage
odd_left count (proc.Reclaim p) = reclaim_left count p.stage
odd_left count p = 0

-- as many as any process has left, in so many pages, where so many processes were started
abbrev pub most_left : ℕ → ℕ → ℕ
most_left size count = 8 * size + count + 55

abbrev pub Rests : ℕ → (ℕ → Page) → ℕ → Proc → ℕ → Type 0
Rests size contents count p turns =
    (IsMeant (patient p) × TurnsLeft size contents (patient p) turns) ⊎ ((¬ IsMeant (patient p)) × (turns ≡ 8 * size + 41 + odd_left count p))
