-- What each kind of process holds when it latches, and what is kept is owned: what only proofs need.
use Rattle.std.specs.Prelude.{ℕ, ◌≡◌}
use Rattle.bl_page.specs.Machine.{Name}
use Rattle.bl_page.specs.Machine.Owner.{Held}
use Rattle.bl_claims.specs.Trails.{Trail, marks_of}
use Rattle.bl_claims.specs.Latches.{KeepsPage, LatchesNone, LatchesAlone, LatchesBelowAnchor}
use Rattle.bl_tree_worlds.specs.Worlds.{World}
use Rattle.bl_proc.specs.declared.kinds.Proc.{Proc}
use Rattle.bl_proc.specs.declared.kinds.Proc.TheVariants as proc
use Rattle.bl_claims.specs.Families.{LatchesBeside}
use Rattle.bl_proc_invariant.specs.Knowing.{Run}

-- What holds of each kind of process. One that releases pages has no latch, which is not said here.
abbrev pub IsTidy : Proc → Trail → Type 0
IsTidy (proc.Find p) marks = LatchesNone marks
IsTidy (proc.Write p) marks = LatchesAlone marks
IsTidy (proc.Post p) marks = LatchesAlone marks
IsTidy (proc.Part p) marks = LatchesNone marks
IsTidy (proc.Compress p) marks = LatchesBeside p.level p.key marks
IsTidy (proc.Reclaim p) marks = Unit {0}
IsTidy (proc.Lower p) marks = LatchesBelowAnchor marks
IsTidy (proc.InsertPost p) marks = LatchesAlone marks

-- what is kept by the marks is owned
abbrev pub AllOwned : {P : Type 0} → World P → Type 0
AllOwned w = (p : Name) (y : ℕ) → KeepsPage (marks_of p w.trail) y → w.now.owner y ≡ Held p

abbrev pub AllTidy : World Run → Type 0
AllTidy w = (p : Name) → IsTidy (w.proc p).state (marks_of p w.trail)
