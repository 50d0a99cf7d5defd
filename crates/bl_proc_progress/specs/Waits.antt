-- Who waits for whom, and where a wait ends.
use Rattle.std.specs.Prelude.{◌≡◌, ℕ}
use Rattle.bl_page.specs.Machine.{Name}
use Rattle.bl_page.specs.Machine.Owner.{Held}
use Rattle.bl_tree_worlds.specs.Worlds.{World}
use Rattle.bl_proc_steps.specs.declared.acts.Action.TheVariants as act
use Rattle.bl_proc.specs.Processes.{next_of}
use Rattle.bl_proc_invariant.specs.Knowing.{Run}

-- Next it is to latch a page that a process holds: it waits for that process.
pub record Waits (w : World Run) (p : Name) : Type 0 where
  pub page : ℕ
  pub by : Name
  pub latches : next_of (w.proc p).state ≡ act.Latch page
  pub held : w.now.owner page ≡ Held by

-- Its wait ends at that process, which waits for nobody: each one on the way waits for the next.
pub data EndsAt (w : World Run) : Name → Name → Type 0 where
  Here : {p : Name} → ¬ Waits w p → EndsAt w p p
  Behind : {p last : Name} (s : Waits w p) → EndsAt w s.by last → EndsAt w p last

-- where its wait ends
pub record Ends (w : World Run) (p : Name) : Type 0 where
  pub last : Name
  pub ends : EndsAt w p last
