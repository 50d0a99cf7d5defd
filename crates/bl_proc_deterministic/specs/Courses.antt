-- A process that is told what its action gave goes on in one way.
use Rattle.std.specs.Prelude.{◌≡◌}
use Rattle.bl_proc_steps.specs.declared.acts.Seen.{Seen}
use Rattle.bl_proc.specs.declared.kinds.Proc.{Proc}
use Rattle.bl_proc.specs.Processes.{Takes}

-- the state that follows, and there is no other
pub record GoesOn (old : Proc) (what : Seen) : Type 0 where
  pub new : Proc
  pub takes : Takes old what new
  pub only : (other : Proc) → Takes old what other → other ≡ new
