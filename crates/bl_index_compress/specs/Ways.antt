-- A compression goes on as any writer on its way to a page that it is to hold.
use Rattle.std.specs.Prelude.{ℕ, refl, Bool}
use Rattle.bl_proc_steps.specs.declared.acts.Seen.{Seen}
use Rattle.bl_proc_steps.specs.declared.approach.Approach.{Approach}
use Rattle.bl_proc_steps.specs.declared.approach.Approach.TheVariants.{Start, At, Latching, Latched, Leaving}
use Rattle.bl_proc_steps.specs.declared.approach.Approached.TheVariants as came
use Rattle.bl_proc_steps.specs.declared.approach.Came.TheVariants as descend
use Rattle.bl_proc_steps.specs.Approaches.{Approaches}
use Rattle.bl_proc_compress.specs.declared.compress.CompressStage.TheVariants as stages
use Rattle.bl_proc_compress.specs.Compresses.{CompressGoes}
use Rattle.bl_index_descend.specs.Ways.{IsToHold}

pub nears : (level key : ℕ) (waits : Bool) (a b : Approach) (what : Seen) → IsToHold a → Approaches level key a what (came.On b)
    → CompressGoes level key waits (stages.Coming a) what (stages.Coming b)
nears level key waits Start b what hold t = absurd hold
nears level key waits (At x) b what hold t = absurd hold
nears level key waits (Latching x) b what hold t = (descend.On b, (tt, t), refl)
nears level key waits (Latched x) b what hold t = (descend.On b, (tt, t), refl)
nears level key waits (Leaving x to) b what hold t = (descend.On b, (tt, t), refl)
