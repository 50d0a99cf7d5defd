-- A post that is past the anchor goes on as any writer then.
use Rattle.std.proofs.Common.{ℕ, refl}
use Rattle.bl_proc_steps.specs.declared.acts.Seen.{Seen}
use Rattle.bl_proc_steps.specs.declared.approach.Approach.{Approach}
use Rattle.bl_proc_steps.specs.declared.approach.Approach.TheVariants.{Start, At, Latching, Latched, Leaving}
use Rattle.bl_proc_steps.specs.declared.approach.Approached.TheVariants as came
use Rattle.bl_proc_steps.specs.declared.approach.Came.TheVariants as descend
use Rattle.bl_proc_steps.specs.Approaches.{Approaches}
use Rattle.bl_proc_writes.specs.declared.post.PostStage.TheVariants as post
use Rattle.bl_proc_writes.specs.Posts.{PostGoes}
use Rattle.bl_index_descend.specs.Ways.{IsToHold}

-- it is past the anchor
abbrev pub IsPast : Approach → Type 0
IsPast Start = ⊥
IsPast (At x) = Unit {0}
IsPast (Latching x) = Unit {0}
IsPast (Latched x) = Unit {0}
IsPast (Leaving x to) = Unit {0}

pub past_held : (a : Approach) → IsToHold a → IsPast a
past_held Start hold = hold
past_held (At x) hold = tt
past_held (Latching x) hold = tt
past_held (Latched x) hold = tt
past_held (Leaving x to) hold = tt

pub nears : (level key : ℕ) (a b : Approach) (what : Seen) → IsPast a → Approaches level key a what (came.On b)
    → PostGoes level key (post.Coming a) what (post.Coming b)
nears level key Start b what past t = absurd past
nears level key (At x) b what past t = (descend.On b, (tt, t), refl)
nears level key (Latching x) b what past t = (descend.On b, (tt, t), refl)
nears level key (Latched x) b what past t = (descend.On b, (tt, t), refl)
nears level key (Leaving x to) b what past t = (descend.On b, (tt, t), refl)
