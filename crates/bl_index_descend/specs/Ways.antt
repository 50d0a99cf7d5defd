-- How far a writer has come on its way.
use Rattle.bl_proc_steps.specs.declared.approach.Approach.{Approach}
use Rattle.bl_proc_steps.specs.declared.approach.Approach.TheVariants.{Start, At, Latching, Latched, Leaving}

-- it is to latch a page, or holds one
abbrev pub IsToHold : Approach → Type 0
IsToHold Start = ⊥
IsToHold (At x) = ⊥
IsToHold (Latching x) = Unit {0}
IsToHold (Latched x) = Unit {0}
IsToHold (Leaving x to) = Unit {0}
