-- What each action may give.
use Rattle.std.specs.Prelude.{ℕ, Option, IsSome}
use Rattle.bl_page.specs.Pairs.{IsChild}
use Rattle.bl_proc_steps.specs.declared.acts.Action.{Action}
use Rattle.bl_proc_steps.specs.declared.acts.Action.TheVariants as act
use Rattle.bl_proc_steps.specs.declared.acts.Seen.{Seen}
use Rattle.bl_proc_steps.specs.declared.acts.Seen.TheVariants as seen

-- Only a latch or a release can be missed, and only what needs a reservation can be refused.
abbrev pub Gives : Action → Option (ℕ × ℕ) → Seen → Type 0
Gives act.Begin needs seen.Done = Unit {0}
Gives act.End needs seen.Done = Unit {0}
Gives (act.Get x) needs (seen.Words page) = Unit {0}
Gives (act.Put x page) needs seen.Done = Unit {0}
Gives (act.Put x page) needs seen.Refused = IsSome needs
Gives (act.Latch x) needs seen.Done = Unit {0}
Gives (act.Latch x) needs seen.Missed = Unit {0}
Gives act.Take needs (seen.Took y) = IsChild y
Gives act.Take needs seen.Refused = IsSome needs
Gives (act.Open x) needs seen.Done = Unit {0}
Gives (act.Retire x) needs seen.Done = Unit {0}
Gives (act.Look p) needs (seen.Blocks b) = Unit {0}
Gives (act.See x) needs (seen.Owner retired started own) = Unit {0}
Gives (act.Probe x) needs (seen.Probed free) = Unit {0}
Gives (act.Release x) needs seen.Done = Unit {0}
Gives (act.Release x) needs seen.Missed = Unit {0}
Gives action needs other = ⊥
