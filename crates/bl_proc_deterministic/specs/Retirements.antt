-- When a process is to retire a page.
use Rattle.bl_proc_steps.specs.declared.acts.Action.{Action}
use Rattle.bl_proc_steps.specs.declared.acts.Action.TheVariants as act
use Rattle.bl_proc_steps.specs.declared.acts.Seen.{Seen}
use Rattle.bl_proc_steps.specs.declared.acts.Seen.TheVariants as seen

-- a put that was not refused
abbrev pub IsPutDone : Action → Seen → Type 0
IsPutDone (act.Put x page) seen.Done = Unit {0}
IsPutDone action what = ⊥

-- After that, this is its next action: a page is retired right after a put, so that what was reserved for the put serves
-- for the retirement too.
abbrev pub RetiresAfter : Action → Seen → Action → Type 0
RetiresAfter old what (act.Retire x) = IsPutDone old what
RetiresAfter old what act.Begin = Unit {0}
RetiresAfter old what act.End = Unit {0}
RetiresAfter old what (act.Get x) = Unit {0}
RetiresAfter old what (act.Put x page) = Unit {0}
RetiresAfter old what (act.Latch x) = Unit {0}
RetiresAfter old what act.Take = Unit {0}
RetiresAfter old what (act.Open x) = Unit {0}
RetiresAfter old what (act.Look p) = Unit {0}
RetiresAfter old what (act.See x) = Unit {0}
RetiresAfter old what (act.Probe x) = Unit {0}
RetiresAfter old what (act.Release x) = Unit {0}
