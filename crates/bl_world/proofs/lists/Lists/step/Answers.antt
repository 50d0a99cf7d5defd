use Rattle.std.proofs.Common.{refl, inr}
use Rattle.bl_proc_steps.specs.declared.acts.Action.TheVariants as act
use Rattle.bl_world.specs.Views.{view_of}
use Rattle.bl_world.proofs.Outcomes.{ok_map}
use Rattle.bl_world.proofs.Turned.{carried, goes_on, has_answered, may_begin, may_end, waited}
use Rattle.bl_world.proofs.lists.Lists.step.Goals as goal

pub returns-in-Some-clause-ok : goal.returns-in-Some-clause-ok
returns-in-Some-clause-ok c = ok_map c.idle.result (λ e p stood.
    inr ((λ m. has_answered c.args.self.now.processes.items c.args.index p c.index.result.now stood c.index.ensures c.answer.result c.in-Some.field-0 c.answer.ensures c.in-Some.is m.0), e)) c.idle.ensures.ok

pub observed-requires-clause-given : goal.observed-requires-clause-given
observed-requires-clause-given c = λ p stood. (let goes = goes_on c.args.self.now.processes.items c.args.index p c.index.result.now c.index-2.result.now c.answer.result (act.Begin) stood c.index.ensures c.answer.ensures c.in_default.not-Some c.index-2.ensures c.in-Begin.ensures in (goes.0, may_begin p goes.1))

pub observed-requires-in-End-clause-given : goal.observed-requires-in-End-clause-given
observed-requires-in-End-clause-given c = λ p stood. (let goes = goes_on c.args.self.now.processes.items c.args.index p c.index.result.now c.index-2.result.now c.answer.result (act.End) stood c.index.ensures c.answer.ensures c.in_default.not-Some c.index-2.ensures c.in-End.ensures in (goes.0, may_end p goes.1))

pub get-requires-clause-next : goal.get-requires-clause-next
get-requires-clause-next c = λ p stood. goes_on c.args.self.now.processes.items c.args.index p c.index.result.now c.index-2.result.now c.answer.result (act.Get c.in-Get.at) stood c.index.ensures c.answer.ensures c.in_default.not-Some c.index-2.ensures c.in-Get.ensures

pub put-requires-clause-next : goal.put-requires-clause-next
put-requires-clause-next c = λ p stood. goes_on c.args.self.now.processes.items c.args.index p c.index.result.now c.index-2.result.now c.answer.result (act.Put c.in-Put.at c.in-Put.page) stood c.index.ensures c.answer.ensures c.in_default.not-Some c.index-2.ensures c.in-Put.ensures

pub latch-requires-clause-next : goal.latch-requires-clause-next
latch-requires-clause-next c = λ p stood. goes_on c.args.self.now.processes.items c.args.index p c.index.result.now c.index-2.result.now c.answer.result (act.Latch c.in-Latch.at) stood c.index.ensures c.answer.ensures c.in_default.not-Some c.index-2.ensures c.in-Latch.ensures

pub open_page-requires-clause-next : goal.open_page-requires-clause-next
open_page-requires-clause-next c = λ p stood. goes_on c.args.self.now.processes.items c.args.index p c.index.result.now c.index-2.result.now c.answer.result (act.Open c.in-Open.at) stood c.index.ensures c.answer.ensures c.in_default.not-Some c.index-2.ensures c.in-Open.ensures

pub look-requires-clause-next : goal.look-requires-clause-next
look-requires-clause-next c = λ p stood. goes_on c.args.self.now.processes.items c.args.index p c.index.result.now c.index-2.result.now c.answer.result (act.Look c.in-Look.number) stood c.index.ensures c.answer.ensures c.in_default.not-Some c.index-2.ensures c.in-Look.ensures

pub see-requires-clause-next : goal.see-requires-clause-next
see-requires-clause-next c = λ p stood. goes_on c.args.self.now.processes.items c.args.index p c.index.result.now c.index-2.result.now c.answer.result (act.See c.in-See.at) stood c.index.ensures c.answer.ensures c.in_default.not-Some c.index-2.ensures c.in-See.ensures

pub probe-requires-clause-next : goal.probe-requires-clause-next
probe-requires-clause-next c = λ p stood. goes_on c.args.self.now.processes.items c.args.index p c.index.result.now c.index-2.result.now c.answer.result (act.Probe c.in-Probe.at) stood c.index.ensures c.answer.ensures c.in_default.not-Some c.index-2.ensures c.in-Probe.ensures

pub release-requires-clause-next : goal.release-requires-clause-next
release-requires-clause-next c = λ p stood. goes_on c.args.self.now.processes.items c.args.index p c.index.result.now c.index-2.result.now c.answer.result (act.Release c.in-Release.at) stood c.index.ensures c.answer.ensures c.in_default.not-Some c.index-2.ensures c.in-Release.ensures

pub retire-requires-clause-next : goal.retire-requires-clause-next
retire-requires-clause-next c = λ p stood. goes_on c.args.self.now.processes.items c.args.index p c.index.result.now c.index-2.result.now c.answer.result (act.Retire c.in-Retire.at) stood c.index.ensures c.answer.ensures c.in_default.not-Some c.index-2.ensures c.in-Retire.ensures

pub returns-in-Begin-clause-ok : goal.returns-in-Begin-clause-ok
returns-in-Begin-clause-ok c = ok_map c.observed.result (λ f p stood.
    carried (view_of c.args.self.now) (view_of c.observed.new.self) c.args.index p act.Begin (goes_on c.args.self.now.processes.items c.args.index p c.index.result.now c.index-2.result.now c.answer.result (act.Begin) stood c.index.ensures c.answer.ensures c.in_default.not-Some c.index-2.ensures c.in-Begin.ensures) (λ e. cc) (f p stood)) c.observed.ensures.ok

pub returns-in-End-clause-ok : goal.returns-in-End-clause-ok
returns-in-End-clause-ok c = ok_map c.observed-in-End.result (λ f p stood.
    carried (view_of c.args.self.now) (view_of c.observed-in-End.new.self) c.args.index p act.End (goes_on c.args.self.now.processes.items c.args.index p c.index.result.now c.index-2.result.now c.answer.result (act.End) stood c.index.ensures c.answer.ensures c.in_default.not-Some c.index-2.ensures c.in-End.ensures) (λ e. cc) (f p stood)) c.observed-in-End.ensures.ok

pub returns-in-Get-clause-ok : goal.returns-in-Get-clause-ok
returns-in-Get-clause-ok c = ok_map c.get.result (λ f p stood.
    carried (view_of c.args.self.now) (view_of c.get.new.self) c.args.index p (act.Get c.in-Get.at) (goes_on c.args.self.now.processes.items c.args.index p c.index.result.now c.index-2.result.now c.answer.result (act.Get c.in-Get.at) stood c.index.ensures c.answer.ensures c.in_default.not-Some c.index-2.ensures c.in-Get.ensures) (λ e. cc) (f p stood)) c.get.ensures.ok

pub returns-in-Put-clause-ok : goal.returns-in-Put-clause-ok
returns-in-Put-clause-ok c = ok_map c.put.result (λ f p stood.
    carried (view_of c.args.self.now) (view_of c.put.new.self) c.args.index p (act.Put c.in-Put.at c.in-Put.page) (goes_on c.args.self.now.processes.items c.args.index p c.index.result.now c.index-2.result.now c.answer.result (act.Put c.in-Put.at c.in-Put.page) stood c.index.ensures c.answer.ensures c.in_default.not-Some c.index-2.ensures c.in-Put.ensures) (λ e. cc) (f p stood)) c.put.ensures.ok

pub returns-in-Latch-clause-ok : goal.returns-in-Latch-clause-ok
returns-in-Latch-clause-ok c = ok_map c.latch.result (λ f p stood.
    carried (view_of c.args.self.now) (view_of c.latch.new.self) c.args.index p (act.Latch c.in-Latch.at) (goes_on c.args.self.now.processes.items c.args.index p c.index.result.now c.index-2.result.now c.answer.result (act.Latch c.in-Latch.at) stood c.index.ensures c.answer.ensures c.in_default.not-Some c.index-2.ensures c.in-Latch.ensures) (λ e. cc) (f p stood)) c.latch.ensures.ok

pub returns-in-Open-clause-ok : goal.returns-in-Open-clause-ok
returns-in-Open-clause-ok c = ok_map c.open_page.result (λ f p stood.
    carried (view_of c.args.self.now) (view_of c.open_page.new.self) c.args.index p (act.Open c.in-Open.at) (goes_on c.args.self.now.processes.items c.args.index p c.index.result.now c.index-2.result.now c.answer.result (act.Open c.in-Open.at) stood c.index.ensures c.answer.ensures c.in_default.not-Some c.index-2.ensures c.in-Open.ensures) (λ e. cc) (f p stood)) c.open_page.ensures.ok

pub returns-in-Look-clause-ok : goal.returns-in-Look-clause-ok
returns-in-Look-clause-ok c = ok_map c.look.result (λ f p stood.
    carried (view_of c.args.self.now) (view_of c.look.new.self) c.args.index p (act.Look c.in-Look.number) (goes_on c.args.self.now.processes.items c.args.index p c.index.result.now c.index-2.result.now c.answer.result (act.Look c.in-Look.number) stood c.index.ensures c.answer.ensures c.in_default.not-Some c.index-2.ensures c.in-Look.ensures) (λ e. cc) (f p stood)) c.look.ensures.ok

pub returns-in-See-clause-ok : goal.returns-in-See-clause-ok
returns-in-See-clause-ok c = ok_map c.see.result (λ f p stood.
    carried (view_of c.args.self.now) (view_of c.see.new.self) c.args.index p (act.See c.in-See.at) (goes_on c.args.self.now.processes.items c.args.index p c.index.result.now c.index-2.result.now c.answer.result (act.See c.in-See.at) stood c.index.ensures c.answer.ensures c.in_default.not-Some c.index-2.ensures c.in-See.ensures) (λ e. cc) (f p stood)) c.see.ensures.ok

pub returns-in-Probe-clause-ok : goal.returns-in-Probe-clause-ok
returns-in-Probe-clause-ok c = ok_map c.probe.result (λ f p stood.
    carried (view_of c.args.self.now) (view_of c.probe.new.self) c.args.index p (act.Probe c.in-Probe.at) (goes_on c.args.self.now.processes.items c.args.index p c.index.result.now c.index-2.result.now c.answer.result (act.Probe c.in-Probe.at) stood c.index.ensures c.answer.ensures c.in_default.not-Some c.index-2.ensures c.in-Probe.ensures) (λ e. cc) (f p stood)) c.probe.ensures.ok

pub returns-in-Release-clause-ok : goal.returns-in-Release-clause-ok
returns-in-Release-clause-ok c = ok_map c.release.result (λ f p stood.
    carried (view_of c.args.self.now) (view_of c.release.new.self) c.args.index p (act.Release c.in-Release.at) (goes_on c.args.self.now.processes.items c.args.index p c.index.result.now c.index-2.result.now c.answer.result (act.Release c.in-Release.at) stood c.index.ensures c.answer.ensures c.in_default.not-Some c.index-2.ensures c.in-Release.ensures) (λ e. cc) (f p stood)) c.release.ensures.ok

pub returns-in-Retire-clause-ok : goal.returns-in-Retire-clause-ok
returns-in-Retire-clause-ok c = ok_map c.retire.result (λ f p stood.
    carried (view_of c.args.self.now) (view_of c.retire.new.self) c.args.index p (act.Retire c.in-Retire.at) (goes_on c.args.self.now.processes.items c.args.index p c.index.result.now c.index-2.result.now c.answer.result (act.Retire c.in-Retire.at) stood c.index.ensures c.answer.ensures c.in_default.not-Some c.index-2.ensures c.in-Retire.ensures) (λ e. cc) (f p stood)) c.retire.ensures.ok

pub returns-in-Take-clause-ok : goal.returns-in-Take-clause-ok
returns-in-Take-clause-ok c = ok_map c.idle-in-Take.result (λ f p stood.
    waited (view_of c.args.self.now) (view_of c.idle-in-Take.new.self) c.args.index p act.Take (goes_on c.args.self.now.processes.items c.args.index p c.index.result.now c.index-2.result.now c.answer.result (act.Take) stood c.index.ensures c.answer.ensures c.in_default.not-Some c.index-2.ensures c.in-Take.ensures) refl f) c.idle-in-Take.ensures.ok
