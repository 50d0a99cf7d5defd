use Rattle.std.proofs.Common.{ap, sym, ◌∙◌, subst}
use Rattle.bl_proc_steps.specs.declared.acts.Seen.TheVariants as seen
use Rattle.bl_proc.specs.declared.kinds.Proc.{Proc}
use Rattle.bl_proc.specs.Processes.{next_of, Takes}
use Rattle.bl_claims.specs.Trails.{marks_of}
use Rattle.bl_proc_bounds.specs.Latches.{IsTidy}
use Rattle.bl_proc_invariant.specs.Logs.{proc_log}
use Rattle.bl_proc_deterministic.specs.Courses.{GoesOn}
use Rattle.bl_store.specs.Hands.{known}
use Rattle.bl_claims.specs.Seeing.{name}
use Rattle.bl_index_rule.proofs.Bounds.{ends_process}
use Rattle.bl_index_events.proofs.Withins.{ends_within}
use Rattle.bl_index_events.proofs.tree.Tree.finish.Goals as goal

pub end-requires-clause-rule : goal.end-requires-clause-rule
end-requires-clause-rule g c =
    let laws = g.met.P.Kind in
    ends_process _ _ (known c.args.hand.now.seat) (ap next_of c.requires.runs.on.state ∙ (laws.acts c.args.process.now ∙ c.requires.next.1))
    (subst (λ (z : Proc). GoesOn z seen.Done) (sym c.requires.runs.on.state) (laws.courses c.args.process.now seen.Done c.requires.next.0 (rw c.requires.next.1 tt)))

pub returns-clause-within : goal.returns-clause-within
returns-clause-within g c = ends_within c.args.self.now.store.layout c.args.hand.now.seat c.end.new.hand.seat _ c.requires.runs.own.1 c.end.ensures.same.0.1 c.requires.runs.on.passes c.end.ensures.observed.1.0

pub returns-clause-tidy : goal.returns-clause-tidy
returns-clause-tidy g c =
    let ended = c.end.ensures.observed.1 in
    let goes = g.met.P.Kind.goes c.args.process.now c.took.new.self seen.Done c.took.ensures in
    let takes : Takes (known c.args.hand.now.seat).state seen.Done (g.P.Kind.proc_of c.took.new.self) = subst (λ (z : Proc). Takes z seen.Done (g.P.Kind.proc_of c.took.new.self)) (sym c.requires.runs.on.state) goes in
    subst (λ (z : Proc). IsTidy z (marks_of (name (known c.args.hand.now.seat).pass (known c.args.hand.now.seat).number) (known c.end.new.hand.seat).trail)) (ended.1.state ∙ sym (ended.1.course.only _ takes)) ended.0.notes.tidy

pub returns-clause-log : goal.returns-clause-log
returns-clause-log g c =
    let ended = c.end.ensures.observed.1 in
    let goes = g.met.P.Kind.goes c.args.process.now c.took.new.self seen.Done c.took.ensures in
    let takes : Takes (known c.args.hand.now.seat).state seen.Done (g.P.Kind.proc_of c.took.new.self) = subst (λ (z : Proc). Takes z seen.Done (g.P.Kind.proc_of c.took.new.self)) (sym c.requires.runs.on.state) goes in
    subst (λ (z : Proc). proc_log z (marks_of (name (known c.args.hand.now.seat).pass (known c.args.hand.now.seat).number) (known c.end.new.hand.seat).trail)) (sym (ended.1.course.only _ takes)) ended.1.log

pub end-requires-clause-own : goal.end-requires-clause-own
end-requires-clause-own g c = c.requires.runs.own

pub end-requires-clause-running : goal.end-requires-clause-running
end-requires-clause-running g c = c.requires.runs.running

pub returns-clause-same : goal.returns-clause-same
returns-clause-same g c = c.end.ensures.same

pub returns-clause-idle : goal.returns-clause-idle
returns-clause-idle g c = c.end.ensures.idle

pub returns-clause-refusal : goal.returns-clause-refusal
returns-clause-refusal g c = c.end.ensures.refusal
