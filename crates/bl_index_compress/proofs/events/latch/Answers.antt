use Rattle.std.proofs.Common.{rules, ap, ◌∙◌}
use Rattle.bl_proc_steps.specs.declared.acts.Seen.TheVariants as seen
use Rattle.bl_proc.specs.Processes.{next_of}
use Rattle.bl_index_events.proofs.Standing.{course_at, on_goes, on_itself, same_all, same_goes}
use Rattle.bl_index_compress.proofs.events.latch.Goals as goal

pub loop-init : goal.loop-init
loop-init g c = record { same = search rules; process = c.requires.runs.on; since = λ pass old since. since }

pub try_latch-requires-clause-runs : goal.try_latch-requires-clause-runs
try_latch-requires-clause-runs g c = record { own = search rules; running = search rules; on = on_itself _ _ _ c.loop.invariant.process }

pub try_latch-requires-clause-next : goal.try_latch-requires-clause-next
try_latch-requires-clause-next g c = ap next_of c.loop.invariant.process.state ∙ c.requires.next

pub try_latch-requires-clause-course : goal.try_latch-requires-clause-course
try_latch-requires-clause-course g c =
    let is = c.loop.invariant.process.state in
    (course_at seen.Done _ _ is c.requires.course.0, course_at seen.Missed _ _ is c.requires.course.1)

pub returns-then-try_latch-clause-latched : goal.returns-then-try_latch-clause-latched
returns-then-try_latch-clause-latched g c = λ next takes. on_goes c.args.tree.now.store.layout seen.Done _ _ _ next c.loop.invariant.process (c.try_latch.ensures.done c.if-try_latch.true) takes

pub returns-then-try_latch-clause-since : goal.returns-then-try_latch-clause-since
returns-then-try_latch-clause-since g c = same_all _ _ _ c.loop.invariant.since (same_goes _ _ _ (c.try_latch.ensures.done c.if-try_latch.true))

pub loop-preserved : goal.loop-preserved
loop-preserved g c = record {
  same = search rules;
  process = on_goes c.args.tree.now.store.layout seen.Missed _ _ _ _ c.loop.invariant.process (c.try_latch.ensures.missed c.if-try_latch.false) c.requires.stays;
  since = same_all _ _ _ c.loop.invariant.since (same_goes _ _ _ (c.try_latch.ensures.missed c.if-try_latch.false));
}
