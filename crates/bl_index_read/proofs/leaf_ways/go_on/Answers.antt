use Rattle.std.proofs.Common.{ap, sym, subst, ◌∙◌}
use Rattle.bl_proc_steps.specs.declared.acts.Action.TheVariants as act
use Rattle.bl_proc_steps.specs.declared.descent.Descended.TheVariants.{On, Here}
use Rattle.bl_store.specs.declared.store.Hand.{Hand}
use Rattle.bl_index_rule.specs.declared.known.PassState.{PassState}
use Rattle.bl_index_read.specs.LeafWays.{HasReached}
use Rattle.bl_index_read.proofs.Ways.{gets, going_course}
use Rattle.bl_index_read.proofs.Setting.{reached_by, page_reached}
use Rattle.bl_index_events.proofs.Standing.{on_itself}
use Rattle.bl_index_read.proofs.leaf_ways.go_on.Goals as goal

pub look-glance-requires-clause-runs : goal.look-glance-requires-clause-runs
look-glance-requires-clause-runs c = record {
  own = c.requires.runs.own;
  running = c.requires.runs.running;
  on = (on_itself _ _ _ c.requires.runs.on);
}

pub look-glance-requires-clause-next : goal.look-glance-requires-clause-next
look-glance-requires-clause-next c = gets c.args.sought c.args.key c.args.way _ c.requires.runs.on.state ∙ ap act.Get (sym c.page.ensures)

pub look-glance-requires-clause-course : goal.look-glance-requires-clause-course
look-glance-requires-clause-course c = λ page. going_course c.args.sought c.args.key c.args.way page _ c.requires.runs.on.state

pub returns-in-On-clause-reached : goal.returns-in-On-clause-reached
returns-in-On-clause-reached c =
    let goes = c.look-glance.ensures.goes in
    subst (λ (h : Hand PassState). HasReached c.args.sought c.args.key c.args.tree.now.store.layout h.seat (reached_by (On c.in-On.next) c.look-glance.result)) (sym c.in-On.ensures.same)
    (page_reached _ c.args.sought c.args.key c.args.way goes.0 _ c.look-glance.new.hand.seat c.look-glance.result c.requires.runs.on goes.2 c.look-glance.ensures.reads goes.1 (On c.in-On.next) (c.in-On.ensures.goes goes.0 goes.1))

pub returns-in-Here-clause-reached : goal.returns-in-Here-clause-reached
returns-in-Here-clause-reached c =
    let goes = c.look-glance.ensures.goes in
    subst (λ (h : Hand PassState). HasReached c.args.sought c.args.key c.args.tree.now.store.layout h.seat (reached_by Here c.look-glance.result)) (sym c.in-Here.ensures.same)
    (page_reached _ c.args.sought c.args.key c.args.way goes.0 _ c.look-glance.new.hand.seat c.look-glance.result c.requires.runs.on goes.2 c.look-glance.ensures.reads goes.1 Here (c.in-Here.ensures.goes goes.0 goes.1))
