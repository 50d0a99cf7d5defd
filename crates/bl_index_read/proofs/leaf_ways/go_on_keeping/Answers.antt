use Rattle.std.proofs.Common.{ap, sym, subst, ◌∙◌, ◌≡◌, Some}
use Rattle.bl_page.specs.declared.page.Page.{Page}
use Rattle.bl_page.specs.Machine.Act.{Get}
use Rattle.bl_page.specs.Words.{words_of}
use Rattle.bl_proc_steps.specs.declared.acts.Action.TheVariants as act
use Rattle.bl_proc_steps.specs.declared.descent.Descended.TheVariants.{On, Here}
use Rattle.bl_proc_steps.specs.Descents.{descent_page}
use Rattle.bl_store.specs.Hands.{known, read_words}
use Rattle.bl_store.specs.declared.store.Hand.{Hand}
use Rattle.bl_index_rule.specs.declared.known.PassState.{PassState}
use Rattle.bl_index_rule.specs.Observed.{Steps}
use Rattle.bl_index_read.specs.LeafWays.{HasReached}
use Rattle.bl_index_read.specs.Keeping.{KeepsStill, KeepsPage}
use Rattle.bl_index_read.proofs.Ways.{gets, going_course}
use Rattle.bl_index_read.proofs.Setting.{reached_by, page_reached}
use Rattle.bl_index_read.proofs.Keeping.{notes_on, still_more, keeps_now, got_page}
use Rattle.bl_index_events.proofs.Standing.{on_itself}
use Rattle.bl_index_read.proofs.leaf_ways.go_on_keeping.Goals as goal

pub look_keeping-glance-requires-clause-runs : goal.look_keeping-glance-requires-clause-runs
look_keeping-glance-requires-clause-runs c = record {
  own = c.requires.runs.own;
  running = c.requires.runs.running;
  on = (on_itself _ _ _ c.requires.runs.on);
}

pub look_keeping-glance-requires-clause-next : goal.look_keeping-glance-requires-clause-next
look_keeping-glance-requires-clause-next c = gets c.args.sought c.args.key c.args.way _ c.requires.runs.on.state ∙ ap act.Get (sym c.page.ensures)

pub look_keeping-glance-requires-clause-course : goal.look_keeping-glance-requires-clause-course
look_keeping-glance-requires-clause-course c = λ page. going_course c.args.sought c.args.key c.args.way page _ c.requires.runs.on.state

pub returns-in-On-clause-reached : goal.returns-in-On-clause-reached
returns-in-On-clause-reached c =
    let goes = c.look_keeping-glance.ensures.goes in
    subst (λ (h : Hand PassState). HasReached c.args.sought c.args.key c.args.tree.now.store.layout h.seat (reached_by (On c.in-On.next) c.look_keeping-glance.result)) (sym c.in-On.ensures.same)
    (page_reached _ c.args.sought c.args.key c.args.way goes.0 _ c.look_keeping-glance.new.hand.seat c.look_keeping-glance.result c.requires.runs.on goes.2 c.look_keeping-glance.ensures.reads goes.1 (On c.in-On.next) (c.in-On.ensures.goes goes.0 goes.1))

pub returns-in-Here-clause-reached : goal.returns-in-Here-clause-reached
returns-in-Here-clause-reached c =
    let goes = c.look_keeping-glance.ensures.goes in
    subst (λ (h : Hand PassState). HasReached c.args.sought c.args.key c.args.tree.now.store.layout h.seat (reached_by Here c.look_keeping-glance.result)) (sym c.in-Here.ensures.same)
    (page_reached _ c.args.sought c.args.key c.args.way goes.0 _ c.look_keeping-glance.new.hand.seat c.look_keeping-glance.result c.requires.runs.on goes.2 c.look_keeping-glance.ensures.reads goes.1 Here (c.in-Here.ensures.goes goes.0 goes.1))

pub returns-in-On-clause-still : goal.returns-in-On-clause-still
returns-in-On-clause-still c = subst (λ (h : Hand PassState). KeepsStill c.args.hand.now.seat h.seat) (sym c.in-On.ensures.same)
    (still_more c.args.hand.now.seat c.look_keeping-glance.new.hand.seat c.look_keeping-glance.ensures.same.0.1 (notes_on _ _ _ _ _ c.look_keeping-glance.ensures.goes.2.steps.notes) _ _ c.look_keeping-glance.result c.look_keeping-glance.ensures.keeps)

pub returns-in-Here-clause-still : goal.returns-in-Here-clause-still
returns-in-Here-clause-still c = subst (λ (h : Hand PassState). KeepsStill c.args.hand.now.seat h.seat) (sym c.in-Here.ensures.same)
    (still_more c.args.hand.now.seat c.look_keeping-glance.new.hand.seat c.look_keeping-glance.ensures.same.0.1 (notes_on _ _ _ _ _ c.look_keeping-glance.ensures.goes.2.steps.notes) _ _ c.look_keeping-glance.result c.look_keeping-glance.ensures.keeps)

pub returns-in-On-clause-got : goal.returns-in-On-clause-got
returns-in-On-clause-got c =
    let goes = c.look_keeping-glance.ensures.goes in
    subst (λ (h : Hand PassState). (p : Page) × (read_words h.seat ≡ words_of p) × ((steps : Steps (Get (descent_page c.args.way)) (known c.args.hand.now.seat) (known h.seat)) × (steps.notes.last.saw ≡ Some p))) (sym c.in-On.ensures.same)
    (goes.0, goes.1, got_page c.args.sought c.args.key c.args.way goes.0 _ _ c.requires.runs.on.state goes.2)

pub returns-in-Here-clause-got : goal.returns-in-Here-clause-got
returns-in-Here-clause-got c =
    let goes = c.look_keeping-glance.ensures.goes in
    subst (λ (h : Hand PassState). (p : Page) × (read_words h.seat ≡ words_of p) × ((steps : Steps (Get (descent_page c.args.way)) (known c.args.hand.now.seat) (known h.seat)) × (steps.notes.last.saw ≡ Some p))) (sym c.in-Here.ensures.same)
    (goes.0, goes.1, got_page c.args.sought c.args.key c.args.way goes.0 _ _ c.requires.runs.on.state goes.2)

pub returns-in-Here-clause-keeps : goal.returns-in-Here-clause-keeps
returns-in-Here-clause-keeps c =
    let e = c.look_keeping-glance.ensures in
    subst (λ (h : Hand PassState). KeepsPage (descent_page c.args.way) h.seat c.look_keeping-glance.result) (sym c.in-Here.ensures.same)
    (rw (← c.page.ensures) (keeps_now c.args.hand.now.seat c.look_keeping-glance.new.hand.seat e.same.0.1 _ _ c.look_keeping-glance.result e.keeps, e.firm))
