use Rattle.std.proofs.Common.{rules, ◌≡◌, ap, sym, ◌∙◌, subst}
use Rattle.bl_page.specs.Machine.Act.{Get}
use Rattle.bl_proc_steps.specs.declared.acts.Action.{Action}
use Rattle.bl_proc_steps.specs.declared.acts.Action.TheVariants as act
use Rattle.bl_proc_steps.specs.declared.acts.Seen.TheVariants as seen
use Rattle.bl_proc.specs.declared.kinds.Proc.{Proc}
use Rattle.bl_proc.specs.Processes.{next_of}
use Rattle.bl_proc_deterministic.specs.Courses.{GoesOn}
use Rattle.bl_store.specs.Hands.{known, IsRunning}
use Rattle.bl_store.specs.declared.store.Hand.{Hand}
use Rattle.bl_proc_invariant.specs.Turns.{event_of}
use Rattle.bl_proc_invariant.specs.Knowing.{end_of_proc}
use Rattle.bl_index_rule.specs.declared.known.PassState.{PassState}
use Rattle.bl_index_rule.specs.Observed.{Steps}
use Rattle.bl_index_rule.proofs.Pages.{gets_page}
use Rattle.bl_index_events.specs.Runs.{IsOn}
use Rattle.bl_index_events.proofs.Standing.{on_goes}
use Rattle.bl_index_events.proofs.tree.Tree.read.Goals as goal

pub glance-requires-clause-rule : goal.glance-requires-clause-rule
glance-requires-clause-rule g c =
    let laws = g.met.P.Kind in
    gets_page _ _ (known c.args.hand.now.seat) c.requires.runs.on.runs _ (ap next_of c.requires.runs.on.state ∙ (laws.acts c.args.process.now ∙ c.requires.next.1))
    (λ p. subst (λ (z : Proc). GoesOn z (seen.Words p)) (sym c.requires.runs.on.state) (laws.courses c.args.process.now (seen.Words p) c.requires.next.0 (rw c.requires.next.1 tt)))

pub took_words-requires-clause-page : goal.took_words-requires-clause-page
took_words-requires-clause-page g c = let observed = c.in-Some.ensures.observed in let page = observed.3 in (page.0, sym observed.2.1 ∙ page.1)

pub returns-clause-takes : goal.returns-clause-takes
returns-clause-takes g c = let observed = c.in-Some.ensures.observed in let page = observed.3 in (page.0, c.took_words.ensures.takes page.0 (sym observed.2.1 ∙ page.1))

pub returns-clause-got : goal.returns-clause-got
returns-clause-got g c =
    let page = c.in-Some.ensures.observed.3 in
    let next : next_of (known c.args.hand.now.seat).state ≡ act.Get c.args.page = ap next_of c.requires.runs.on.state ∙ (g.met.P.Kind.acts c.args.process.now ∙ c.requires.next.1) in
    let steps : Steps (Get c.args.page) (known c.args.hand.now.seat) (known c.glance.new.hand.seat) = subst (λ (a : Action). Steps (event_of (end_of_proc (known c.args.hand.now.seat).state) a (seen.Words page.0)) (known c.args.hand.now.seat) (known c.glance.new.hand.seat)) next page.2.steps in
    subst (λ (h : Hand PassState). Steps (Get c.args.page) (known c.args.hand.now.seat) (known h.seat)) (sym c.took_words.ensures.same) steps

pub returns-clause-runs : goal.returns-clause-runs
returns-clause-runs g c = record {
  own = search rules;
  running = subst (λ (h : Hand PassState). IsRunning h.seat) (sym c.took_words.ensures.same) (search rules);
  on = (let observed = c.in-Some.ensures.observed in let page = observed.3 in
      let takes = g.met.P.Kind.goes _ _ _ (c.took_words.ensures.takes page.0 (sym observed.2.1 ∙ page.1)) in
      subst (λ (h : Hand PassState). IsOn c.args.self.now.store.layout (known h.seat) (g.P.Kind.proc_of c.took_words.new.self)) (sym c.took_words.ensures.same) (on_goes _ (seen.Words page.0) _ _ _ _ c.requires.runs.on page.2 takes));
}

pub glance-requires-clause-own : goal.glance-requires-clause-own
glance-requires-clause-own g c = c.requires.runs.own

pub glance-requires-clause-running : goal.glance-requires-clause-running
glance-requires-clause-running g c = c.requires.runs.running
