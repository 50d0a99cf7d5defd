use Rattle.std.proofs.Common.{rules, ℕ, sym, ap, subst, ◌∙◌}
use Rattle.bl_proc_steps.specs.declared.acts.Seen.TheVariants as seen
use Rattle.bl_proc_steps.specs.Approaches.{Turns}
use Rattle.bl_proc_routes.specs.Routes.{Leads}
use Rattle.bl_store.specs.Hands.{known, read_words, IsRunning}
use Rattle.bl_store.specs.declared.store.Hand.{Hand}
use Rattle.bl_index_rule.specs.declared.known.PassState.{PassState}
use Rattle.bl_index_events.specs.Runs.{IsOn, IsSameProcess}
use Rattle.bl_index_events.proofs.Standing.{on_goes, same_goes}
use Rattle.bl_index_descend.proofs.coming.read_next.Goals as goal

pub step_in-way-requires-clause-page : goal.step_in-way-requires-clause-page
step_in-way-requires-clause-page g c = let went = c.look-glance.ensures.goes in (went.0, ap (λ (h : Hand PassState). read_words h.seat) c.level_in-own.ensures.same ∙ went.1)

pub note-requires : goal.note-requires
note-requires g c =
    let went = c.look-glance.ensures.goes in
    let is = ap (λ (h : Hand PassState). read_words h.seat) c.level_in-own.ensures.same ∙ went.1 in
    let leads = subst (λ (z : ℕ × ℕ). Leads went.0 z.0 z.1 c.step_in-way.result) (λ i. (c.key-key.ensures i, c.level-level.ensures i)) (c.step_in-way.ensures.leads went.0 is) in
    (went.0, leads, c.level_in-own.ensures.level went.0 went.1)

pub approach_by-requires : goal.approach_by-requires
approach_by-requires g c =
    let went = c.look-glance.ensures.goes in
    let is = ap (λ (h : Hand PassState). read_words h.seat) c.level_in-own.ensures.same ∙ went.1 in
    (went.0, c.key-key.result, c.step_in-way.ensures.leads went.0 is, c.level_in-own.ensures.level went.0 went.1)

pub returns-clause-runs : goal.returns-clause-runs
returns-clause-runs g c = record {
  own = search rules;
  running = subst (λ (h : Hand PassState). IsRunning h.seat) (sym (c.step_in-way.ensures.same ∙ c.level_in-own.ensures.same)) (search rules);
  on = (let j = c.args.target.now in
      let layout = c.args.tree.now.store.layout in
      let went = c.look-glance.ensures.goes in
      let is = ap (λ (h : Hand PassState). read_words h.seat) c.level_in-own.ensures.same ∙ went.1 in
      let own = c.level_in-own.ensures.level went.0 went.1 in
      let leads = subst (λ (z : ℕ × ℕ). Leads went.0 z.0 z.1 c.step_in-way.result) (λ i. (c.key-key.ensures i, c.level-level.ensures i)) (c.step_in-way.ensures.leads went.0 is) in
      let turns = subst (λ (z : ℕ). Turns z c.args.page went.0 c.step_in-way.result c.approach_by.result) c.level-level.ensures (c.approach_by.ensures went.0 own) in
      let on = on_goes layout (seen.Words went.0) _ _ _ _ c.requires.runs.on went.2 (g.met.J.Target.turns j c.args.path.now c.note.new.path c.args.page went.0 c.step_in-way.result c.approach_by.result leads turns (c.note.ensures went.0 own)) in
      subst (λ (h : Hand PassState). IsOn layout (known h.seat) (g.J.Target.at j c.note.new.path c.approach_by.result)) (sym (c.step_in-way.ensures.same ∙ c.level_in-own.ensures.same)) on);
}

pub returns-clause-since : goal.returns-clause-since
returns-clause-since g c = subst (λ (h : Hand PassState). IsSameProcess (known c.args.hand.now.seat) (known h.seat)) (sym (c.step_in-way.ensures.same ∙ c.level_in-own.ensures.same)) (same_goes _ _ _ c.look-glance.ensures.goes.2)
