use Rattle.std.proofs.Common.{rules, ℕ, sym, subst}
use Rattle.bl_proc_steps.specs.declared.acts.Seen.TheVariants as seen
use Rattle.bl_proc_steps.specs.declared.approach.Approach.TheVariants as approach
use Rattle.bl_proc_steps.specs.declared.approach.Approached.TheVariants as came
use Rattle.bl_proc_steps.specs.Approaches.{Approaches}
use Rattle.bl_store.specs.Hands.{known, IsRunning}
use Rattle.bl_store.specs.declared.store.Hand.{Hand}
use Rattle.bl_index_rule.specs.declared.known.PassState.{PassState}
use Rattle.bl_index_events.specs.Runs.{IsOn, IsSameProcess}
use Rattle.bl_index_events.proofs.Standing.{on_goes, same_goes}
use Rattle.bl_index_descend.proofs.coming.read_anchor.Goals as goal

pub returns-clause-runs : goal.returns-clause-runs
returns-clause-runs g c = record {
  own = search rules;
  running = subst (λ (h : Hand PassState). IsRunning h.seat) (sym c.took_words.ensures.same) (search rules);
  on = (let j = c.args.target.now in
      let layout = c.args.tree.now.store.layout in
      let went = c.look-glance.ensures.goes in
      let turns = subst (λ (z : ℕ × ℕ). Approaches z.0 z.1 approach.Start (seen.Words went.0) (came.On c.took_words.result)) (λ i. (c.level.ensures i, c.key.ensures i)) (c.took_words.ensures.goes went.0 went.1) in
      let on = on_goes layout (seen.Words went.0) _ _ _ _ c.requires.runs.on went.2 (g.met.J.Target.enters j c.args.path.now c.took_words.result went.0 (c.requires.led went.0) turns) in
      subst (λ (h : Hand PassState). IsOn layout (known h.seat) (g.J.Target.at j c.args.path.now c.took_words.result)) (sym c.took_words.ensures.same) on);
}

pub returns-clause-since : goal.returns-clause-since
returns-clause-since g c = subst (λ (h : Hand PassState). IsSameProcess (known c.args.hand.now.seat) (known h.seat)) (sym c.took_words.ensures.same) (same_goes _ _ _ c.look-glance.ensures.goes.2)
