use Rattle.std.proofs.Common.{rules, ℕ, Option, Some, None, refl, subst}
use Rattle.bl_proc_steps.specs.declared.acts.Seen.TheVariants as seen
use Rattle.bl_proc_steps.specs.declared.approach.Approach.TheVariants as approach
use Rattle.bl_store.specs.Hands.{known}
use Rattle.bl_index_events.specs.Runs.{IsOn}
use Rattle.bl_index_events.proofs.Standing.{on_goes, same_goes}
use Rattle.bl_index_descend.proofs.coming.move_on.Goals as goal

pub returns-in-Some-clause-runs : goal.returns-in-Some-clause-runs
returns-in-Some-clause-runs g c = record {
  own = search rules;
  running = search rules;
  on = (let j = c.args.target.now in
      let layout = c.args.tree.now.store.layout in
      let on = subst (λ (z : Option ℕ). IsOn layout (known c.args.hand.now.seat) (g.J.Target.at j c.args.path.now (approach.Leaving c.args.page z))) c.in-Some.is c.requires.runs.on in
      on_goes layout seen.Done _ _ _ _ on c.reopen.ensures.goes (g.met.J.Target.goes j c.args.path.now (approach.Leaving c.args.page (Some c.in-Some.next)) (approach.Latching c.in-Some.next) seen.Done tt refl));
}

pub returns-in-Some-clause-since : goal.returns-in-Some-clause-since
returns-in-Some-clause-since g c = same_goes _ _ _ c.reopen.ensures.goes

pub returns-in-None-clause-runs : goal.returns-in-None-clause-runs
returns-in-None-clause-runs g c = record {
  own = search rules;
  running = search rules;
  on = (let j = c.args.target.now in
      let layout = c.args.tree.now.store.layout in
      let on = subst (λ (z : Option ℕ). IsOn layout (known c.args.hand.now.seat) (g.J.Target.at j c.args.path.now (approach.Leaving c.args.page z))) c.in-None.is c.requires.runs.on in
      on_goes layout seen.Done _ _ _ _ on c.reopen.ensures.goes (g.met.J.Target.goes j c.args.path.now (approach.Leaving c.args.page None) approach.Start seen.Done tt refl));
}

pub returns-in-None-clause-since : goal.returns-in-None-clause-since
returns-in-None-clause-since g c = same_goes _ _ _ c.reopen.ensures.goes
