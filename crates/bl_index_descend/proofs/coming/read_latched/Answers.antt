use Rattle.std.proofs.Common.{ℕ, Some, None, refl, sym, subst}
use Rattle.bl_proc_steps.specs.declared.acts.Seen.TheVariants as seen
use Rattle.bl_proc_steps.specs.declared.approach.Approach.TheVariants as approach
use Rattle.bl_proc_routes.specs.declared.routes.Step.TheVariants.{Again, Right, Down, Here}
use Rattle.bl_proc_routes.specs.Routes.{Leads}
use Rattle.bl_proc.specs.declared.kinds.Proc.{Proc}
use Rattle.bl_proc.specs.Processes.{next_of, Takes}
use Rattle.bl_store.specs.Hands.{known}
use Rattle.bl_store.specs.declared.store.Hand.{Hand}
use Rattle.bl_index_rule.specs.declared.known.PassState.{PassState}
use Rattle.bl_index_rule.specs.Observed.{IsNear}
use Rattle.bl_index_descend.specs.declared.coming.Arrived.TheVariants.{There}
use Rattle.bl_index_events.specs.Runs.{IsOn, IsSameProcess}
use Rattle.bl_index_descend.specs.Events.{HasArrived}
use Rattle.bl_index_events.proofs.Standing.{on_goes, on_after, goes_takes, same_goes}
use Rattle.bl_index_descend.proofs.coming.read_latched.Goals as goal

pub returns-in-Here-clause-arrived : goal.returns-in-Here-clause-arrived
returns-in-Here-clause-arrived g c =
    let j = c.args.target.now in
    let layout = c.args.tree.now.store.layout in
    let went = c.look-glance.ensures.goes in
    let leads = subst (λ (z : ℕ × ℕ). Leads went.0 z.0 z.1 Here) (λ i. (c.key.ensures i, c.level.ensures i)) (c.in-Here.ensures.leads went.0 went.1) in
    let takes = subst (λ (z : Proc). Takes z (seen.Words went.0) (known c.look-glance.new.hand.seat).state) c.requires.runs.on.state (goes_takes _ _ _ went.2) in
    let near : IsNear (known c.look-glance.new.hand.seat).pages (next_of (g.J.Target.at j c.args.path.now (approach.Latched c.args.page))) = subst (λ (z : ℕ × Proc). IsNear z.0 (next_of z.1)) (λ i. (sym went.2.steps.pages i, c.requires.runs.on.state i)) c.requires.runs.on.near in
    subst (λ (h : Hand PassState). HasArrived (g.J.Target.level_of j) (g.J.Target.key_of j) (g.J.Target.at j c.args.path.now) c.args.page layout h.seat (There c.look-glance.result)) (sym c.in-Here.ensures.same)
    (c.look-glance.ensures.reads, record { page = went.0; is = went.1; leads = leads; takes = takes; near = near }, on_after layout _ _ _ _ c.requires.runs.on went.2)

pub returns-in-Here-clause-since : goal.returns-in-Here-clause-since
returns-in-Here-clause-since g c = subst (λ (h : Hand PassState). IsSameProcess (known c.args.hand.now.seat) (known h.seat)) (sym c.in-Here.ensures.same) (same_goes _ _ _ c.look-glance.ensures.goes.2)

pub returns-in-Right-clause-arrived : goal.returns-in-Right-clause-arrived
returns-in-Right-clause-arrived g c =
    let j = c.args.target.now in
    let layout = c.args.tree.now.store.layout in
    let went = c.look-glance.ensures.goes in
    let leads = subst (λ (z : ℕ × ℕ). Leads went.0 z.0 z.1 (Right c.in-Right.next)) (λ i. (c.key.ensures i, c.level.ensures i)) (c.in-Right.ensures.leads went.0 went.1) in
    let on = on_goes layout (seen.Words went.0) _ _ _ _ c.requires.runs.on went.2 (g.met.J.Target.goes j c.args.path.now (approach.Latched c.args.page) (approach.Leaving c.args.page (Some c.in-Right.next)) (seen.Words went.0) tt (refl, ((Right c.in-Right.next), leads, refl))) in
    subst (λ (h : Hand PassState). IsOn layout (known h.seat) (g.J.Target.at j c.args.path.now (approach.Leaving c.args.page (Some c.in-Right.next)))) (sym c.in-Right.ensures.same) on

pub returns-in-Right-clause-since : goal.returns-in-Right-clause-since
returns-in-Right-clause-since g c = subst (λ (h : Hand PassState). IsSameProcess (known c.args.hand.now.seat) (known h.seat)) (sym c.in-Right.ensures.same) (same_goes _ _ _ c.look-glance.ensures.goes.2)

pub returns-in-Down-clause-arrived : goal.returns-in-Down-clause-arrived
returns-in-Down-clause-arrived g c =
    let j = c.args.target.now in
    let layout = c.args.tree.now.store.layout in
    let went = c.look-glance.ensures.goes in
    let leads = subst (λ (z : ℕ × ℕ). Leads went.0 z.0 z.1 (Down c.in-Down._child)) (λ i. (c.key.ensures i, c.level.ensures i)) (c.in-Down.ensures.leads went.0 went.1) in
    let on = on_goes layout (seen.Words went.0) _ _ _ _ c.requires.runs.on went.2 (g.met.J.Target.goes j c.args.path.now (approach.Latched c.args.page) (approach.Leaving c.args.page None) (seen.Words went.0) tt (refl, ((Down c.in-Down._child), leads, refl))) in
    subst (λ (h : Hand PassState). IsOn layout (known h.seat) (g.J.Target.at j c.args.path.now (approach.Leaving c.args.page None))) (sym c.in-Down.ensures.same) on

pub returns-in-Down-clause-since : goal.returns-in-Down-clause-since
returns-in-Down-clause-since g c = subst (λ (h : Hand PassState). IsSameProcess (known c.args.hand.now.seat) (known h.seat)) (sym c.in-Down.ensures.same) (same_goes _ _ _ c.look-glance.ensures.goes.2)

pub returns-in-Again-clause-arrived : goal.returns-in-Again-clause-arrived
returns-in-Again-clause-arrived g c =
    let j = c.args.target.now in
    let layout = c.args.tree.now.store.layout in
    let went = c.look-glance.ensures.goes in
    let leads = subst (λ (z : ℕ × ℕ). Leads went.0 z.0 z.1 Again) (λ i. (c.key.ensures i, c.level.ensures i)) (c.in-Again.ensures.leads went.0 went.1) in
    let on = on_goes layout (seen.Words went.0) _ _ _ _ c.requires.runs.on went.2 (g.met.J.Target.goes j c.args.path.now (approach.Latched c.args.page) (approach.Leaving c.args.page None) (seen.Words went.0) tt (refl, (Again, leads, refl))) in
    subst (λ (h : Hand PassState). IsOn layout (known h.seat) (g.J.Target.at j c.args.path.now (approach.Leaving c.args.page None))) (sym c.in-Again.ensures.same) on

pub returns-in-Again-clause-since : goal.returns-in-Again-clause-since
returns-in-Again-clause-since g c = subst (λ (h : Hand PassState). IsSameProcess (known c.args.hand.now.seat) (known h.seat)) (sym c.in-Again.ensures.same) (same_goes _ _ _ c.look-glance.ensures.goes.2)
