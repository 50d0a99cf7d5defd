use Rattle.std.proofs.Common.{List, Option, refl, subst, ◌∙◌}
use Rattle.bl_page.specs.declared.page.Page.{Page}
use Rattle.bl_store.specs.Hands.{known}
use Rattle.bl_claims.specs.Seeing.{IsSeen}
use Rattle.bl_index.proofs.Taken.{same_pass, of_inside}
use Rattle.bl_index.proofs.Released.{sweep_tells, swept_seen}
use Rattle.bl_index.proofs.index.Index.sweep.Goals as goal

pub returns-clause-sweeps : goal.returns-clause-sweeps
returns-clause-sweeps c = let own = of_inside c.self.view_is c.pass.view_is c.requires in rw (← c.self.view_is, ← c.pass.view_is) (sweep_tells _ _ _ _ _ _ _ _ own.2 refl c.sweep.ensures.observed.1 c.sweep.ensures.observed.2)

pub returns-clause-same : goal.returns-clause-same
returns-clause-same c = rw (← c.pass.view_is) (let p = c.pass.inside in same_pass c.pass.inside.hand c.sweep.new.hand c.sweep.ensures.same.0 (swept_seen _ _ _ _ _ _ p.seen p.rests c.sweep.ensures.observed.2).0)

pub returns-clause-seen : goal.returns-clause-seen
returns-clause-seen c =
    let own = of_inside c.self.view_is c.pass.view_is c.requires in rw (← c.self.view_is) (
    let p = c.pass.inside in let swept = swept_seen _ _ _ _ _ _ p.seen p.rests c.sweep.ensures.observed.2 in
    subst (λ (z : List (Option Page)). ∥ IsSeen z (known c.sweep.new.hand.seat).trail ∥₁) (swept.0 ∙ own.2) swept.1)

pub invariant_of-pass-inside : goal.invariant_of-pass-inside
invariant_of-pass-inside c =
    let e = c.sweep.ensures in let p = c.pass.inside in
    let swept = swept_seen _ _ _ _ _ _ p.seen p.rests e.observed.2 in
    (e.same.1 ∙ p.idle, (e.same.2.0 ∙ p.empty, (e.within, (swept.2, (swept.1, tt)))))
