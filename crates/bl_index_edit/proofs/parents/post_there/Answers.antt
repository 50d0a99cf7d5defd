use Rattle.std.proofs.Common.{sym, ap, subst, ◌∙◌}
use Rattle.bl_store.specs.Hands.{known}
use Rattle.bl_store.specs.declared.store.Hand.{Hand}
use Rattle.bl_index_rule.specs.declared.known.PassState.{PassState}
use Rattle.bl_index_edit.specs.Events.{IsWalking, LeavesParent}
use Rattle.bl_index_edit.proofs.parents.post_there.Goals as goal

pub walk-requires-clause-walking : goal.walk-requires-clause-walking
walk-requires-clause-walking g c =
    let p = c.args.poster.now in
    subst (λ (h : Hand PassState). IsWalking (g.P.Poster.level_of p) (g.P.Poster.key_of p) (g.P.Poster.staged p) c.args.at c.begin_walk.new.parent c.in-Some.child (known h.seat).state) (sym c.begin_walk.ensures.same)
    c.in-Some.ensures.begins

pub stay-requires-clause-process : goal.stay-requires-clause-process
stay-requires-clause-process g c = (tt, ap (λ (h : Hand PassState). (known h.seat).state) c.begin_walk.ensures.same ∙ c.in-None.ensures.begins)

pub returns-in-Some : goal.returns-in-Some
returns-in-Some g c =
    let p = c.args.poster.now in
    subst (λ (h : Hand PassState). LeavesParent c.args.tree.now h.seat c.walk.new.hand (g.P.Poster.level_of p) (g.P.Poster.key_of p) (g.P.Poster.staged p) (g.P.Poster.opened p) c.walk.result) c.begin_walk.ensures.same c.walk.ensures

pub returns-in-None : goal.returns-in-None
returns-in-None g c =
    let p = c.args.poster.now in
    subst (λ (h : Hand PassState). LeavesParent c.args.tree.now h.seat c.stay.new.hand (g.P.Poster.level_of p) (g.P.Poster.key_of p) (g.P.Poster.staged p) (g.P.Poster.opened p) c.stay.result) c.begin_walk.ensures.same c.stay.ensures
