use Rattle.std.proofs.Common.{sym, ap, subst, ◌∙◌}
use Rattle.bl_store.specs.Hands.{known}
use Rattle.bl_store.specs.declared.store.Hand.{Hand}
use Rattle.bl_index_rule.specs.declared.known.PassState.{PassState}
use Rattle.bl_index_edit.specs.Events.{IsWalking, LeavesParent, WalksStill}
use Rattle.bl_index_edit.proofs.Walked.{walks_still}
use Rattle.bl_index_edit.proofs.walks.post_there_within.Goals as goal

pub stay-requires-clause-process : goal.stay-requires-clause-process
stay-requires-clause-process g c = (tt, ap (λ (h : Hand PassState). (known h.seat).state) c.begin_walk.ensures.same ∙ c.in-None.ensures.begins)

pub returns-in-None-clause-left : goal.returns-in-None-clause-left
returns-in-None-clause-left g c =
    let p = c.args.poster.now in
    subst (λ (h : Hand PassState). LeavesParent c.args.tree.now h.seat c.stay.new.hand (g.P.Poster.level_of p) (g.P.Poster.key_of p) (g.P.Poster.staged p) (g.P.Poster.opened p) c.stay.result) c.begin_walk.ensures.same c.stay.ensures

pub walk_within-requires-clause-walking : goal.walk_within-requires-clause-walking
walk_within-requires-clause-walking g c =
    let p = c.args.poster.now in
    subst (λ (h : Hand PassState). IsWalking (g.P.Poster.level_of p) (g.P.Poster.key_of p) (g.P.Poster.staged p) c.args.at c.begin_walk.new.parent c.in-Some.child (known h.seat).state) (sym c.begin_walk.ensures.same)
    c.in-Some.ensures.begins

pub returns-in-Ok-clause-left : goal.returns-in-Ok-clause-left
returns-in-Ok-clause-left g c =
    let p = c.args.poster.now in
    subst (λ (h : Hand PassState). LeavesParent c.args.tree.now h.seat c.walk_within.new.hand (g.P.Poster.level_of p) (g.P.Poster.key_of p) (g.P.Poster.staged p) (g.P.Poster.opened p) c.in-Ok.replies) c.begin_walk.ensures.same c.in-Ok.ensures.left

pub returns-in-Err-clause-walks : goal.returns-in-Err-clause-walks
returns-in-Err-clause-walks g c =
    let p = c.args.poster.now in
    subst (λ (h : Hand PassState). WalksStill c.args.tree.now h.seat c.walk_within.new.hand (g.P.Poster.level_of p) (g.P.Poster.staged p) c.args.at) c.begin_walk.ensures.same
    (walks_still c.args.tree.now c.begin_walk.new.hand.seat c.walk_within.new.hand (g.P.Poster.level_of p) (g.P.Poster.key_of p) (g.P.Poster.staged p) c.args.at _ c.in-Err._next c.in-Err.ensures.walks)
