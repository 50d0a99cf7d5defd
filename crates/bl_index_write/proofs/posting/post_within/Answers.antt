use Rattle.std.proofs.Common.{rules, ◌∙◌, subst, sym}
use Rattle.bl_store.specs.Hands.{known}
use Rattle.bl_store.specs.declared.store.Hand.{Hand}
use Rattle.bl_index_rule.specs.declared.known.PassState.{PassState}
use Rattle.bl_index_events.specs.Runs.{IsSince}
use Rattle.bl_index_write.proofs.Underway.{ended_within, lacks_within, underway_on_way, underway_within}
use Rattle.bl_index_write.proofs.posting.post_within.Goals as goal

pub reach_within-requires-clause-led : goal.reach_within-requires-clause-led
reach_within-requires-clause-led c = λ page below. below

pub returns-in-Parent-clause-ended : goal.returns-in-Parent-clause-ended
returns-in-Parent-clause-ended c =
    ended_within _ _ _ (known c.reach_within.new.hand.seat) (c.reach_within.ensures.since _ _ c.begin_descent.ensures.begun) c.post_at.new.hand.seat c.post_at.result
    c.post_at.ensures.over

pub returns-in-Parent-clause-no_room : goal.returns-in-Parent-clause-no_room
returns-in-Parent-clause-no_room c = lacks_within _ (known c.reach_within.new.hand.seat) c.post_at.new.hand.seat c.post_at.result c.post_at.ensures.over

pub returns-in-Parent-clause-underway : goal.returns-in-Parent-clause-underway
returns-in-Parent-clause-underway c =
    underway_within _ _ _ _ (known c.reach_within.new.hand.seat) (c.reach_within.ensures.since _ _ c.begin_descent.ensures.begun) c.args.tree.now c.post_at.new.hand
    c.post_at.result c.post_at.ensures.underway

pub returns-in-Underway-clause-underway : goal.returns-in-Underway-clause-underway
returns-in-Underway-clause-underway c =
    let came = c.in-Underway.ensures.neared in (
      underway_on_way c.args.tree.now c.reach_within.new.hand _ c.on_way.result (c.reach_within.ensures.same.2.0 ∙ (c.begin_descent.ensures.same.1.0 ∙ c.requires.idle.1)) c.in-Underway.way came.0 c.on_way.ensures
          (record { own = search rules; running = search rules; on = came.1 }),
      c.reach_within.ensures.since _ _ c.begin_descent.ensures.begun,
    )

pub returns-in-NoLevel-clause-underway : goal.returns-in-NoLevel-clause-underway
returns-in-NoLevel-clause-underway c = (c.looked_up.ensures.underway, subst (λ (h : Hand PassState). IsSince c.args.hand.now.number (known c.args.hand.now.seat) (known h.seat)) (sym c.looked_up.ensures.same) (c.reach_within.ensures.since _ _ c.begin_descent.ensures.begun))
