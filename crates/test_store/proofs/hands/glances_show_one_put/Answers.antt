use Rattle.std.proofs.Common.{ap, ◌∙◌}
use Rattle.bl_store.specs.declared.store.Hand.{Hand}
use Rattle.test_store_rule.specs.declared.Mine.{Mine}
use Rattle.test_store.proofs.hands.glances_show_one_put.Goals as goal

pub glance-requires-2-clause-running : goal.glance-requires-2-clause-running
glance-requires-2-clause-running g c =
    let began = c.begin.ensures.running in
    (began.0, ap (λ (h : Hand Mine). h.seat.me.0.stamp) (c.word-last.ensures.same ∙ c.word-least.ensures.same) ∙ (c.glance.ensures.same.1 ∙ began.1))

pub end-requires-clause-running : goal.end-requires-clause-running
end-requires-clause-running g c =
    let began = c.begin.ensures.running in
    (began.0, ap (λ (h : Hand Mine). h.seat.me.0.stamp) (c.word-last-2.ensures.same ∙ c.word-least-2.ensures.same) ∙ (c.glance-2.ensures.same.1 ∙ (ap (λ (h : Hand Mine). h.seat.me.0.stamp) (c.word-last.ensures.same ∙ c.word-least.ensures.same) ∙ (c.glance.ensures.same.1 ∙ began.1))))
