use Rattle.std.proofs.Common.{◌≡◌, ℕ, sym, subst, ◌∙◌}
use Rattle.bl_store_rule.specs.Pages.{Takes}
use Rattle.bl_reserve.proofs.reserving.take.Goals as goal

pub take_from-requires-2-clause-takes : goal.take_from-requires-2-clause-takes
take_from-requires-2-clause-takes g c = let same = c.in_default.ensures.same in let number : c.args.hand.now.number ≡ c.take_from.new.hand.number = c.args.hand.now.own.0 ∙ (sym same.0.2 ∙ sym c.take_from.new.hand.own.0) in
    λ x. subst (λ (z : ℕ × g.row.D.Denot). Takes g.R.PageRule.holds c.args.store.now.layout z.0 z.1 x g.T.PagePlay.then) (λ i. (number i, sym c.in_default.ensures.none.0 i)) (c.requires.takes x)

pub take_from-requires-3-clause-takes : goal.take_from-requires-3-clause-takes
take_from-requires-3-clause-takes g c = let one = c.in_default.ensures in let two = c.in_default-take_from.ensures in
    let number : c.args.hand.now.number ≡ c.take_from-2.new.hand.number = c.args.hand.now.own.0 ∙ (sym one.same.0.2 ∙ (sym two.same.0.2 ∙ sym c.take_from-2.new.hand.own.0)) in
    let knew = sym one.none.0 ∙ sym two.none.0 in
    λ x. subst (λ (z : ℕ × g.row.D.Denot). Takes g.R.PageRule.holds c.args.store.now.layout z.0 z.1 x g.T.PagePlay.then) (λ i. (number i, knew i)) (c.requires.takes x)
