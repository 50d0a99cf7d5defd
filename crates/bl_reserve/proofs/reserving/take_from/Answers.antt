use Rattle.std.proofs.Common.{◌≡◌, ℕ, sym, subst, ◌∙◌}
use Rattle.bl_store_rule.specs.Pages.{Takes}
use Rattle.bl_reserve.proofs.reserving.take_from.Goals as goal

pub try_page-requires-clause-takes : goal.try_page-requires-clause-takes
try_page-requires-clause-takes g c = let inv = c.loop-page.invariant in let number : c.args.hand.now.number ≡ c.loop-page.hand.number = c.args.hand.now.own.0 ∙ (sym inv.same.0.2 ∙ sym c.loop-page.hand.own.0) in
    subst (λ (z : ℕ × g.row.D.Denot). Takes g.R.PageRule.holds c.args.store.now.layout z.0 z.1 c.loop-page.page g.T.PagePlay.then) (λ i. (number i, sym inv.known i)) (c.requires.takes c.loop-page.page)
