use Rattle.std.proofs.Common.{rules, arith, ap, sym, ◌<◌, ℕ, subst}
use Rattle.bl_layout.specs.declared.layout.Layout.{Layout}
use Rattle.bl_store_rule.specs.Pages.{Ends}
use Rattle.bl_store_rule.proofs.Time.{finishes}
use Rattle.bl_store.proofs.Living.{live_hand}
use Rattle.bl_store.proofs.store.Store.end.Goals as goal

pub store-requires : goal.store-requires
store-requires g c = let st = c.args.self.now in let wide = st.wide in let own = c.args.hand.now.own in let first = st.stamps_at in let low : c.args.hand.now.number < st.layout.passes = subst (λ (z : Layout). c.args.hand.now.number < z.passes) c.requires.own.1 own.1 in (
  search rules,
  omega arith,
  finishes _ _ _ g.M.TimePlay.then _ _ _ _ _ (let key = st.key in omega (arith, ap (λ (z : Layout). z.pages) key, ap (λ (z : Layout). z.passes) key, ap (λ (z : Layout). z.spare) key)) c.requires.running.1
      (subst (λ (z : Layout × ℕ). Ends g.R.PageRule.holds z.0 z.1 c.args.hand.now.seat.me.0.known g.M.TimePlay.then) (λ i. (sym st.key i, own.0 i)) c.requires.rule) (live_hand c.args.hand.now),
)
