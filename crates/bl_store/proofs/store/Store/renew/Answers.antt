use Rattle.std.proofs.Common.{rules, arith, ap, sym, ◌∙◌, ◌≡◌, ◌<◌, ℕ, subst, refl}
use Rattle.bl_layout.specs.declared.layout.Layout.{Layout}
use Rattle.bl_store_rule.specs.Pages.{Begins, Ends}
use Rattle.bl_store_rule.proofs.Time.{renews, raises}
use Rattle.bl_store.proofs.Living.{live_hand, live_on}
use Rattle.bl_store.proofs.store.Store.renew.Goals as goal

pub load-clock-requires : goal.load-clock-requires
load-clock-requires g c = let st = c.args.self.now in let wide = st.wide in let own = c.args.hand.now.own in (
  search rules,
  omega arith,
  renews _ _ _ g.M.TimePlay.then g.N.TimePlay.then _ _ _ _ _ (search rules) c.requires.running.1
      (subst (λ (z : Layout × ℕ). Ends g.R.PageRule.holds z.0 z.1 c.args.hand.now.seat.me.0.known g.M.TimePlay.then) (λ i. (sym st.key i, own.0 i)) c.requires.ends)
      (λ between now t. subst (λ (z : Layout × ℕ). Begins g.R.PageRule.holds z.0 z.1 between g.N.TimePlay.then) (λ i. (sym st.key i, own.0 i)) (c.requires.begins between now t)) (live_hand c.args.hand.now),
)

pub store-requires : goal.store-requires
store-requires g c = let st = c.args.self.now in let wide = st.wide in let own = c.args.hand.now.own in let first = st.stamps_at in let low : c.args.hand.now.number < st.layout.passes = subst (λ (z : Layout). c.args.hand.now.number < z.passes) c.requires.own.1 own.1 in let e = c.load-clock.ensures.2 in let number : c.args.hand.now.number ≡ c.load-clock.new.seat.me.0.number = own.0 ∙ sym e.0.1 in (
  search rules,
  omega arith,
  raises _ _ _ _ _ _ _ c.load-clock.result _ (let key = st.key in omega (arith, ap (λ (z : Layout). z.pages) key, ap (λ (z : Layout). z.passes) key, ap (λ (z : Layout). z.spare) key)) refl e.3 (live_on c.args.hand.now c.load-clock.new.seat.me e.0.0 e.0.1),
)
