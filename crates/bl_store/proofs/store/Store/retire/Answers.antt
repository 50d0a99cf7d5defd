use Rattle.std.proofs.Common.{rules, arith, ℕ, ap, subst}
use Rattle.bl_layout.specs.declared.layout.Layout.{Layout}
use Rattle.bl_store_rule.specs.Pages.{Retires}
use Rattle.bl_store.specs.Hands.{known}
use Rattle.bl_store_rule.proofs.Ticking.{publishes}
use Rattle.bl_store.proofs.Living.{live_on}
use Rattle.bl_store.proofs.store.Store.retire.Goals as goal

pub store-requires : goal.store-requires
store-requires g c = let st = c.args.self.now in let wide = st.wide in let passes = ap (λ (z : Layout). z.passes) st.key in let spare_of = ap (λ (z : Layout). z.spare) st.key in let pages = ap (λ (z : Layout). z.pages) st.key in let spare_of = ap (λ (z : Layout). z.spare) st.key in
    (search rules, omega arith, publishes _ _ _ _ _ _ _ c.args.page c.seal-time.result _ (omega arith) (omega arith) c.seal-time.ensures.sealed.0 (live_on c.args.hand.now c.seal-time.new.seat.me c.seal-time.ensures.same.0.1 c.seal-time.ensures.same.0.2))

pub seal-time-requires-clause-rule : goal.seal-time-requires-clause-rule
seal-time-requires-clause-rule g c = subst (λ (z : ℕ). Retires g.R.PageRule.holds c.args.self.now.layout z (known c.args.hand.now.seat) c.args.page g.M.TimePlay.then) c.args.hand.now.own.0 c.requires.rule
