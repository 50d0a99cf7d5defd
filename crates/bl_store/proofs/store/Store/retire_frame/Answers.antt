use Rattle.std.proofs.Common.{rules, arith, ◌-◌, ap}
use Rattle.bl_layout.specs.declared.layout.Layout.{Layout}
use Rattle.bl_store_rule.proofs.Reserving.{retires_frame}
use Rattle.bl_store_rule.proofs.Ticking.{draws}
use Rattle.bl_store.proofs.Living.{live_hand, live_on}
use Rattle.bl_store.proofs.store.Store.retire_frame.Goals as goal

pub fetch_add-time-requires : goal.fetch_add-time-requires
fetch_add-time-requires g c = let wide = c.args.self.now.wide in let left = c.requires.ticks in (search rules, omega arith, draws _ _ _ g.R.PageRule.ticks _ _ _ c.args.frame (c.args.hand.now.seat.me.0.puts - 1) _ (search rules) c.requires.frame.1 (omega arith) (live_hand c.args.hand.now))

pub store-requires : goal.store-requires
store-requires g c = let st = c.args.self.now in let wide = st.wide in let passes = ap (λ (z : Layout). z.passes) st.key in let spare_of = ap (λ (z : Layout). z.spare) st.key in let pages = ap (λ (z : Layout). z.pages) st.key in let spare_of = ap (λ (z : Layout). z.spare) st.key in
    (search rules, omega arith, retires_frame _ _ _ _ _ _ _ c.args.frame c.fetch_add-time.result _ (omega arith) (omega arith) (c.fetch_add-time.ensures.2.7 c.args.frame c.requires.frame.1) (live_on c.args.hand.now c.fetch_add-time.new.seat.me c.fetch_add-time.ensures.2.0.0 c.fetch_add-time.ensures.2.0.1))
