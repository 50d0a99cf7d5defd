use Rattle.std.proofs.Common.{rules, arith, ℕ, ◌-◌, List, [], sym, ap, ◌∙◌, get_or}
use Rattle.bl_layout.specs.declared.layout.Layout.{Layout}
use Rattle.bl_store_rule.proofs.Reserving.{returns}
use Rattle.bl_store.proofs.Written.{drafts_pop}
use Rattle.bl_store.proofs.Living.{live_hand}
use Rattle.bl_reserve.proofs.reserving.give_back.Goals as goal

pub compare_exchange-requires : goal.compare_exchange-requires
compare_exchange-requires g c = let st = c.args.store.now in let wide = st.wide in let own = c.loop-stock.hand.own in let inv = c.loop-stock.invariant in let fs : List ℕ = c.loop-stock.stock.frames in let n : ℕ = c.loop-stock.stock.count in
    let passes = ap (λ (z : Layout). z.passes) st.key in let spare_of = ap (λ (z : Layout). z.spare) st.key in let pages = ap (λ (z : Layout). z.pages) st.key in let spare_of = ap (λ (z : Layout). z.spare) st.key in
    (search rules, omega arith, returns _ _ _ _ _ _ _ (get_or fs (n - 1) 0) _ [] _ (omega arith) (omega arith) (inv.stock ∙ drafts_pop fs n (omega arith)) (inv.same.1 ∙ (c.requires.own.1 ∙ sym st.key)) (live_hand c.loop-stock.hand))
