use Rattle.std.proofs.Common.{rules, arith, ap, sym, ◌∙◌}
use Rattle.bl_layout.specs.declared.layout.Layout.{Layout}
use Rattle.bl_store_rule.proofs.Time.{copies}
use Rattle.bl_store.proofs.Living.{live_hand}
use Rattle.bl_store.proofs.store.Store.seen_word.Goals as goal

pub load-requires : goal.load-requires
load-requires g c = let st = c.args.self.now in let wide = st.wide in let passes = ap (λ (z : Layout). z.passes) (c.requires.own.1) in let spare_1 = ap (λ (z : Layout). z.spare) (c.requires.own.1) in let pages = ap (λ (z : Layout). z.pages) (c.requires.own.1) in let spare_2 = ap (λ (z : Layout). z.spare) (c.requires.own.1) in
    let kept = ap (λ (z : Layout). z.passes) st.key in let spare_3 = ap (λ (z : Layout). z.spare) st.key in let sized = ap (λ (z : Layout). z.pages) st.key in let spare_4 = ap (λ (z : Layout). z.spare) st.key in
    let reads = c.requires.reads in let low = reads.2 in let first = reads.4 in
    (search rules, omega arith, copies _ _ _ _ _ _ reads.0 c.args.place _ _ (omega arith) reads.1 (c.requires.own.1 ∙ sym st.key) c.requires.place (live_hand c.args.hand.now))
