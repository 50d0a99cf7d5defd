use Rattle.std.proofs.Common.{rules, arith, ◌≡◌, ℕ, sym, ap, subst, ◌∙◌, refl, eq-eqb}
use Rattle.std.proofs.lemmas.Bool.{eqb-true}
use Rattle.bl_layout.specs.declared.layout.Layout.{Layout}
use Rattle.bl_store_rule.specs.Pages.{Released, Takes}
use Rattle.bl_store_rule.proofs.Reserving.{notes}
use Rattle.bl_store_rule.proofs.Owning.{takes}
use Rattle.bl_reserve.proofs.StockLemmas.{has_same, has_more, has_new}
use Rattle.bl_store.proofs.Living.{live_hand, live_on}
use Rattle.bl_reserve.proofs.reserving.try_page.Goals as goal

pub load-requires : goal.load-requires
load-requires g c = let st = c.args.store.now in let wide = st.wide in (search rules, omega arith, notes _ _ _ _ _ _ _ (live_hand c.args.hand.now))

pub compare_exchange-requires : goal.compare_exchange-requires
compare_exchange-requires g c = let st = c.args.store.now in let wide = st.wide in let own = c.args.hand.now.own in let e = c.load.ensures.2.0 in let number : c.args.hand.now.number ≡ c.load.new.seat.me.0.number = own.0 ∙ sym e.0.1 in
    let passes = ap (λ (z : Layout). z.passes) st.key in let spare_of = ap (λ (z : Layout). z.spare) st.key in let pages = ap (λ (z : Layout). z.pages) st.key in let few = own.1 in (
      search rules,
      omega arith,
      takes _ _ _ g.T.PagePlay.then _ _ _ _ c.args.page _ (omega arith) (omega arith) (omega arith) (e.0.0 ∙ (c.requires.own.1 ∙ sym st.key))
          (subst (λ (z : Layout × ℕ × g.row.D.Denot). Takes g.R.PageRule.holds z.0 z.1 z.2 c.args.page g.T.PagePlay.then) (λ i. (sym st.key i, number i, sym e.3 i)) c.requires.takes) (live_on c.args.hand.now c.load.new.seat.me e.0.0 e.0.1),
    )

pub returns-clause-taken : goal.returns-clause-taken
returns-clause-taken g c = λ is. let e = c.load.ensures.2.0 in let layout = e.0.0 ∙ c.requires.own.1 in let passes = ap (λ (z : Layout). z.passes) layout in let spare_of = ap (λ (z : Layout). z.spare) layout in let pages = ap (λ (z : Layout). z.pages) layout in let spare_of = ap (λ (z : Layout). z.spare) layout in
    let t = (c.compare_exchange.ensures.2.3 c.args.page (omega arith)).0 (eqb-true c.compare_exchange.result 0 is) in
    (t.0, subst (λ (z : g.row.D.Denot). g.T.PagePlay.then z c.args.page Released t.0 c.compare_exchange.new.seat.me.0.known) e.3 t.1)

pub returns-clause-missed : goal.returns-clause-missed
returns-clause-missed g c = λ is. let e = c.load.ensures.2 in let layout = e.0.0.0 ∙ c.requires.own.1 in let passes = ap (λ (z : Layout). z.passes) layout in let spare_of = ap (λ (z : Layout). z.spare) layout in let pages = ap (λ (z : Layout). z.pages) layout in let spare_of = ap (λ (z : Layout). z.spare) layout in
    let t = (c.compare_exchange.ensures.2.3 c.args.page (omega arith)).1 (λ zero. let yes = eq-eqb c.compare_exchange.result 0 zero in cc) in
    let seen = e.2 c.if-load-ne0.false in
    (t.0 ∙ e.0.3, has_new _ _ _ _ t.1 (omega arith), λ i h. has_more _ _ _ i i t.1 refl (has_same _ _ i i seen refl h))
