use Rattle.std.proofs.Common.{rules, arith, ℕ, ap, sym, subst, ◌∙◌}
use Rattle.bl_layout.specs.declared.layout.Layout.{Layout}
use Rattle.bl_store_rule.specs.Pages.{Held, Opens}
use Rattle.bl_store_rule.proofs.Owning.{opens}
use Rattle.bl_store.proofs.Living.{live_hand}
use Rattle.bl_store.proofs.store.Store.open.Goals as goal

pub store-requires : goal.store-requires
store-requires g c = let st = c.args.self.now in let wide = st.wide in let own = c.args.hand.now.own in let passes = ap (λ (z : Layout). z.passes) st.key in let spare_of = ap (λ (z : Layout). z.spare) st.key in let pages = ap (λ (z : Layout). z.pages) st.key in (
  search rules,
  omega arith,
  opens _ _ _ g.M.PagePlay.then _ _ _ c.args.page _ (omega arith) (omega arith) (c.requires.own.1 ∙ sym st.key)
      (subst (λ (z : Layout × ℕ). Opens g.R.PageRule.holds z.0 z.1 c.args.hand.now.seat.me.0.known c.args.page g.M.PagePlay.then) (λ i. (sym st.key i, own.0 i)) c.requires.rule) (live_hand c.args.hand.now),
)

pub returns-clause-observed : goal.returns-clause-observed
returns-clause-observed g c = let passes = ap (λ (z : Layout). z.passes) c.requires.own.1 in let spare_of = ap (λ (z : Layout). z.spare) c.requires.own.1 in let pages = ap (λ (z : Layout). z.pages) c.requires.own.1 in let spare_of = ap (λ (z : Layout). z.spare) c.requires.own.1 in let t = c.store.ensures.2.3 c.args.page (omega arith) in
    (t.0, subst (λ (z : ℕ). g.M.PagePlay.then c.args.hand.now.seat.me.0.known c.args.page (Held z) t.0 c.store.new.seat.me.0.known) (sym c.args.hand.now.own.0) t.1)
