use Rattle.std.proofs.Common.{rules, arith, ℕ, ap, sym, subst}
use Rattle.bl_layout.specs.declared.layout.Layout.{Layout}
use Rattle.bl_store_rule.specs.Pages.{Retires}
use Rattle.bl_store_rule.proofs.Ticking.{seals}
use Rattle.bl_store.proofs.store.Store.seal.Goals as goal

pub fetch_add-requires : goal.fetch_add-requires
fetch_add-requires g c = let st = c.args.self.now in let wide = st.wide in let pages = ap (λ (z : Layout). z.pages) st.key in let spare_of = ap (λ (z : Layout). z.spare) st.key in let low = c.requires.page.0 in let aim = c.requires.page.1 in (
  search rules,
  omega arith,
  seals _ _ _ g.M.TimePlay.then _ _ _ g.J.Aim.page 0 _ (search rules) (omega arith) c.requires.leave c.requires.hand.1
      (subst (λ (z : Layout × ℕ). Retires g.R.PageRule.holds z.0 c.args.seat.now.me.0.number c.args.seat.now.me.0.known z.1 g.M.TimePlay.then) (λ i. (sym st.key i, aim i)) c.requires.rule) c.requires.hand.0,
)
