use Rattle.std.proofs.Common.{rules, arith, ℕ, sym, subst}
use Rattle.bl_layout.specs.declared.layout.Layout.{Layout}
use Rattle.bl_store_rule.specs.Pages.{Refuses}
use Rattle.bl_store_rule.proofs.Owning.{refuses}
use Rattle.bl_store.proofs.Living.{live_hand}
use Rattle.bl_reserve.proofs.reserving.refuse.Goals as goal

pub load-requires : goal.load-requires
load-requires g c = let st = c.args.store.now in let wide = st.wide in let own = c.args.hand.now.own in (
  search rules,
  omega arith,
  refuses _ _ _ g.J.Ask.pages g.J.Ask.frames g.M.TimePlay.then _ _ _ _
      (subst (λ (z : Layout × ℕ). Refuses g.R.PageRule.holds z.0 z.1 c.args.hand.now.seat.me.0.known g.M.TimePlay.then) (λ i. (sym st.key i, own.0 i)) c.requires.refuses) (live_hand c.args.hand.now),
)
