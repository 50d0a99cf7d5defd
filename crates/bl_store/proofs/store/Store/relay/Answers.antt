use Rattle.std.proofs.Common.{rules, arith, ap, sym, ◌∙◌, ◌≡◌, ◌<◌, ℕ, subst, refl}
use Rattle.bl_layout.specs.declared.layout.Layout.{Layout}
use Rattle.bl_store_rule.specs.Pages.{Relays}
use Rattle.bl_store_rule.proofs.Time.{relays}
use Rattle.bl_store.proofs.Living.{live_hand}
use Rattle.bl_store.proofs.store.Store.relay.Goals as goal

pub load-requires : goal.load-requires
load-requires g c = let st = c.args.self.now in let wide = st.wide in let own = c.args.hand.now.own in (
  search rules,
  omega arith,
  relays _ _ _ g.M.TimePlay.then _ _ _ _ _ c.requires.running.1
      (subst (λ (z : Layout × ℕ). Relays g.R.PageRule.holds z.0 z.1 c.args.hand.now.seat.me.0.known g.M.TimePlay.then) (λ i. (sym st.key i, own.0 i)) c.requires.rule)
      (live_hand c.args.hand.now),
)
