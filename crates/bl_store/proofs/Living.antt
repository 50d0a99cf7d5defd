-- A seat that has a hand goes on to have it.
use Rattle.std.proofs.Common.{◌≡◌, ap, arith}
use Rattle.atomic_table.specs.Table.{Me}
use Rattle.bl_layout.specs.declared.layout.Layout.{Layout}
use Rattle.bl_store_rule.specs.Frames.{IsLive}
use Rattle.bl_store.specs.declared.store.Hand.{Hand}
use Rattle.bl_store_rule.specs.declared.view.View.{View}

module _ {D : Type 0} where
  pub live_hand : (h : Hand D) → IsLive h.seat.me.0
  live_hand h = let number = h.own.0 in let few = h.own.1 in omega arith

  pub live_on : (h : Hand D) (m : Me (Unit {0}) (View D)) → m.0.layout ≡ h.seat.me.0.layout → m.0.number ≡ h.seat.me.0.number → IsLive m.0
  live_on h m layout number = let passes = ap (λ (z : Layout). z.passes) layout in let own = h.own.0 in let few = h.own.1 in omega arith
