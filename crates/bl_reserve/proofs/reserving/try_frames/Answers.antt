use Rattle.std.proofs.Common.{rules, arith, ℕ, sym, subst, ◌∙◌}
use mathlib.Core.Logic.{dite}
use native.Mathlib.Decide.{ℕ_discrete}
use Rattle.bl_store.specs.Hands.{IsTried}
use Rattle.bl_reserve.proofs.reserving.try_frames.Goals as goal

pub loop-frame-preserved : goal.loop-frame-preserved
loop-frame-preserved g c = let inv = c.loop-frame.invariant in let e = c.try_frame.ensures in let stock = e.stock in let a = stock.1 in let b = stock.2 in let few = inv.few in let more = inv.more in let other = c.if-stock-wanted.false in record {
  same = (search rules, search rules, search rules, search rules, search rules, search rules, search rules);
  page = e.same.1 ∙ inv.page;
  stock = stock.0;
  few = omega arith;
  more = omega arith;
  got = (let t = e.got in let u = inv.got in omega arith);
  seen = λ f low high. dite (ℕ_discrete f c.loop-frame.frame) (λ is. subst (λ (z : ℕ). IsTried c.try_frame.new.hand.seat z) (sym is) e.tried) (λ ne. e.kept f (inv.seen f low (omega arith)));
  kept = λ f h. e.kept f (inv.kept f h);
  reads = e.reads ∙ inv.reads;
}
