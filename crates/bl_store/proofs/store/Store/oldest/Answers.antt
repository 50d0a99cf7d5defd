use Rattle.std.proofs.Common.{rules, arith, ◌≡◌, ℕ, ◌+◌, ap, sym, ◌∙◌}
use Rattle.bl_store_rule.specs.Observed.{lower}
use Rattle.bl_store_rule.specs.declared.view.Sweep.TheVariants.{Over}
use Rattle.bl_store_rule.proofs.Sweeping.{horizons, passes, lower_none, lower_some}
use Rattle.bl_store.proofs.Living.{live_hand}
use Rattle.bl_store.proofs.store.Store.oldest.Goals as goal
use Rattle.bl_store.proofs.store.Store.oldest.Goals.{then-stamp-ne0, else-stamp-ne0}

pub load-oldest-requires : goal.load-oldest-requires
load-oldest-requires g c = let wide = c.args.self.now.wide in (search rules, omega arith, horizons _ _ _ _ _ _ _ (search rules) (live_hand c.args.hand.now))

pub load-stamp-requires : goal.load-stamp-requires
load-stamp-requires g c = let st = c.args.self.now in let wide = st.wide in (search rules, omega arith, passes _ _ _ _ _ _ _ c.loop-pass.pass _ (search rules) c.loop-pass.invariant.swept (live_hand c.loop-pass.hand))

pub loop-pass-preserved : goal.loop-pass-preserved
loop-pass-preserved g c = let e = c.load-stamp.ensures.2.2 c.loop-pass.oldest c.loop-pass.pass c.loop-pass.invariant.swept (search rules) in
    let lower_is : lower c.loop-pass.oldest c.load-stamp.result ≡ c.if-stamp-ne0.oldest = elim c.if-stamp-ne0.branch [ then-stamp-ne0 w ↦ lower_some c.loop-pass.oldest c.load-stamp.result w.if-stamp-ne0.true ∙ (sym w.min-oldest.ensures ∙ sym w.oldest-is) | else-stamp-ne0 w ↦ lower_none c.loop-pass.oldest c.load-stamp.result w.if-stamp-ne0.false ∙ sym w.oldest-is ] in record {
      same = ((search rules, search rules, search rules), search rules, (search rules, search rules, search rules));
      known = search rules;
      releases = search rules;
      reads = c.load-stamp.ensures.2.3 ∙ c.loop-pass.invariant.reads;
      swept = e ∙ ap (λ (z : ℕ). Over z (c.loop-pass.pass + 1)) lower_is;
    }
