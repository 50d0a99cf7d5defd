use Rattle.std.proofs.Common.{rules, arith, ℕ, ◌/◌, ap, sym, ◌∙◌, refl}
use Rattle.bl_layout.specs.declared.layout.Layout.{Layout}
use Rattle.bl_store_rule.specs.declared.view.Sweep.TheVariants.{Over}
use Rattle.bl_store_rule.proofs.Reserving.{releases_frame}
use Rattle.bl_store.proofs.Living.{live_hand}
use Rattle.bl_store.proofs.store.Store.release_frame.Goals as goal

pub compare_exchange-found-requires : goal.compare_exchange-found-requires
compare_exchange-found-requires g c = let st = c.args.self.now in let wide = st.wide in let passes = ap (λ (z : Layout). z.passes) st.key in let spare_of = ap (λ (z : Layout). z.spare) st.key in let pages = ap (λ (z : Layout). z.pages) st.key in let state = c.requires.state.0 in let before = c.requires.state.1 in
    (search rules, omega arith, releases_frame _ _ _ _ _ _ _ c.args.frame (c.args.state / 4) c.args.oldest _ (omega arith) (omega arith) (omega arith) before (c.requires.swept ∙ ap (λ (z : ℕ). Over c.args.oldest z) (sym passes)) (live_hand c.args.hand.now))

pub returns-then-found-state : goal.returns-then-found-state
returns-then-found-state g c = let f = c.compare_exchange-found.ensures in record {
  same = ((f.0, f.2.0.0.0, f.2.0.0.1), f.2.0.1, f.2.0.2, f.2.0.3, f.2.1);
  kept = (refl, refl);
  reads = f.2.4;
  yes = λ e. cc;
  no = λ _. f.2.3 c.if-found-state.true;
}

pub returns : goal.returns
returns g c = let f = c.compare_exchange-found.ensures in record {
  same = ((f.0, f.2.0.0.0, f.2.0.0.1), f.2.0.1, f.2.0.2, f.2.0.3, f.2.1);
  kept = c.note_released.ensures;
  reads = f.2.4;
  yes = λ _. f.2.2 c.if-found-state.false;
  no = λ e. cc;
}
