use Rattle.std.proofs.Common.{rules, arith, ℕ, ◌/◌, ap, sym, subst, ◌∙◌, inl, inr, refl}
use Rattle.bl_layout.specs.declared.layout.Layout.{Layout}
use Rattle.bl_store_rule.specs.Pages.{Releases}
use Rattle.bl_store_rule.specs.declared.view.Sweep.TheVariants.{Over}
use Rattle.bl_store_rule.proofs.Owning.{frees}
use Rattle.bl_store.proofs.Living.{live_hand}
use Rattle.bl_store.proofs.store.Store.release.Goals as goal

pub compare_exchange-found-requires : goal.compare_exchange-found-requires
compare_exchange-found-requires g c = let st = c.args.self.now in let wide = st.wide in let own = c.args.hand.now.own in let passes = ap (λ (z : Layout). z.passes) st.key in let spare_of = ap (λ (z : Layout). z.spare) st.key in let pages = ap (λ (z : Layout). z.pages) st.key in let state = c.requires.state.0 in let before = c.requires.state.1 in (
  search rules,
  omega arith,
  frees _ _ _ (λ d e. g.M.SweepPlay.then d 1 e) _ _ _ _ c.args.at (c.args.state / 4) c.args.oldest _ (omega arith) (omega arith) (omega arith) before (c.requires.own.1 ∙ sym st.key) (c.requires.swept ∙ ap (λ (z : ℕ). Over c.args.oldest z) (sym passes))
      (subst (λ (z : Layout × ℕ). Releases g.R.PageRule.holds z.0 z.1 c.args.hand.now.seat.me.0.known c.args.at (c.args.state / 4) (g.M.SweepPlay.then c.args.hand.now.seat.me.0.known 1)) (λ i. (sym st.key i, own.0 i)) (c.requires.rule c.args.at (c.args.state / 4))) (live_hand c.args.hand.now),
)

pub returns-then-found-state : goal.returns-then-found-state
returns-then-found-state g c = let f = c.compare_exchange-found.ensures in record {
  same = ((f.0, f.2.0.0, f.2.0.1), f.2.1, f.2.2, f.2.3);
  observed = inr (f.2.5 c.if-found-state.true).0;
  yes = λ e. cc;
  no = λ _. (f.2.5 c.if-found-state.true).1;
}

pub returns-then-at-self : goal.returns-then-at-self
returns-then-at-self g c = let f = c.compare_exchange-found.ensures in record {
  same = ((f.0, f.2.0.0, f.2.0.1), f.2.1, f.2.2, f.2.3);
  observed = inl (refl, (f.2.4 c.if-found-state.false).0);
  yes = λ _. (f.2.4 c.if-found-state.false).1;
  no = λ e. cc;
}

pub returns : goal.returns
returns g c = let f = c.release_frame.ensures in record {
  same = (f.same.0, f.same.1, f.same.2, f.same.4);
  observed = inr f.same.3;
  yes = f.yes;
  no = f.no;
}
