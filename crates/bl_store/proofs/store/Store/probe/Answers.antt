use Rattle.std.proofs.Common.{rules, arith, ℕ, ap, sym, subst, ◌∙◌}
use Rattle.bl_layout.specs.declared.layout.Layout.{Layout}
use mathlib.Core.Logic.{dite}
use native.Mathlib.Decide.{ℕ_discrete}
use Rattle.std.proofs.Common.{eq-eqb}
use Rattle.std.proofs.lemmas.Bool.{eqb-true}
use Rattle.bl_store_rule.specs.Pages.{Probes}
use Rattle.bl_store_rule.proofs.Owning.{probes}
use Rattle.bl_store.proofs.Living.{live_hand}
use Rattle.bl_store.proofs.store.Store.probe.Goals as goal

pub load-requires : goal.load-requires
load-requires g c = let st = c.args.self.now in let wide = st.wide in let own = c.args.hand.now.own in let number = own.0 in let passes = ap (λ (z : Layout). z.passes) st.key in let spare_of = ap (λ (z : Layout). z.spare) st.key in let pages = ap (λ (z : Layout). z.pages) st.key in (
  search rules,
  omega arith,
  probes _ _ _ g.M.PagePlay.then _ _ _ c.args.page _ (omega arith) (omega arith) (c.requires.own.1 ∙ sym st.key)
      (subst (λ (z : Layout × ℕ). Probes g.R.PageRule.holds z.0 z.1 c.args.hand.now.seat.me.0.known c.args.page g.M.PagePlay.then) (λ i. (sym st.key i, own.0 i)) c.requires.rule) (live_hand c.args.hand.now),
)

pub returns-clause-observed : goal.returns-clause-observed
returns-clause-observed g c = let passes = ap (λ (z : Layout). z.passes) c.requires.own.1 in let spare_of = ap (λ (z : Layout). z.spare) c.requires.own.1 in let pages = ap (λ (z : Layout). z.pages) c.requires.own.1 in let spare_of = ap (λ (z : Layout). z.spare) c.requires.own.1 in let t = c.load.ensures.2.3 c.args.page (omega arith) in
    (t.0, t.1, ((λ h. t.2 (eqb-true c.load.result 1 h)), λ e. dite (ℕ_discrete c.load.result 1) (eq-eqb c.load.result 1) (λ ne. absurd (t.3 ne e))), t.4)
