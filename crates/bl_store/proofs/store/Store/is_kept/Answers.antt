use Rattle.std.proofs.Common.{rules, arith, ap, sym, ◌∙◌, ◌≡◌, ◌<◌, ℕ, subst, refl}
use Rattle.bl_layout.specs.declared.layout.Layout.{Layout}
use Rattle.bl_layout.specs.Words.{frame_count}
use Rattle.bl_store_rule.specs.Pages.{Implies}
use Rattle.bl_store_rule.proofs.Time.{compares}
use Rattle.bl_store.proofs.Living.{live_hand}
use Rattle.bl_store_rule.specs.Observed.{look}
use Rattle.std.proofs.Common.{◌+◌, ◌*◌, ◌-◌}
use Rattle.std.proofs.lemmas.Bool.{eqb-true}
use Rattle.bl_store.proofs.store.Store.is_kept.Goals as goal

pub load-found-requires : goal.load-found-requires
load-found-requires g c = let st = c.args.self.now in let wide = st.wide in let heads = st.heads_at in let own = c.args.hand.now.own in let passes = ap (λ (z : Layout). z.passes) st.key in let spare_of = ap (λ (z : Layout). z.spare) st.key in let pages = ap (λ (z : Layout). z.pages) st.key in
    let layout = c.requires.own.1 in let pages' = ap (λ (z : Layout). z.pages) layout in let spare' = ap (λ (z : Layout). z.spare) layout in let passes' = ap (λ (z : Layout). z.passes) layout in (
      search rules,
      omega arith,
      compares _ _ _ g.M.TellPlay.tells _ _ _ _ _ c.requires.running.1 (c.requires.own.1 ∙ sym st.key)
          (λ k kept at equal.
          let same : c.args.page ≡ kept.page = omega arith in (
            omega arith,
            subst (λ (z : (Layout × ℕ) × ℕ). Implies g.R.PageRule.holds z.0.0 z.0.1 c.args.hand.now.seat.me.0.known z.1 kept.version g.M.TellPlay.tells) (λ i. ((sym st.key i, own.0 i), same i)) (c.requires.rule kept.version),
          )) (live_hand c.args.hand.now),
    )

pub returns-then-frame-frames-clause-tells : goal.returns-then-frame-frames-clause-tells
returns-then-frame-frames-clause-tells g c hit version keeps =
    let st = c.args.self.now in let heads = st.heads_at in let at = st.firsts_at in let layout = c.requires.own.1 in let pages = ap (λ (z : Layout). z.pages) layout in let spare = ap (λ (z : Layout). z.spare) layout in let passes = ap (λ (z : Layout). z.passes) layout in
    let same : st.firsts + 32 * (c.load-found.result - 1) ≡ c.args.glance.first = eqb-true _ _ hit in
    let some_frame = c.if-found-eq0.false in
    let first = keeps.3 in
    c.load-found.ensures.2.1 keeps.0 (look c.args.page keeps.1 version) keeps.2 (omega arith) (omega arith)
