use Rattle.std.proofs.Common.{rules, arith, ℕ, ◌-◌, sym, subst, ap, ◌∙◌}
use Rattle.bl_layout.specs.declared.layout.Layout.{Layout}
use Rattle.bl_layout.specs.Words.{frame_count}
use Rattle.bl_store.specs.Drafts.{draft_words, other_drafts}
use Rattle.bl_store_rule.specs.Pages.{Held, Puts}
use Rattle.bl_store_rule.proofs.Putting.{swaps}
use Rattle.bl_store.proofs.Living.{live_hand}
use Rattle.bl_store.proofs.store.Store.name_frame.Goals as goal

pub swap-before-requires : goal.swap-before-requires
swap-before-requires g c = let st = c.args.self.now in let wide = st.wide in let own = c.args.hand.now.own in let passes = ap (λ (z : Layout). z.passes) st.key in let spare_of = ap (λ (z : Layout). z.spare) st.key in let pages = ap (λ (z : Layout). z.pages) st.key in (
  search rules,
  omega arith,
  swaps _ _ _ g.M.PagePlay.then _ _ _ _ c.args.page c.args.frame _ (draft_words c.args.hand.now.seat) (other_drafts c.args.hand.now.seat) (omega arith) (omega arith) (omega arith) (c.requires.own.1 ∙ sym st.key) c.requires.draft.0 c.requires.draft.1
      (subst (λ (z : Layout × ℕ). Puts g.R.PageRule.holds z.0 z.1 c.args.hand.now.seat.me.0.known c.args.page (draft_words c.args.hand.now.seat) g.M.PagePlay.then) (λ i. (sym st.key i, own.0 i)) c.requires.rule) (live_hand c.args.hand.now),
)

pub overflow_cast-before : goal.overflow_cast-before
overflow_cast-before g c = let some_frame = c.if-before-ne0.true in let l = c.args.hand.now.seat.me.0.layout in let pages = l.pages_within.1 in let passes = l.passes_within.1 in let spare = l.spare_within.1 in let t = c.swap-before.ensures.2.4 (c.swap-before.result - 1) (omega arith) in let low = t.0 in omega arith

pub retire_frame-requires-clause-frame : goal.retire_frame-requires-clause-frame
retire_frame-requires-clause-frame g c = let some_frame = c.if-before-ne0.true in let t = c.swap-before.ensures.2.4 (c.swap-before.result - 1) (omega arith) in let low = t.0 in
    let total = ap (λ (z : Layout). frame_count z) c.requires.own.1 in (omega arith, t.1)

pub returns-then-before-ne0-clause-stock : goal.returns-then-before-ne0-clause-stock
returns-then-before-ne0-clause-stock g c = let seat = c.args.hand.now.seat in let e = c.swap-before.ensures.2 in let r = c.retire_frame.ensures in let passes = ap (λ (z : Layout). z.passes) c.requires.own.1 in let spare_of = ap (λ (z : Layout). z.spare) c.requires.own.1 in
    let t = e.3 c.args.page c.args.frame (draft_words seat) (other_drafts seat) (omega arith) c.requires.draft.0 in let a = e.2.0 in let b = r.stock.1 in (r.stock.0 ∙ t.0, omega arith)

pub returns-then-before-ne0-clause-observed : goal.returns-then-before-ne0-clause-observed
returns-then-before-ne0-clause-observed g c = let seat = c.args.hand.now.seat in let e = c.swap-before.ensures.2 in let passes = ap (λ (z : Layout). z.passes) c.requires.own.1 in let spare_of = ap (λ (z : Layout). z.spare) c.requires.own.1 in
    let t = e.3 c.args.page c.args.frame (draft_words seat) (other_drafts seat) (omega arith) c.requires.draft.0 in
    (t.1.0, subst (λ (z : ℕ × g.row.D.Denot). g.M.PagePlay.then seat.me.0.known c.args.page (Held z.0) t.1.0 z.1) (λ i. (sym c.args.hand.now.own.0 i, sym c.retire_frame.ensures.same.2 i)) t.1.1)

pub returns-else-before-ne0-clause-stock : goal.returns-else-before-ne0-clause-stock
returns-else-before-ne0-clause-stock g c = let seat = c.args.hand.now.seat in let e = c.swap-before.ensures.2 in let passes = ap (λ (z : Layout). z.passes) c.requires.own.1 in let spare_of = ap (λ (z : Layout). z.spare) c.requires.own.1 in
    let t = e.3 c.args.page c.args.frame (draft_words seat) (other_drafts seat) (omega arith) c.requires.draft.0 in let a = e.2.0 in (t.0, omega arith)

pub returns-else-before-ne0-clause-observed : goal.returns-else-before-ne0-clause-observed
returns-else-before-ne0-clause-observed g c = let seat = c.args.hand.now.seat in let e = c.swap-before.ensures.2 in let passes = ap (λ (z : Layout). z.passes) c.requires.own.1 in let spare_of = ap (λ (z : Layout). z.spare) c.requires.own.1 in
    let t = e.3 c.args.page c.args.frame (draft_words seat) (other_drafts seat) (omega arith) c.requires.draft.0 in
    (t.1.0, subst (λ (z : ℕ). g.M.PagePlay.then seat.me.0.known c.args.page (Held z) t.1.0 c.swap-before.new.seat.me.0.known) (sym c.args.hand.now.own.0) t.1.1)
