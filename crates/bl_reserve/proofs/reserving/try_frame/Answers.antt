use Rattle.std.proofs.Common.{rules, arith, ◌≡◌, ℕ, ◌+◌, ◌<◌, List, [], ◌∷◌, length, slice_index, set, sym, ap, subst, ◌∙◌, inl, inr, ⊎_elim, refl}
use Rattle.bl_layout.specs.declared.layout.Layout.{Layout}
use Rattle.bl_layout.specs.Words.{frame_count}
use Rattle.bl_store_rule.specs.Frames.{state_at}
use Rattle.bl_store_rule.specs.Observed.{draft}
use Rattle.bl_store_rule.specs.declared.view.Draft.{Draft}
use Rattle.bl_store_rule.proofs.Reserving.{notes, reserves}
use Rattle.bl_reserve.proofs.StockLemmas.{drafts_push, within_push, has_same, has_more, has_new}
use Rattle.bl_store.proofs.Living.{live_hand, live_on}
use Rattle.bl_reserve.proofs.reserving.try_frame.Goals as goal

pub load-requires : goal.load-requires
load-requires g c = let st = c.args.store.now in let wide = st.wide in (search rules, omega arith, notes _ _ _ _ _ _ _ (live_hand c.args.hand.now))

pub compare_exchange-found-requires : goal.compare_exchange-found-requires
compare_exchange-found-requires g c = let st = c.args.store.now in let wide = st.wide in let own = c.args.hand.now.own in let e = c.load.ensures.2.0 in let number : c.args.hand.now.number ≡ c.load.new.seat.me.0.number = own.0 ∙ sym e.0.1 in
    let passes = ap (λ (z : Layout). z.passes) st.key in let spare_of = ap (λ (z : Layout). z.spare) st.key in let pages = ap (λ (z : Layout). z.pages) st.key in let spare_of = ap (λ (z : Layout). z.spare) st.key in
    (search rules, omega arith, reserves _ _ _ _ _ _ _ c.args.frame _ (omega arith) (omega arith) (omega arith) (e.0.0 ∙ (c.requires.own.1 ∙ sym st.key)) (live_on c.args.hand.now c.load.new.seat.me e.0.0 e.0.1))

pub returns-then-found-eq0-clause-stock : goal.returns-then-found-eq0-clause-stock
returns-then-found-eq0-clause-stock g c = let e = c.load.ensures.2.0 in let f = c.compare_exchange-found.ensures.2 in let layout = e.0.0 ∙ c.requires.own.1 in let passes = ap (λ (z : Layout). z.passes) layout in let spare_of = ap (λ (z : Layout). z.spare) layout in let pages = ap (λ (z : Layout). z.pages) layout in let spare_of = ap (λ (z : Layout). z.spare) layout in
    let t = (f.4 c.args.frame (omega arith)).0 c.if-found-eq0.true in let was = c.requires.stock.0 in let fs : List ℕ = c.args.stock.now.frames in let n : ℕ = c.args.stock.now.count in
    let size : length fs ≡ 3 = search rules in let less = c.requires.stock.1 in let puts = f.3.0 in let puts' = e.2.1 in let enough = c.requires.stock.2 in
    let same : c.compare_exchange-found.new.seat.me.0.layout ≡ c.args.hand.now.seat.me.0.layout = f.0.0 ∙ e.0.0 in let total : frame_count c.compare_exchange-found.new.seat.me.0.layout ≡ frame_count c.args.hand.now.seat.me.0.layout = ap (λ (z : Layout). frame_count z) same in
    let all : frame_count c.args.hand.now.seat.me.0.layout ≡ frame_count c.args.store.now.layout = ap (λ (z : Layout). frame_count z) c.requires.own.1 in (
      record {
        frames = t.0 ∙ (ap (λ (z : List Draft). draft c.args.frame [] ∷ z) (e.2.0 ∙ was.frames) ∙ sym (drafts_push fs n c.args.frame (omega arith)));
        ticks = omega arith;
        few = omega arith;
        within = subst (λ (z : ℕ). (k : ℕ) → k < n + 1 → slice_index (set fs n c.args.frame) k < z) (sym total) (within_push fs n c.args.frame (frame_count c.args.hand.now.seat.me.0.layout) (omega arith) (omega arith) was.within);
      },
      omega arith,
      omega arith,
    )

pub returns-then-found-eq0-clause-tried : goal.returns-then-found-eq0-clause-tried
returns-then-found-eq0-clause-tried g c = let e = c.load.ensures.2.0 in let f = c.compare_exchange-found.ensures.2 in let layout = e.0.0 ∙ c.requires.own.1 in let passes = ap (λ (z : Layout). z.passes) layout in let spare_of = ap (λ (z : Layout). z.spare) layout in let pages = ap (λ (z : Layout). z.pages) layout in let spare_of = ap (λ (z : Layout). z.spare) layout in
    let t = (f.4 c.args.frame (omega arith)).0 c.if-found-eq0.true in inl (has_new _ _ _ _ t.2 refl)

pub returns-then-found-eq0-clause-kept : goal.returns-then-found-eq0-clause-kept
returns-then-found-eq0-clause-kept g c = let e = c.load.ensures.2 in let f = c.compare_exchange-found.ensures.2 in let layout = e.0.0.0 ∙ c.requires.own.1 in let passes = ap (λ (z : Layout). z.passes) layout in let spare_of = ap (λ (z : Layout). z.spare) layout in let pages = ap (λ (z : Layout). z.pages) layout in let spare_of = ap (λ (z : Layout). z.spare) layout in
    let t = (f.4 c.args.frame (omega arith)).0 c.if-found-eq0.true in let same = f.0.0 ∙ e.0.0.0 in
    λ x. ⊎_elim (λ h. inl (has_more _ _ _ _ _ t.2 refl (has_same _ _ _ _ e.3 refl h))) (λ h. inr (has_same _ _ _ _ (t.1 ∙ e.2 c.if-load-ne0.false) (ap (λ (z : Layout). state_at z x) (sym same)) h))

pub returns-else-found-eq0-clause-stock : goal.returns-else-found-eq0-clause-stock
returns-else-found-eq0-clause-stock g c = let e = c.load.ensures.2.0 in let f = c.compare_exchange-found.ensures.2 in let layout = e.0.0 ∙ c.requires.own.1 in let passes = ap (λ (z : Layout). z.passes) layout in let spare_of = ap (λ (z : Layout). z.spare) layout in let pages = ap (λ (z : Layout). z.pages) layout in let spare_of = ap (λ (z : Layout). z.spare) layout in
    let t = (f.4 c.args.frame (omega arith)).1 c.if-found-eq0.false in let was = c.requires.stock.0 in let ticks = was.ticks in let puts = f.3.0 in let puts' = e.2.1 in
    let same : c.compare_exchange-found.new.seat.me.0.layout ≡ c.args.hand.now.seat.me.0.layout = f.0.0 ∙ e.0.0 in (
      record {
        frames = t.0 ∙ (e.2.0 ∙ was.frames);
        ticks = omega arith;
        few = was.few;
        within = subst (λ (z : Layout). (k : ℕ) → k < c.args.stock.now.count → slice_index c.args.stock.now.frames k < frame_count z) (sym same) was.within;
      },
      omega arith,
      omega arith,
    )

pub returns-else-found-eq0-clause-tried : goal.returns-else-found-eq0-clause-tried
returns-else-found-eq0-clause-tried g c = let e = c.load.ensures.2.0 in let f = c.compare_exchange-found.ensures.2 in let layout = e.0.0 ∙ c.requires.own.1 in let passes = ap (λ (z : Layout). z.passes) (f.0.0 ∙ layout) in let spare_of = ap (λ (z : Layout). z.spare) (f.0.0 ∙ layout) in let pages = ap (λ (z : Layout). z.pages) (f.0.0 ∙ layout) in let spare_of = ap (λ (z : Layout). z.spare) (f.0.0 ∙ layout) in
    let passes' = ap (λ (z : Layout). z.passes) layout in let pages' = ap (λ (z : Layout). z.pages) layout in
    let t = (f.4 c.args.frame (omega arith)).1 c.if-found-eq0.false in inr (has_new _ _ _ _ t.1 (omega arith))

pub returns-else-found-eq0-clause-kept : goal.returns-else-found-eq0-clause-kept
returns-else-found-eq0-clause-kept g c = let e = c.load.ensures.2 in let f = c.compare_exchange-found.ensures.2 in let layout = e.0.0.0 ∙ c.requires.own.1 in let passes = ap (λ (z : Layout). z.passes) layout in let spare_of = ap (λ (z : Layout). z.spare) layout in let pages = ap (λ (z : Layout). z.pages) layout in let spare_of = ap (λ (z : Layout). z.spare) layout in
    let t = (f.4 c.args.frame (omega arith)).1 c.if-found-eq0.false in let same = f.0.0 ∙ e.0.0.0 in
    λ x. ⊎_elim (λ h. inl (has_same _ _ _ _ (t.2 ∙ e.3) refl h)) (λ h. inr (has_more _ _ _ _ _ t.1 (ap (λ (z : Layout). state_at z x) (sym same)) (has_same _ _ _ _ (e.2 c.if-load-ne0.false) refl h)))

pub returns-then-found-eq0-clause-got : goal.returns-then-found-eq0-clause-got
returns-then-found-eq0-clause-got g c = let e = c.load.ensures.2 in let f = c.compare_exchange-found.ensures.2 in let layout = e.0.0.0 ∙ c.requires.own.1 in let passes = ap (λ (z : Layout). z.passes) layout in let spare_of = ap (λ (z : Layout). z.spare) layout in let pages = ap (λ (z : Layout). z.pages) layout in let spare_of = ap (λ (z : Layout). z.spare) layout in
    let t = (f.4 c.args.frame (omega arith)).0 c.if-found-eq0.true in let more = ap length t.2 in let same = ap length e.3 in omega arith

pub returns-else-found-eq0-clause-got : goal.returns-else-found-eq0-clause-got
returns-else-found-eq0-clause-got g c = let e = c.load.ensures.2 in let f = c.compare_exchange-found.ensures.2 in let layout = e.0.0.0 ∙ c.requires.own.1 in let passes = ap (λ (z : Layout). z.passes) layout in let spare_of = ap (λ (z : Layout). z.spare) layout in let pages = ap (λ (z : Layout). z.pages) layout in let spare_of = ap (λ (z : Layout). z.spare) layout in
    let t = (f.4 c.args.frame (omega arith)).1 c.if-found-eq0.false in let more = ap length t.2 in let same = ap length e.3 in omega arith

pub returns-then-load-ne0 : goal.returns-then-load-ne0
returns-then-load-ne0 g c = let e = c.load.ensures in let was = c.requires.stock.0 in let layout = e.2.0.0.0 ∙ c.requires.own.1 in let passes = ap (λ (z : Layout). z.passes) layout in let spare_of = ap (λ (z : Layout). z.spare) layout in let pages = ap (λ (z : Layout). z.pages) layout in let spare_of = ap (λ (z : Layout). z.spare) layout in let enough = was.ticks in let puts = e.2.0.2.1 in
    let seen = e.2.1 c.if-load-ne0.true (λ zero. omega arith) in record {
      same = ((e.0, e.2.0.0.0, e.2.0.0.1, e.2.0.1, e.2.0.3, e.2.0.2.1, e.2.0.2.2), refl);
      stock = (
        record {
          frames = e.2.0.2.0 ∙ was.frames;
          ticks = omega arith;
          few = was.few;
          within = subst (λ (z : Layout). (k : ℕ) → k < c.args.stock.now.count → slice_index c.args.stock.now.frames k < frame_count z) (sym e.2.0.0.0) was.within;
        },
        omega arith,
        omega arith,
      );
      got = (let same = ap length e.2.3 in omega arith);
      tried = inr (has_new _ _ _ _ seen (omega arith));
      kept = λ x. ⊎_elim (λ h. inl (has_same _ _ _ _ e.2.3 refl h)) (λ h. inr (has_more _ _ _ _ _ seen (ap (λ (z : Layout). state_at z x) (sym e.2.0.0.0)) h));
      reads = e.2.4;
    }
