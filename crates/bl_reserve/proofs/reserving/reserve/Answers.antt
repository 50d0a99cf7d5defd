use Rattle.std.proofs.Common.{rules, arith, ◌≡◌, ℕ, ◌<◌, ◌≤◌, ap, sym, subst, ◌∙◌, inl, inr, ⊎_elim, length, slice_index, refl}
use Rattle.bl_layout.specs.declared.layout.Layout.{Layout}
use Rattle.bl_layout.specs.Words.{frame_count}
use Rattle.bl_store_rule.specs.Pages.{Takes, Refuses}
use Rattle.bl_store_rule.specs.Frames.{state_at}
use Rattle.bl_store_rule.proofs.Reserving.{allots}
use Rattle.bl_reserve.proofs.StockLemmas.{has_same}
use Rattle.bl_store.proofs.Living.{live_hand}
use Rattle.bl_store.specs.declared.stock.NoRoom.TheVariants.{Frames}
use Rattle.bl_reserve.proofs.reserving.reserve.Goals as goal

pub load-clock-requires : goal.load-clock-requires
load-clock-requires g c = let wide = c.args.store.now.wide in (search rules, omega arith, allots _ _ _ _ _ _ _ (search rules) (live_hand c.prepare.new.hand))

pub returns-then-stock-frames-clause-why : goal.returns-then-stock-frames-clause-why
returns-then-stock-frames-clause-why g c = let less = c.if-stock-frames.true in let seen = c.refuse-then-stock-frames.ensures.stock.1 ∙ c.give_back.ensures.same.1 in
    let layout = c.refuse-then-stock-frames.ensures.same.0.1 ∙ c.give_back.ensures.same.0.1 in let total = ap (λ (z : Layout). frame_count z) layout in
    let got = c.refuse-then-stock-frames.ensures.stock.2 ∙ c.give_back.ensures.same.2 in let first = ap length (c.load-clock.ensures.2.4 (omega arith)).3 in let count = c.reserve_frames.ensures.got in let now = ap length got in (
      omega arith,
      λ f low. ⊎_elim (λ h. inl (has_same _ _ _ _ got refl h)) (λ h. inr (has_same _ _ _ _ seen (ap (λ (z : Layout). state_at z f) (sym layout)) h)) (c.reserve_frames.ensures.seen less f (omega arith)),
    )

pub returns-then-stock-frames-clause-asked : goal.returns-then-stock-frames-clause-asked
returns-then-stock-frames-clause-asked g c = (c.refuse-then-stock-frames.ensures.refused, (Frames, returns-then-stock-frames-clause-why g c))

pub take-stock-requires-clause-takes : goal.take-stock-requires-clause-takes
take-stock-requires-clause-takes g c = let e = c.load-clock.ensures.2 in let same = c.reserve_frames.ensures.same.0 in let first = c.prepare.ensures.same in
    let number : c.args.hand.now.number ≡ c.reserve_frames.new.hand.number = c.args.hand.now.own.0 ∙ (sym first.0.2 ∙ (sym e.0.1 ∙ (sym same.2 ∙ sym c.reserve_frames.new.hand.own.0))) in
    let few = c.requires.few.0 in let some_page = c.if-pages-gt0.true in let one : c.args.pages ≡ 1 = omega arith in
    λ x. subst (λ (z : ℕ × g.row.D.Denot). Takes g.R.PageRule.holds c.args.store.now.layout z.0 z.1 x g.T.PagePlay.then) (λ i. (number i, sym (same.4 ∙ (e.2 ∙ first.3)) i)) (c.requires.takes one x)

pub refuse-requires-clause-refuses : goal.refuse-requires-clause-refuses
refuse-requires-clause-refuses g c = let e = c.load-clock.ensures in let s = c.prepare.ensures.same in let number : c.args.hand.now.number ≡ c.prepare.new.hand.number = c.args.hand.now.own.0 ∙ (sym s.0.2 ∙ sym c.prepare.new.hand.own.0) in
    subst (λ (z : ℕ × g.row.D.Denot). Refuses g.R.PageRule.holds c.args.store.now.layout z.0 z.1 g.M.TimePlay.then) (λ i. (number i, sym (e.2.2 ∙ s.3) i)) c.requires.refuses

pub reserve_frames-requires-clause-wanted : goal.reserve_frames-requires-clause-wanted
reserve_frames-requires-clause-wanted g c = let e = c.load-clock.ensures in let few = c.requires.few.1 in let puts = (e.2.4 (omega arith)).0 in (omega arith, omega arith)

pub reserve_frames-requires-clause-stock : goal.reserve_frames-requires-clause-stock
reserve_frames-requires-clause-stock g c = let e = c.load-clock.ensures in let s = c.prepare.ensures.same in (record { frames = e.2.3 ∙ (s.2.0 ∙ c.requires.empty); ticks = omega arith; few = omega arith; within = λ k low. absurd (omega arith) }, omega arith)

pub refuse-requires-then-stock-frames-clause-refuses : goal.refuse-requires-then-stock-frames-clause-refuses
refuse-requires-then-stock-frames-clause-refuses g c = let e = c.load-clock.ensures in let s = c.prepare.ensures.same in let q = c.reserve_frames.ensures.same.0 in let b = c.give_back.ensures.same.0 in let number : c.args.hand.now.number ≡ c.give_back.new.hand.number = c.args.hand.now.own.0 ∙ (sym s.0.2 ∙ (sym e.2.0.1 ∙ (sym q.2 ∙ (sym b.2 ∙ sym c.give_back.new.hand.own.0)))) in
    subst (λ (z : ℕ × g.row.D.Denot). Refuses g.R.PageRule.holds c.args.store.now.layout z.0 z.1 g.M.TimePlay.then) (λ i. (number i, sym (b.4 ∙ (q.4 ∙ (e.2.2 ∙ s.3))) i)) c.requires.refuses

pub returns-then-stock-frames-clause-refused : goal.returns-then-stock-frames-clause-refused
returns-then-stock-frames-clause-refused g c = let e = c.load-clock.ensures in let s = c.prepare.ensures.same in let q = c.reserve_frames.ensures.same.0 in let b = c.give_back.ensures.same.0 in let observed = c.refuse-then-stock-frames.ensures.observed in
    (c.refuse-then-stock-frames.ensures.stock.0 ∙ c.give_back.ensures.stock, (observed.0, subst (λ (z : g.row.D.Denot). g.M.TimePlay.then z observed.0 c.refuse-then-stock-frames.new.hand.seat.me.0.known) (b.4 ∙ (q.4 ∙ (e.2.2 ∙ s.3))) observed.1))

pub give_back-requires-then-is_none-clause-stock : goal.give_back-requires-then-is_none-clause-stock
give_back-requires-then-is_none-clause-stock g c = let t = c.take-stock.ensures.same in let was = c.reserve_frames.ensures.stock.0 in record {
  frames = t.2.0 ∙ was.frames;
  ticks = subst (λ (n : ℕ). c.reserve_frames.new.stock.count ≤ n) (sym t.2.1) was.ticks;
  few = was.few;
  within = subst (λ (l : Layout). (k : ℕ) → k < c.reserve_frames.new.stock.count → slice_index c.reserve_frames.new.stock.frames k < frame_count l) (sym t.0.1) was.within;
}

pub returns-else-is_none-clause-stock : goal.returns-else-is_none-clause-stock
returns-else-is_none-clause-stock g c = let e = c.load-clock.ensures in let q = c.reserve_frames.ensures.same.0 in let t = c.take-stock.ensures.same in let was = c.reserve_frames.ensures.stock.0 in let few = c.reserve_frames.ensures.stock.1 in let many = c.if-stock-frames.false in (
  record {
    frames = t.2.0 ∙ was.frames;
    ticks = subst (λ (n : ℕ). c.reserve_frames.new.stock.count ≤ n) (sym t.2.1) was.ticks;
    few = was.few;
    within = subst (λ (l : Layout). (k : ℕ) → k < c.reserve_frames.new.stock.count → slice_index c.reserve_frames.new.stock.frames k < frame_count l) (sym t.0.1) was.within;
  },
  omega arith,
  t.2.2 ∙ (q.6 ∙ (e.2.4 (omega arith)).1),
)

pub returns-else-pages-gt0-clause-stock : goal.returns-else-pages-gt0-clause-stock
returns-else-pages-gt0-clause-stock g c = let e = c.load-clock.ensures in let q = c.reserve_frames.ensures.same.0 in let few = c.reserve_frames.ensures.stock.1 in let many = c.if-stock-frames.false in (c.reserve_frames.ensures.stock.0, omega arith, q.6 ∙ (e.2.4 (omega arith)).1)
