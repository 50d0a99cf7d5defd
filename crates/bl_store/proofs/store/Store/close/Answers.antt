use Rattle.std.proofs.Common.{rules, arith, ℕ, ◌≡◌, ◌<◌, ◌≤◌, List, [], ◌∷◌, ◌++◌, length, ap, sym, refl, subst, ◌∙◌, inl, inr, get_or}
use mathlib.Core.Option.{some, some-ne-none}
use lib.ListN.{get_elem?}
use Rattle.std.specs.Slots.{slots_items}
use Rattle.atomic_table.specs.Table.{Me, Final, Seen}
use Rattle.atomic_table.proofs.Lists.{at_last}
use Rattle.bl_layout.specs.declared.layout.Layout.{Layout}
use Rattle.bl_layout.specs.Words.{frame_count}
use Rattle.bl_store_rule.specs.Frames.{IsLive, Kept, page_at, joined, taking_in}
use Rattle.bl_store.specs.Hands.{known}
use Rattle.bl_store.specs.declared.store.Hand.{Hand}
use Rattle.bl_store_rule.specs.declared.view.View.{View}
use Rattle.bl_store.proofs.Ending.{IsWith, left_on, with_more, still_there, last_taken, framed, closes}
use Rattle.bl_store_rule.proofs.Joining.{takes_in}
use Rattle.bl_store_rule.proofs.Lists.{at_below}
use Rattle.bl_store.proofs.Living.{live_hand}
use Rattle.bl_store.proofs.store.Store.close.Goals as goal

pub loop-other-init : goal.loop-other-init
loop-other-init g c = let all : List (Hand g.row.D.Denot) = c.args.hands.items in let rest : List (Hand g.row.D.Denot) = c.pop.new.self.items in let last : Hand g.row.D.Denot = c.in-Some.field-0 in let is : all ≡ rest ++ last ∷ [] = c.in-Some.ensures.items in
    let at : get_elem? all (length rest) ≡ some last = ap (λ (z : List (Hand g.row.D.Denot)). get_elem? z (length rest)) is ∙ at_last rest last (length rest) refl in let own = c.requires.own (length rest) last at in record {
      table = own.0.0;
      layout = own.0.1;
      live = live_hand last;
      unsealed = last.own.2;
      idle = own.1;
      there = still_there all all rest last is (λ k h e. e);
      taken = last_taken all all rest last last.seat.me.0 is (λ k h e. e) (inl (sym last.own.0, refl)) (λ k h low e. let below = at_below all k h e in absurd (omega arith));
    }

pub join_seat-requires : goal.join_seat-requires
join_seat-requires g c = let wide = c.args.self.wide in let inv = c.loop-other.invariant in let hands : List (Hand g.row.D.Denot) = c.loop-other.hands.items in let rest : List (Hand g.row.D.Denot) = c.pop-in-loop-other.new.self.items in let last : Hand g.row.D.Denot = c.in-Some-pop.other in
    let is : hands ≡ rest ++ last ∷ [] = c.in-Some-pop.ensures.items in let at : get_elem? hands (length rest) ≡ some last = ap (λ (z : List (Hand g.row.D.Denot)). get_elem? z (length rest)) is ∙ at_last rest last (length rest) refl in
    let own = c.requires.own (length rest) last (inv.there (length rest) last at) in (inv.table, own.0.0, last.own.3, omega arith, takes_in _ _ _ g.R.PageRule.gone _ _ c.loop-other.seat.me.0 last.seat.me.0 inv.live (live_hand last) own.1 last.own.2)

pub loop-other-preserved : goal.loop-other-preserved
loop-other-preserved g c = let inv = c.loop-other.invariant in let all : List (Hand g.row.D.Denot) = c.args.hands.items in let hands : List (Hand g.row.D.Denot) = c.loop-other.hands.items in let rest : List (Hand g.row.D.Denot) = c.pop-in-loop-other.new.self.items in let last : Hand g.row.D.Denot = c.in-Some-pop.other in
    let is : hands ≡ rest ++ last ∷ [] = c.in-Some-pop.ensures.items in let e = c.join_seat.ensures in let v : View g.row.D.Denot = c.loop-other.seat.me.0 in let w : View g.row.D.Denot = last.seat.me.0 in
    let view : c.join_seat.new.seat.me.0 ≡ taking_in v w = ap (λ (m : Me (Unit {0}) (View g.row.D.Denot)). m.0) e.2 in record {
      table = e.0 ∙ inv.table;
      layout = ap (λ (z : View g.row.D.Denot). z.layout) view ∙ inv.layout;
      live = subst (λ (z : View g.row.D.Denot). IsLive z) (sym view) inv.live;
      unsealed = ap (λ (z : View g.row.D.Denot). z.sealing) view ∙ inv.unsealed;
      idle = ap (λ (z : View g.row.D.Denot). z.stamp) view ∙ inv.idle;
      there = still_there all hands rest last is inv.there;
      taken = last_taken all hands rest last c.join_seat.new.seat.me.0 is inv.there
          (subst (λ (z : View g.row.D.Denot). IsWith z last.number (known last.seat)) (sym view) (inr (0, ap (λ (z : ℕ). some (joined z w.known)) (sym last.own.0))))
          (λ k h low at. subst (λ (z : View g.row.D.Denot). IsWith z h.number (known h.seat)) (sym view) (with_more v w h.number (known h.seat) (inv.taken k h low at)));
    }

pub loop-page-init : goal.loop-page-init
loop-page-init g c = let st = c.args.self in let e = c.close_with-closed.ensures in record {
  layout = refl;
  full = (e.values.0, e.counts.0 ∙ st.wide);
  bare = e.counts.1 ∙ st.bare;
  frames = subst (λ (z : Layout). (x : ℕ) → x < z.pages → get_or (slots_items c.close_with-closed.result.words) (page_at z x) 0 ≤ frame_count z) st.key (framed _ c.args.self.table.shared.key.known.value g.R.PageRule.holds _ _ _ _ e.values.2);
  size = ap length c.requires.room.0;
  roomy = c.requires.room.1;
  left = λ x words at. absurd (some-ne-none words (sym at ∙ ap (λ (z : List (List ℕ)). get_elem? z x) c.requires.room.0));
}

pub loop-page-preserved : goal.loop-page-preserved
loop-page-preserved g c = let inv = c.loop-page.invariant in let e = c.push_reserved.ensures in let w = c.last_words.ensures in let size = inv.size in record {
  layout = inv.layout;
  full = inv.full;
  bare = inv.bare;
  frames = inv.frames;
  size = search rules;
  roomy = search rules;
  left = left_on _ _ c.loop-page.page c.loop-page.room.items c.push_reserved.new.self.items c.last_words.result e.items inv.size record { long = search rules; gone = w.gone; here = w.here } inv.left;
}

pub returns : goal.returns
returns g c = let st = c.args.self in let inv = c.loop-other.invariant in let page = c.loop-page.invariant in let e = c.close_with-closed.ensures in let none : length c.loop-other.hands.items ≡ 0 = search rules in let auto = c.loop-page.auto in let over = c.loop-page-test.false in
    let final : Final (Seen (Kept {S = Unit {0}} st.layout st.table.shared.key.known.value g.R.PageRule.holds) c.loop-other.seat.id c.loop-other.seat.me.0) (slots_items c.close_with-closed.result.words) (slots_items c.close_with-closed.result.slots)
    = subst (λ (z : Layout). Final (Seen (Kept {S = Unit {0}} z st.table.shared.key.known.value g.R.PageRule.holds) c.loop-other.seat.id c.loop-other.seat.me.0) (slots_items c.close_with-closed.result.words) (slots_items c.close_with-closed.result.slots)) st.key e.values.2 in
    closes st.layout st.table.shared.key.known.value g.R.PageRule.holds c.loop-other.seat.id c.loop-other.seat.me.0 _ _ c.args.hands.items c.loop-page.room.items inv.live inv.idle inv.unsealed final c.requires.all (λ k h at. inv.taken k h (omega arith) at) (page.size ∙ omega arith) page.left
