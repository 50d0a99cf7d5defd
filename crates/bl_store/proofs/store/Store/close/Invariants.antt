use Rattle.std.proofs.Common.{◌≡◌, ℕ, ◌≤◌, ◌<◌, List, length, vec_capacity, get_or}
use mathlib.Core.Option.{some}
use lib.ListN.{get_elem?}
use Rattle.std.specs.Slots.{slots_items, slots_len, IsFull}
use Rattle.bl_layout.specs.Words.{frame_count}
use Rattle.bl_layout.specs.Cells.{cell_count}
use Rattle.bl_store_rule.specs.Frames.{IsLive, page_at}
use Rattle.bl_store.specs.Hands.{known}
use Rattle.bl_store.specs.declared.store.Hand.{Hand}
use Rattle.bl_store_rule.specs.declared.view.Stamp.TheVariants.{Out}
use Rattle.bl_store_rule.specs.declared.view.Sealing.TheVariants.{Unsealed}
use Rattle.bl_store.proofs.Ending.{IsWith, IsLeft}
use Rattle.bl_store.proofs.store.Store.close.Given as goal

abbrev pub invariant-loop-other : goal.invariant-loop-other
invariant-loop-other g l = record {
  table : l.seat.table_id ≡ l.fn.self.table.shared.table_id;
  layout : l.seat.me.0.layout ≡ l.fn.self.layout;
  live : IsLive l.seat.me.0;
  unsealed : l.seat.me.0.sealing ≡ Unsealed;
  idle : l.seat.me.0.stamp ≡ Out;
  there : (k : ℕ) (h : Hand g.row.D.Denot) → get_elem? l.hands.items k ≡ some h → get_elem? l.fn.hands.items k ≡ some h;
  taken : (k : ℕ) (h : Hand g.row.D.Denot) → length l.hands.items ≤ k → get_elem? l.fn.hands.items k ≡ some h → IsWith l.seat.me.0 h.number (known h.seat);
}

abbrev pub decreases-loop-other : goal.decreases-loop-other
decreases-loop-other g l = goal.left-loop-other g l

abbrev pub invariant-loop-page : goal.invariant-loop-page
invariant-loop-page g l = record {
  layout : l.layout ≡ l.fn.self.layout;
  full : IsFull l.closed.words × (slots_len l.closed.words ≡ cell_count l.layout);
  bare : slots_len l.closed.slots ≡ 0;
  frames : (x : ℕ) → x < l.layout.pages → get_or (slots_items l.closed.words) (page_at l.layout x) 0 ≤ frame_count l.layout;
  size : length l.room.items ≡ l.page;
  roomy : l.layout.pages ≤ vec_capacity l.room;
  left : (x : ℕ) (words : List ℕ) → get_elem? l.room.items x ≡ some words → IsLeft (slots_items l.closed.words) l.layout x words;
}
