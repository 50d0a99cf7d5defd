use Rattle.std.proofs.Common.{◌≡◌, ◌+◌, length}
use Rattle.bl_index.specs.Opened.{AreNew, ArePasses}
use Rattle.bl_index.proofs.opening.passes_of.Given as goal

abbrev pub invariant-loop-number : goal.invariant-loop-number
invariant-loop-number l = record {
  left : length l.hands.items + l._number ≡ l.count;
  hands : AreNew l.store.table.shared.table_id l.store.layout l.first l._number l.hands.items;
  passes : ArePasses l.store.table.shared.table_id l.store.layout l.first l._number l.passes.items;
}
