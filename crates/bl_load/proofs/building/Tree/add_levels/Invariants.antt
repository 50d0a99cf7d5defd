use Rattle.std.proofs.Common.{◌≡◌, ◌-◌, get_or, length}
use Rattle.bl_page.specs.Pairs.{RisesFrom, BeginsWith}
use Rattle.bl_check.specs.Rows.{RowsFrom}
use Rattle.bl_load.specs.Trees.{fan_for, IsForest, AreEntries, HasRoomAbove, IsUnlinked}
use Rattle.bl_load.proofs.building.Tree.add_levels.Given as goal

abbrev pub invariant-loop-level : goal.invariant-loop-level
invariant-loop-level l = record {
  forest : IsForest l.fn.fill l.self.pages.items l.self.leftmost.items l.level 0;
  entries : AreEntries l.self.pages.items (l.level - 1) l.entries.items;
  rows : RowsFrom l.self.pages.items (get_or l.self.leftmost.items 0 0) l.fn.rows;
  rising : RisesFrom 0 l.entries.items;
  begins : BeginsWith 0 l.entries.items;
  room : HasRoomAbove (fan_for l.fn.fill 1) (12 - l.level) (length l.self.pages.items) l.fn.self.most (length l.entries.items);
  alone : length l.entries.items ≡ 1 → IsUnlinked l.self.pages.items (get_or l.self.leftmost.items (l.level - 1) 0);
  most : l.self.most ≡ l.fn.self.most;
}
