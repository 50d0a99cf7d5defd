use Rattle.std.proofs.Common.{◌≡◌, length}
use Rattle.bl_load.specs.Trees.{fan_for, IsBegun}
use Rattle.bl_load.proofs.Ordering.{IsOrdered}
use Rattle.bl_load.proofs.building.Tree.add_level.Given as goal

abbrev pub invariant-pages : goal.invariant-pages
invariant-pages l = record {
  begun : IsBegun l.fn.fill l.fn.level l.fn.self.pages.items l.fn.self.leftmost.items l.fn.pairs l.self.pages.items l.rest l.entries.items l.high l.right;
  ordered : IsOrdered (fan_for l.fn.fill l.fn.level) l.fn.level (length l.fn.self.pages.items) l.fn.pairs (length l.self.pages.items) l.rest l.entries.items l.high;
  leftmost : l.self.leftmost.items ≡ l.fn.self.leftmost.items;
  most : l.self.most ≡ l.fn.self.most;
}

abbrev pub decreases-pages : goal.decreases-pages
decreases-pages l = length l.rest
