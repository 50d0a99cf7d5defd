use Rattle.std.proofs.Common.{◌≡◌, ◌≤◌}
use Rattle.bl_map_tries.proofs.walking.Walk.next_thin.Given as goal

abbrev pub invariant-loop-page : goal.invariant-loop-page
invariant-loop-page l = record {
  at : l.self.next ≡ l.page;
  kept : (l.self.refused ≡ l.fn.self.refused) × (l.self.dropped ≡ l.fn.self.dropped);
  on : l.fn.self.next ≤ l.self.next;
  most : l.fn.self.next ≤ l.to → l.self.next ≤ l.to;
}
