use Rattle.std.proofs.Common.{◌≡◌, ◌≤◌}
use Rattle.bl_check.specs.Reports.{is_unposted, count_below}
use Rattle.bl_check.proofs.counts.unposted.Given as goal

abbrev pub invariant-loop-x : goal.invariant-loop-x
invariant-loop-x l = record {
  counted : l.count ≡ count_below (is_unposted l.pages) l.x;
  few : l.count ≤ l.x;
}
