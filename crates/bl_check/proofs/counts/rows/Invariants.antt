use Rattle.std.proofs.Common.{◌≡◌, ◌≤◌, ◌*◌, take}
use Rattle.std.specs.List.{sum_by}
use Rattle.bl_check.specs.Reports.{rows_in}
use Rattle.bl_check.proofs.counts.rows.Given as goal

abbrev pub invariant-loop-page : goal.invariant-loop-page
invariant-loop-page l = record {
  counted : l.rows ≡ sum_by rows_in (take l.page-index l.pages);
  few : l.rows ≤ 14 * l.page-index;
}
