use Rattle.std.proofs.Common.{◌≡◌, ◌+◌, ◌-◌, ◌*◌, ◌^◌, ◌≤◌}
use Rattle.bl_load.specs.Sizes.{pages_above, pages_on_top}
use Rattle.bl_load.proofs.size.above_of.Given as goal

abbrev pub invariant-loop-level : goal.invariant-loop-level
invariant-loop-level l = record {
  pages : l.pages + pages_above (l.levels - l.level) l.fan l.top ≡ pages_above l.levels l.fan l.count;
  top : pages_on_top (l.levels - l.level) l.fan l.top ≡ pages_on_top l.levels l.fan l.count;
  few : l.pages ≤ 2 ^ 64 * l.level;
  small : l.top ≤ 2 ^ 64;
}
