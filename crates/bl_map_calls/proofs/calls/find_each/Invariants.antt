use Rattle.std.proofs.Common.{◌≡◌, length}
use Rattle.std.specs.Prelude.{take}
use Rattle.bl_index.specs.Calls.{first_of, pages_of, IsSamePass, number_of, trail}
use Rattle.bl_map_calls.specs.Finds.{FindsMany}
use Rattle.bl_map_calls.proofs.calls.find_each.Given as goal

abbrev pub invariant-loop-i : goal.invariant-loop-i
invariant-loop-i g l = record {
  same : IsSamePass l.fn.pass l.pass;
  long : length l.replies ≡ length l.keys;
  found : FindsMany (first_of l.index) (pages_of l.index) (number_of l.fn.pass) (take l.i l.keys) (take l.i l.replies) (trail l.fn.pass) (trail l.pass);
}
