use Rattle.std.proofs.Common.{◌≡◌, length}
use Rattle.std.specs.Prelude.{take}
use Rattle.bl_index.specs.Calls.{first_of, IsSamePass, number_of, trail}
use Rattle.bl_map_calls.specs.Many.{WritesMany}
use Rattle.bl_map_calls.proofs.Writing.{AllHadRoom}
use Rattle.bl_map_calls.proofs.many.write.Given as goal

abbrev pub invariant-loop-i : goal.invariant-loop-i
invariant-loop-i g l = record {
  same : IsSamePass l.fn.pass l.pass;
  long : length l.replies ≡ length l.list;
  room : AllHadRoom l.i l.replies;
  writes : WritesMany (first_of l.index) (number_of l.fn.pass) g.A.Asks.asked (take l.i l.list) (take l.i l.replies) l.fn.waiting l.waiting (trail l.fn.pass) (trail l.pass);
}
