use Rattle.bl_index.specs.Calls.{first_of, pages_of, IsSamePass, number_of, trail}
use Rattle.bl_map_calls.proofs.TryByTry.{HasTried}
use Rattle.bl_map_calls.proofs.updating.update.Given as goal

abbrev pub invariant-loop : goal.invariant-loop
invariant-loop g l = record {
  same : IsSamePass l.fn.pass l.pass;
  callable : goal.F-IsAlwaysCallable g l.give;
  so_far : HasTried (λ f v w h. goal.F-step g f v w h) (first_of l.index) (pages_of l.index) (number_of l.fn.pass) l.key l.value l.fn.give l.give
      l.fn.waiting l.waiting (trail l.fn.pass) (trail l.pass);
}
