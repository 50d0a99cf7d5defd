use Rattle.std.proofs.Common.{◌≡◌, ◌+◌}
use Rattle.bl_world.specs.Views.{view_of}
use Rattle.bl_world.proofs.Walks.{Comes}
use Rattle.bl_world.proofs.lists.Lists.walk.Given as goal

abbrev pub invariant-loop-turn : goal.invariant-loop-turn
invariant-loop-turn l = record {
  comes : ∥ Comes (view_of l.self) l.key l.page l.gets ∥₁;
  count : l.gets ≡ l._turn + 1;
}
