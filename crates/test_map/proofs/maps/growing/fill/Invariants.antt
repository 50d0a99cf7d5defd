use Rattle.bl_map.specs.Maps.{IsHandleOf}
use Rattle.test_map.proofs.maps.growing.fill.Given as goal

abbrev pub invariant-loop-key : goal.invariant-loop-key
invariant-loop-key g l = IsHandleOf l.map l.handle
