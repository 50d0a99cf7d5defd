use Rattle.bl_map.specs.Maps.{AreSeatsOf}
use Rattle.bl_map_work.specs.Rounds.{GrowsByRounds}
use Rattle.bl_map_work.proofs.working.grow_by_rounds.Given as goal

abbrev pub invariant-loop-round : goal.invariant-loop-round
invariant-loop-round g l = record {
  own : AreSeatsOf l.map l.seats.items;
  so_far : GrowsByRounds g.J.Job.Does l.most l.fn.map l.fn.seats.items l.fn.tasks.items l.map l.seats.items l.tasks.items;
}
