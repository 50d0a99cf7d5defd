use Rattle.std.proofs.Common.{rules, None, arith}
use Rattle.bl_index_read.proofs.Ways.{begins, unborn, starts, starts_far}
use Rattle.bl_index_read.proofs.Setting.{begun_on}
use Rattle.bl_index_read.proofs.leaf_ways.renew_far.Goals as goal

pub relaunch-requires-clause-next : goal.relaunch-requires-clause-next
relaunch-requires-clause-next c = begins c.args.sought c.args.key None

pub relaunch-requires-clause-unborn : goal.relaunch-requires-clause-unborn
relaunch-requires-clause-unborn c = unborn c.args.sought c.args.key None (omega arith)

pub relaunch-requires-clause-course : goal.relaunch-requires-clause-course
relaunch-requires-clause-course c = starts c.args.sought c.args.key None

pub returns-clause-runs : goal.returns-clause-runs
returns-clause-runs c = record {
  own = search rules;
  running = search rules;
  on = begun_on _ _ c.args.sought c.args.key None _ _ c.relaunch.ensures.observed.2 _ (starts_far c.args.sought c.args.key);
}
