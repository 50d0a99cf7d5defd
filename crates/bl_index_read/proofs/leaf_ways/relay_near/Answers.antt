use Rattle.std.proofs.Common.{rules, Some, arith}
use Rattle.bl_index_read.proofs.Ways.{begins, unborn, starts, starts_near}
use Rattle.bl_index_read.proofs.Setting.{begun_on}
use Rattle.bl_index_read.proofs.leaf_ways.relay_near.Goals as goal

pub relaunch_keeping-requires-clause-next : goal.relaunch_keeping-requires-clause-next
relaunch_keeping-requires-clause-next c = begins c.args.sought c.args.key (Some c.args.page)

pub relaunch_keeping-requires-clause-unborn : goal.relaunch_keeping-requires-clause-unborn
relaunch_keeping-requires-clause-unborn c = unborn c.args.sought c.args.key (Some c.args.page) (omega arith)

pub relaunch_keeping-requires-clause-course : goal.relaunch_keeping-requires-clause-course
relaunch_keeping-requires-clause-course c = starts c.args.sought c.args.key (Some c.args.page)

pub returns-clause-runs : goal.returns-clause-runs
returns-clause-runs c = record {
  own = search rules;
  running = search rules;
  on = begun_on _ _ c.args.sought c.args.key (Some c.args.page) _ _ c.relaunch_keeping.ensures.observed.2 _ (starts_near c.args.sought c.args.key c.args.page);
}
