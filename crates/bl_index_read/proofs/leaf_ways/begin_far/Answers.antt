use Rattle.std.proofs.Common.{rules, None, arith}
use Rattle.bl_index_read.proofs.Ways.{begins, unborn, starts, starts_far}
use Rattle.bl_index_read.proofs.Setting.{begun_on}
use Rattle.bl_index_read.proofs.leaf_ways.begin_far.Goals as goal

pub begin_as-requires-clause-next : goal.begin_as-requires-clause-next
begin_as-requires-clause-next c = begins c.args.sought c.args.key None

pub begin_as-requires-clause-unborn : goal.begin_as-requires-clause-unborn
begin_as-requires-clause-unborn c = unborn c.args.sought c.args.key None (omega arith)

pub begin_as-requires-clause-course : goal.begin_as-requires-clause-course
begin_as-requires-clause-course c = starts c.args.sought c.args.key None

pub returns-clause-runs : goal.returns-clause-runs
returns-clause-runs c = record {
  own = search rules;
  running = search rules;
  on = begun_on _ _ c.args.sought c.args.key None _ _ c.begin_as.ensures.observed _ (starts_far c.args.sought c.args.key);
}
