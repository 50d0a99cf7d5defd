use Rattle.std.proofs.Common.{suc, ◌-◌, rules, arith}
use Rattle.bl_index.specs.Calls.{first_of, number_of, trail}
use Rattle.bl_map_calls.specs.Waits.{AsMany}
use Rattle.bl_map_calls.proofs.Following.{so_many_tried, tries_one, tries_none}
use Rattle.bl_map_calls.proofs.writes.try_some.Goals as goal

pub loop-hint-init : goal.loop-hint-init
loop-hint-init g c = record {
  same = search rules;
  on = λ more after end all t. so_many_tried (first_of c.args.index.now) (number_of c.args.pass.now) more c.args.most c.args.waiting.now after (trail c.args.pass.now) end (omega (arith, all)) t;
}

pub loop-hint-preserved : goal.loop-hint-preserved
loop-hint-preserved g c =
    let inv = c.loop-hint.invariant in
    record {
      same = search rules;
      on = λ more after end all t. inv.on (suc more) after end (omega (arith, all))
          (tries_one (first_of c.args.index.now) (number_of c.args.pass.now) _ more c.loop-hint.waiting c.try_oldest.new.waiting after (trail c.loop-hint.pass) (trail c.try_oldest.new.pass) end
          inv.same.2 c.try_oldest.ensures.tries t);
    }

pub returns-then-is_empty-clause-tries : goal.returns-then-is_empty-clause-tries
returns-then-is_empty-clause-tries g c =
    c.loop-hint.invariant.on (c.args.most - c.loop-hint._hint) c.loop-hint.waiting (trail c.loop-hint.pass) (omega arith)
    (tries_none (first_of c.args.index.now) (number_of c.args.pass.now) (c.args.most - c.loop-hint._hint) c.loop-hint.waiting (trail c.loop-hint.pass) (c.is_empty.ensures.0 c.if-is_empty.true))

pub returns-clause-tries : goal.returns-clause-tries
returns-clause-tries g c = c.loop-hint.invariant.on 0 c.loop-hint.waiting (trail c.loop-hint.pass) (omega arith) AsMany
