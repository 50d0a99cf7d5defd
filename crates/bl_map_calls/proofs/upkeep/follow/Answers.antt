use Rattle.std.proofs.Common.{suc, ◌+◌, ◌-◌, Some, None, rules, arith}
use Rattle.bl_index.specs.Calls.{first_of, number_of, trail}
use Rattle.bl_map_calls.proofs.Following.{so_many_followed, follows_one, follows_refused, follows_none, follows_no_more}
use Rattle.bl_map_calls.proofs.upkeep.follow.Goals as goal

pub loop-level-init : goal.loop-level-init
loop-level-init g c = record {
  same = search rules;
  on = λ more left end all f. so_many_followed (first_of c.args.index.now) (number_of c.args.pass.now) more 12 c.args.hint left (trail c.args.pass.now) end (omega (arith, all)) f;
}

pub loop-level-preserved : goal.loop-level-preserved
loop-level-preserved g c =
    let inv = c.loop-level.invariant in
    record {
      same = search rules;
      on = λ more left end all f. inv.on (suc more) left end (omega (arith, all))
          (follows_one (first_of c.args.index.now) (number_of c.args.pass.now) _ more c.in-Some.next c.loop-level.hint c.follow_hint.result c.in-Done.left left (trail c.loop-level.pass) (trail c.follow_hint.new.pass) end
          inv.same.2 c.in-Some.is c.in-Done.is c.follow_hint.ensures.follows f);
    }

pub returns-in_default-clause-follows : goal.returns-in_default-clause-follows
returns-in_default-clause-follows g c =
    c.loop-level.invariant.on (12 - c.loop-level._level) None (trail c.loop-level.pass) (omega arith)
    (follows_none (first_of c.args.index.now) (number_of c.args.pass.now) (12 - c.loop-level._level) c.loop-level.hint (trail c.loop-level.pass) (search rules))

pub returns-in-NoRoom-clause-follows : goal.returns-in-NoRoom-clause-follows
returns-in-NoRoom-clause-follows g c =
    let inv = c.loop-level.invariant in
    inv.on (suc (12 - (c.loop-level._level + 1))) (Some c.in-Some.next) (trail c.follow_hint.new.pass) (omega arith)
    (follows_refused (first_of c.args.index.now) (number_of c.args.pass.now) _ (12 - (c.loop-level._level + 1)) c.in-Some.next c.loop-level.hint c.follow_hint.result (trail c.loop-level.pass) (trail c.follow_hint.new.pass)
    inv.same.2 c.in-Some.is c.in-NoRoom.is c.follow_hint.ensures.follows)

pub returns-clause-follows : goal.returns-clause-follows
returns-clause-follows g c =
    c.loop-level.invariant.on 0 c.loop-level.hint (trail c.loop-level.pass) (omega arith)
    (follows_no_more (first_of c.args.index.now) (number_of c.args.pass.now) c.loop-level.hint (trail c.loop-level.pass))
