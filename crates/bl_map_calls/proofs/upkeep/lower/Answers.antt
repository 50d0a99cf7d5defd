use Rattle.std.proofs.Common.{suc, ◌+◌, ◌-◌, ◌∙◌, rules, arith}
use Rattle.bl_index.specs.Calls.{first_of, number_of, trail}
use Rattle.bl_map_calls.specs.Follows.{NoMore}
use Rattle.bl_map_calls.proofs.Following.{so_many_lowered, lowers_one, lowers_none}
use Rattle.bl_map_calls.proofs.upkeep.lower.Goals as goal

pub loop-level-init : goal.loop-level-init
loop-level-init g c = record {
  same = search rules;
  on = λ more end all l. so_many_lowered (first_of c.args.index.now) (number_of c.args.pass.now) more c.args.most (trail c.args.pass.now) end (omega (arith, all)) l;
}

pub loop-level-preserved : goal.loop-level-preserved
loop-level-preserved g c =
    let inv = c.loop-level.invariant in
    record {
      same = search rules;
      on = λ more end all l. inv.on (suc more) end (omega (arith, all))
          (lowers_one (first_of c.args.index.now) (number_of c.args.pass.now) _ _ more c.lower.result (trail c.loop-level.pass) (trail c.wait_for.new.pass) (trail c.lower.new.pass) end
          inv.same.2 (c.wait_for.ensures.same.2 ∙ inv.same.2) c.in-Lowered.is c.wait_for.ensures.swept c.lower.ensures.lowers l);
    }

pub returns-in_default-clause-lowers : goal.returns-in_default-clause-lowers
returns-in_default-clause-lowers g c =
    let inv = c.loop-level.invariant in
    inv.on (suc (c.args.most - (c.loop-level._level + 1))) (trail c.lower.new.pass) (omega arith)
    (lowers_none (first_of c.args.index.now) (number_of c.args.pass.now) _ _ (c.args.most - (c.loop-level._level + 1)) c.lower.result (trail c.loop-level.pass) (trail c.wait_for.new.pass) (trail c.lower.new.pass)
    inv.same.2 (c.wait_for.ensures.same.2 ∙ inv.same.2) c.in_default.not-Lowered c.wait_for.ensures.swept c.lower.ensures.lowers)

pub returns-clause-lowers : goal.returns-clause-lowers
returns-clause-lowers g c = c.loop-level.invariant.on 0 (trail c.loop-level.pass) (omega arith) NoMore
