use Rattle.std.proofs.Common.{suc, ◌+◌, ◌-◌, ◌∙◌, rules, arith}
use Rattle.bl_index.specs.Calls.{first_of, number_of, trail}
use Rattle.bl_map_calls.specs.Follows.{NoMore}
use Rattle.bl_map_calls.proofs.Following.{so_many_lowered, lowers_one, lowers_none}
use Rattle.bl_map_tries.proofs.Pieces.{stops_there}
use Rattle.bl_map_tries.proofs.trying.try_lowering.Goals as goal

pub loop-level-init : goal.loop-level-init
loop-level-init c = record {
  same = search rules;
  on = λ more end l. so_many_lowered (first_of c.args.index.now) (number_of c.args.pass.now) more (more + 0) (trail c.args.pass.now) end (omega arith) l;
}

pub loop-level-preserved : goal.loop-level-preserved
loop-level-preserved c =
    let inv = c.loop-level.invariant in
    record {
      same = search rules;
      on = λ more end l. so_many_lowered (first_of c.args.index.now) (number_of c.args.pass.now) (suc more + c.loop-level._level) (more + (c.loop-level._level + 1)) (trail c.args.pass.now) end (omega arith)
          (inv.on (suc more) end
          (lowers_one (first_of c.args.index.now) (number_of c.args.pass.now) _ _ more c.in-Some.lowered (trail c.loop-level.pass) (trail c.release.new.pass) (trail c.try_lower.new.pass) end
          inv.same.2 (c.release.ensures.same.2 ∙ inv.same.2) c.in-Lowered.is c.release.ensures.swept c.in-Some.ensures.lowers l));
    }

pub returns-in_default-clause-stops : goal.returns-in_default-clause-stops
returns-in_default-clause-stops c = λ _.
    let inv = c.loop-level.invariant in
    stops_there (first_of c.args.index.now) (number_of c.args.pass.now) _ _ c.loop-level._level c.args.most (trail c.args.pass.now) (trail c.loop-level.pass) (trail c.release.new.pass) (trail c.try_lower.new.pass)
    (omega arith) inv.same.2 (c.release.ensures.same.2 ∙ inv.same.2)
    (so_many_lowered (first_of c.args.index.now) (number_of c.args.pass.now) (0 + c.loop-level._level) c.loop-level._level (trail c.args.pass.now) (trail c.loop-level.pass) (omega arith) (inv.on 0 (trail c.loop-level.pass) NoMore))
    c.release.ensures.swept c.in_default.ensures.undone

pub returns-in_default-lowered-clause-lowers : goal.returns-in_default-lowered-clause-lowers
returns-in_default-lowered-clause-lowers c = λ _.
    let inv = c.loop-level.invariant in
    so_many_lowered (first_of c.args.index.now) (number_of c.args.pass.now) (suc (c.args.most - (c.loop-level._level + 1)) + c.loop-level._level) c.args.most (trail c.args.pass.now) (trail c.try_lower.new.pass) (omega arith)
    (inv.on (suc (c.args.most - (c.loop-level._level + 1))) (trail c.try_lower.new.pass)
    (lowers_none (first_of c.args.index.now) (number_of c.args.pass.now) _ _ (c.args.most - (c.loop-level._level + 1)) c.in-Some.lowered (trail c.loop-level.pass) (trail c.release.new.pass) (trail c.try_lower.new.pass)
    inv.same.2 (c.release.ensures.same.2 ∙ inv.same.2) c.in_default-lowered.not-Lowered c.release.ensures.swept c.in-Some.ensures.lowers))

pub returns-clause-lowers : goal.returns-clause-lowers
returns-clause-lowers c = λ _.
    so_many_lowered (first_of c.args.index.now) (number_of c.args.pass.now) (0 + c.loop-level._level) c.args.most (trail c.args.pass.now) (trail c.loop-level.pass) (omega arith)
    (c.loop-level.invariant.on 0 (trail c.loop-level.pass) NoMore)
