use Rattle.std.proofs.Common.{suc, ◌+◌, ◌-◌, ◌∙◌, sym, rules, arith}
use Rattle.bl_index.specs.Calls.{first_of, number_of, trail}
use Rattle.bl_map_tries.specs.Tries.{AsManyDone}
use Rattle.bl_map_tries.proofs.Pieces.{so_many_tried, done_one, not_done, none_waits}
use Rattle.bl_map_tries.proofs.trying.try_pieces.Goals as goal

pub loop-piece-init : goal.loop-piece-init
loop-piece-init c = record {
  same = search rules;
  on = λ more after end all t. so_many_tried (first_of c.args.index.now) (number_of c.args.pass.now) more c.args.most c.args.waiting.now after (trail c.args.pass.now) end (omega (arith, all)) t;
}

pub loop-piece-preserved : goal.loop-piece-preserved
loop-piece-preserved c =
    let inv = c.loop-piece.invariant in
    record {
      same = search rules;
      on = λ more after end all t. inv.on (suc more) after end (omega (arith, all))
          (done_one (first_of c.args.index.now) (number_of c.args.pass.now) _ more c.try_follow.result c.loop-piece.waiting c.try_follow.new.waiting after (trail c.loop-piece.pass) (trail c.try_follow.new.pass) end
          inv.same.2 (sym c.is_done.ensures ∙ c.if-not-is_done.false) c.try_follow.ensures.tries t);
    }

pub returns-then-is_empty-clause-tries : goal.returns-then-is_empty-clause-tries
returns-then-is_empty-clause-tries c =
    c.loop-piece.invariant.on (c.args.most - c.loop-piece._piece) c.loop-piece.waiting (trail c.loop-piece.pass) (omega arith)
    (none_waits (first_of c.args.index.now) (number_of c.args.pass.now) (c.args.most - c.loop-piece._piece) c.loop-piece.waiting (trail c.loop-piece.pass) (c.is_empty.ensures.0 c.if-is_empty.true))

pub returns-then-not-is_done-clause-tries : goal.returns-then-not-is_done-clause-tries
returns-then-not-is_done-clause-tries c =
    let inv = c.loop-piece.invariant in
    inv.on (suc (c.args.most - (c.loop-piece._piece + 1))) c.try_follow.new.waiting (trail c.try_follow.new.pass) (omega arith)
    (not_done (first_of c.args.index.now) (number_of c.args.pass.now) _ (c.args.most - (c.loop-piece._piece + 1)) c.try_follow.result c.loop-piece.waiting c.try_follow.new.waiting (trail c.loop-piece.pass) (trail c.try_follow.new.pass)
    inv.same.2 (sym c.is_done.ensures ∙ c.if-not-is_done.true) c.try_follow.ensures.tries)

pub returns-clause-tries : goal.returns-clause-tries
returns-clause-tries c = c.loop-piece.invariant.on 0 c.loop-piece.waiting (trail c.loop-piece.pass) (omega arith) AsManyDone
