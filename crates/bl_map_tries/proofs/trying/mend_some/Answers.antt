use Rattle.std.proofs.Common.{suc, ◌+◌, ◌-◌, ◌∙◌, rules, arith}
use Rattle.bl_index.specs.Calls.{first_of, number_of, trail}
use Rattle.bl_map_tries.specs.Tries.{NoneFound}
use Rattle.bl_map_tries.proofs.Pieces.{so_many_mended, mended_one}
use Rattle.bl_map_tries.proofs.GoingOn.{gone_on}
use Rattle.bl_map_tries.proofs.trying.mend_some.Goals as goal

pub loop-piece-init : goal.loop-piece-init
loop-piece-init c = record {
  same = search rules;
  kept = search rules;
  far = omega arith;
  most = λ le. le;
  whole = λ some. absurd (omega (arith, some));
  on = λ more after end all m. so_many_mended (first_of c.args.index.now) (number_of c.args.pass.now) more 16 c.args.waiting.now after (trail c.args.pass.now) end (omega (arith, all)) m;
}

pub loop-piece-preserved : goal.loop-piece-preserved
loop-piece-preserved c =
    let inv = c.loop-piece.invariant in let found = c.next_thin.ensures in let tried = c.mend-tried.ensures in
    record {
      same = search rules;
      kept = (tried.kept.0 ∙ (found.kept.0 ∙ inv.kept.0), tried.kept.1 ∙ (found.kept.1 ∙ inv.kept.1));
      far = (let before = inv.far in let up = found.on.0 in let is = tried.next in omega (arith, before, up, is));
      most = λ le. (let near = found.on.1 (inv.most le) in let is = tried.next in omega (arith, near, is));
      whole = λ some is lt. (let far = gone_on c.args.walk.now.next c.loop-piece.walk.next c.args.to c.next_thin.new.self.next inv.far found.on.0 (found.whole is) lt in let same = tried.next in omega (arith, far, same));
      on = λ more after end all m. inv.on (suc more) after end (omega (arith, all))
          (mended_one (first_of c.args.index.now) (number_of c.args.pass.now) _ more c.in-Some.hint c.mend-tried.result c.left_of.result c.loop-piece.waiting c.keep.new.self after (trail c.loop-piece.pass) (trail c.mend-tried.new.pass) end
          inv.same.2 c.left_of.ensures tried.tries c.keep.ensures m);
    }

pub returns-in_default-clause-mends : goal.returns-in_default-clause-mends
returns-in_default-clause-mends c = c.loop-piece.invariant.on (16 - c.loop-piece._piece) c.loop-piece.waiting (trail c.loop-piece.pass) (omega arith) NoneFound

pub returns-in_default-clause-kept : goal.returns-in_default-clause-kept
returns-in_default-clause-kept c = let kept = c.loop-piece.invariant.kept in let found = c.next_thin.ensures.kept in (found.0 ∙ kept.0, found.1 ∙ kept.1)

pub returns-in_default-clause-on : goal.returns-in_default-clause-on
returns-in_default-clause-on c =
    let inv = c.loop-piece.invariant in let found = c.next_thin.ensures.on in
    ((let far = inv.far in let up = found.0 in omega (arith, far, up)), λ le. found.1 (inv.most le))

pub returns-in_default-clause-whole : goal.returns-in_default-clause-whole
returns-in_default-clause-whole c = λ is lt.
    let inv = c.loop-piece.invariant in let found = c.next_thin.ensures in
    gone_on c.args.walk.now.next c.loop-piece.walk.next c.args.to c.next_thin.new.self.next inv.far found.on.0 (found.whole is) lt

pub returns-clause-mends : goal.returns-clause-mends
returns-clause-mends c = c.loop-piece.invariant.on 0 c.loop-piece.waiting (trail c.loop-piece.pass) (omega arith) NoneFound

pub returns-clause-on : goal.returns-clause-on
returns-clause-on c = (c.loop-piece.invariant.far, c.loop-piece.invariant.most)

pub returns-clause-whole : goal.returns-clause-whole
returns-clause-whole c = λ is lt. c.loop-piece.invariant.whole (omega arith) is lt
