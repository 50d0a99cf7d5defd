use Rattle.std.proofs.Common.{refl, arith}
use Rattle.std.specs.Prelude.{None, slice_index_or}
use Rattle.bl_serve.proofs.Deals.{deals_more, deals_all, deals_long}
use Rattle.bl_serve.proofs.dealing.deal.Goals as goal

pub loop-place-preserved : goal.loop-place-preserved
loop-place-preserved c = deals_more c.args.shares c.loop-place.place _ c.args.lines.now c.loop-place.deals.items c.push.new.self.items (slice_index_or c.args.lines.now c.loop-place.place None) c.loop-place-test.true c.loop-place.invariant refl c.share_at.ensures.low c.share_at.ensures.same c.in_ok-push.ensures.items

pub returns-clause-long : goal.returns-clause-long
returns-clause-long c = let end = c.loop-place-test.false in deals_long c.args.shares c.loop-place.place c.args.lines.now c.loop-place.deals.items (omega (arith, end)) c.loop-place.invariant

pub returns-clause-dealt : goal.returns-clause-dealt
returns-clause-dealt c = let end = c.loop-place-test.false in deals_all c.args.shares c.loop-place.place c.args.lines.now c.loop-place.deals.items c.requires.low (omega (arith, end)) c.loop-place.invariant
