use Rattle.std.proofs.Common.{rules}
use Rattle.bl_map.proofs.Same.{kept_none, kept_more}
use Rattle.bl_serve_worker.proofs.wakeup.follow_all.Goals as goal

pub loop-init : goal.loop-init
loop-init g c = record { same = search rules; kept = kept_none c.args.handle.now }

pub loop-preserved : goal.loop-preserved
loop-preserved g c = record {
  same = search rules;
  kept = kept_more c.args.handle.now c.loop.handle c.follow_hint-followed.new.handle c.loop.invariant.same c.loop.invariant.kept c.follow_hint-followed.ensures.kept;
}

pub returns-then-not-followed : goal.returns-then-not-followed
returns-then-not-followed g c = record {
  same = search rules;
  kept = kept_more c.args.handle.now c.loop.handle c.follow_hint-followed.new.handle c.loop.invariant.same c.loop.invariant.kept c.follow_hint-followed.ensures.kept;
}
