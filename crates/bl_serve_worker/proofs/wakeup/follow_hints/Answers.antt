use Rattle.bl_map.proofs.Same.{kept_more}
use Rattle.bl_serve_worker.proofs.wakeup.follow_hints.Goals as goal

pub returns-clause-kept : goal.returns-clause-kept
returns-clause-kept g c = kept_more c.args.handle.now c.follow_all.new.handle c.tidy_if_dropped.new.handle c.follow_all.ensures.same c.follow_all.ensures.kept c.tidy_if_dropped.ensures.kept
