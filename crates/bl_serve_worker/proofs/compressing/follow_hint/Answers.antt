use Rattle.bl_map.proofs.Same.{kept_more}
use Rattle.bl_serve_worker.proofs.compressing.follow_hint.Goals as goal

pub returns-clause-kept : goal.returns-clause-kept
returns-clause-kept g c =
    kept_more c.args.handle.now c.follow-followed.new.self c.sweep.new.self c.follow-followed.ensures.same c.follow-followed.ensures.kept c.sweep.ensures.kept
