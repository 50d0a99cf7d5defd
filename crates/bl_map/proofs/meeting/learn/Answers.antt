use Rattle.bl_map.proofs.meeting.learn.Goals as goal

pub returns-clause-seen : goal.returns-clause-seen
returns-clause-seen c = c.learn.ensures.seen.linear
