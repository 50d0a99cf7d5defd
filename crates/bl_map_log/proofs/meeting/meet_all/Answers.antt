use Rattle.bl_map_log.proofs.Rounds.{all_of_one, met_twice}
use Rattle.bl_map_log.proofs.meeting.meet_all.Goals as goal

pub meet_each-requires-2 : goal.meet_each-requires-2
meet_each-requires-2 c = all_of_one c.args.one.now c.meet_each.new.one c.args.others.now c.meet_each.new.others c.meet_each.ensures c.requires

pub returns : goal.returns
returns c = met_twice c.args.one.now c.meet_each.new.one c.meet_each-2.new.one c.args.others.now c.meet_each.new.others c.meet_each-2.new.others c.meet_each.ensures c.meet_each-2.ensures
