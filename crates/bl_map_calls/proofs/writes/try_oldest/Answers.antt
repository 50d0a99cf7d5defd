use Rattle.bl_map_calls.proofs.writes.try_oldest.Goals as goal

pub returns-clause-tries : goal.returns-clause-tries
returns-clause-tries g c = record {
  oldest = c.take-oldest.result;
  others = c.take-oldest.new.self;
  taken = c.take-oldest.ensures;
  upkeep = (c.follow-left.result, c.follow-left.ensures.follows, c.keep.ensures);
}
