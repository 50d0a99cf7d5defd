use Rattle.std.proofs.Common.{subst, sym}
use Rattle.bl_model.specs.declared.deciding.KeyWrite.{KeyWrite}
use Rattle.bl_index.specs.Calls.{WriteLacks}
use Rattle.bl_map_calls.proofs.Following.{upkeep_adds}
use Rattle.bl_map_calls.proofs.Lacking.{insert_lacks}
use Rattle.bl_map_calls.proofs.calls.write.Goals as goal

pub returns-in-Insert-clause-no_room : goal.returns-in-Insert-clause-no_room
returns-in-Insert-clause-no_room g c = λ is. record {
  before = c.make_room.new.pass;
  mine = c.make_room.ensures.same.2;
  begins = (upkeep_adds _ _ _ _ c.make_room.ensures.readies).begins;
  lacks = subst (λ (z : KeyWrite). WriteLacks c.make_room.new.pass c.args.key z c.insert_posting-reply.new.pass) (sym c.in-Insert.is)
      (insert_lacks _ _ c.make_room.new.pass c.insert_posting-reply.new.pass (c.insert_posting-reply.ensures.no_room is));
}

pub returns-in-Put-clause-no_room : goal.returns-in-Put-clause-no_room
returns-in-Put-clause-no_room g c = λ is. record {
  before = c.make_room.new.pass;
  mine = c.make_room.ensures.same.2;
  begins = (upkeep_adds _ _ _ _ c.make_room.ensures.readies).begins;
  lacks = subst (λ (z : KeyWrite). WriteLacks c.make_room.new.pass c.args.key z c.put_posting-put.new.pass) (sym c.in-Put.is) (c.put_posting-put.ensures.no_room is);
}

pub returns-in-Delete-clause-no_room : goal.returns-in-Delete-clause-no_room
returns-in-Delete-clause-no_room g c = λ is. record {
  before = c.make_room.new.pass;
  mine = c.make_room.ensures.same.2;
  begins = (upkeep_adds _ _ _ _ c.make_room.ensures.readies).begins;
  lacks = c.write-written.ensures.no_room is;
}
