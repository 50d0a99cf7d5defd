use Rattle.std.proofs.Common.{refl, inl, rules, ◌∙◌}
use Rattle.bl_index.specs.Calls.{trail}
use Rattle.bl_index.proofs.Alone.{stays_alone}
use Rattle.bl_map_tries.proofs.Pieces.{looks_add, wrote_at_once, wrote_none_given_up, none_adds, writes_work}
use Rattle.bl_map_tries.proofs.trying.try_write.Goals as goal

-- refused

pub returns-then-not-try_room-clause-none : goal.returns-then-not-try_room-clause-none
returns-then-not-try_room-clause-none c = record { mid = trail c.try_room.new.pass; looks = c.try_room.ensures.looks; undone = inl (c.try_room.ensures.refused c.if-not-try_room.true, refl) }

pub returns-then-not-try_room-clause-undone : goal.returns-then-not-try_room-clause-undone
returns-then-not-try_room-clause-undone c = looks_add _ _ _ _ _ _ c.try_room.ensures.looks

pub returns-then-not-try_room-clause-alone : goal.returns-then-not-try_room-clause-alone
returns-then-not-try_room-clause-alone c = stays_alone c.args.index.now c.args.pass.now c.try_room.new.pass c.requires c.try_room.ensures.same (looks_add _ _ _ _ _ _ c.try_room.ensures.looks).none

-- given up

pub returns-in_default-clause-none : goal.returns-in_default-clause-none
returns-in_default-clause-none c = wrote_none_given_up _ _ _ _ _ _ _ _ _ c.try_room.ensures.same.2 c.try_room.ensures.looks c.in_default.ensures.undone

pub returns-in_default-clause-undone : goal.returns-in_default-clause-undone
returns-in_default-clause-undone c = none_adds _ _ _ _ _ _ _ (wrote_none_given_up _ _ ⊥ _ _ _ _ _ _ c.try_room.ensures.same.2 c.try_room.ensures.looks c.in_default.ensures.undone)

pub returns-in_default-clause-alone : goal.returns-in_default-clause-alone
returns-in_default-clause-alone c =
    stays_alone c.args.index.now c.args.pass.now c.try_write.new.pass c.requires (search rules)
    (none_adds _ _ _ _ _ _ _ (wrote_none_given_up _ _ ⊥ _ _ _ _ _ _ c.try_room.ensures.same.2 c.try_room.ensures.looks c.in_default.ensures.undone)).none

-- written

pub returns-clause-writes : goal.returns-clause-writes
returns-clause-writes c = wrote_at_once _ _ _ _ _ _ _ _ _ _ _ _ c.try_room.ensures.same.2 c.try_room.ensures.looks c.in-Some.ensures.writes c.keep.ensures

pub returns-clause-works : goal.returns-clause-works
returns-clause-works c = writes_work _ _ _ _ _ _ _ _ (wrote_at_once _ _ _ _ _ _ _ _ _ _ _ _ c.try_room.ensures.same.2 c.try_room.ensures.looks c.in-Some.ensures.writes c.keep.ensures)

pub returns-clause-no_room : goal.returns-clause-no_room
returns-clause-no_room c = λ is. record {
  before = c.try_room.new.pass;
  mine = c.try_room.ensures.same.2;
  begins = (looks_add _ _ _ _ _ _ c.try_room.ensures.looks).begins;
  lacks = c.in-Some.ensures.no_room is;
}
