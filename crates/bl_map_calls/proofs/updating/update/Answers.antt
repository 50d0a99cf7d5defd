use Rattle.std.proofs.Common.{rules}
use Rattle.bl_map_calls.proofs.TryByTry.{saw, not_there, differed, changed, had_no_room, gone}
use Rattle.bl_map_calls.proofs.Writing.{found_since}
use Rattle.bl_map_calls.proofs.updating.update.Goals as goal

pub returns-in_default : goal.returns-in_default
returns-in_default g c = record {
  same = search rules;
  updates = not_there _ _ _ _ _ _ _ _ _ _ c.in_default.not-Found c.find.ensures.works c.find.ensures.searched;
  no_room = search rules;
}

pub loop-init : goal.loop-init
loop-init g c = record {
  same = search rules;
  callable = c.requires.callable;
  so_far = saw _ _ _ _ _ _ _ _ _ _ _ c.in-Found.is c.find.ensures.works c.find.ensures.searched;
}

pub loop-preserved : goal.loop-preserved
loop-preserved g c =
    let inv = c.loop.invariant in
    record {
      same = search rules;
      callable = c.given_for-next.ensures.callable;
      so_far = differed _ _ _ _ _ _ _ _ _ _ _ _ _ _ _ _ _ _ inv.same.2 inv.so_far c.given_for-next.ensures.given c.write.ensures.changes c.in-Differs.other c.in-Differs.is;
    }

pub returns-in-Changed-clause-updates : goal.returns-in-Changed-clause-updates
returns-in-Changed-clause-updates g c =
    let inv = c.loop.invariant in
    changed _ _ _ _ _ _ _ _ _ _ _ _ _ _ _ _ _ _ inv.same.2 inv.so_far c.given_for-next.ensures.given c.write.ensures.changes c.in-Changed.is

pub returns-in-NoRoom-clause-updates : goal.returns-in-NoRoom-clause-updates
returns-in-NoRoom-clause-updates g c =
    let inv = c.loop.invariant in
    had_no_room _ _ _ _ _ _ _ _ _ _ _ _ _ _ _ _ _ _ inv.same.2 inv.so_far c.given_for-next.ensures.given c.write.ensures.changes c.in-NoRoom.is

pub returns-in-NoRoom-clause-no_room : goal.returns-in-NoRoom-clause-no_room
returns-in-NoRoom-clause-no_room g c = λ answer.
    let inv = c.loop.invariant in
    (c.loop.value, c.given_for-next.result, found_since _ _ _ _ _ inv.same.2 inv.so_far.begins (c.write.ensures.no_room c.in-NoRoom.is))

pub returns-in_default-write : goal.returns-in_default-write
returns-in_default-write g c =
    let inv = c.loop.invariant in
    record {
      same = search rules;
      updates = gone _ _ _ _ _ _ _ _ _ _ _ _ _ _ _ _ _ _ inv.same.2 inv.so_far c.given_for-next.ensures.given c.write.ensures.changes c.in_default-write.not-Changed c.in_default-write.not-Differs c.in_default-write.not-NoRoom;
      no_room = search rules;
    }
