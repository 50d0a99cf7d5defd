use Rattle.std.proofs.Common.{rules, ℕ, ◌∙◌, ◌≡◌, subst, length, take, arith}
use Rattle.std.proofs.lemmas.List.{length-set}
use Rattle.bl_index.specs.Calls.{first_of, number_of, trail}
use Rattle.bl_map_calls.specs.Many.{WritesMany}
use Rattle.bl_map_calls.proofs.Writing.{writes_none, writes_on, stops_there, room_on, had_room_before}
use Rattle.bl_map_calls.proofs.many.write.Goals as goal

pub loop-i-init : goal.loop-i-init
loop-i-init g c = record { same = search rules; long = search rules; room = λ place lt. absurd (omega (arith, lt)); writes = writes_none _ _ _ _ _ }

pub loop-i-preserved : goal.loop-i-preserved
loop-i-preserved g c =
    let inv = c.loop-i.invariant in
    record {
      same = search rules;
      long = length-set c.loop-i.replies c.loop-i.i c.write-reply.result ∙ inv.long;
      room = room_on c.loop-i.replies c.loop-i.i c.write-reply.result (omega (arith, inv.long)) inv.room c.in_default.not-NoRoom;
      writes = writes_on _ _ _ _ c.loop-i.i c.args.list.now c.loop-i.replies c.index-list-i.result c.ask-key.result c.write-reply.result _ _ _ _ _ _
          inv.same.2 c.ask-key.ensures c.index-list-i.is (omega arith) inv.long inv.writes c.write-reply.ensures.changes;
    }

pub returns-in-NoRoom-clause-writes : goal.returns-in-NoRoom-clause-writes
returns-in-NoRoom-clause-writes g c =
    let inv = c.loop-i.invariant in
    writes_on _ _ _ _ c.loop-i.i c.args.list.now c.loop-i.replies c.index-list-i.result c.ask-key.result c.write-reply.result _ _ _ _ _ _
    inv.same.2 c.ask-key.ensures c.index-list-i.is (omega arith) inv.long inv.writes c.write-reply.ensures.changes

pub returns-in-NoRoom-clause-first : goal.returns-in-NoRoom-clause-first
returns-in-NoRoom-clause-first g c = had_room_before c.loop-i.replies c.loop-i.i c.write-reply.result c.loop-i.invariant.room

pub returns-clause-first : goal.returns-clause-first
returns-clause-first g c = λ place lt. c.loop-i.invariant.room place (omega (arith, lt))

pub returns-in-NoRoom-clause-stops : goal.returns-in-NoRoom-clause-stops
returns-in-NoRoom-clause-stops g c = λ more.
    let inv = c.loop-i.invariant in
    stops_there _ c.loop-i.i c.args.list.now c.loop-i.replies c.index-list-i.result c.ask-key.result c.write-reply.result _ _ _
    c.ask-key.ensures c.index-list-i.is (omega arith) inv.long c.in-NoRoom.is inv.same.2 inv.writes.begins c.write-reply.ensures.no_room

pub returns-clause-writes : goal.returns-clause-writes
returns-clause-writes g c =
    let inv = c.loop-i.invariant in
    let all : c.loop-i.i ≡ length c.args.list.now = omega arith in
    subst (λ (z : ℕ). WritesMany (first_of c.args.index.now) (number_of c.args.pass.now) g.A.Asks.asked (take z c.args.list.now) (take z c.loop-i.replies)
    c.args.waiting.now c.loop-i.waiting (trail c.args.pass.now) (trail c.loop-i.pass)) all inv.writes
