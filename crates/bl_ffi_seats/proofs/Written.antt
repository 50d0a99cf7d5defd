-- A write of a seat is answered, or has not been done.
use Rattle.std.proofs.Common.{◌≡◌, ℕ, Option, Some, None, subst}
use Rattle.std.specs.Prelude.{IfSome, IfNone, MatchOption}
use Rattle.std.specs.Arc.{arc_value}
use Rattle.bl_model.specs.declared.deciding.KeyWrite.{KeyWrite}
use Rattle.bl_model.specs.declared.operation.KeyReply.{KeyReply}
use Rattle.bl_model.specs.declared.operation.KeyReply.TheVariants as replies
use Rattle.bl_model.specs.Replies.{reply_of}
use Rattle.bl_model.specs.Writes.{write_op}
use Rattle.bl_index.specs.Calls.{first_of, number_of, trail, StaysAlone}
use Rattle.bl_index.specs.declared.index.Index.{Index}
use Rattle.bl_map_calls.specs.Works.{Works, Adds, FoundNoRoom}
use Rattle.bl_map_tries.specs.Tries.{WritesAtOnce, WritesNone, IsRefused}
use Rattle.bl_ffi_seats.specs.declared.seat.Seat.{Seat}
use Rattle.bl_ffi_seats.specs.Seats.{HasWritten, HasNotWritten}

pub written_or_not : (index : Index) (key : ℕ) (write : KeyWrite) (old new : Seat) (r : Option KeyReply) → index ≡ arc_value old.index
    → IfSome r (λ reply. WritesAtOnce (first_of index) (number_of old.pass) (write_op key write) (reply_of reply) old.waiting new.waiting (trail old.pass) (trail new.pass))
    → IfSome r (λ reply. Works (first_of index) (number_of old.pass) (write_op key write) (reply_of reply) (trail old.pass) (trail new.pass))
    → IfSome r (λ reply. reply ≡ replies.NoRoom → FoundNoRoom key write old.pass new.pass)
    → IfNone r (WritesNone (first_of index) (number_of old.pass) (IsRefused old.walk new.walk) old.waiting new.waiting (trail old.pass) (trail new.pass))
    → IfNone r (Adds (first_of index) (number_of old.pass) (trail old.pass) (trail new.pass))
    → IfNone r (StaysAlone (first_of index) index (trail old.pass) (trail new.pass))
    → MatchOption r (HasNotWritten old new) (λ reply. HasWritten (write_op key write) key write reply old new)
written_or_not index key write old new None at writes works no_room none adds alone = record {
  adds = subst (λ (z : Index). Adds (first_of z) (number_of old.pass) (trail old.pass) (trail new.pass)) at adds;
  alone = subst (λ (z : Index). StaysAlone (first_of z) z (trail old.pass) (trail new.pass)) at alone;
  none = subst (λ (z : Index). WritesNone (first_of z) (number_of old.pass) (IsRefused old.walk new.walk) old.waiting new.waiting (trail old.pass) (trail new.pass)) at none;
}
written_or_not index key write old new (Some reply) at writes works no_room none adds alone = record {
  works = subst (λ (z : Index). Works (first_of z) (number_of old.pass) (write_op key write) (reply_of reply) (trail old.pass) (trail new.pass)) at works;
  writes = subst (λ (z : Index). WritesAtOnce (first_of z) (number_of old.pass) (write_op key write) (reply_of reply) old.waiting new.waiting (trail old.pass) (trail new.pass)) at writes;
  no_room = no_room;
}
