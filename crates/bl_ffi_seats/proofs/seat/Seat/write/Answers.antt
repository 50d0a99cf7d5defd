use Rattle.bl_ffi_seats.proofs.Written.{written_or_not}
use Rattle.bl_ffi_seats.proofs.seat.Seat.write.Goals as goal

pub returns-clause-written : goal.returns-clause-written
returns-clause-written c = let e = c.try_write.ensures in
    written_or_not c.deref.result.now c.args.key c.args.write c.args.self.now _ c.try_write.result c.deref.ensures e.writes e.works e.no_room e.none e.undone e.alone
