-- Seats that were made together are of one index.
use Rattle.std.proofs.Common.{◌≡◌, List, [], ◌∷◌, ◌++◌}
use Rattle.std.specs.Arc.{arc_value}
use Rattle.std.specs.List.{AllZip}
use Rattle.bl_index.specs.declared.index.Index.{Index}
use Rattle.bl_index.specs.declared.index.Pass.{Pass}
use Rattle.bl_ffi_seats.specs.declared.seat.Seat.{Seat}
use Rattle.bl_ffi_seats.specs.Opened.{IsNewSeat}

pub last_at : (index : Index) (passes : List Pass) (seats : List Seat) (last : Seat) → AllZip (IsNewSeat index) passes (seats ++ last ∷ []) → arc_value last.index ≡ index
last_at index (p ∷ ps) [] last h = h.0.0
last_at index (p ∷ ps) (s ∷ ss) last h = last_at index ps ss last h.1
last_at index [] [] last h = absurd h
last_at index [] (s ∷ ss) last h = absurd h

pub rest_at : (index : Index) (passes : List Pass) (seats : List Seat) (last : Seat) → AllZip (IsNewSeat index) passes (seats ++ last ∷ []) → (rest : List Pass) × AllZip (IsNewSeat index) rest seats
rest_at index (p ∷ ps) [] last h = ([], tt)
rest_at index (p ∷ ps) (s ∷ ss) last h = (let r = rest_at index ps ss last h.1 in (p ∷ r.0, (h.0, r.1)))
rest_at index [] [] last h = absurd h
rest_at index [] (s ∷ ss) last h = absurd h
