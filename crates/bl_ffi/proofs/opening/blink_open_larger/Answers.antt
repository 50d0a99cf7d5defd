use Rattle.bl_ffi.proofs.Placing.{as_many}
use Rattle.bl_ffi.proofs.opening.blink_open_larger.Goals as goal

pub hand_out-requires-clause-count : goal.hand_out-requires-clause-count
hand_out-requires-clause-count c = let o = c.in-Ok.ensures.ok in as_many o.index o.passes c.in-Ok.opened.items _ o.each o.opened.begun.count
