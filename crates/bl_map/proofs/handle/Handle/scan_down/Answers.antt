use Rattle.std.proofs.Common.{sym, append-nil}
use Rattle.bl_map_calls.proofs.Scanning.{nothing_down}
use Rattle.bl_map.proofs.handle.Handle.scan_down.Goals as goal

pub returns-then-from-low-clause-scanned : goal.returns-then-from-low-clause-scanned
returns-then-from-low-clause-scanned g c = nothing_down _ _ _ _ _ c.args.from c.args.low _ _ (sym (append-nil _)) c.if-from-low.true

pub returns-clause-scanned : goal.returns-clause-scanned
returns-clause-scanned g c = rw c.end_below-to.ensures at c.scan.ensures.scanned
