use Rattle.std.proofs.Common.{◌≡◌, take}
use Rattle.bl_ffi.specs.Saved.{pairs_of}
use Rattle.bl_ffi.proofs.saving.pairs_of.Given as goal

abbrev pub invariant-loop-row : goal.invariant-loop-row
invariant-loop-row l = l.pairs.items ≡ pairs_of (take l.row-index l.fn.rows)
