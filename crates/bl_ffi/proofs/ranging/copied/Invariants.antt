use Rattle.std.proofs.Common.{◌≡◌, ◌++◌, length, map, take, drop}
use Rattle.bl_ffi.specs.Told.{row_of}
use Rattle.bl_ffi.proofs.ranging.copied.Given as goal

abbrev pub invariant-loop-number : goal.invariant-loop-number
invariant-loop-number l = record {
  long : length l.rows ≡ length l.fn.rows;
  so_far : l.rows ≡ map row_of (take l.number l.fn.pairs) ++ drop l.number l.fn.rows;
}
