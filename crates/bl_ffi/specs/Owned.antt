-- What C owns by a pointer: nothing at null, and else the box of a value, with the right to free it.
use Rattle.std.specs.Prelude.{Option, None, Some}
use mir.Syntax.{Ty}
use base.Fml.{Fml, feq}
use denote.Param.{param}
use denote.RattleType.{RattleType}
use denote.RawPtr.{Ptr, null_ptr}
use Rattle.std.specs.Box.Ownership.{box_owns}
use Rattle.std.specs.contracts.impls.GlobalAllocator.TheImpl.{ghosts}

-- the right to give a block back to malloc's heap, of which there is one
abbrev pub heap_token : Ty → Ptr → Fml
heap_token = ghosts.dealloc_token (record { memory = record { seal = tt } })

abbrev pub owned : (R : RattleType) → Ptr → Option R.Denot → Fml
owned R at None = feq Ptr at null_ptr
owned R at (Some x) = box_owns heap_token (param 0 R) at x
