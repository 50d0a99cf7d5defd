-- Whose passes there are.
use Rattle.std.specs.Prelude.{All, IfSome}
use Rattle.bl_index.specs.Calls.{IsPassOf}
use Rattle.test_worked.specs.declared.stage.Stage.{Stage}
use Rattle.test_worked.specs.declared.bench.Bench.{Bench}

-- its passes are those of its index
abbrev pub IsOwner : Stage → Type 0
IsOwner stage = All (IsPassOf stage.index) stage.passes.items

-- if there is an index, its passes are its own
abbrev pub IsFit : Bench → Type 0
IsFit bench = IfSome bench.stage IsOwner
