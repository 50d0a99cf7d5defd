use Rattle.std.proofs.Common.{sym, subst}
use Rattle.std.specs.Prelude.{All}
use Rattle.bl_index.specs.Calls.{IsPassOf}
use Rattle.bl_index.specs.declared.index.Index.{Index}
use Rattle.bl_ffi_seats.proofs.opening.shared.Goals as goal

pub seated-requires : goal.seated-requires
seated-requires c = subst (λ (z : Index). All (IsPassOf z) c.args.passes.items) (sym c.in-Ok.ensures.ok) c.requires
