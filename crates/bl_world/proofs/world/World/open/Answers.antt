use Rattle.std.proofs.Common.{arith}
use Rattle.bl_world.specs.Views.{view_of}
use Rattle.bl_world.proofs.Openings.{opens}
use Rattle.bl_world.proofs.Ways.{way_first}
use Rattle.bl_world.proofs.Accounting.{account}
use Rattle.bl_world.proofs.world.World.open.Goals as goal

pub invariant_of-result : goal.invariant_of-result
invariant_of-result c =
    let v = view_of c.in-Ok.lists in
    (∣ opens c.args.pages v (omega arith) c.in-Ok.ensures ∣₁, ∣ way_first c.args.pages v c.in-Ok.ensures ∣₁)

pub returns-in-Ok-clause-account : goal.returns-in-Ok-clause-account
returns-in-Ok-clause-account c =
    let v = view_of c.in-Ok.lists in
    ∣ account v (opens c.args.pages v (omega arith) c.in-Ok.ensures) (way_first c.args.pages v c.in-Ok.ensures) ∣₁
