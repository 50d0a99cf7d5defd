use Rattle.std.proofs.Common.{◌<◌, length, arith}
use Rattle.bl_serve_ground.specs.Together.{seen_by}
use Rattle.bl_serve_ground.proofs.Gathered.{own_together}
use Rattle.bl_serve_ground.proofs.Leaving.{all_there, hold_map}
use Rattle.bl_serve_ground.proofs.closing.shut.Goals as goal

pub close-requires : goal.close-requires
close-requires c = record { own = own_together c.args.index (seen_by c.args.passes.items) c.args.passes.items c.requires.together }

pub returns-in-Ok : goal.returns-in-Ok
returns-in-Ok c =
    let any : 0 < length c.args.passes.items = (let a = c.requires.some in let b = c.args.passes.ok in omega (arith, a, b)) in
    hold_map c.args.index (seen_by c.args.passes.items) c.args.passes.items c.in-Ok.quiet.image.pages.items any c.requires.together c.in-Ok.ensures.ok

-- no pass is missing
pub unreachable-requires : goal.unreachable-requires
unreachable-requires c =
    let why = rw c.in-Err-default-default-Pass.field-0-2-is at c.in-Err-default-default-Pass.ensures.fault.why_is in
    why.2 (all_there c.args.index (seen_by c.args.passes.items) c.args.passes.items c.requires.together why.0 why.1)
