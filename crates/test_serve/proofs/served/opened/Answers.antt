use Rattle.std.proofs.Common.{arith}
use Rattle.bl_serve_ground.proofs.Beginning.{together}
use Rattle.test_serve.proofs.served.opened.Goals as goal

pub returns-in-Ok : goal.returns-in-Ok
returns-in-Ok c = record {
  many = (let a = c.in-Ok.ensures.ok.count in let b = c.in-Ok.passes.ok in omega (arith, a, b));
  together = together _ _ _ c.in-Ok.index c.in-Ok.passes.items c.in-Ok.ensures.ok;
}
