use Rattle.std.proofs.Common.{◌<◌, length, arith}
use Rattle.bl_serve_ground.proofs.Gathered.{own_together, together_by_first}
use Rattle.test_serve.proofs.served.serve_on.Goals as goal

pub returns-in-Ok : goal.returns-in-Ok
returns-in-Ok g c =
    let s = rw c.in-Ok.is at c.serve.ensures.serves.ok in
    let t = s.0.together in
    let a = t.count in
    let b = c.requires.together.count in
    let d = c.requires.workers.0 in
    let e = c.requires.workers.1 in
    let many = c.in-Ok.passes.ok in
    let were = c.args.passes.ok in
    let some : 0 < length c.in-Ok.passes.items = omega (arith, a, b, d, e, were) in record {
      many = omega (arith, a, b, many, were);
      own = own_together c.args.index.now s.0.now c.in-Ok.passes.items t;
      together = together_by_first c.args.index.now s.0.now c.in-Ok.passes.items some t;
    }
