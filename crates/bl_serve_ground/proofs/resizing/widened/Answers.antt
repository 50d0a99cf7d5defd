use Rattle.std.proofs.Common.{◌≡◌, ℕ, subst}
use Rattle.bl_index.specs.Calls.{pages_of}
use Rattle.bl_serve_ground.specs.Growing.{IsDoubled}
use Rattle.bl_serve_ground.proofs.Doubling.{doubled_then}
use Rattle.bl_serve_ground.proofs.resizing.widened.Goals as goal

pub returns-clause-goes : goal.returns-clause-goes
returns-clause-goes c = record {
  size = c.larger-size.result;
  fits = doubled_then c.args.limits.least c.args.limits.most (pages_of c.args.index) c.larger-size.result c.requires.size
      (subst (λ (n : ℕ). IsDoubled n c.args.limits.most c.larger-size.result) c.patience-pages.ensures c.larger-size.ensures.doubled);
  goes = c.in_ok-index.ensures;
}
