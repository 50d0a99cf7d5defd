use Rattle.std.proofs.Common.{ap, arith}
use Rattle.bl_index_events.specs.declared.tree.Tree.{Tree}
use Rattle.bl_index.proofs.Resized.{resizes}
use Rattle.bl_index.proofs.index.Index.resize.Goals as goal

pub returns-in-Ok-open_larger-clause-ok : goal.returns-in-Ok-open_larger-clause-ok
returns-in-Ok-open_larger-clause-ok c =
    let count = c.args.self.shared in let same = ap (λ (z : Tree). z.passes) c.self.view_is in
    resizes c.args.self c.args.passes.items c.in-Ok.quiet.image.pages.items c.args.pages c.self.inside.tree.passes c.in-Ok-open_larger.opened.0 c.in-Ok-open_larger.opened.1.items (omega (arith, count, same)) c.in-Ok.ensures.ok c.in-Ok-open_larger.ensures.ok
