use Rattle.std.proofs.Common.{◌≡◌, sym, subst}
use Rattle.bl_check.specs.Rows.{AreRowsOf}
use Rattle.bl_index.specs.Calls.{passes_of}
use Rattle.bl_map.proofs.LaidAnew.{shrinks}
use Rattle.bl_map.proofs.map.Map.shrink.Goals as goal

pub returns-in-Ok-load-clause-ok : goal.returns-in-Ok-load-clause-ok
returns-in-Ok-load-clause-ok c =
    let count : c.tree.result.now.passes ≡ passes_of c.args.self.index = (let same = c.tree.ensures in let many = c.args.self.index.shared in cc) in
    let are : AreRowsOf c.in-Ok.image.image.pages.items c.as_slice.result.now = subst (AreRowsOf c.in-Ok.image.image.pages.items) (sym c.as_slice.ensures.value) c.in-Ok-rows_of.ensures in
    shrinks c.args.self c.args.seats.items c.in-Ok.image.image.pages.items c.as_slice.result.now c.args.pages c.tree.result.now.passes
    c.in-Ok-load.opened.0 c.in-Ok-load.opened.1.items count c.in-Ok.ensures.ok are c.in-Ok-load.ensures.ok
