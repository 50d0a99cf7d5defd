use Rattle.std.proofs.Common.{Some, set, refl}
use Rattle.bl_page.specs.declared.page.Page.TheVariants.{Anchor}
use Rattle.bl_load.proofs.Padding.{whole_of}
use Rattle.bl_load.proofs.Sounding.{sound, full, rows, one_top}
use Rattle.bl_load.proofs.building.Tree.into_image.Goals as goal

pub returns-clause-holds : goal.returns-clause-holds
returns-clause-holds c = λ fill all t.
    let pages = c.args.self.pages.items in
    let roots = c.args.self.leftmost.items in
    let final = c.in_ok-all.all.items in
    let w = whole_of pages roots final (set pages 0 (Some (Anchor c.anchor_of.result))) c.args.self.most c.anchor_of.result t.forest.some c.anchor_of.ensures refl c.in_ok-all.ensures in
    (sound fill t.levels pages roots final t.forest w, full fill t.levels pages roots final t.forest w, rows fill t.levels pages roots final t.forest w all t.rows_are, one_top fill t.levels pages roots final t.forest w t.top)
