use Rattle.std.proofs.Common.{sym, subst}
use Rattle.std.specs.Prelude.{IfOk}
use Rattle.bl_index.proofs.Firsts.{if_ok}
use Rattle.bl_serve_ground.specs.declared.origin.Origin.{Origin}
use Rattle.bl_serve_ground.specs.Begun.{IsBegunFrom}
use Rattle.bl_serve_ground.proofs.Beginning.{empty_begins, image_begins}
use Rattle.bl_serve_ground.proofs.opening.open_index.Goals as goal

pub returns-in-Empty : goal.returns-in-Empty
returns-in-Empty c = subst (λ (o : Origin). IfOk c.open_empty.result (λ t. IsBegunFrom o c.args.passes t.0 t.1.items)) (sym c.in-Empty.is)
    (if_ok _ _ c.open_empty.result (λ t b. empty_begins c.in-Empty.pages c.args.passes t.0 t.1.items b) c.open_empty.ensures)

pub returns-in-Image : goal.returns-in-Image
returns-in-Image c = subst (λ (o : Origin). IfOk c.open_image.result (λ t. IsBegunFrom o c.args.passes t.0 t.1.items)) (sym c.in-Image.is)
    (if_ok _ _ c.open_image.result (λ t r. image_begins c.in-Image.quiet c.args.passes t.0 t.1.items r) c.open_image.ensures)
