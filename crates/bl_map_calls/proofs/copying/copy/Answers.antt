use Rattle.std.proofs.Common.{refl, ap, ◌∙◌}
use Rattle.bl_map_calls.proofs.Imaged.{copied_all, no_memory}
use Rattle.bl_map_calls.proofs.copying.copy.Goals as goal

pub returns-in-Ok-clause-copies : goal.returns-in-Ok-clause-copies
returns-in-Ok-clause-copies g c =
    copied_all _ _ _ _ _ _ _ _ _ _ _ c.new-rows.ensures.items c.scan.ensures.scanned _ _ _ c.in-Ok.is c.as_slice.ensures.value
    (ap (λ tree. tree.pages) c.tree.ensures ∙ c.args.index.now.sized) c.image_of.ensures.rows c.image_of.ensures.pages c.image_of.ensures.fault

pub returns-clause-copies : goal.returns-clause-copies
returns-clause-copies g c = no_memory _ _ _ _ _ _ _ _ _ _ _ c.new-rows.ensures.items c.scan.ensures.scanned _ c.in-Err.is refl
