-- The image that a server leaves.
use Rattle.std.specs.Prelude.{ℕ, List, Result, IfOk, length}
use Rattle.bl_model.specs.Rows.{map_of}
use Rattle.bl_check.specs.declared.quiet.Quiet.{Quiet}
use Rattle.bl_serve_lines.specs.declared.serving.Sectioning.{Sectioning}
use Rattle.bl_serve_lines.specs.declared.serving.Totals.{Totals}
use Rattle.bl_serve_lines.specs.Served.{whole_history}
use Rattle.bl_serve_ground.specs.declared.origin.Origin.{Origin}
use Rattle.bl_serve_ground.specs.Growing.{IsDoubled}
use Rattle.bl_serve_ground.specs.Leaving.{HoldMapAfter}
use Rattle.bl_serve_ground.specs.Origins.{size_of, sizes_of}
use Rattle.bl_serve.specs.Origins.{ServedFrom}

-- The input was served from there on, and the image, if there was memory for it, holds the map after that, in the pages of the beginning, doubled some
-- times.
pub record DumpedFrom {E : Type 0} (how : Sectioning) (origin : Origin) (most : ℕ) (totals : Totals) (image : Result Quiet E) (input output : List ℕ) : Type 0 where
  pub from : ServedFrom how origin most totals input output
  pub sizes : IfOk image (λ quiet. IsDoubled (size_of origin) (sizes_of origin most).1 (length quiet.image.pages.items))
  pub holds : IfOk image (λ quiet. HoldMapAfter (map_of from.rows) (whole_history from.served) (sizes_of origin most) quiet.image.pages.items)
