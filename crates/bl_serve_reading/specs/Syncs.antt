-- Lines that end a section whatever is wanted.
use Rattle.std.specs.Prelude.{Bool, true, false, Option, Some}
use Rattle.bl_serve_lines.specs.declared.request.Request.{Request}
use Rattle.bl_serve_lines.specs.declared.request.Request.TheVariants.{Sync}

-- the line is a sync
abbrev pub is_sync : Option Request → Bool
is_sync (Some Sync) = true
is_sync asked = false
