-- The image that a server leaves.
use Rattle.std.specs.Prelude.{◌≤◌, ℕ, List, Option, length}
use Rattle.bl_model.specs.Map.{Map, SameMap}
use Rattle.bl_model.specs.History.{final_map}
use Rattle.bl_model.specs.Rows.{map_of}
use Rattle.bl_model.specs.declared.operation.Entry.{Entry}
use Rattle.bl_page.specs.declared.page.Page.{Page}
use Rattle.bl_check.specs.Rows.{AreRowsOf}

-- There are so many pages at least, and at most, and their rows are the map after the history, from that map on.
pub record HoldMapAfter (map : Map) (history : List Entry) (sizes : ℕ × ℕ) (pages : List (Option Page)) : Type 0 where
  pub least : sizes.0 ≤ length pages
  pub most : length pages ≤ sizes.1
  pub rows : List (ℕ × ℕ)
  pub are_rows : AreRowsOf pages rows
  pub same : SameMap (final_map map history) (map_of rows)
