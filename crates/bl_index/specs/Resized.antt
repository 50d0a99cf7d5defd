-- An index that goes on with more pages.
use Rattle.std.specs.Prelude.{◌≡◌, ℕ, ◌^◌, ◌<◌, ◌≤◌, ◌⊎◌, List, Option}
use Rattle.bl_model.specs.Map.{SameMap}
use Rattle.bl_page.specs.declared.page.Page.{Page}
use Rattle.bl_claims.specs.Seeing.{first_map}
use Rattle.bl_index.specs.declared.config.ResizeFault.{ResizeFault}
use Rattle.bl_index.specs.declared.config.ResizeFault.TheVariants as fault
use Rattle.bl_index.specs.declared.index.Index.{Index}
use Rattle.bl_index.specs.declared.index.Pass.{Pass}
use Rattle.bl_index.specs.declared.resizing.Unresized.{Unresized}
use Rattle.bl_index.specs.declared.resizing.Unresized.TheVariants.{Kept, Closed}
use Rattle.bl_index.specs.Calls.{pages_of, passes_of, first_of, map_after}
use Rattle.bl_index.specs.Closed.{HasPass, AreAll, Closes}
use Rattle.bl_index.specs.Opened.{IsReopenedIn}

-- The old index is closed, and the new one is opened from its image with so many pages and as many passes. So it begins with the map after
-- all that has happened in the old one.
pub record Resizes (old : Index) (passes : List Pass) (pages : ℕ) (new : Index) (news : List Pass) : Type 0 where
  pub image : List (Option Page)
  pub closes : Closes old passes image
  pub reopens : IsReopenedIn image pages (passes_of old) new news
  pub map : SameMap (map_after (first_of old) closes.whole) (first_map (first_of new))

-- so many are no fewer than it has, and no more than an index may have
abbrev pub MayResize : Index → ℕ → Type 0
MayResize index pages = (pages_of index ≤ pages) × (pages ≤ 2 ^ 28)

-- Why an index was not resized: the pages are not within their limits; they are, and one of its passes is missing; or all are there, and there was no
-- memory.
abbrev pub IsResizeFault : Index → List Pass → ℕ → ResizeFault → Type 0
IsResizeFault index passes pages fault.Pages = (pages < pages_of index) ⊎ (2 ^ 28 < pages)
IsResizeFault index passes pages fault.Pass = MayResize index pages × ((n : ℕ) × (n < passes_of index) × ¬ HasPass passes n)
IsResizeFault index passes pages fault.Memory = MayResize index pages × AreAll index passes

-- What there is in its place: the index and the passes, as they were; or, where nothing was at fault but memory, its image, which is closed.
abbrev pub IsNotResized : Index → List Pass → ℕ → Unresized → Type 0
IsNotResized index passes pages (Kept back passes_back why) = (back ≡ index) × (passes_back.items ≡ passes) × IsResizeFault index passes pages why
IsNotResized index passes pages (Closed quiet) = MayResize index pages × Closes index passes quiet.image.pages.items
