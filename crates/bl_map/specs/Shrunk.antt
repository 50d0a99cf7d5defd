-- A map that goes on with its rows laid out anew.
use Rattle.std.specs.Prelude.{◌≡◌, ◌⊎◌, ℕ, List, [], ◌∷◌, ◌++◌, Option}
use Rattle.bl_model.specs.Map.{Map as PlainMap, SameMap}
use Rattle.bl_page.specs.declared.page.Page.{Page}
use Rattle.bl_check.specs.Rows.{AreRowsOf}
use Rattle.bl_claims.specs.Seeing.{first_map}
use Rattle.bl_index.specs.Calls.{first_of, map_after, passes_of}
use Rattle.bl_index.specs.Closed.{Closes}
use Rattle.bl_index.specs.Lives.{Life, life_of, GoesOnBehind}
use Rattle.bl_index.specs.declared.index.Pass.{Pass}
use Rattle.bl_load.specs.declared.fault.LoadFault.TheVariants as rows
use Rattle.bl_map.specs.Maps.{IsBack, IsLoaded, IsLoadFault}
use Rattle.bl_map.specs.declared.map.Map.{Map}
use Rattle.bl_map.specs.declared.map.MapLoadFault.TheVariants as loading
use Rattle.bl_map.specs.declared.shrinking.UnshrunkMap.{UnshrunkMap}
use Rattle.bl_map.specs.declared.shrinking.UnshrunkMap.TheVariants.{Kept, Closed}

-- The old map is closed, and the new one is loaded with the rows of its image: so many pages, twelve rows a leaf, as many seats. So it begins
-- with the map after all that has happened in the old one.
pub record IsMapShrunk (old : Map) (seats : List Pass) (pages : ℕ) (new : Map) (news : List Pass) : Type 0 where
  pub image : List (Option Page)
  pub closes : Closes old.index seats image
  pub rows : List (ℕ × ℕ)
  pub are_rows : AreRowsOf image rows
  pub loaded : IsLoaded rows pages 12 (passes_of old.index) new news
  pub map : SameMap (map_after (first_of old.index) closes.whole) (first_map (first_of new.index))

-- What there is in its place: the map and its seats, as they were; or its image, which is closed, and of whose rows no map of so many pages was
-- loaded; or there was no memory to list them.
abbrev pub IsMapNotShrunk : Map → List Pass → ℕ → UnshrunkMap → Type 0
IsMapNotShrunk old seats pages (Kept back seats_back why) = IsBack old seats back seats_back.items why
IsMapNotShrunk old seats pages (Closed quiet why) = Closes old.index seats quiet.image.pages.items
    × ((why ≡ loading.Rows rows.Memory) ⊎ ((rows : List (ℕ × ℕ)) × AreRowsOf quiet.image.pages.items rows × IsLoadFault rows pages 12 (passes_of old.index) why))

-- All that has happened in the old map is one life more, and the new one goes on behind it.
abbrev pub ShrinkingAddsALife : Type 0
ShrinkingAddsALife = (m : PlainMap) (lives : List Life) (old : Map) (seats : List Pass) (pages : ℕ) (new : Map) (news : List Pass) (s : IsMapShrunk old seats pages new news)
    → GoesOnBehind m lives old.index → GoesOnBehind m (lives ++ life_of old.index s.closes.whole ∷ []) new.index
