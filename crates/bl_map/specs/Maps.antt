-- How a map is opened and closed: as its index is.
use Rattle.std.specs.Prelude.{◌≡◌, ℕ, List, length}
use Rattle.bl_check.specs.declared.quiet.Quiet.{Quiet}
use Rattle.bl_index.specs.Calls.{IsPassOf}
use Rattle.bl_index.specs.Opened.{IsIndexOpened, IsLargeRefusal, IsReopened as IsIndexReopened, IsImageRefusal}
use Rattle.bl_index.specs.Closed.{AreOf, Closes, IsRefused}
use Rattle.bl_index.specs.declared.config.CloseFault.{CloseFault}
use Rattle.bl_index.specs.declared.config.OpenFault.{OpenFault}
use Rattle.bl_index.specs.declared.resizing.Unresized.TheVariants as unresized
use Rattle.bl_index.specs.Resized.{Resizes, IsNotResized}
use Rattle.bl_index.specs.declared.index.Pass.{Pass}
use Rattle.bl_load.specs.Loads.{HoldsRows, IsFaultOf}
use Rattle.bl_map.specs.declared.map.MapLoadFault.{MapLoadFault}
use Rattle.bl_map.specs.declared.map.MapLoadFault.TheVariants as loading
use Rattle.bl_map.specs.declared.handle.Handle.{Handle}
use Rattle.bl_map.specs.declared.map.Map.{Map}
use Rattle.bl_map.specs.declared.map.UnresizedMap.{UnresizedMap}
use Rattle.bl_map.specs.declared.map.UnresizedMap.TheVariants.{Kept, Closed}
use Rattle.bl_map.specs.Handles.{index_of, IsHandleOver}

-- the seat is one of this map, and has the pages in mind that it began with
abbrev pub IsSeatOf : Map → Pass → Type 0
IsSeatOf map seat = IsPassOf map.index seat

abbrev pub AreSeatsOf : Map → List Pass → Type 0
AreSeatsOf map seats = AreOf map.index seats

abbrev pub IsMapOpened : ℕ → ℕ → Map → List Pass → Type 0
IsMapOpened pages among map seats = IsIndexOpened (record { pages = pages; passes = among }) map.index seats

abbrev pub IsOpenFault : ℕ → ℕ → OpenFault → Type 0
IsOpenFault pages among why = IsLargeRefusal (record { pages = pages; passes = among }) why

abbrev pub IsMapReopened : Quiet → ℕ → Map → List Pass → Type 0
IsMapReopened quiet among map seats = IsIndexReopened quiet.image.pages.items among map.index seats

abbrev pub IsImageFault : ℕ → OpenFault → Type 0
IsImageFault among why = IsImageRefusal among why

-- The map is opened from a sound image of so many pages that has exactly these rows, and is so full.
pub record IsLoaded (rows : List (ℕ × ℕ)) (pages fill among : ℕ) (map : Map) (seats : List Pass) : Type 0 where
  pub quiet : Quiet
  pub held : HoldsRows fill rows quiet.image.pages.items
  pub count : length quiet.image.pages.items ≡ pages
  pub opened : IsMapReopened quiet among map seats

-- There is no such image, or the map was not opened from it.
abbrev pub IsLoadFault : List (ℕ × ℕ) → ℕ → ℕ → ℕ → MapLoadFault → Type 0
IsLoadFault rows pages fill among (loading.Rows why) = IsFaultOf rows pages fill why
IsLoadFault rows pages fill among (loading.Open why) = IsImageFault among why

abbrev pub IsClosed : Map → List Pass → Quiet → Type 0
IsClosed map seats quiet = Closes map.index seats quiet.image.pages.items

abbrev pub IsBack : Map → List Pass → Map → List Pass → CloseFault → Type 0
IsBack map seats back seats_back why = IsRefused map.index seats back.index seats_back why

abbrev pub IsMapResized : Map → List Pass → ℕ → Map → List Pass → Type 0
IsMapResized map seats pages new news = Resizes map.index seats pages new.index news

abbrev pub IsMapNotResized : Map → List Pass → ℕ → UnresizedMap → Type 0
IsMapNotResized map seats pages (Kept back seats_back why) = IsNotResized map.index seats pages (unresized.Kept back.index seats_back why)
IsMapNotResized map seats pages (Closed quiet) = IsNotResized map.index seats pages (unresized.Closed quiet)

-- the handle is one of this map
abbrev pub IsHandleOf : Map → Handle → Type 0
IsHandleOf map handle = index_of handle ≡ map.index

-- The handle is one of this map, works from that seat, and has nothing to keep up.
abbrev pub IsNewHandle : Map → Pass → Handle → Type 0
IsNewHandle map seat handle = IsHandleOver map.index seat handle
