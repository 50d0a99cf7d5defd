-- Seats that were just made.
use Rattle.std.specs.Prelude.{◌≡◌, ◌<◌, ◌^◌, ◌⊎◌, ℕ, Option, List, length}
use Rattle.std.specs.Arc.{arc_value}
use Rattle.std.specs.List.{AllZip}
use Rattle.bl_page.specs.declared.page.Page.{Page}
use Rattle.bl_image.specs.Images.{IsImage}
use Rattle.bl_check.specs.Faults.{AreSoundImage}
use Rattle.bl_index.specs.declared.index.Index.{Index}
use Rattle.bl_index.specs.declared.index.Pass.{Pass}
use Rattle.bl_index.specs.declared.config.OpenFault.{OpenFault}
use Rattle.bl_index.specs.declared.config.OpenFault.TheVariants as of_index
use Rattle.bl_index.specs.Opened.{IsIndexOpened, IsReopened as IsIndexReopened, IsReopenedIn as IsIndexReopenedIn}
use Rattle.bl_ffi_seats.specs.declared.seat.Seat.{Seat}
use Rattle.bl_ffi_seats.specs.declared.opening.ImageFault.{ImageFault}
use Rattle.bl_ffi_seats.specs.declared.opening.ImageFault.TheVariants as fault
use Rattle.bl_waiting.specs.Queue.{IsNone}
use Rattle.bl_ffi_seats.specs.Seats.{IsDone}

-- The seat works at this index by that pass, and has nothing to keep up.
abbrev pub IsNewSeat : Index → Pass → Seat → Type 0
IsNewSeat index pass seat = (arc_value seat.index ≡ index) × (seat.pass ≡ pass) × IsNone seat.waiting × IsDone seat

-- a seat for each pass, in their order
abbrev pub AreSeatsOf : Index → List Pass → List Seat → Type 0
AreSeatsOf index passes seats = AllZip (IsNewSeat index) passes seats

-- An index was just opened, of so many pages, without rows, with so many passes; and there is a seat for each of its passes.
pub record AreSeatsOpened (pages among : ℕ) (seats : List Seat) : Type 0 where
  pub index : Index
  pub passes : List Pass
  pub opened : IsIndexOpened (record { pages = pages; passes = among }) index passes
  pub each : AreSeatsOf index passes seats

-- The same of an index that begins with the pages of an image, which the bytes spell, and so with its rows.
pub record AreReopened (bytes : List ℕ) (among : ℕ) (seats : List Seat) : Type 0 where
  pub image : List (Option Page)
  pub spelled : IsImage image bytes
  pub index : Index
  pub passes : List Pass
  pub opened : IsIndexReopened image among index passes
  pub each : AreSeatsOf index passes seats

-- The same of an index that has so many pages, of which the image's are the first.
pub record AreReopenedIn (bytes : List ℕ) (size among : ℕ) (seats : List Seat) : Type 0 where
  pub image : List (Option Page)
  pub spelled : IsImage image bytes
  pub index : Index
  pub passes : List Pass
  pub opened : IsIndexReopenedIn image size among index passes
  pub each : AreSeatsOf index passes seats

-- what a fault of an index is for its seats
abbrev pub IsFaultFor : OpenFault → ImageFault → Type 0
IsFaultFor of_index.Pages why = why ≡ fault.Pages
IsFaultFor of_index.Passes why = why ≡ fault.Seats
IsFaultFor of_index.Memory why = why ≡ fault.Memory

-- Why no index was opened from the bytes: they are no sound image; or they are an image, and the seats are not within their limits.
abbrev pub IsImageFault : List ℕ → ℕ → ImageFault → Type 0
IsImageFault bytes among fault.Image = AreSoundImage bytes → ⊥
IsImageFault bytes among fault.Pages = ⊥
IsImageFault bytes among fault.Seats = (image : List (Option Page)) × IsImage image bytes × ((among < 1) ⊎ (64 < among))
IsImageFault bytes among fault.Memory = Unit {0}

-- The same of one with so many pages: or these are fewer than the image's, or too many.
abbrev pub IsLargerFault : List ℕ → ℕ → ℕ → ImageFault → Type 0
IsLargerFault bytes size among fault.Pages = (image : List (Option Page)) × IsImage image bytes × ((size < length image) ⊎ (2 ^ 28 < size))
IsLargerFault bytes size among why = IsImageFault bytes among why
