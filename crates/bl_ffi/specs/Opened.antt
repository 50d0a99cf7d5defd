-- A map is opened for C.
use Rattle.std.specs.Prelude.{◌≡◌, ◌⊎◌, ◌<◌, ◌^◌, ◌==◌, if◌then◌else◌, ℕ, ℤ, pos, List, Option, length}
use Rattle.bl_check.specs.Faults.{AreSoundImage}
use Rattle.bl_ffi_seats.specs.declared.seat.Seat.{Seat}
use Rattle.bl_image.specs.Images.{IsImage}
use Rattle.bl_page.specs.declared.page.Page.{Page}
use Rattle.bl_ffi_seats.specs.declared.opening.ImageFault.{ImageFault}
use Rattle.bl_ffi_seats.specs.declared.opening.ImageFault.TheVariants as fault
use Rattle.bl_ffi_seats.specs.Opened.{AreSeatsOpened, AreReopened, AreReopenedIn}
use Rattle.bl_ffi.specs.Places.{opened, closed, HasOpenSeat}

-- Each place has its seat; or there was no memory, and the places are as they were.
abbrev pub AreHandedOut : List Seat → List (Option Seat) → List (Option Seat) → ℤ → Type 0
AreHandedOut seats old new code = ((code ≡ pos 0) × (new ≡ opened seats)) ⊎ ((code ≡ pos 7) × (new ≡ old))

-- the number of seats is not within its limits
abbrev pub AreBadSeats : ℕ → Type 0
AreBadSeats count = (count < 1) ⊎ (64 < count)

-- Why these places were given no seats: they are too few or too many; one has a seat; or there was no memory.
abbrev pub AreRefused : List (Option Seat) → ℤ → Type 0
AreRefused places code = ((code ≡ pos 6) × AreBadSeats (length places)) ⊎ ((code ≡ pos 17) × HasOpenSeat places) ⊎ (code ≡ pos 7)

-- Why no map of so many pages was opened: the pages are not within their limits; or the places are refused.
abbrev pub IsNotOpened : ℕ → List (Option Seat) → ℤ → Type 0
IsNotOpened pages places code = ((code ≡ pos 5) × ((pages < 4) ⊎ (2 ^ 28 < pages))) ⊎ AreRefused places code

-- so many pages, or those that a map begins with that is to grow, where none are named
abbrev pub or_first : ℕ → ℕ
or_first pages = if pages == 0 then 1024 else pages

-- The places, which were closed, have the seats of one new map without rows; or none was opened, and they are as they were.
abbrev pub Opens : ℕ → List (Option Seat) → List (Option Seat) → ℤ → Type 0
Opens pages old new code =
    ((code ≡ pos 0) × (old ≡ closed (length old)) × ((seats : List Seat) × AreSeatsOpened pages (length old) seats × (new ≡ opened seats)))
    ⊎ (IsNotOpened pages old code × (new ≡ old))

-- Why none was opened from bytes: they are no sound image; or the places are refused.
abbrev pub IsNotReopened : List ℕ → List (Option Seat) → ℤ → Type 0
IsNotReopened bytes places code = ((code ≡ pos 8) × (AreSoundImage bytes → ⊥)) ⊎ AreRefused places code

-- The same of a map that begins with the rows of the image that the bytes are.
abbrev pub OpensImage : List ℕ → List (Option Seat) → List (Option Seat) → ℤ → Type 0
OpensImage bytes old new code =
    ((code ≡ pos 0) × (old ≡ closed (length old)) × ((seats : List Seat) × AreReopened bytes (length old) seats × (new ≡ opened seats)))
    ⊎ (IsNotReopened bytes old code × (new ≡ old))

-- the code of why no map was opened from bytes
abbrev pub IsCodeOfImage : ImageFault → ℤ → Type 0
IsCodeOfImage fault.Image code = code ≡ pos 8
IsCodeOfImage fault.Pages code = code ≡ pos 5
IsCodeOfImage fault.Seats code = code ≡ pos 6
IsCodeOfImage fault.Memory code = code ≡ pos 7

-- Why none with so many pages was opened from bytes: these are fewer than the image's, or too many; or as above.
abbrev pub IsNotOpenedLarger : List ℕ → ℕ → List (Option Seat) → ℤ → Type 0
IsNotOpenedLarger bytes pages places code =
    ((code ≡ pos 5) × ((image : List (Option Page)) × IsImage image bytes × ((pages < length image) ⊎ (2 ^ 28 < pages)))) ⊎ IsNotReopened bytes places code

-- The same of a map with so many pages, of which the image's are the first.
abbrev pub OpensLarger : List ℕ → ℕ → List (Option Seat) → List (Option Seat) → ℤ → Type 0
OpensLarger bytes pages old new code =
    ((code ≡ pos 0) × (old ≡ closed (length old)) × ((seats : List Seat) × AreReopenedIn bytes pages (length old) seats × (new ≡ opened seats)))
    ⊎ (IsNotOpenedLarger bytes pages old code × (new ≡ old))
