-- What a close of a map to its image tells C.
use Rattle.std.proofs.Common.{ℕ, ◌≡◌, ◌+◌, ◌*◌, ◌<◌, ◌≤◌, ◌++◌, List, length, take, drop, Option, Some, refl, sym, ap, ◌∙◌, subst, inl, inr, arith}
use Rattle.std.specs.Prelude.{ℤ, pos, slice_get}
use Rattle.std.specs.Arc.{arc_value}
use Rattle.std.proofs.Math.Seq.{take-append_seam, drop-append_seam}
use mir.Val.{to_z, of_z}
use mir.Syntax.{w32}
use Rattle.bl_page.specs.declared.page.Page.{Page}
use Rattle.bl_image.specs.Images.{IsImage, image_size}
use Rattle.bl_index.specs.Calls.{pages_of}
use Rattle.bl_index.specs.declared.index.Index.{Index}
use Rattle.bl_ffi_seats.specs.declared.closing.CloseFault.{CloseFault}
use Rattle.bl_ffi_seats.specs.declared.closing.CloseFault.TheVariants as fault
use Rattle.bl_ffi_seats.specs.declared.seat.Seat.{Seat}
use Rattle.bl_ffi_seats.specs.Closed.{values, AreAtOne, HaveClosed, IsNotClosed}
use Rattle.bl_ffi_seats.proofs.Closings.{Boxed, at_one, value_at, first_there}
use Rattle.bl_ffi.specs.Places.{closed}
use Rattle.bl_ffi.specs.Together.{IsCodeOfFault, IsTooLong, IsClosedTo, ClosesSeats}

again : (code n : ℤ) → code ≡ n → to_z w32 (of_z w32 n) ≡ n → to_z w32 (of_z w32 code) ≡ n
again code n is fits = ap (λ (z : ℤ). to_z w32 (of_z w32 z)) is ∙ fits

pub fault_kept : (why : CloseFault) (code : ℤ) → IsCodeOfFault why code → IsCodeOfFault why (to_z w32 (of_z w32 code))
fault_kept fault.Missing code h = again code (pos 11) h refl
fault_kept fault.Shared code h = again code (pos 11) h refl
fault_kept fault.Memory code h = again code (pos 7) h refl
fault_kept fault.Lost code h = again code (pos 14) h refl

pub closes_kept : (seats : List Seat) (places : List (Option Seat)) (old new : List ℕ) (long : ℕ) (code : ℤ) → ClosesSeats seats places old new long code → ClosesSeats seats places old new long (to_z w32 (of_z w32 code))
closes_kept seats places old new long code (inl (is, done)) = inl (again code (pos 0) is refl, done)
closes_kept seats places old new long code (inr (inl (is, fits, places_are, bytes_are))) = inr (inl (again code (pos 12) is refl, fits, places_are, bytes_are))
closes_kept seats places old new long code (inr (inr (why, back, is, not_closed, places_are, bytes_are))) = inr (inr (why, back, fault_kept why code is, not_closed, places_are, bytes_are))

-- the length of the image is that of the index of each seat
pub too_long : (boxes : List Boxed) (box : Boxed) (bytes : List ℕ) (long : ℕ) → Some box ≡ slice_get boxes 0 → AreAtOne (values boxes) → long ≡ 32 + 256 * pages_of (arc_value box.value.index) → length bytes < long → IsTooLong (values boxes) bytes long
too_long boxes box bytes long first one is low =
    (λ k d lt. is ∙ ap (λ (z : Index). 32 + 256 * pages_of z) (sym (at_one (values boxes) 0 box.value (value_at boxes 0 box (first_there boxes box first)) one k d lt)), low)

-- no more seats come back than were given
pub back_fits : (old back : List Seat) (why : CloseFault) → IsNotClosed old back why → length back ≤ length old
back_fits old back fault.Missing h = (let same = ap length h.0 in omega (arith, same))
back_fits old back fault.Shared h = (let same = ap length h.1 in omega (arith, same))
back_fits old back fault.Memory h = (let same = ap length h.1 in omega (arith, same))
back_fits old back fault.Lost h = (let same = ap length h.1 in omega (arith, same))

pub closed_to : (seats : List Seat) (places : List (Option Seat)) (old spelled : List ℕ) (long n : ℕ) (pages : List (Option Page)) → HaveClosed seats pages → n ≡ length seats → places ≡ closed n → IsImage pages spelled → length spelled ≡ long → long ≡ image_size pages
    → IsClosedTo seats places old (spelled ++ drop long old) long
closed_to seats places old spelled long n pages done many empty image fits size = record {
  pages = pages;
  have_closed = done;
  are_closed = empty ∙ ap closed many;
  image = subst (IsImage pages) (sym (ap (λ (k : ℕ). take k (spelled ++ drop long old)) (sym fits) ∙ take-append_seam spelled (drop long old))) image;
  fits = size;
  rest = ap (λ (k : ℕ). drop k (spelled ++ drop long old)) (sym fits) ∙ drop-append_seam spelled (drop long old);
}
