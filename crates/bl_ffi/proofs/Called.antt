-- What a call of a seat tells C.
use Rattle.std.proofs.Common.{◌≡◌, ℕ, Bool, true, false, Option, Some, None, refl, sym, ap, ◌∙◌, subst}
use Rattle.std.specs.Prelude.{ℤ, pos, MatchOption}
use mir.Val.{to_z, of_z}
use mir.Syntax.{w32}
use Rattle.bl_model.specs.declared.operation.KeyReply.{KeyReply}
use Rattle.bl_model.specs.declared.operation.KeyReply.TheVariants.{Found, Absent, Inserted, Present, Replaced, Deleted, Changed, Differs, NoRoom}
use Rattle.bl_ffi_seats.specs.declared.seat.Seat.{Seat}
use Rattle.bl_ffi_seats.specs.Seats.{IsSameSeat}
use Rattle.bl_ffi.specs.declared.seat.SeatOfC.{SeatOfC}
use Rattle.bl_ffi.specs.Told.{IsCodeOf, Calls}

pub called : (old new : SeatOfC) (code : ℤ) (Comes : Seat → Seat → Type 0) (s t : Seat) → old.seat ≡ Some s → new.seat ≡ Some t → IsSameSeat s t → Comes s t → Calls old new code Comes
called old new code Comes s t was is same comes =
    subst (λ (z : Option Seat). MatchOption z ((code ≡ pos 9) × (new.seat ≡ None)) (λ u. (t : Seat) × (new.seat ≡ Some t) × IsSameSeat u t × Comes u t)) (sym was) (t, is, same, comes)

-- A code is as it was after it was told.
again : (code n : ℤ) → code ≡ n → to_z w32 (of_z w32 n) ≡ n → to_z w32 (of_z w32 code) ≡ n
again code n is fits = ap (λ (z : ℤ). to_z w32 (of_z w32 z)) is ∙ fits

pub code_kept : (r : KeyReply) (code : ℤ) (w : ℕ) → IsCodeOf r code w → IsCodeOf r (to_z w32 (of_z w32 code)) w
code_kept (Found v) code w h = (again code (pos 0) h.0 refl, h.1)
code_kept Absent code w h = again code (pos 1) h refl
code_kept Inserted code w h = again code (pos 0) h refl
code_kept (Present v) code w h = (again code (pos 2) h.0 refl, h.1)
code_kept (Replaced v) code w h = (again code (pos 2) h.0 refl, h.1)
code_kept (Deleted v) code w h = (again code (pos 0) h.0 refl, h.1)
code_kept Changed code w h = again code (pos 0) h refl
code_kept (Differs v) code w h = (again code (pos 2) h.0 refl, h.1)
code_kept NoRoom code w h = again code (pos 3) h refl

pub not_true : (b : Bool) → b ≡ false → b ≡ true → ⊥
not_true b isnt is = absurd (let f : false ≡ true = sym isnt ∙ is in cc)
