-- The machine values of what C holds. Assumes `Logic`.
use Rattle.std.proofs.Common.{◌≡◌, ℕ, List, [], ◌∷◌, ◌++◌, refl, subst}
use seplogic.Ra.Ura.{Ura}
use mir.Val.{Val, vstruct, vcons, vnil, of_list}
use base.Logic.{ent, guard, guard_i, via, fst∗, snd∗, never}
use contract.Monad.{fact_use}
use mir.Raw.{raw as bare}
use types.Logic.{Logic, sem}
use denote.Memory.{lone}
use Rattle.std.specs.Box.Ownership.{box_owns}
use Rattle.std.specs.Ptr.{lies_at}
use Rattle.std.specs.Borrow.{full_share}
use Rattle.std.proofs.GlobalToken.{dealloc_token-Testable}
use Rattle.std.specs.declared.alloc.Global.{Global}
use types.Kit.{Item, Goal, Seq, Step, step, ‵, ◌$◌, given, use1, learn, drop, fsplit, fjoin, fpick, fpack, feq_i, feq_l}
use denote.RattleType.{Valss}
use denote.Builtin.{RawPtr}
use denote.RawPtr.{Ptr, block_ptr, null_ptr, ptr_val, in_a_block, Testable}
use denote.Steps.{nothing}
use denote.Struct.Struct.{within}
use denote.Struct.Owning.{shape}
use Rattle.std.specs.Prelude.{Option, None, Some}
use Rattle.bl_ffi.specs.Owned.{owned, heap_token}
use Rattle.bl_ffi.specs.contracts.seat.SeatOfC as held
use Rattle.bl_ffi_seats.specs.contracts.seat.Seat as seat
use Rattle.bl_ffi_seats.specs.declared.seat.Seat.{Seat}

abbrev pub word : Val → Val
word v = vstruct (vcons v vnil)

module _ {M : Type 1} {𝓤 : Ura M} {𝓛 : Logic 𝓤} {K : Type 0} {Γ : List (Item 𝓤)} {G : Goal 𝓤 𝓛.H} where
  pub held_in : K → (p : Ptr) (x : Option Seat)
      → Step K 𝓛 (‵ (held.the_row.own_val (record { at = p; seat = x }) (word (ptr_val p) ∷ [])) ∷ Γ) G (‵ (owned seat.the_row p x) ∷ Γ) G
  held_in t p x = step (λ s. let v : Val = word (ptr_val p) in
      nothing t $ feq_i t (List Val) (ptr_val p ∷ []) (ptr_val p ∷ []) refl $ fjoin t $ feq_i t (List Val) (v ∷ []) (v ∷ []) refl $ fjoin t $
      fpack t (Valss (RawPtr ∷ [])) (within (shape held.the_type) (p, tt) (v ∷ [])) (ptr_val p ∷ [], tt) $ fjoin t $ s)

  pub held_out : K → (d : held.the_row.Denot) (vs : List Val)
      → (vs ≡ word (ptr_val d.at) ∷ [] → Seq K 𝓛 (‵ (owned seat.the_row d.at d.seat) ∷ Γ) G)
      → Seq K 𝓛 (‵ (held.the_row.own_val d vs) ∷ Γ) G
  held_out t d vs k =
      fsplit t $ fpick t (λ vss. fsplit t $ feq_l t (λ ev. fsplit t $ feq_l t (λ ep. drop t $
      k (subst (λ (ps : List Val). vs ≡ vstruct (of_list (ps ++ [])) ∷ []) ep ev))))

module _ {M : Type 1} {𝓤 : Ura M} (𝓛 : Logic 𝓤) (a : Global) where
  tested : (p : Ptr) (x : Seat) → ent 𝓤 (sem 𝓛 (box_owns heap_token seat.the_row p x)) (guard 𝓤 (Testable p) (sem 𝓛 (box_owns heap_token seat.the_row p x)))
  tested p x = fact_use 𝓤 (Testable p) (via 𝓤 _ (snd∗ 𝓤 (sem 𝓛 (lies_at seat.the_row full_share p x)) (sem 𝓛 (heap_token (bare (lone seat.the_row.mir)) p)))
      (dealloc_token-Testable 𝓛 a (bare (lone seat.the_row.mir)) p)) (guard_i 𝓤 (Testable p) (sem 𝓛 (box_owns heap_token seat.the_row p x)))

-- at null it owns nothing, and else a box
module _ {M : Type 1} {𝓤 : Ura M} {𝓛 : Logic 𝓤} {K : Type 0} {Γ : List (Item 𝓤)} {G : Goal 𝓤 𝓛.H} (a : Global) where
  pub either : K → (p : Ptr) (x : Option Seat)
      → (x ≡ None → p ≡ null_ptr → Seq K 𝓛 Γ G)
      → ((v : Seat) (b o : ℕ) → x ≡ Some v → p ≡ block_ptr b o → Testable (block_ptr b o) → Seq K 𝓛 (‵ (box_owns heap_token seat.the_row (block_ptr b o) v) ∷ Γ) G)
      → Seq K 𝓛 (‵ (owned seat.the_row p x) ∷ Γ) G
  either t p None none some = feq_l t (λ e. none refl e)
  either t p (Some v) none some =
      in_a_block t p (λ q. box_owns heap_token seat.the_row q v) (fst∗ 𝓤 (never 𝓤) (sem 𝓛 (heap_token (bare (lone seat.the_row.mir)) null_ptr))) (λ b o e.
      use1 𝓛 (given (Testable (block_ptr b o)) (‵ (box_owns heap_token seat.the_row (block_ptr b o) v))) (tested 𝓛 a (block_ptr b o) v) $ learn t (λ m. some v b o refl e m))
