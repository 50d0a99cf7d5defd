-- The rows that a scan has listed stand in the image that is made of them.
use Rattle.std.proofs.Common.{◌≡◌, ℕ, ◌<◌, Option, None, List, [], Result, length, sym, ap, ◌∙◌, subst}
use Rattle.std.specs.Prelude.{Ok, Err, IfOk, IfErr}
use Rattle.std.specs.declared.alloc.AllocError.{AllocError}
use Rattle.bl_page.specs.declared.page.Page.{Page}
use Rattle.bl_check.specs.declared.quiet.Quiet.{Quiet}
use Rattle.bl_claims.specs.Trails.{Trail}
use Rattle.bl_index_read.specs.Sinks.{Appends}
use Rattle.bl_load.specs.Loads.{HoldsRows, IsFaultOf}
use Rattle.bl_load.specs.declared.fault.LoadFault.{LoadFault}
use Rattle.bl_load.specs.declared.fault.LoadFault.TheVariants as fault
use Rattle.bl_map_calls.specs.Copies.{IsCopyOf, Copies}
use Rattle.bl_proc.specs.declared.parts.Direction.TheVariants.{Up}
use Rattle.bl_map_calls.specs.Scans.{Scanned}

-- what is said of an image of all rows, of its pages and of its fault, is said together
image_is : (rows : List (ℕ × ℕ)) (pages fill : ℕ) (done : Unit {0}) (result : Result Quiet LoadFault)
    → IfOk result (λ quiet. HoldsRows fill rows quiet.image.pages.items) → IfOk result (λ quiet. length quiet.image.pages.items ≡ pages)
    → IfErr result (IsFaultOf rows pages fill) → IsCopyOf {E = AllocError} rows pages fill (Ok done) result
image_is rows pages fill done (Ok quiet) holds long wrong = ((holds, long), wrong)
image_is rows pages fill done (Err e) holds long wrong = (holds, wrong)

module _ (first : List (Option Page)) (pages pass fill room : ℕ) (before rows : List (ℕ × ℕ)) (listed : Result (Unit {0}) AllocError) (result : Result Quiet LoadFault)
    (old new : Trail) (none : before ≡ []) (s : Scanned Appends (λ many. room < many) first pages pass Up 0 None listed before rows old new) where
  copied : IsCopyOf rows pages fill listed result → Copies first pages pass fill result old new
  copied copy = record {
    rows = rows;
    room = room;
    listed = listed;
    scanned = subst (λ (z : List (ℕ × ℕ)). Scanned Appends (λ many. room < many) first pages pass Up 0 None listed z rows old new) none s;
    copy = copy;
  }

  pub copied_all : (done : Unit {0}) (given : List (ℕ × ℕ)) (count : ℕ) → listed ≡ Ok done → given ≡ rows → count ≡ pages
      → IfOk result (λ quiet. HoldsRows fill given quiet.image.pages.items) → IfOk result (λ quiet. length quiet.image.pages.items ≡ count)
      → IfErr result (IsFaultOf given count fill) → Copies first pages pass fill result old new
  copied_all done given count all same long holds sized wrong =
      let copy = image_is given count fill done result holds sized wrong in
      let mine = subst (λ (z : List (ℕ × ℕ) × ℕ). IsCopyOf {E = AllocError} z.0 z.1 fill (Ok done) result) (λ i. (same i, long i)) copy in
      copied (subst (λ (z : Result (Unit {0}) AllocError). IsCopyOf rows pages fill z result) (sym all) mine)

  pub no_memory : (e : AllocError) → listed ≡ Err e → result ≡ Err fault.Memory → Copies first pages pass fill result old new
  no_memory e lost said = copied (subst (λ (z : Result (Unit {0}) AllocError). IsCopyOf rows pages fill z result) (sym lost) said)
