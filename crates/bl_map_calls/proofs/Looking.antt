-- A scan goes on part by part: for the first row, or for how many there are.
use Rattle.std.proofs.Common.{◌≡◌, ℕ, ◌+◌, ◌-◌, ◌^◌, ◌≤◌, true, false, Option, Some, None, List, [], ◌∷◌, ◌++◌, refl, sym, ap, ◌∙◌, subst, length, arith}
use Rattle.std.specs.Prelude.{filter, min}
use Rattle.std.proofs.lemmas.List.{length-append}
use Rattle.std.proofs.lemmas.Bool.Decides.{nat_tests}
use Rattle.bl_page.specs.declared.page.Page.{Page}
use Rattle.bl_model.specs.declared.operation.Op.TheVariants.{Part}
use Rattle.bl_model.specs.declared.operation.Reply.{Reply}
use Rattle.bl_proc.specs.declared.parts.Direction.{Direction}
use Rattle.bl_proc.specs.declared.parts.Direction.TheVariants.{Up, Down}
use Rattle.bl_proc.specs.Parts.{op_toward}
use Rattle.bl_model.specs.Parts.{rows_of, ended_at}
use Rattle.bl_claims.specs.Trails.{Trail}
use Rattle.bl_index_read.specs.Searching.{Finds}
use Rattle.bl_index_read.specs.LeafRows.{is_below, IsBelow, is_before, IsBefore, IsFrom}
use Rattle.bl_index_read.proofs.Orders.{from_itself, from_on, before_none, past}
use Rattle.bl_index_range.specs.Parts.{rows_below, rows_before}
use Rattle.bl_index.specs.Scans.{Scans}
use Rattle.bl_index.proofs.PartByPart.{scans_none, scans_more}
use Rattle.bl_map_calls.specs.declared.least.Found.TheVariants.{Row, GoesOn, Nothing}
use Rattle.bl_map_calls.specs.Leasts.{FindsFirst, IsFoundIn, CountsRows}
use Rattle.bl_map_calls.proofs.Scanning.{HasSearched, IsFurther, by_call}

module _ (first : List (Option Page)) (pages pass it turns : ℕ) (direction : Direction) (from : ℕ) (to : Option ℕ) (listed : List (ℕ × ℕ)) (old mid new : Trail) (same : it ≡ pass) (is_turns : turns ≡ pages) where
  -- a part more was answered
  pub part_more : (at : ℕ) (reply : Reply) → HasSearched first pages pass direction from to (Some at) listed old mid → IsFrom direction from at → IsBefore direction to at → Finds first pages it turns (op_toward direction at) reply mid new
      → HasSearched first pages pass direction from to (ended_at reply) (listed ++ rows_before direction to reply) old new × IsFurther direction (Some at) (ended_at reply)
  part_more at reply s on_way before finds =
      let one : Scans first pages it turns direction at to (ended_at reply) (rows_before direction to reply) mid new = scans_more first pages it turns direction at reply mid new finds at to [] mid (scans_none first pages it turns direction at to mid) (from_itself direction at) before in
      by_call first pages pass it turns direction from at to listed (rows_before direction to reply) old mid new same is_turns s on_way (ended_at reply) new one

all_before : (direction : Direction) (rows : List (ℕ × ℕ)) → filter (λ row. is_before direction None row.0) rows ≡ rows
all_before Up [] = refl
all_before Up (row ∷ rows) = ap (λ (z : List (ℕ × ℕ)). row ∷ z) (all_before Up rows)
all_before Down [] = refl
all_before Down (row ∷ rows) = ap (λ (z : List (ℕ × ℕ)). row ∷ z) (all_before Down rows)

-- ---- the first row

module _ (first : List (Option Page)) (pages pass it turns : ℕ) (direction : Direction) (from at : ℕ) (reply : Reply) (old mid new : Trail) (same : it ≡ pass) (is_turns : turns ≡ pages)
    (s : HasSearched first pages pass direction from None (Some at) [] old mid) (on_way : IsFrom direction from at) (finds : Finds first pages it turns (op_toward direction at) reply mid new) where
  so_far : HasSearched first pages pass direction from None (ended_at reply) (rows_of reply) old new × IsFurther direction (Some at) (ended_at reply)
  so_far = subst (λ (z : List (ℕ × ℕ)). HasSearched first pages pass direction from None (ended_at reply) z old new × IsFurther direction (Some at) (ended_at reply)) (all_before direction (rows_of reply))
      (part_more first pages pass it turns direction from None [] old mid new same is_turns at reply s on_way (before_none direction at) finds)

  pub row_there : (row : ℕ × ℕ) → IsFoundIn reply (Row row) → FindsFirst first pages pass direction from (Some row) old new
  row_there row is = record { rows = rows_of reply; upto = ended_at reply; scanned = so_far.0.scanned; searches = so_far.0.searches; is = is }

  pub none_there : IsFoundIn reply Nothing → FindsFirst first pages pass direction from None old new
  none_there is = record { rows = rows_of reply; upto = ended_at reply; scanned = so_far.0.scanned; searches = so_far.0.searches; is = is }

  pub none_yet : (key : ℕ) → IsFoundIn reply (GoesOn key) → IsFrom direction from key × HasSearched first pages pass direction from None (Some key) [] old new
  none_yet key is =
      let on = subst (λ (z : List (ℕ × ℕ) × Option ℕ). HasSearched first pages pass direction from None z.1 z.0 old new × IsFurther direction (Some at) z.1) (λ i. (is.0 i, is.1 i)) so_far in
      (from_on direction from at key on_way on.1, on.0)

-- ---- how many rows

pub below_so : (to : Option ℕ) (at : ℕ) → is_below to at ≡ true → IsBelow to at
below_so None at is = tt
below_so (Some end) at is = grind (arith, nat_tests, is)

pub not_so : (to : Option ℕ) (at : ℕ) → is_below to at ≡ false → IsBelow to at → ⊥
not_so None at is below = let never : ⊥ = cc in never
not_so (Some end) at is below = grind (arith, nat_tests, is, below)

-- a scan that has come to that key, and has counted its rows
abbrev pub HasCountedTo : List (Option Page) → ℕ → ℕ → ℕ → Option ℕ → Option ℕ → ℕ → Trail → Trail → Type 0
HasCountedTo first pages pass from to upto counted old new = (rows : List (ℕ × ℕ)) × HasSearched first pages pass Up from to upto rows old new × (counted ≡ min (length rows) (2 ^ 64 - 1))

counted_more : (rows more : List (ℕ × ℕ)) (counted sum : ℕ) → counted ≡ min (length rows) (2 ^ 64 - 1) → sum ≡ min (counted + length more) (2 ^ 64 - 1) → sum ≡ min (length (rows ++ more)) (2 ^ 64 - 1)
counted_more rows more counted sum is on =
    let long = length-append rows more in
    grind (arith, nat_tests, is, on, long)

module _ (first : List (Option Page)) (pages pass it turns from at : ℕ) (to : Option ℕ) (reply : Reply) (counted sum : ℕ) (old mid new : Trail) (same : it ≡ pass) (is_turns : turns ≡ pages)
    (s : HasCountedTo first pages pass from to (Some at) counted old mid) (low : from ≤ at) (below : is_below to at ≡ true) (finds : Finds first pages it turns (Part at) reply mid new) (is : sum ≡ min (counted + length (rows_below to reply)) (2 ^ 64 - 1)) where
  so_counted : HasCountedTo first pages pass from to (ended_at reply) sum old new × IsFurther Up (Some at) (ended_at reply)
  so_counted =
      let on = part_more first pages pass it turns Up from to s.0 old mid new same is_turns at reply s.1 low (below_so to at below) finds in
      ((s.0 ++ rows_below to reply, on.0, counted_more s.0 (rows_below to reply) counted sum s.2 is), on.1)

  -- the scan goes on
  pub counted_on : (key : ℕ) → ended_at reply ≡ Some key → (from ≤ key) × HasCountedTo first pages pass from to (Some key) sum old new
  counted_on key ends =
      let on = subst (λ (z : Option ℕ). HasCountedTo first pages pass from to z sum old new × IsFurther Up (Some at) z) ends so_counted in
      (let further : at ≤ key = on.1 in omega arith, on.0)

  -- it has come to the end of the map
  pub counted_all : ended_at reply ≡ None → CountsRows first pages pass from to sum old new
  counted_all ends =
      let on = subst (λ (z : Option ℕ). HasCountedTo first pages pass from to z sum old new) ends so_counted.0 in
      record { rows = on.0; upto = None; scanned = on.1.scanned; searches = on.1.searches; over = tt; count = on.2 }

-- or to its own
pub counted_up_to : (first : List (Option Page)) (pages pass from at : ℕ) (to : Option ℕ) (counted : ℕ) (old new : Trail) → HasCountedTo first pages pass from to (Some at) counted old new → is_below to at ≡ false → CountsRows first pages pass from to counted old new
counted_up_to first pages pass from at to counted old new s fails = record { rows = s.0; upto = Some at; scanned = s.1.scanned; searches = s.1.searches; over = past Up to at fails; count = s.2 }
