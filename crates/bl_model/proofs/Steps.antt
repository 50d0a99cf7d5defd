-- What PlainMap answers is a map step.
use Rattle.std.proofs.Common.{◌≡◌, ◌≢◌, ℕ, ◌+◌, ◌-◌, ◌<◌, ◌≤◌, List, length, get_or, take, drop, Some, Result, Ok, Err, OnErr, refl, sym, ap, ◌∙◌, subst, inl, inr, arith}
use Rattle.std.specs.Prelude.{set}
use Rattle.std.specs.List.{insert, remove}
use Rattle.std.proofs.lemmas.Grind.{common_steps}
use Rattle.std.proofs.lemmas.Bool.{cases_lt}
use Rattle.std.proofs.lemmas.List.{get_or_default, length-drop, length-take-le, get_or-take, get_or-drop}
use Rattle.bl_model.specs.declared.operation.Op.TheVariants.{Find, Insert, Put, Delete, Change, Part}
use Rattle.bl_model.specs.declared.operation.Next.TheVariants.{More, End}
use Rattle.bl_model.specs.declared.operation.Reply.{Reply}
use Rattle.bl_model.specs.declared.operation.Reply.TheVariants.{Found, Absent, Inserted, Present, Replaced, Deleted, Changed, Differs, Rows, NoRoom}
use Rattle.bl_model.specs.Map.{IsMapStep, IsPart}
use Rattle.bl_model.specs.Plain.{BeginsPart, FillsPart}
use Rattle.bl_model.specs.Rows.{map_of, key_at, HasRisingKeys, IsAt, IsGapFor}
use Rattle.bl_model.proofs.Maps.{same_map-refl}
use Rattle.bl_model.proofs.Places.{map_of-at, map_of-gap, same_map-insert, same_map-remove, same_map-set}
use Rattle.bl_model.proofs.Parts.{IsPlaceOf, lists_window}

module _ (rows : List (ℕ × ℕ)) (rising : HasRisingKeys rows) (k at : ℕ) (is_at : IsAt rows k at) (row : ℕ × ℕ) (read : row ≡ get_or rows at row) where
  -- the map has the value of the row that was read
  value_is : map_of rows k ≡ Some row.1
  value_is = map_of-at rows rising k at is_at ∙ ap (λ (r : ℕ × ℕ). Some r.1) (get_or_default rows at (0, 0) row is_at.in_range ∙ sym read)

  pub step_found : IsMapStep (map_of rows) (Find k) (Found row.1) (map_of rows)
  step_found = record { answer = value_is; after = same_map-refl (map_of rows) }

  pub step_present : (v : ℕ) → IsMapStep (map_of rows) (Insert k v) (Present row.1) (map_of rows)
  step_present v = record { answer = value_is; after = same_map-refl (map_of rows) }

  pub step_deleted : (new : List (ℕ × ℕ)) → new ≡ remove rows at → IsMapStep (map_of rows) (Delete k) (Deleted row.1) (map_of new)
  step_deleted new is = record { answer = value_is; after = λ q. ap (λ r. map_of r q) is ∙ same_map-remove rows rising k at is_at q }

  pub step_changed : (old new : ℕ) → row.1 ≡ old → (rows' : List (ℕ × ℕ)) → rows' ≡ set rows at (k, new) → IsMapStep (map_of rows) (Change k old new) Changed (map_of rows')
  step_changed old new same rows' is = record { answer = value_is ∙ ap (λ z. Some z) same; after = λ q. ap (λ r. map_of r q) is ∙ same_map-set rows rising k at is_at new q }

  pub step_replaced : (v : ℕ) (rows' : List (ℕ × ℕ)) → rows' ≡ set rows at (k, v) → IsMapStep (map_of rows) (Put k v) (Replaced row.1) (map_of rows')
  step_replaced v rows' is = record { answer = value_is; after = λ q. ap (λ r. map_of r q) is ∙ same_map-set rows rising k at is_at v q }

  pub step_differs : (old new : ℕ) → row.1 ≢ old → IsMapStep (map_of rows) (Change k old new) (Differs row.1) (map_of rows)
  step_differs old new other = record { answer = (value_is, other); after = same_map-refl (map_of rows) }

module _ (rows : List (ℕ × ℕ)) (k at : ℕ) (gap : IsGapFor rows k at) where
  pub step_absent : IsMapStep (map_of rows) (Find k) Absent (map_of rows)
  step_absent = record { answer = map_of-gap rows k at gap; after = same_map-refl (map_of rows) }

  pub step_gone : IsMapStep (map_of rows) (Delete k) Absent (map_of rows)
  step_gone = record { answer = map_of-gap rows k at gap; after = same_map-refl (map_of rows) }

  pub step_unchanged : (old new : ℕ) → IsMapStep (map_of rows) (Change k old new) Absent (map_of rows)
  step_unchanged old new = record { answer = map_of-gap rows k at gap; after = same_map-refl (map_of rows) }

  pub step_inserted : (v : ℕ) (new : List (ℕ × ℕ)) → new ≡ insert rows at (k, v) → IsMapStep (map_of rows) (Insert k v) Inserted (map_of new)
  step_inserted v new is = record { answer = map_of-gap rows k at gap; after = λ q. ap (λ r. map_of r q) is ∙ same_map-insert rows k at gap v q }

  pub step_entered : (v : ℕ) (new : List (ℕ × ℕ)) → new ≡ insert rows at (k, v) → IsMapStep (map_of rows) (Put k v) Inserted (map_of new)
  step_entered v new is = record { answer = map_of-gap rows k at gap; after = λ q. ap (λ r. map_of r q) is ∙ same_map-insert rows k at gap v q }

module _ (rows : List (ℕ × ℕ)) (rising : HasRisingKeys rows) (from at : ℕ) (place : IsPlaceOf rows from at) where
  -- the key of the row where the next part begins
  next_key : (next : ℕ) → next ≡ key_at (drop at rows) 14 → key_at rows (at + 14) ≡ next
  next_key next e = ap (λ (r : ℕ × ℕ). r.0) (sym (get_or-drop at rows 14 (0, 0))) ∙ sym e

  not_before : (p : ℕ) → from ≤ key_at rows p → at ≤ p
  not_before p low = elim (cases_lt p at) [ inl less ↦ absurd (omega (arith, place.before p less)) | inr le ↦ le ]

  not_behind : (p end next : ℕ) → end < length rows → key_at rows end ≡ next → p < length rows → key_at rows p < next → p < end
  not_behind p end next inside here lt high = elim (cases_lt p end) [
    | inl less ↦ less
    | inr more ↦ absurd (elim (cases_lt end p) [
      | inl less ↦ omega (arith, here, rising end p less lt)
      | inr le ↦ let same : p ≡ end = omega arith in let keys = ap (key_at rows) same in omega (arith, here, keys)
    ])
  ]

  -- a part that stops before the end
  part_more : (items : List (ℕ × ℕ)) (next : ℕ) → 14 < length (drop at rows) → items ≡ take 14 (drop at rows) → next ≡ key_at (drop at rows) 14 → IsPart (map_of rows) from items (More next)
  part_more items next many is e = let more = length-drop at rows in let here = next_key next e in (
    omega (arith, here, place.behind at (omega arith) (omega (arith, more)), rising at (at + 14) (omega arith) (omega (arith, more))),
    lists_window rows items (λ key. (from ≤ key) × (key < next)) at 14 rising (ap length is ∙ length-take-le 14 (drop at rows) (omega arith)) (omega (arith, more))
        (λ j d lt. ap (λ r. get_or r j d) is ∙ get_or-take 14 (drop at rows) j d lt ∙ get_or-drop at rows j d)
        (λ j lt. (place.behind (at + j) (omega arith) (omega (arith, more)), omega (arith, here, rising (at + j) (at + 14) (omega arith) (omega (arith, more)))))
        (λ p lt takes. (not_before p takes.0, not_behind p (at + 14) next (omega (arith, more)) here lt takes.1)),
  )

  -- a part to the end
  part_end : (items : List (ℕ × ℕ)) → items ≡ drop at rows → IsPart (map_of rows) from items End
  part_end items is = let more = length-drop at rows in let len : length items ≡ length (drop at rows) = ap length is in
      let size : at + length items ≡ length rows = omega (arith, more, len, place.in_range) in
      lists_window rows items (λ key. from ≤ key) at (length items) rising refl (omega (arith, size))
      (λ j d lt. ap (λ r. get_or r j d) is ∙ get_or-drop at rows j d)
      (λ j lt. place.behind (at + j) (omega arith) (omega (arith, size)))
      (λ p lt takes. (not_before p takes, omega (arith, size)))

  pub step_part : (reply : Reply) → BeginsPart (drop at rows) reply → IsMapStep (map_of rows) (Part from) reply (map_of rows)
  step_part (Rows part (More next)) h = record { answer = part_more part.items next h.0 h.1 h.2; after = same_map-refl (map_of rows) }
  step_part (Rows part End) h = record { answer = part_end part.items h.1; after = same_map-refl (map_of rows) }
  step_part (Found v) h = absurd h
  step_part Absent h = absurd h
  step_part Inserted h = absurd h
  step_part (Present v) h = absurd h
  step_part (Replaced v) h = absurd h
  step_part (Deleted v) h = absurd h
  step_part Changed h = absurd h
  step_part (Differs v) h = absurd h
  step_part NoRoom h = absurd h

  pub fills_part : (reply : Reply) → BeginsPart (drop at rows) reply → FillsPart (map_of rows) reply
  fills_part (Rows part (More next)) h = let more = length-drop at rows in (
    ap length h.1 ∙ length-take-le 14 (drop at rows) (omega (arith, h.0)),
    rw (map_of-at rows rising next (at + 14) (record { in_range = omega (arith, more, h.0); has_key = next_key next h.2 })) refl,
  )
  fills_part (Rows part End) h = omega (arith, h.0, ap length h.1)
  fills_part (Found v) h = tt
  fills_part Absent h = tt
  fills_part Inserted h = tt
  fills_part (Present v) h = tt
  fills_part (Replaced v) h = tt
  fills_part (Deleted v) h = tt
  fills_part Changed h = tt
  fills_part (Differs v) h = tt
  fills_part NoRoom h = tt

-- the rest of a list from a place, as a slice of it
pub begins_tail : (rows whole : List (ℕ × ℕ)) (at : ℕ) (reply : Reply) → whole ≡ rows → BeginsPart (take (length whole - at) (drop at whole)) reply → BeginsPart (drop at rows) reply
begins_tail rows whole at reply is h = let tail : take (length whole - at) (drop at whole) ≡ drop at whole = grind (arith, common_steps) in
    subst (λ r. BeginsPart r reply) (tail ∙ ap (drop at) is) h

-- what holds anyway holds at an error
pub OnErr_any : {T E : Type 0} {P : Type 0} (r : Result T E) → P → OnErr r P
OnErr_any (Ok x) h = tt
OnErr_any (Err e) h = h
