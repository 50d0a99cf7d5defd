-- Parts downwards of a list of rows with rising keys.
use Rattle.std.proofs.Common.{◌≡◌, ℕ, ◌+◌, ◌-◌, ◌<◌, ◌≤◌, List, length, get_or, take, reverse, refl, sym, ap, ◌∙◌, subst, inl, inr, arith}
use Rattle.std.proofs.lemmas.Grind.{common_steps}
use Rattle.std.proofs.lemmas.Bool.{cases_order, cases_lt}
use Rattle.std.proofs.lemmas.List.{length-take-le, length-reverse, get_or-take, get_or-reverse}
use Rattle.bl_model.specs.declared.operation.Op.TheVariants.{PartDown}
use Rattle.bl_model.specs.declared.operation.Next.TheVariants.{More, End}
use Rattle.bl_model.specs.declared.operation.Reply.{Reply}
use Rattle.bl_model.specs.declared.operation.Reply.TheVariants.{Found, Absent, Inserted, Present, Replaced, Deleted, Changed, Differs, Rows, NoRoom}
use Rattle.bl_model.specs.Map.{ListsPairs, IsMapStep, IsPartDown}
use Rattle.bl_model.specs.Plain.{BeginsPart, FillsPart}
use Rattle.bl_model.specs.Rows.{map_of, key_at, HasRisingKeys, IsAt, IsGapFor}
use Rattle.bl_model.proofs.Maps.{same_map-refl}
use Rattle.bl_model.proofs.Places.{map_of-at}
use Rattle.bl_model.proofs.Parts.{lists_window}

-- the keys up to it stand before place n, and no others
pub record IsCountTo (rows : List (ℕ × ℕ)) (from n : ℕ) : Type 0 where
  pub in_range : n ≤ length rows
  pub before : (j : ℕ) → j < n → key_at rows j ≤ from
  pub behind : (j : ℕ) → n ≤ j → j < length rows → from < key_at rows j

pub count_at : (rows : List (ℕ × ℕ)) (from i : ℕ) → HasRisingKeys rows → IsAt rows from i → IsCountTo rows from (i + 1)
count_at rows from i rising at = record {
  in_range = omega (arith, at.in_range);
  before = λ j lt. elim (cases_order j i) [
    | inl same ↦ let here : key_at rows j ≡ key_at rows i = ap (key_at rows) same in omega (arith, here, at.has_key)
    | inr order ↦ elim order [ inl less ↦ omega (arith, rising j i less at.in_range, at.has_key) | inr more ↦ absurd (omega arith) ]
  ];
  behind = λ j le lt. omega (arith, rising i j (omega arith) lt, at.has_key);
}

pub count_gap : (rows : List (ℕ × ℕ)) (from i : ℕ) → IsGapFor rows from i → IsCountTo rows from i
count_gap rows from i gap = record {
  in_range = gap.in_range;
  before = λ j lt. omega (arith, gap.smaller_before j lt);
  behind = gap.greater_after;
}

-- the items are the n rows from place i on, the last one first, and those are the ones whose keys are taken
pub lists_back : (rows items : List (ℕ × ℕ)) (Takes : ℕ → Type 0) (i n : ℕ) → HasRisingKeys rows → length items ≡ n → i + n ≤ length rows
    → ((j : ℕ) (d : ℕ × ℕ) → j < n → get_or items j d ≡ get_or rows (i + n - 1 - j) d) → ((j : ℕ) → j < n → Takes (key_at rows (i + j)))
    → ((p : ℕ) → p < length rows → Takes (key_at rows p) → (i ≤ p) × (p < i + n)) → ListsPairs (map_of rows) Takes (reverse items)
lists_back rows items Takes i n rising long within is taken only = lists_window rows (reverse items) Takes i n rising (length-reverse items ∙ long) within
    (λ j d lt. let place : i + n - 1 - (length items - 1 - j) ≡ i + j = omega (arith, long) in
    get_or-reverse items j d (omega (arith, long)) ∙ is (length items - 1 - j) d (omega (arith, long)) ∙ ap (λ q. get_or rows q d) place)
    taken only

module _ (rows : List (ℕ × ℕ)) (rising : HasRisingKeys rows) (from n : ℕ) (count : IsCountTo rows from n) where
  long_back : length (reverse (take n rows)) ≡ n
  long_back = length-reverse (take n rows) ∙ length-take-le n rows count.in_range

  at_back : (j : ℕ) (d : ℕ × ℕ) → j < n → get_or (reverse (take n rows)) j d ≡ get_or rows (n - 1 - j) d
  at_back j d lt = let long = length-take-le n rows count.in_range in let place : length (take n rows) - 1 - j ≡ n - 1 - j = omega (arith, long) in
      get_or-reverse (take n rows) j d (omega (arith, long)) ∙ get_or-take n rows (length (take n rows) - 1 - j) d (omega (arith, long)) ∙ ap (λ q. get_or rows q d) place

  -- the key of the row where the next part begins
  next_back : (next : ℕ) → 14 < n → next ≡ key_at (reverse (take n rows)) 14 → key_at rows (n - 15) ≡ next
  next_back next many e = let place : n - 15 ≡ n - 1 - 14 = omega arith in
      ap (key_at rows) place ∙ ap (λ (r : ℕ × ℕ). r.0) (sym (at_back 14 (0, 0) many)) ∙ sym e

  not_before : (p end next : ℕ) → end < length rows → key_at rows end ≡ next → p < length rows → next < key_at rows p → end < p
  not_before p end next inside here lt low = elim (cases_lt end p) [
    | inl less ↦ less
    | inr more ↦ absurd (elim (cases_lt p end) [
      | inl less ↦ omega (arith, here, rising p end less inside)
      | inr le ↦ let same : p ≡ end = omega arith in let keys = ap (key_at rows) same in omega (arith, here, keys)
    ])
  ]

  not_behind : (p : ℕ) → p < length rows → key_at rows p ≤ from → p < n
  not_behind p lt low = elim (cases_lt p n) [ inl less ↦ less | inr le ↦ absurd (omega (arith, count.behind p le lt)) ]

  -- a part that stops before the end
  down_more : (items : List (ℕ × ℕ)) (next : ℕ) → 14 < n → items ≡ take 14 (reverse (take n rows)) → next ≡ key_at (reverse (take n rows)) 14 → IsPartDown (map_of rows) from items (More next)
  down_more items next many is e = let here = next_back next many e in let within = count.in_range in (
    omega (arith, here, count.before (n - 1) (omega arith), rising (n - 15) (n - 1) (omega arith) (omega arith)),
    lists_back rows items (λ key. (next < key) × (key ≤ from)) (n - 14) 14 rising (ap length is ∙ length-take-le 14 (reverse (take n rows)) (omega (arith, long_back))) (omega arith)
        (λ j d lt. let place : n - 1 - j ≡ n - 14 + 14 - 1 - j = omega arith in
        ap (λ r. get_or r j d) is ∙ get_or-take 14 (reverse (take n rows)) j d lt ∙ at_back j d (omega arith) ∙ ap (λ q. get_or rows q d) place)
        (λ j lt. (omega (arith, here, rising (n - 15) (n - 14 + j) (omega arith) (omega arith)), count.before (n - 14 + j) (omega arith)))
        (λ p lt takes. (omega (arith, not_before p (n - 15) next (omega arith) here lt takes.0), omega (arith, not_behind p lt takes.1))),
  )

  -- all of them
  pub lists_down : (items : List (ℕ × ℕ)) → items ≡ reverse (take n rows) → ListsPairs (map_of rows) (λ key. key ≤ from) (reverse items)
  lists_down items is = lists_back rows items (λ key. key ≤ from) 0 n rising (ap length is ∙ long_back) (omega (arith, count.in_range))
      (λ j d lt. let place : n - 1 - j ≡ 0 + n - 1 - j = omega arith in ap (λ r. get_or r j d) is ∙ at_back j d lt ∙ ap (λ q. get_or rows q d) place)
      (λ j lt. count.before (0 + j) (omega arith))
      (λ p lt takes. (omega arith, omega (arith, not_behind p lt takes)))

  pub step_part_down : (reply : Reply) → BeginsPart (reverse (take n rows)) reply → IsMapStep (map_of rows) (PartDown from) reply (map_of rows)
  step_part_down (Rows part (More next)) h = record { answer = down_more part.items next (omega (arith, long_back, h.0)) h.1 h.2; after = same_map-refl (map_of rows) }
  step_part_down (Rows part End) h = record { answer = lists_down part.items h.1; after = same_map-refl (map_of rows) }
  step_part_down (Found v) h = absurd h
  step_part_down Absent h = absurd h
  step_part_down Inserted h = absurd h
  step_part_down (Present v) h = absurd h
  step_part_down (Replaced v) h = absurd h
  step_part_down (Deleted v) h = absurd h
  step_part_down Changed h = absurd h
  step_part_down (Differs v) h = absurd h
  step_part_down NoRoom h = absurd h

  pub fills_part_down : (reply : Reply) → BeginsPart (reverse (take n rows)) reply → FillsPart (map_of rows) reply
  fills_part_down (Rows part (More next)) h = let within = count.in_range in (
    ap length h.1 ∙ length-take-le 14 (reverse (take n rows)) (omega (arith, h.0)),
    rw (map_of-at rows rising next (n - 15) (record { in_range = omega (arith, long_back, h.0); has_key = next_back next (omega (arith, long_back, h.0)) h.2 })) refl,
  )
  fills_part_down (Rows part End) h = omega (arith, h.0, ap length h.1)
  fills_part_down (Found v) h = tt
  fills_part_down Absent h = tt
  fills_part_down Inserted h = tt
  fills_part_down (Present v) h = tt
  fills_part_down (Replaced v) h = tt
  fills_part_down (Deleted v) h = tt
  fills_part_down Changed h = tt
  fills_part_down (Differs v) h = tt
  fills_part_down NoRoom h = tt

-- the list up to a place, as a slice of it
pub begins_head : (rows whole : List (ℕ × ℕ)) (n : ℕ) (reply : Reply) → whole ≡ rows → BeginsPart (reverse (take n whole)) reply → BeginsPart (reverse (take n rows)) reply
begins_head rows whole n reply is h = subst (λ r. BeginsPart (reverse (take n r)) reply) is h
