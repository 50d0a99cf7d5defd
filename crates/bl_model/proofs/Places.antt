-- What a search finds among rows with rising keys, and what an edit at that place does.
use Rattle.std.proofs.Common.{◌≡◌, ℕ, ◌+◌, ◌-◌, ◌<◌, ◌≤◌, List, length, get_or, Some, None, Result, Ok, Err, IfOk, IfErr, sym, ap, ◌∙◌, subst, inl, inr, arith}
use Rattle.std.specs.Prelude.{set}
use Rattle.std.specs.List.{insert, remove}
use Rattle.std.specs.List.Sorted.{IsSearchInRange, IsBinarySearchResult, IsNonDecreasingBy}
use Rattle.std.specs.Ordering.{nat_cmp, ordering_index}
use Rattle.std.proofs.lemmas.Cmp.{ranked}
use Rattle.std.proofs.lemmas.List.Sorted.{IsNonDecreasingBy-from_default}
use Rattle.std.proofs.lemmas.List.{length-set, get_or-set_same, get_or-set_other}
use Rattle.std.proofs.lemmas.List.Edits.{length-insert, get_or-insert_below, get_or-insert_at, get_or-insert_above}
use Rattle.std.proofs.lemmas.Bool.{cases_eq}
use Rattle.std.proofs.lemmas.Bool.Decides.{nat_tests}
use Rattle.bl_model.specs.Map.{SameMap, with_pair, without_key}
use Rattle.bl_model.specs.Rows.{map_of, key_at, HasRisingKeys, IsAt, IsGapFor}
use Rattle.bl_model.proofs.Lookups.{NoKeyBefore, map_of-absent, map_of-present, map_of-insert, map_of-remove, map_of-set}

module _ (rows : List (ℕ × ℕ)) (rising : HasRisingKeys rows) (k : ℕ) where
  -- the comparisons with k rise along the rows, as a binary search asks
  comparisons_rise : IsNonDecreasingBy (λ row. ordering_index (nat_cmp row.0 k)) rows
  comparisons_rise = IsNonDecreasingBy-from_default (λ row. ordering_index (nat_cmp row.0 k)) rows (0, 0) (λ i j le in_range.
      let keys_rise : key_at rows i ≤ key_at rows j = grind (arith, rising i j, λ (same : i ≡ j). ap (key_at rows) same) in
      grind (arith, nat_tests))

  -- a binary search by key ends at the key, or at the gap for it
  pub searched : (r : Result ℕ ℕ) → IsSearchInRange r (length rows) → IsBinarySearchResult (λ row. nat_cmp row.0 k) rows r
      → record { found : IfOk r (IsAt rows k); absent : IfErr r (IsGapFor rows k) }
  searched (Ok at) in_range equal = record { found = record { in_range = in_range; has_key = ranked _ k _ (sym (equal (0, 0))) }; absent = tt }
  searched (Err at) in_range split = record {
    found = tt;
    absent = record {
      in_range = in_range;
      smaller_before = λ j lt. ranked _ k _ (sym ((split comparisons_rise).0 j (0, 0) (omega arith) lt));
      greater_after = λ j le lt. ranked _ k _ (sym ((split comparisons_rise).1 j (0, 0) le lt));
    };
  }

module _ (rows : List (ℕ × ℕ)) (rising : HasRisingKeys rows) (k at : ℕ) (is_at : IsAt rows k at) where
  -- the keys before the place are smaller, so none is k
  no_key_before_at : NoKeyBefore rows k at
  no_key_before_at j lt same = omega (arith, rising j at lt is_at.in_range, is_at.has_key)

  -- the key is found at its place
  pub map_of-at : map_of rows k ≡ Some (get_or rows at (0, 0)).1
  map_of-at = map_of-present rows k at is_at no_key_before_at

  -- a removal there takes that key away alone
  pub same_map-remove : SameMap (without_key (map_of rows) k) (map_of (remove rows at))
  same_map-remove q = map_of-remove rows k at rising is_at q

  -- another value there changes that key alone, and keeps the order
  pub same_map-set : (v : ℕ) → SameMap (with_pair (map_of rows) k v) (map_of (set rows at (k, v)))
  same_map-set v q = map_of-set rows k v at rising is_at q

  pub rising-set : (v : ℕ) → HasRisingKeys (set rows at (k, v))
  rising-set v i j lt in_range =
      let new = set rows at (k, v) in
      let long = length-set rows at (k, v) in
      let key : (p : ℕ) → key_at new p ≡ key_at rows p = λ p. elim (cases_eq p at) [
        | inl here ↦ rw here (ap (λ (x : ℕ × ℕ). x.0) (get_or-set_same rows at (k, v) (0, 0) is_at.in_range) ∙ sym is_at.has_key)
        | inr other ↦ ap (λ (x : ℕ × ℕ). x.0) (get_or-set_other rows at p (k, v) (0, 0) other)
      ] in
      omega (arith, key i, key j, rising i j lt (omega (arith, long)))

module _ (rows : List (ℕ × ℕ)) (k at : ℕ) (gap : IsGapFor rows k at) where
  -- a key that has a gap is not found
  pub map_of-gap : map_of rows k ≡ None
  map_of-gap = map_of-absent rows k (λ j lt same. grind (arith, gap.smaller_before j, gap.greater_after j))

  -- a new row in the gap adds that pair alone
  pub same_map-insert : (v : ℕ) → SameMap (with_pair (map_of rows) k v) (map_of (insert rows at (k, v)))
  same_map-insert v q = map_of-insert rows k v at (λ j lt same. omega (arith, gap.smaller_before j lt)) q

  -- it keeps the order: each new key is an old one below the gap, k at it, or an old one moved up by one
  pub rising-insert : (v : ℕ) → HasRisingKeys rows → HasRisingKeys (insert rows at (k, v))
  rising-insert v rising i j lt in_range =
      let new = insert rows at (k, v) in
      let key = λ (x : ℕ × ℕ). x.0 in
      let length_new = length-insert rows at (k, v) gap.in_range in
      let key_below : (i : ℕ) → i < at → key_at new i ≡ key_at rows i = λ i below. ap key (get_or-insert_below rows at (k, v) (0, 0) i below gap.in_range) in
      let key_here : (i : ℕ) → i ≡ at → key_at new i ≡ k = λ i here. rw here (ap key (get_or-insert_at rows at (k, v) (0, 0) gap.in_range)) in
      let key_above : (i : ℕ) → at < i → key_at new i ≡ key_at rows (i - 1) = λ i above. subst (λ q. key_at new q ≡ key_at rows (i - 1)) {x = i - 1 + 1} (omega arith) (ap key (get_or-insert_above rows at (k, v) (0, 0) (i - 1) (omega arith) gap.in_range)) in
      grind (arith, key_below i, key_here i, key_above i, key_below j, key_here j, key_above j, rising i j, rising i (j - 1), rising (i - 1) (j - 1), gap.smaller_before i, gap.greater_after (j - 1))
