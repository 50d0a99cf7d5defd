-- The rows of a leaf from a key on, and those of them before an end.
use Rattle.std.proofs.Common.{◌≡◌, ⊎_elim, cond, reverse, append-nil, ℕ, zero, suc, ◌+◌, ◌-◌, ◌*◌, ◌<◌, ◌≤◌, Bool, true, false, Option, Some, None, inl, inr, List, [], ◌∷◌, ◌++◌, length, get_or, take, drop, refl, sym, ap, ◌∙◌, subst, append_assoc, arith}
use Rattle.std.specs.Prelude.{filter, nat_le, nat_lt}
use Rattle.std.proofs.lemmas.Bool.{cases_eq, cases_lt}
use Rattle.std.proofs.lemmas.Bool.Decides.{nat_tests}
use Rattle.std.proofs.lemmas.List.{get_or_default, get_or-drop, length-drop, reverse-append, reverse-reverse}
use Rattle.std.proofs.lemmas.List.Elements.{filter-append}
use Rattle.std.specs.List.Sorted.{IsPartitionPoint}
use Rattle.bl_model.specs.Map.{Map, ListsPairs}
use Rattle.bl_model.specs.Rows.{map_of, key_at}
use Rattle.bl_model.proofs.Parts.{IsPlaceOf}
use Rattle.bl_model.proofs.Falling.{IsCountTo}
use Rattle.bl_page.specs.declared.page.Page.{Page}
use Rattle.bl_page.specs.Faults.{pairs_of, count_in, HasPairs}
use Rattle.bl_page.proofs.Halving.{pairs-at, pairs-length}
use Rattle.bl_page.specs.Pairs.{RisesFrom}
use Rattle.bl_page.specs.Words.{words_of}
use Rattle.bl_page.specs.Nodes.{IsTreePage, node_of}
use Rattle.bl_proc_routes.proofs.Spellings.{tree_pairs, tree_lists}
use Rattle.bl_proc.specs.declared.parts.PartRows.{PartRows}
use Rattle.bl_proc.specs.declared.parts.Direction.TheVariants.{Down}
use Rattle.bl_proc.specs.Parts.{IsPartOf, IsPartDownOf}
use Rattle.bl_proc.proofs.Rising.{first_from, lists_from, rising_keys}
use Rattle.bl_proc_deterministic.proofs.Listings.{lists_one, back_one}
use Rattle.bl_index_read.specs.LeafRows.{is_below, is_before, rows_from, rows_between, EndsBefore, first_above}
use Rattle.bl_index_read.proofs.Orders.{above_into, above_out}
use Rattle.bl_index_read.proofs.Ranges.{first_rows, none_fails, filter_keeps, filter_has, rising_filter}

le_true : (a b : ℕ) → a ≤ b → nat_le a b ≡ true
le_true a b h = grind (arith, nat_tests)

le_false : (a b : ℕ) → b < a → nat_le a b ≡ false
le_false a b h = grind (arith, nat_tests)

le_is : (a b : ℕ) → nat_le a b ≡ true → a ≤ b
le_is a b h = grind (arith, nat_tests, h)

lt_true : (a b : ℕ) → a < b → nat_lt a b ≡ true
lt_true a b h = grind (arith, nat_tests)

lt_is : (a b : ℕ) → nat_lt a b ≡ true → a < b
lt_is a b h = grind (arith, nat_tests, h)

lt_false : (a b : ℕ) → b ≤ a → nat_lt a b ≡ false
lt_false a b h = grind (arith, nat_tests)

-- the last rows that pass
nothing_dropped : {X : Type 0} (i : ℕ) → drop {A = X} i [] ≡ []
nothing_dropped zero = refl
nothing_dropped (suc i) = refl

last_rows : {X : Type 0} (p : X → Bool) (xs : List X) (i : ℕ) → IsPartitionPoint (λ y. p y ≡ false) (λ y. p y ≡ true) xs i → drop i xs ≡ filter p xs
last_rows p [] i point = nothing_dropped i
last_rows p (x ∷ xs) zero point =
    let passes : p x ≡ true = point.1 0 x (omega arith) (omega arith) in
    rw passes (ap (λ (z : List _). x ∷ z) (last_rows p xs 0 ((λ k d low high. absurd (omega arith)), (λ k d low high. point.1 (suc k) d (omega arith) (omega arith)))))
last_rows p (x ∷ xs) (suc i) point =
    let fails : p x ≡ false = point.0 0 x (omega arith) (omega arith) in
    rw fails (last_rows p xs i ((λ k d low high. point.0 (suc k) d (omega arith) (omega arith)), (λ k d low high. point.1 (suc k) d (omega arith) (omega arith))))

key_is : (rows : List (ℕ × ℕ)) (k : ℕ) (d : ℕ × ℕ) → k < length rows → (get_or rows k d).0 ≡ key_at rows k
key_is rows k d lt = ap (λ (r : ℕ × ℕ). r.0) (get_or_default rows k d (0, 0) lt)

-- the rows from the place of a key on
pub place_rows : (rows : List (ℕ × ℕ)) (from i : ℕ) → IsPlaceOf rows from i → drop i rows ≡ rows_from from rows
place_rows rows from i place = last_rows (λ row. nat_le from row.0) rows i (
  (λ k d low high. let within = place.in_range in let e = key_is rows k d (omega arith) in let b = place.before k high in le_false from (get_or rows k d).0 (omega arith)),
  (λ k d low high. let e = key_is rows k d high in let b = place.behind k low high in le_true from (get_or rows k d).0 (omega arith)),
)

length_take : (n : ℕ) (xs : List (ℕ × ℕ)) → n ≤ length xs → length (take n xs) ≡ n
length_take zero xs le = refl
length_take (suc n) [] le = absurd (omega arith)
length_take (suc n) (x ∷ xs) le = ap suc (length_take n xs (omega arith))

-- those of them up to the place of an end
module _ (rows : List (ℕ × ℕ)) (to : Option ℕ) (first last : ℕ) (e : EndsBefore rows to first last) where
  length_rest : length (drop first rows) ≡ length rows - first
  length_rest = length-drop first rows

  key_behind : (k : ℕ) (d : ℕ × ℕ) → first + k < length rows → (get_or (drop first rows) k d).0 ≡ key_at rows (first + k)
  key_behind k d lt = ap (λ (r : ℕ × ℕ). r.0) (get_or-drop first rows k d) ∙ key_is rows (first + k) d lt

  pub end_rows : take (last - first) (drop first rows) ≡ filter (λ row. is_below to row.0) (drop first rows)
  end_rows =
      let long = length_rest in let behind = e.behind in let range = e.in_range in
      first_rows (λ row. is_below to row.0) (drop first rows) (last - first) (
        (λ k d low high. ap (is_below to) (key_behind k d (omega arith)) ∙ e.below (first + k) (omega arith) (omega arith)),
        (λ k d low high. let lt : first + k < length rows = omega arith in ap (is_below to) (key_behind k d lt) ∙ e.others (first + k) (omega arith) lt),
      )

pub between_rows : (rows : List (ℕ × ℕ)) (from : ℕ) (to : Option ℕ) (first last : ℕ) → IsPlaceOf rows from first → EndsBefore rows to first last → take (last - first) (drop first rows) ≡ rows_between from to rows
between_rows rows from to first last place e = end_rows rows to first last e ∙ ap (filter (λ row. is_below to row.0)) (place_rows rows from first place)

-- ---- places in the words of a leaf

-- all up to there are below
abbrev pub AllBelow : List ℕ → ℕ → ℕ → Type 0
AllBelow words from n = (j : ℕ) → j < n → key_at (pairs_of words) j < from

-- none from there on is below
abbrev pub NoneBelow : List ℕ → ℕ → ℕ → Type 0
NoneBelow words end n = (j : ℕ) → n ≤ j → j < count_in words → end ≤ key_at (pairs_of words) j

module _ (words : List ℕ) (long : length words ≡ 32) (pairs : HasPairs words) where
  pub count_is : length (pairs_of words) ≡ count_in words
  count_is = pairs-length (count_in words) words long pairs.few

  pub row_read : (i : ℕ) → i < count_in words → get_or (pairs_of words) i (0, 0) ≡ (get_or words (4 + 2 * i) 0, get_or words (5 + 2 * i) 0)
  row_read i lt = pairs-at (count_in words) i words long pairs.few lt

  pub key_read : (i : ℕ) → i < count_in words → key_at (pairs_of words) i ≡ get_or words (4 + 2 * i) 0
  key_read i lt = ap (λ (r : ℕ × ℕ). r.0) (row_read i lt)

  pub below_more : (from i : ℕ) → i < count_in words → AllBelow words from i → get_or words (4 + 2 * i) 0 < from → AllBelow words from (i + 1)
  below_more from i lt all here j less = elim (cases_eq j i) [
    | inl same ↦ let e : key_at (pairs_of words) j ≡ get_or words (4 + 2 * i) 0 = ap (key_at (pairs_of words)) same ∙ key_read i lt in omega (arith, e, here)
    | inr ne ↦ all j (omega (arith, less, ne))
  ]

  pub place_here : (from i : ℕ) → i < count_in words → AllBelow words from i → from ≤ get_or words (4 + 2 * i) 0 → IsPlaceOf (pairs_of words) from i
  place_here from i lt all here = first_from (pairs_of words) from i pairs.rises (let n = count_is in omega arith) all (let e = key_read i lt in omega arith)

  pub place_end : (from i : ℕ) → i ≡ count_in words → AllBelow words from i → IsPlaceOf (pairs_of words) from i
  place_end from i is all = record {
    in_range = let n = count_is in omega arith;
    before = all;
    behind = λ j low lt. absurd (let n = count_is in omega arith);
  }

  pub none_more : (end last : ℕ) → 0 < last → last ≤ count_in words → NoneBelow words end last → end ≤ get_or words (2 + 2 * last) 0 → NoneBelow words end (last - 1)
  none_more end last some within none here j low lt = elim (cases_eq j (last - 1)) [
    | inl same ↦ let e : key_at (pairs_of words) j ≡ get_or words (2 + 2 * last) 0 = ap (key_at (pairs_of words)) same ∙ (key_read (last - 1) (omega arith) ∙ ap (λ (z : ℕ). get_or words z 0) (let z : 4 + 2 * (last - 1) ≡ 2 + 2 * last = omega arith in z)) in omega (arith, e, here)
    | inr ne ↦ none j (omega (arith, low, ne)) lt
  ]

  pub ends_all : (first last : ℕ) → first ≤ last → last ≡ count_in words → EndsBefore (pairs_of words) None first last
  ends_all first last low is = record {
    behind = low;
    in_range = let n = count_is in omega arith;
    below = λ i low lt. refl;
    others = λ i low lt. absurd (let n = count_is in omega arith);
  }

  pub ends_here : (end first last : ℕ) → first < last → last ≤ count_in words → NoneBelow words end last → get_or words (2 + 2 * last) 0 < end → EndsBefore (pairs_of words) (Some end) first last
  ends_here end first last low within none here =
      let n = count_is in
      let top : key_at (pairs_of words) (last - 1) ≡ get_or words (2 + 2 * last) 0 = key_read (last - 1) (omega arith) ∙ ap (λ (z : ℕ). get_or words z 0) (let z : 4 + 2 * (last - 1) ≡ 2 + 2 * last = omega arith in z) in
      let below_top : (i : ℕ) → i < last → key_at (pairs_of words) i < end = λ i lt. elim (cases_eq i (last - 1)) [
        | inl same ↦ let e = ap (key_at (pairs_of words)) same in omega (arith, e, top, here)
        | inr ne ↦ let r = rising_keys 0 (pairs_of words) pairs.rises i (last - 1) (omega (arith, lt, ne)) (omega arith) in omega (arith, r, top, here)
      ] in
      record {
        behind = omega arith;
        in_range = omega arith;
        below = λ i low lt. lt_true (key_at (pairs_of words) i) end (below_top i lt);
        others = λ i low lt. lt_false (key_at (pairs_of words) i) end (none i low (omega arith));
      }

  pub ends_first : (end first : ℕ) → first ≤ count_in words → NoneBelow words end first → EndsBefore (pairs_of words) (Some end) first first
  ends_first end first within none = record {
    behind = omega arith;
    in_range = let n = count_is in omega arith;
    below = λ i low lt. absurd (omega arith);
    others = λ i low lt. lt_false (key_at (pairs_of words) i) end (none i low (let n = count_is in omega arith));
  }

  -- the rows up to a key
  pub count_here : (from last : ℕ) → 0 < last → last ≤ count_in words → NoneBelow words (from + 1) last → get_or words (2 + 2 * last) 0 ≤ from → IsCountTo (pairs_of words) from last
  count_here from last some within none here =
      let n = count_is in
      let top : key_at (pairs_of words) (last - 1) ≡ get_or words (2 + 2 * last) 0 = key_read (last - 1) (omega arith) ∙ ap (λ (z : ℕ). get_or words z 0) (let z : 4 + 2 * (last - 1) ≡ 2 + 2 * last = omega arith in z) in
      record {
        in_range = omega arith;
        before = λ i lt. elim (cases_eq i (last - 1)) [
          | inl same ↦ let e = ap (key_at (pairs_of words)) same in omega (arith, e, top, here)
          | inr ne ↦ let r = rising_keys 0 (pairs_of words) pairs.rises i (last - 1) (omega (arith, lt, ne)) (omega arith) in omega (arith, r, top, here)
        ];
        behind = λ i low lt. omega (arith, none i low (omega (arith, lt, n)));
      }

  pub count_none : (from : ℕ) → NoneBelow words (from + 1) 0 → IsCountTo (pairs_of words) from 0
  count_none from none = record {
    in_range = omega arith;
    before = λ i lt. absurd (omega arith);
    behind = λ i low lt. omega (arith, none i (omega arith) (let n = count_is in omega (arith, n, lt)));
  }

  -- all rows behind a place
  pub all_rows : (from first last : ℕ) → IsPlaceOf (pairs_of words) from first → last ≡ count_in words → take (last - first) (drop first (pairs_of words)) ≡ rows_from from (pairs_of words)
  all_rows from first last place is =
      let low : first ≤ last = let n = count_is in let range = place.in_range in omega arith in
      between_rows (pairs_of words) from None first last place (ends_all first last low is) ∙ sym (none_fails (rows_from from (pairs_of words)))

-- one row more
pub taken_more : (rows old now : List (ℕ × ℕ)) (first i : ℕ) (row : ℕ × ℕ) → first ≤ i → i < length rows → row ≡ get_or rows i (0, 0) → now ≡ old ++ take (i - first) (drop first rows) → now ++ row ∷ [] ≡ old ++ take (i + 1 - first) (drop first rows)
taken_more rows old now first i row low lt is grown =
    let k : ℕ = i - first in
    let rest : List (ℕ × ℕ) = drop first rows in
    let here : row ≡ get_or rest k (0, 0) = is ∙ (ap (λ (z : ℕ). get_or rows z (0, 0)) (let z : i ≡ first + k = omega arith in z) ∙ sym (get_or-drop first rows k (0, 0))) in
    let long : k < length rest = omega (arith, length-drop first rows) in
    let more : take k rest ++ row ∷ [] ≡ take (suc k) rest = rw here (sym (take_suc rest k long)) in
    let next : suc k ≡ i + 1 - first = omega arith in
    ap (λ (z : List (ℕ × ℕ)). z ++ row ∷ []) grown ∙ (append_assoc old (take k rest) (row ∷ []) ∙ (ap (λ (z : List (ℕ × ℕ)). old ++ z) more ∙ ap (λ (z : ℕ). old ++ take z rest) next))
  where
    take_suc : (xs : List (ℕ × ℕ)) (k : ℕ) → k < length xs → take (suc k) xs ≡ take k xs ++ get_or xs k (0, 0) ∷ []
    take_suc [] k lt = absurd (omega arith)
    take_suc (x ∷ xs) zero lt = refl
    take_suc (x ∷ xs) (suc k) lt = ap (λ (z : List (ℕ × ℕ)). x ∷ z) (take_suc xs k (omega arith))

-- the rows that a leaf lists from a key on
pub lists_rows : (rows : List (ℕ × ℕ)) (from : ℕ) → RisesFrom 0 rows → ListsPairs (map_of rows) (λ key. from ≤ key) (rows_from from rows)
lists_rows rows from rises =
    let all : ListsPairs (map_of rows) (λ key. 0 ≤ key) rows = lists_from rows rows 0 0 rises (record { in_range = omega arith; before = λ j lt. absurd (omega arith); behind = λ j low lt. omega arith }) refl in
    record {
      rising = rising_filter (λ row. nat_le from row.0) rows all.rising;
      pairs = λ key value. (
        λ c. let has = filter_has (λ row. nat_le from row.0) rows (key, value) c in (((all.pairs key value).0 has.0).0, le_is from key has.1),
        λ (e, le). filter_keeps (λ row. nat_le from row.0) rows (key, value) ((all.pairs key value).1 (e, omega arith)) (le_true from key le),
      );
    }

-- those of a part of the page with these words
module _ (c : Page) (words : List ℕ) (from : ℕ) (tree : IsTreePage c) (is : words ≡ words_of c) where
  pub listed_rows : (xs : List (ℕ × ℕ)) → xs ≡ rows_from from (pairs_of words) → ListsPairs (node_of c).look (λ key. from ≤ key) xs
  listed_rows xs e = subst (λ (z : List (ℕ × ℕ)). ListsPairs (node_of c).look (λ key. from ≤ key) z) (sym e)
      (subst (λ (look : ℕ → Option ℕ). ListsPairs look (λ key. from ≤ key) (rows_from from (pairs_of words))) (tree_lists c words tree is) (lists_rows (pairs_of words) from (tree_pairs c words tree is).rises))

  pub part_rows : (part : PartRows) → IsPartOf c from part → part.rows.items ≡ rows_from from (pairs_of words)
  part_rows part lists = lists_one (node_of c).look (λ key. from ≤ key) part.rows.items (rows_from from (pairs_of words)) lists.rows (listed_rows (rows_from from (pairs_of words)) refl)

-- ---- what a scan downwards takes

-- of listed pairs those whose keys pass
lists_kept : (m : Map) (T U : ℕ → Type 0) (p : ℕ → Bool) (rows : List (ℕ × ℕ)) → ListsPairs m T rows → ((key : ℕ) → T key → p key ≡ true → U key) → ((key : ℕ) → U key → T key × (p key ≡ true)) → ListsPairs m U (filter (λ row. p row.0) rows)
lists_kept m T U p rows all into out = record {
  rising = rising_filter (λ row. p row.0) rows all.rising;
  pairs = λ key value. (
    λ c. let has = filter_has (λ row. p row.0) rows (key, value) c in let there = (all.pairs key value).0 has.0 in (there.0, into key there.1 has.1),
    λ (is, taken). let both = out key taken in filter_keeps (λ row. p row.0) rows (key, value) ((all.pairs key value).1 (is, both.0)) both.1,
  );
}

kept_back : {X : Type 0} (b : Bool) (x : X) (ys : List X) → reverse (cond b (x ∷ ys) ys) ≡ reverse ys ++ cond b (x ∷ []) []
kept_back true x ys = reverse-append (x ∷ []) ys
kept_back false x ys = sym (append-nil (reverse ys))

back_filter : {X : Type 0} (p : X → Bool) (xs : List X) → reverse (filter p xs) ≡ filter p (reverse xs)
back_filter p [] = refl
back_filter p (x ∷ xs) =
    kept_back (p x) x (filter p xs) ∙ (ap (λ (z : List _). z ++ cond (p x) (x ∷ []) []) (back_filter p xs)
    ∙ sym (ap (filter p) (reverse-append (x ∷ []) xs) ∙ filter-append p (reverse xs) (x ∷ [])))

module _ (c : Page) (words : List ℕ) (from : ℕ) (tree : IsTreePage c) (is : words ≡ words_of c) (to : Option ℕ) where
  abbrev Taken : ℕ → Type 0
  Taken key = (first_above to ≤ key) × (key < from + 1)

  abbrev window : List (ℕ × ℕ)
  window = rows_between (first_above to) (Some (from + 1)) (pairs_of words)

  lists_window : ListsPairs (node_of c).look Taken window
  lists_window = lists_kept (node_of c).look (λ key. first_above to ≤ key) Taken (λ key. is_below (Some (from + 1)) key) (rows_from (first_above to) (pairs_of words))
      (listed_rows c words (first_above to) tree is (rows_from (first_above to) (pairs_of words)) refl)
      (λ key low lt. (low, lt_is key (from + 1) lt))
      (λ key taken. (taken.0, lt_true key (from + 1) taken.1))

  pub down_rows : (part : PartRows) → IsPartDownOf c from part → filter (λ row. is_before Down to row.0) part.rows.items ≡ reverse window
  down_rows part lists =
      let kept : ListsPairs (node_of c).look Taken (filter (λ row. is_before Down to row.0) (reverse part.rows.items)) = lists_kept (node_of c).look (λ key. key ≤ from) Taken (λ key. is_before Down to key) (reverse part.rows.items) lists.rows
      (λ key le above. (above_into to key above, omega (arith, le)))
      (λ key taken. (let high = taken.1 in omega (arith, high), above_out to key taken.0)) in
      back_one (node_of c).look Taken (filter (λ row. is_before Down to row.0) part.rows.items) (reverse window)
      (subst (ListsPairs (node_of c).look Taken) (sym (back_filter (λ row. is_before Down to row.0) part.rows.items)) kept)
      (subst (ListsPairs (node_of c).look Taken) (sym (reverse-reverse window)) lists_window)

-- the places of the least key that it takes, and behind the greatest
pub ends_at : (rows : List (ℕ × ℕ)) (low from first last : ℕ) → IsPlaceOf rows low first → IsCountTo rows from last → low ≤ from → EndsBefore rows (Some (from + 1)) first last
ends_at rows low from first last place count le = record {
  behind = ⊎_elim
      (λ (lt : last < first). let within = place.in_range in absurd (omega (arith, le, place.before last lt, count.behind last (omega arith) (omega arith))))
      (λ (is : first ≤ last). is)
      (cases_lt last first);
  in_range = count.in_range;
  below = λ i low lt. lt_true (key_at rows i) (from + 1) (let high = count.before i lt in omega arith);
  others = λ i low lt. lt_false (key_at rows i) (from + 1) (let high = count.behind i low lt in omega arith);
}
