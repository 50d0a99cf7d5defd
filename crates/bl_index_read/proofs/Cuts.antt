-- The first rows of some that a scan gives, and the first one that is left of them.
use Rattle.std.proofs.Common.{◌≡◌, ℕ, ◌+◌, ◌-◌, ◌<◌, ◌≤◌, Option, Some, None, List, [], ◌∷◌, ◌++◌, length, get_or, take, drop, refl, sym, ap, ◌∙◌, subst, arith}
use Rattle.std.specs.Prelude.{reverse}
use Rattle.std.proofs.lemmas.List.{take_all, drop_all, take-take, take_at, drop_at, drop_more, drop-drop, drop-take, get_or-take, get_or-drop, get_or-reverse, length-drop, length-reverse, length-take-le, reverse-append, take-append-drop}
use Rattle.bl_proc.specs.declared.parts.Direction.{Direction}
use Rattle.bl_proc.specs.declared.parts.Direction.TheVariants.{Up, Down}
use Rattle.bl_index_read.specs.LeafRows.{first_key, toward}

pub toward_long : (direction : Direction) (xs : List (ℕ × ℕ)) → length (toward direction xs) ≡ length xs
toward_long Up xs = refl
toward_long Down xs = length-reverse xs

-- the rows from one place up to another
abbrev part : List (ℕ × ℕ) → ℕ → ℕ → List (ℕ × ℕ)
part rows first last = take (last - first) (drop first rows)

pub part_long : (rows : List (ℕ × ℕ)) (first last : ℕ) → first ≤ last → last ≤ length rows → length (part rows first last) ≡ last - first
part_long rows first last order within = length-take-le (last - first) (drop first rows) (let rest = length-drop first rows in omega (arith, rest, within))

-- ---- all of them

module _ (direction : Direction) (rows : List (ℕ × ℕ)) (first last most : ℕ) (order : first ≤ last) (within : last ≤ length rows) (few : last - first ≤ most) where
  short : length (toward direction (part rows first last)) ≤ most
  short = let long = toward_long direction (part rows first last) in let part = part_long rows first last order within in omega (arith, long, part, few)

  pub all_rows : toward direction (part rows first last) ≡ take most (toward direction (part rows first last))
  all_rows = sym (take_all most (toward direction (part rows first last)) short)

  pub none_left : None ≡ first_key (drop most (toward direction (part rows first last)))
  none_left = sym (ap first_key (drop_all most (toward direction (part rows first last)) short))

-- ---- some of them

first_behind : (xs : List (ℕ × ℕ)) (most : ℕ) (row : ℕ × ℕ) → most < length xs → row ≡ get_or xs most (0, 0) → Some row.0 ≡ first_key (drop most xs)
first_behind xs most row lt is = ap (λ (z : ℕ × ℕ). Some z.0) is ∙ sym (ap first_key (drop_more xs most (0, 0) lt))

module _ (rows : List (ℕ × ℕ)) (first last most : ℕ) (order : first ≤ last) (within : last ≤ length rows) (some : most < last - first) where
  abbrev all : List (ℕ × ℕ)
  all = part rows first last

  long : length all ≡ last - first
  long = part_long rows first last order within

  at : (i : ℕ) → i < last - first → get_or all i (0, 0) ≡ get_or rows (first + i) (0, 0)
  at i lt = get_or-take (last - first) (drop first rows) i (0, 0) lt ∙ get_or-drop first rows i (0, 0)

  pub first_up : (end : ℕ) → end ≡ first + most → part rows first end ≡ take most all
  first_up end is = ap (λ (n : ℕ). take n (drop first rows)) (omega (arith, is)) ∙ sym (take-take most (last - first) (drop first rows) (omega (arith, some)))

  pub left_up : (end : ℕ) (row : ℕ × ℕ) → end ≡ first + most → row ≡ get_or rows end (0, 0) → Some row.0 ≡ first_key (drop most all)
  left_up end row is at_end = first_behind all most row (omega (arith, long, some)) (at_end ∙ (ap (λ (n : ℕ). get_or rows n (0, 0)) is ∙ sym (at most some)))

  gone : ℕ
  gone = last - first - most

  cut : reverse all ≡ reverse (drop gone all) ++ reverse (take gone all)
  cut = ap reverse (sym (take-append-drop gone all)) ∙ reverse-append (take gone all) (drop gone all)

  many : length (reverse (drop gone all)) ≡ most
  unfolding gone
  many = let turned = length-reverse (drop gone all) in let rest = length-drop gone all in omega (arith, turned, rest, long, some)

  last_ones : drop gone all ≡ take most (drop (last - most) rows)
  unfolding gone
  last_ones =
      let whole : last - first ≡ gone + most = omega (arith, some) in
      let place : first + gone ≡ last - most = omega (arith, some, order) in
      ap (λ (n : ℕ). drop gone (take n (drop first rows))) whole ∙ (drop-take gone most (drop first rows)
      ∙ ap (take most) (drop-drop gone first rows ∙ ap (λ (n : ℕ). drop n rows) place))

  pub first_down : (begin : ℕ) → begin ≡ last - most → reverse (part rows begin last) ≡ take most (reverse all)
  first_down begin is =
      let n : last - begin ≡ most = omega (arith, is, some) in
      ap reverse ((λ j. take (n j) (drop (is j) rows)) ∙ sym last_ones) ∙ sym (ap (take most) cut ∙ take_at (reverse (drop gone all)) (reverse (take gone all)) most many)

  pub left_down : (begin : ℕ) (row : ℕ × ℕ) → begin ≡ last - most → row ≡ get_or rows (begin - 1) (0, 0) → Some row.0 ≡ first_key (drop most (reverse all))
  left_down begin row is at_begin =
      let turned = length-reverse all in
      let place : begin - 1 ≡ first + (length all - 1 - most) = omega (arith, is, long, some, order) in
      let there : get_or (reverse all) most (0, 0) ≡ get_or rows (first + (length all - 1 - most)) (0, 0) = get_or-reverse all most (0, 0) (omega (arith, long, some)) ∙ at (length all - 1 - most) (omega (arith, long, some)) in
      first_behind (reverse all) most row (omega (arith, turned, long, some)) (at_begin ∙ (ap (λ (n : ℕ). get_or rows n (0, 0)) place ∙ sym there))
