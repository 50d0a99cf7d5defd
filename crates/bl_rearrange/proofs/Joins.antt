-- Pairs on both sides of a bound, in one list or split at another key.
use Rattle.std.proofs.Common.{◌≡◌, ℕ, ◌+◌, ◌/◌, ◌<◌, ◌≤◌, List, [], ◌∷◌, ◌++◌, length, get_or, Option, None, Some, refl, sym, ap, subst, arith}
use Rattle.std.specs.Prelude.{MatchOption}
use Rattle.std.proofs.lemmas.List.{length-append}
use Rattle.bl_page.specs.Pairs.{RisesFrom, AllWithin, BeginsWith, NameChildren, end_of}
use Rattle.bl_rearrange.specs.Joined.{AreSides, IsJoined, AreShares, MovesTo}
use Rattle.bl_rearrange.specs.Neighbours.{Gains}
use Rattle.bl_rearrange.specs.declared.sides.Side.{Side}
use Rattle.bl_rearrange.specs.declared.sides.Side.TheVariants as side
use Rattle.bl_rearrange.proofs.Cuts.{cut, NameChildren-append, RisesFrom-lower}

-- a bound above another is one
end_of-bound : (low middle : ℕ) → low < middle → end_of middle ≡ middle
end_of-bound low middle above = grind arith

AllWithin-wider : (low high low' high' : ℕ) (pairs : List (ℕ × ℕ)) → low' ≤ low → end_of high ≤ end_of high' → AllWithin low high pairs → AllWithin low' high' pairs
AllWithin-wider low high low' high' [] below above w = tt
AllWithin-wider low high low' high' (pair ∷ pairs) below above w = ((omega (arith, w.0.0), omega (arith, w.0.1)), AllWithin-wider low high low' high' pairs below above w.1)

AllWithin-append : (low high : ℕ) (xs ys : List (ℕ × ℕ)) → AllWithin low high xs → AllWithin low high ys → AllWithin low high (xs ++ ys)
AllWithin-append low high [] ys front back = back
AllWithin-append low high (x ∷ xs) ys front back = (front.0, AllWithin-append low high xs ys front.1 back)

RisesFrom-within : (low high : ℕ) (pairs : List (ℕ × ℕ)) → AllWithin low high pairs → RisesFrom 0 pairs → RisesFrom low pairs
RisesFrom-within low high [] w h = tt
RisesFrom-within low high (pair ∷ pairs) w h = (w.0.0, h.1)

RisesFrom-append : (least low middle : ℕ) (xs ys : List (ℕ × ℕ)) → least ≤ middle → end_of middle ≡ middle → AllWithin low middle xs → RisesFrom least xs → RisesFrom middle ys → RisesFrom least (xs ++ ys)
RisesFrom-append least low middle [] ys le is w front back = RisesFrom-lower least middle ys le back
RisesFrom-append least low middle (x ∷ xs) ys le is w front back =
    let below : x.0 < middle = subst (λ end. x.0 < end) is w.0.1 in
    (front.0, RisesFrom-append (x.0 + 1) low middle xs ys (omega (arith, below)) is w.1 front.1 back)

NameChildren-join : (xs ys : List (ℕ × ℕ)) → NameChildren xs → NameChildren ys → NameChildren (xs ++ ys)
NameChildren-join [] ys front back = back
NameChildren-join (x ∷ xs) ys front back = (front.0, NameChildren-join xs ys front.1 back)

BeginsWith-append : (low : ℕ) (xs ys : List (ℕ × ℕ)) → BeginsWith low xs → BeginsWith low (xs ++ ys)
BeginsWith-append low [] ys h = absurd h
BeginsWith-append low (x ∷ xs) ys h = h

joined_rises : (low middle high : ℕ) (left right : List (ℕ × ℕ)) → AreSides low middle high left right → RisesFrom 0 (left ++ right)
joined_rises low middle high left right sides =
    RisesFrom-append 0 low middle left right (omega arith) (end_of-bound low middle sides.above) sides.left_within sides.left_rising (RisesFrom-within middle high right sides.right_within sides.right_rising)

joined_within : (low middle high : ℕ) (left right : List (ℕ × ℕ)) → AreSides low middle high left right → AllWithin low high (left ++ right)
joined_within low middle high left right sides =
    let is = end_of-bound low middle sides.above in
    let front = AllWithin-wider low middle low high left (omega arith) (omega (arith, is, sides.below)) sides.left_within in
    let back = AllWithin-wider middle high low high right (omega (arith, sides.above)) (omega arith) sides.right_within in
    AllWithin-append low high left right front back

pub joined_is : (low middle high : ℕ) (left right joined : List (ℕ × ℕ)) → AreSides low middle high left right → length left + length right ≤ 14 → joined ≡ left ++ right → IsJoined low high left right joined
joined_is low middle high left right joined sides few is = subst (IsJoined low high left right) (sym is) (record {
  pairs = refl;
  few = let count = length-append left right in omega (arith, count, few);
  rising = joined_rises low middle high left right sides;
  within = joined_within low middle high left right sides;
  first = λ h. BeginsWith-append low left right h;
  children = λ front back. NameChildren-join left right front back;
})

abbrev head_of : ℕ × ℕ → List (ℕ × ℕ) → ℕ × ℕ
head_of other [] = other
head_of other (x ∷ xs) = x

abbrev tail_of : List (ℕ × ℕ) → List (ℕ × ℕ)
tail_of [] = []
tail_of (x ∷ xs) = xs

back_within : (low high : ℕ) (xs ys : List (ℕ × ℕ)) → AllWithin low high (xs ++ ys) → AllWithin low high ys
back_within low high [] ys w = w
back_within low high (x ∷ xs) ys w = back_within low high xs ys w.1

-- where the lower pairs are no fewer than the left ones, all upper ones were on the right
upper_within : (middle high : ℕ) (lower upper left right : List (ℕ × ℕ)) → lower ++ upper ≡ left ++ right → length left ≤ length lower → AllWithin middle high right → AllWithin middle high upper
upper_within middle high lower upper [] right is le w = back_within middle high lower upper (subst (AllWithin middle high) (sym is) w)
upper_within middle high [] upper (l ∷ ls) right is le w = absurd (omega (arith, le))
upper_within middle high (c ∷ cs) upper (l ∷ ls) right is le w = upper_within middle high cs upper ls right (ap tail_of is) (omega (arith, le)) w

-- where they are fewer, the first upper one was on the left
upper_first_within : (low middle : ℕ) (lower : List (ℕ × ℕ)) (y : ℕ × ℕ) (ys left right : List (ℕ × ℕ)) → lower ++ y ∷ ys ≡ left ++ right → length lower < length left → AllWithin low middle left → y.0 < end_of middle
upper_first_within low middle lower y ys [] right is lt w = absurd (omega (arith, lt))
upper_first_within low middle [] y ys (l ∷ ls) right is lt w = let same : y ≡ l = ap (head_of y) is in subst (λ pair. pair.0 < end_of middle) (sym same) w.0.1
upper_first_within low middle (c ∷ cs) y ys (l ∷ ls) right is lt w = upper_first_within low middle cs y ys ls right (ap tail_of is) (omega (arith, lt)) w.1

pub joined_where : {A : Type 0} (o : Option A) {P P' : Type 0} {Q Q' : A → Type 0} → (P → P') → ((x : A) → Q x → Q' x) → MatchOption o P Q → MatchOption o P' Q'
joined_where None f g h = f h
joined_where (Some x) f g h = g x h

pub shares_are : (low middle high : ℕ) (left right lower upper : List (ℕ × ℕ)) → AreSides low middle high left right → length left ≤ 14 → length right ≤ 14 → 14 < length left + length right
    → lower ++ upper ≡ left ++ right → length lower ≡ (length left + length right + 1) / 2 → AreShares low high left right lower upper (get_or upper 0 (0, 0)).0
shares_are low middle high left right [] upper sides left_few right_few past is half = absurd (omega (arith, half, past))
shares_are low middle high left right (x ∷ xs) [] sides left_few right_few past is half =
    let count = ap (λ pairs. length pairs) is in
    let before = length-append (x ∷ xs) [] in
    let after = length-append left right in
    absurd (omega (arith, half, past, count, before, after))
shares_are low middle high left right (x ∷ xs) (y ∷ ys) sides left_few right_few past is half =
    let parts = cut low high x xs y ys (subst (RisesFrom 0) (sym is) (joined_rises low middle high left right sides)) (subst (AllWithin low high) (sym is) (joined_within low middle high left right sides)) in
    let names = λ (front : NameChildren left) (back : NameChildren right). NameChildren-append (x ∷ xs) (y ∷ ys) (subst NameChildren (sym is) (NameChildren-join left right front back)) in
    let count = ap (λ pairs. length pairs) is in
    let before = length-append (x ∷ xs) (y ∷ ys) in
    let after = length-append left right in
    record {
      pairs = is;
      half = half;
      lower_few = omega (arith, half, left_few, right_few);
      upper_few = omega (arith, half, left_few, right_few, count, before, after);
      above = parts.above;
      below = parts.below;
      lower_rising = RisesFrom-lower 0 low (x ∷ xs) (omega arith) parts.xs_rise;
      upper_rising = RisesFrom-lower 0 y.0 (y ∷ ys) (omega arith) parts.ys_rise;
      lower_within = parts.xs_within;
      upper_within = parts.ys_within;
      lower_first = λ h. subst (BeginsWith low) (sym is) (BeginsWith-append low left right h);
      upper_first = refl;
      lower_children = λ front back. let both = names front back in both.0;
      upper_children = λ front back. let both = names front back in both.1;
    }

pub gains_are : (moved : Side) (low middle high : ℕ) (left right lower upper : List (ℕ × ℕ)) → AreSides low middle high left right → lower ++ upper ≡ left ++ right → BeginsWith (get_or upper 0 (0, 0)).0 upper
    → MovesTo moved (length left) (length lower) → Gains moved (length left) (length lower) middle (get_or upper 0 (0, 0)).0
gains_are moved low middle high left right lower [] sides is first moves = absurd first
gains_are side.Left low middle high left right lower (y ∷ ys) sides is first moves = (moves, (upper_within middle high lower (y ∷ ys) left right is moves sides.right_within).0.0)
gains_are side.Right low middle high left right lower (y ∷ ys) sides is first moves =
    let below = upper_first_within low middle lower y ys left right is moves sides.left_within in
    (moves, subst (λ end. y.0 < end) (end_of-bound low middle sides.above) below)
