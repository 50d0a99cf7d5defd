-- The keys of a level that is built, and how many pages it takes.
use Rattle.std.proofs.Common.{◌≡◌, ◌≢◌, ◌⊎◌, ℕ, suc, ◌+◌, ◌-◌, ◌/◌, ◌<◌, ◌≤◌, ◌^◌, List, [], ◌∷◌, ◌++◌, length, get_or, Option, Some, None, refl, ap, sym, subst, ◌∙◌, inl, inr, length-append, arith}
use Rattle.std.specs.Prelude.{reverse}
use Rattle.std.proofs.lemmas.Bool.{cases_eq}
use Rattle.std.proofs.lemmas.Bool.Decides.{nat_tests}
use Rattle.std.proofs.lemmas.List.{reverse-append, length-reverse}
use Rattle.std.proofs.Math.Nat.{add-div_left, div-eq_of_lt}
use Rattle.bl_model.specs.Rows.{key_at, HasRisingKeys}
use Rattle.bl_page.specs.declared.page.Page.{Page}
use Rattle.bl_page.specs.Pages.{page_at}
use Rattle.bl_page.specs.Pairs.{end_of, RisesFrom, AllWithin, BeginsWith, NameNumbers, AreNumbers}
use Rattle.bl_check.specs.Spans.{span_of, span_at, StandsAt}
use Rattle.bl_check.proofs.Reaching.{live_below}
use Rattle.bl_load.specs.Sizes.{pages_for}
use Rattle.bl_load.specs.Trees.{AllBelow, AreEntries, IsForest, MayList, IsCounted}
use Rattle.bl_load.proofs.Growing.{some_and}

-- Keys that rise

pub rises_less : (a b : ℕ) (pairs : List (ℕ × ℕ)) → a ≤ b → RisesFrom b pairs → RisesFrom a pairs
rises_less a b [] le r = tt
rises_less a b (x ∷ xs) le r = (omega (arith, r.0), r.1)

rises_front : (n : ℕ) (a b : List (ℕ × ℕ)) → RisesFrom n (a ++ b) → RisesFrom n a
rises_front n [] b r = tt
rises_front n (x ∷ a) b r = (r.0, rises_front (x.0 + 1) a b r.1)

rises_back : (n : ℕ) (a b : List (ℕ × ℕ)) → RisesFrom n (a ++ b) → RisesFrom n b
rises_back n [] b r = r
rises_back n (x ∷ a) b r = rises_less n (x.0 + 1) b (omega (arith, r.0)) (rises_back (x.0 + 1) a b r.1)

rises_first : (n : ℕ) (b : List (ℕ × ℕ)) → RisesFrom n b → 0 < length b → n ≤ key_at b 0
rises_first n [] r some = absurd (omega arith)
rises_first n (x ∷ b) r some = r.0

rises_at : (n : ℕ) (b : List (ℕ × ℕ)) → RisesFrom n b → RisesFrom (key_at b 0) b
rises_at n [] r = tt
rises_at n (x ∷ b) r = (omega arith, r.1)

front_below : (n : ℕ) (a b : List (ℕ × ℕ)) → RisesFrom n (a ++ b) → 0 < length b → AllBelow (key_at b 0) a
front_below n [] b r some = tt
front_below n (x ∷ a) b r some =
    let first : x.0 + 1 ≤ key_at b 0 = rises_first (x.0 + 1) b (rises_back (x.0 + 1) a b r.1) some in
    (omega (arith, first), front_below (x.0 + 1) a b r.1 some)

pub first_above : (n : ℕ) (a b : List (ℕ × ℕ)) → RisesFrom n (a ++ b) → 0 < length a → 0 < length b → key_at b 0 ≢ 0
first_above n [] b r some more = absurd (omega arith)
first_above n (x ∷ a) b r some more = λ zero. let first : x.0 + 1 ≤ key_at b 0 = rises_first (x.0 + 1) b (rises_back (x.0 + 1) a b r.1) more in omega (arith, first, zero)

below_back : (high : ℕ) (a b : List (ℕ × ℕ)) → AllBelow high (a ++ b) → AllBelow high b
below_back high [] b h = h
below_back high (x ∷ a) b h = below_back high a b h.1

below_first : (high : ℕ) (b : List (ℕ × ℕ)) → AllBelow high b → 0 < length b → key_at b 0 < high
below_first high [] h some = absurd (omega arith)
below_first high (x ∷ b) h some = h.0

pub within : (low high : ℕ) (pairs : List (ℕ × ℕ)) → RisesFrom low pairs → AllBelow (end_of high) pairs → AllWithin low high pairs
within low high [] r h = tt
within low high (x ∷ xs) r h = ((r.0, h.0), within low high xs (rises_less low (x.0 + 1) xs (omega (arith, r.0)) r.1) h.1)

pub end_bound : (low high : ℕ) → low < 2 ^ 64 → (high ≢ 0 → low < high) → low < end_of high
end_bound low high fits less = elim (cases_eq high 0) [
  | inl zero ↦ subst (λ n. low < end_of n) (sym zero) fits
  | inr some ↦ (let lt = less some in grind (arith, nat_tests))
]

pub below_end : (high : ℕ) (pairs : List (ℕ × ℕ)) → AllBelow (2 ^ 64) pairs → (high ≢ 0 → AllBelow high pairs) → AllBelow (end_of high) pairs
below_end high pairs all less = elim (cases_eq high 0) [
  | inl zero ↦ subst (λ n. AllBelow (end_of n) pairs) (sym zero) all
  | inr some ↦ (let is : end_of high ≡ high = grind (arith, nat_tests) in subst (λ n. AllBelow n pairs) (sym is) (less some))
]

pub rises : (least : ℕ) (rows : List (ℕ × ℕ)) → HasRisingKeys rows → (0 < length rows → least ≤ key_at rows 0) → RisesFrom least rows
rises least [] rising first = tt
rises least (x ∷ rows) rising first = (first (omega arith), rises (x.0 + 1) rows (λ i j lt within. rising (suc i) (suc j) (omega arith) (omega arith)) (λ some. (let lt : key_at (x ∷ rows) 0 < key_at (x ∷ rows) 1 = rising 0 1 (omega arith) (omega arith) in omega arith)))

pub below_more : (high : ℕ) (a b : List (ℕ × ℕ)) (x : ℕ × ℕ) → AllBelow high a → x.0 < high → b ≡ a ++ x ∷ [] → AllBelow high b
below_more high a b x h lt is = subst (AllBelow high) (sym is) (all a h)
  where
    all : (a : List (ℕ × ℕ)) → AllBelow high a → AllBelow high (a ++ x ∷ [])
    all [] h = (lt, tt)
    all (y ∷ a) h = (h.0, all a h.1)

-- What an inner page begins with, and names

begins_front : (low : ℕ) (a b : List (ℕ × ℕ)) → BeginsWith low (a ++ b) → 0 < length a → BeginsWith low a
begins_front low [] b h some = absurd (omega arith)
begins_front low (x ∷ a) b h some = h

begins_first : (b : List (ℕ × ℕ)) → 0 < length b → BeginsWith (key_at b 0) b
begins_first [] some = absurd (omega arith)
begins_first (x ∷ b) some = refl

pub begins_some : (low : ℕ) (b : List (ℕ × ℕ)) → BeginsWith low b → 0 < length b
begins_some low [] h = absurd h
begins_some low (x ∷ b) h = omega arith

stands_below : (pages : List (Option Page)) (x level low : ℕ) → page_at pages 0 ≡ None → StandsAt pages x level low → (0 < x) × (x < length pages)
stands_below pages x level low none h =
    let found = some_and (span_at pages x) (λ s. (s.level ≡ level) × (s.low ≡ low)) h in (
      elim (cases_eq x 0) [
        | inl zero ↦ absurd (let e : None ≡ Some found.0 = sym (ap span_of none) ∙ ap (span_at pages) (sym zero) ∙ found.1 in cc)
        | inr some ↦ omega arith
      ],
      live_below pages x found.0 found.1,
    )

named : (pages : List (Option Page)) (level : ℕ) (pairs : List (ℕ × ℕ)) → page_at pages 0 ≡ None → length pages ≤ 2 ^ 32 → AreEntries pages level pairs → NameNumbers (2 ^ 32) pairs
named pages level [] none few h = tt
named pages level (x ∷ xs) none few h = (let at = stands_below pages x.1 level x.0 none h.0 in (at.0, omega (arith, at.1, few)), named pages level xs none few h.1)

numbered : (most : ℕ) (roots : List ℕ) → ((i : ℕ) → i < length roots → (0 < get_or roots i 0) × (get_or roots i 0 < most)) → AreNumbers most roots
numbered most [] h = tt
numbered most (x ∷ xs) h = (h 0 (omega arith), numbered most xs (λ i lt. h (suc i) (omega arith)))

pub roots_named : (fill level : ℕ) (pages : List (Option Page)) (roots : List ℕ) → IsForest fill pages roots level 0 → length pages ≤ 2 ^ 32 → AreNumbers (2 ^ 32) roots
roots_named fill level pages roots f few = numbered (2 ^ 32) roots (λ i lt.
    let at = stands_below pages (get_or roots i 0) i 0 f.none (f.stand i (omega (arith, lt, f.count))) in (at.0, omega (arith, at.1, few)))

-- How many pages pairs take

pub pages_few : (fan n : ℕ) → 0 < fan → n ≤ fan → pages_for fan n ≡ 1
pages_few fan n some le = elim (cases_eq n 0) [
  | inl zero ↦ ap (pages_for fan) zero
  | inr more ↦ (let e : (n - 1) / fan ≡ 0 = div-eq_of_lt (omega arith) in grind (arith, nat_tests, e))
]

full_pages : (fan n : ℕ) → n ≢ 0 → pages_for fan n ≡ (n - 1) / fan + 1
full_pages fan n some = grind (arith, nat_tests)

pub pages_more : (fan n rest : ℕ) → 0 < fan → 0 < rest → n ≡ rest + fan → pages_for fan n ≡ pages_for fan rest + 1
pages_more fan n rest some more is =
    let e : n - 1 ≡ fan + (rest - 1) = omega arith in
    let d = ap (λ m. m / fan) e ∙ add-div_left (rest - 1) some in
    let a = full_pages fan n (omega arith) in
    let b = full_pages fan rest (omega arith) in
    omega (arith, a, b, d)

-- A level that is being built, from right to left: what is still to be listed, and the entries of the pages that are there.
pub record IsOrdered (fan level before : ℕ) (pairs : List (ℕ × ℕ)) (built : ℕ) (rest entries : List (ℕ × ℕ)) (high : ℕ) : Type 0 where
  pub rising : RisesFrom 0 rest
  pub begins : 0 < level → BeginsWith 0 rest
  pub bound : ((high ≡ 0) × (entries ≡ [])) ⊎ ((high ≢ 0) × AllBelow high rest × RisesFrom high (reverse entries) × (0 < length entries))
  pub count : length entries + pages_for fan (length rest) ≡ pages_for fan (length pairs)
  pub size : built + pages_for fan (length rest) ≡ before + pages_for fan (length pairs)

reverse_last : (entries : List (ℕ × ℕ)) (x : ℕ × ℕ) → reverse (entries ++ x ∷ []) ≡ x ∷ reverse entries
reverse_last entries x = reverse-append entries (x ∷ [])

module _ (fan level before : ℕ) (pairs : List (ℕ × ℕ)) (built : ℕ) (rest entries : List (ℕ × ℕ)) (high : ℕ) (o : IsOrdered fan level before pairs built rest entries high) where
  -- the entries that are there rise from above each key that is below the pairs that are left, or below their bound
  above : (low : ℕ) → (high ≢ 0 → low < high) → RisesFrom (low + 1) (reverse entries)
  above low less = elim o.bound [
    | inl none ↦ subst (λ es. RisesFrom (low + 1) (reverse es)) (sym none.1) tt
    | inr some ↦ rises_less (low + 1) high (reverse entries) (let lt = less some.0 in omega arith) some.2
  ]

  below : high ≢ 0 → AllBelow high rest
  below some = elim o.bound [ inl none ↦ absurd (some none.0) | inr h ↦ h.1 ]

  module _ (front back : List (ℕ × ℕ)) (parts : rest ≡ front ++ back) (some : 0 < length front) (more : 0 < length back) where
    rising_all : RisesFrom 0 (front ++ back)
    rising_all = subst (RisesFrom 0) parts o.rising

    bounded : high ≢ 0 → key_at back 0 < high
    bounded is = below_first high back (below_back high front back (subst (AllBelow high) parts (below is))) more

    pub low_some : key_at back 0 ≢ 0
    low_some = first_above 0 front back rising_all some more

    pub ordered_next : 0 < fan → length back ≡ fan → (next : List (ℕ × ℕ)) (entry now : ℕ) → next ≡ entries ++ (key_at back 0, entry) ∷ [] → now ≡ built + 1
        → IsOrdered fan level before pairs now front next (key_at back 0)
    ordered_next fans size next entry now is one =
        let long = ap length parts ∙ length-append front back in
        let longer = ap length is ∙ length-append entries ((key_at back 0, entry) ∷ []) in
        let fewer = pages_more fan (length rest) (length front) fans some (omega (arith, long, size)) in
        record {
          rising = rises_front 0 front back rising_all;
          begins = λ up. begins_front 0 front back (subst (BeginsWith 0) parts (o.begins up)) some;
          bound = inr (
            low_some,
            front_below 0 front back rising_all more,
            subst (λ es. RisesFrom (key_at back 0) (reverse es)) (sym is) (subst (RisesFrom (key_at back 0)) (sym (reverse_last entries (key_at back 0, entry))) (omega arith, above (key_at back 0) bounded)),
            omega (arith, longer),
          );
          count = (let c = o.count in omega (arith, c, longer, fewer));
          size = (let s = o.size in omega (arith, s, one, fewer));
        }

    pub back_listed : (right : ℕ) → length back ≤ 14 → (0 < level → NameNumbers (2 ^ 32) back) → MayList (record { level = level; low = key_at back 0; high = high; right = right }) back
    back_listed right few names = record {
      few = few;
      bounds = bounded;
      rising = rises_at 0 back (rises_back 0 front back rising_all);
      below = λ is. below_back high front back (subst (AllBelow high) parts (below is));
      children = λ up. (begins_first back more, names up);
    }

  pub rest_listed : (right : ℕ) → length rest ≤ 14 → (0 < level → NameNumbers (2 ^ 32) rest) → MayList (record { level = level; low = 0; high = high; right = right }) rest
  rest_listed right few names = record {
    few = few;
    bounds = λ some. omega arith;
    rising = o.rising;
    below = below;
    children = λ up. (o.begins up, names up);
  }

  pub level_counted : 0 < fan → length rest ≤ fan → (all next : List (ℕ × ℕ)) (entry now : ℕ) → next ≡ entries ++ (0, entry) ∷ [] → all ≡ reverse next → now ≡ built + 1 → IsCounted fan before now pairs all
  level_counted fans few all next entry now is turned one =
      let e : all ≡ (0, entry) ∷ reverse entries = turned ∙ ap (λ (es : List (ℕ × ℕ)). reverse es) is ∙ reverse_last entries (0, entry) in
      let last = pages_few fan (length rest) fans few in
      let long = ap length e in
      let turns = length-reverse entries in
      record {
        rising = subst (RisesFrom 0) (sym e) (omega arith, above 0 (λ some. omega arith));
        begins = subst (BeginsWith 0) (sym e) refl;
        count = (let c = o.count in omega (arith, c, long, turns, last));
        size = (let s = o.size in omega (arith, s, one, last));
      }

-- where a level has one page that page links to none
pub right_none : (fan level before : ℕ) (pairs : List (ℕ × ℕ)) (built : ℕ) (rest entries : List (ℕ × ℕ)) (high right : ℕ) (Next : Type 0) → IsOrdered fan level before pairs built rest entries high
    → ((high ≡ 0) × (right ≡ 0)) ⊎ ((high ≢ 0) × Next) → (next : List (ℕ × ℕ)) (x : ℕ × ℕ) → next ≡ entries ++ x ∷ [] → length next ≡ 1 → right ≡ 0
right_none fan level before pairs built rest entries high right Next o (inl none) next x is one = none.1
right_none fan level before pairs built rest entries high right Next o (inr some) next x is one =
    let long = ap length is ∙ length-append entries (x ∷ []) in
    elim o.bound [ inl none ↦ absurd (some.0 none.0) | inr h ↦ absurd (let more = h.3 in omega (arith, long, one, more)) ]

-- the pairs that are listed on a level above the leaves name pages
pub listed_named : (fill level : ℕ) (pages : List (Option Page)) (roots : List ℕ) (pairs : List (ℕ × ℕ)) (first : ℕ) → IsForest fill pages roots level first → length pages ≤ 2 ^ 32 → (0 < level → AreEntries pages (level - 1) pairs)
    → 0 < level → NameNumbers (2 ^ 32) pairs
listed_named fill level pages roots pairs first f few listed up = named pages (level - 1) pairs f.none few (listed up)
