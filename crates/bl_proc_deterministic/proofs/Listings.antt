-- What a page lists from a key on, upwards or downwards: there is one such list, and it is the only one.
use Rattle.std.proofs.Common.{◌≡◌, ℕ, zero, suc, ◌+◌, ◌<◌, ◌≤◌, List, [], ◌∷◌, length, get_or, take, drop, reverse, Option, Some, None, refl, sym, ap, ◌∙◌, inl, inr, arith}
use Rattle.std.proofs.lemmas.Bool.{cases_lt, cases_eq}
use Rattle.std.proofs.lemmas.List.{reverse-reverse}
use Rattle.bl_model.specs.declared.operation.Next.{Next}
use Rattle.bl_model.specs.declared.operation.Next.TheVariants.{More, End}
use Rattle.bl_model.specs.Map.{Map, ListsPairs}
use Rattle.bl_model.specs.Rows.{map_of, key_at, HasRisingKeys}
use Rattle.bl_model.proofs.Parts.{IsPlaceOf, lists_window}
use Rattle.bl_model.proofs.Falling.{IsCountTo, lists_down}
use Rattle.bl_page.specs.declared.page.Page.{Page}
use Rattle.bl_page.specs.declared.page.Page.TheVariants.{Anchor, Leaf, Inner, Dead}
use Rattle.bl_page.specs.Pairs.{RisesFrom, end_of}
use Rattle.bl_page.specs.Nodes.{unbounded}
use Rattle.bl_proc_routes.specs.declared.routes.Step.TheVariants.{Here}
use Rattle.bl_proc_routes.specs.Routes.{Leads}
use Rattle.bl_proc.specs.declared.parts.Direction.{Direction}
use Rattle.bl_proc.specs.declared.parts.Direction.TheVariants.{Up, Down}
use Rattle.bl_proc.specs.declared.parts.PartRows.{PartRows}
use Rattle.bl_proc.specs.declared.parts.PartStart.{PartStart}
use Rattle.bl_proc.specs.Parts.{GoesOnAt, IsPartOf, GoesOnBelow, IsPartDownOf, IsPartToward, IsPartBy}
use Rattle.bl_proc.proofs.Rising.{rising_keys, first_from, first_above, lists_from}
use Rattle.bl_proc_deterministic.proofs.Rows.{rows_one}
use Rattle.bl_proc_deterministic.proofs.Pages.{vec_one}

-- There is one

next_place : (x : ℕ × ℕ) (rows : List (ℕ × ℕ)) (from i : ℕ) → x.0 < from → IsPlaceOf rows from i → IsPlaceOf (x ∷ rows) from (suc i)
next_place x rows from i below p = record { in_range = omega (arith, p.in_range); before = before; behind = behind }
  where
    before : (j : ℕ) → j < suc i → key_at (x ∷ rows) j < from
    before zero lt = below
    before (suc j) lt = p.before j (omega arith)

    behind : (j : ℕ) → suc i ≤ j → j < length (x ∷ rows) → from ≤ key_at (x ∷ rows) j
    behind zero le lt = absurd (omega arith)
    behind (suc j) le lt = p.behind j (omega arith) (omega arith)

first_place : (from least : ℕ) (rows : List (ℕ × ℕ)) → RisesFrom least rows → (i : ℕ) × IsPlaceOf rows from i
first_place from least [] r = (0, record { in_range = omega arith; before = λ j lt. absurd (omega arith); behind = λ j le lt. absurd (omega arith) })
first_place from least (x ∷ rows) r = elim (cases_lt x.0 from) [
  | inl below ↦ (let p = first_place from (x.0 + 1) rows r.1 in (suc p.0, next_place x rows from p.0 below p.1))
  | inr above ↦ (0, first_from (x ∷ rows) from 0 (omega arith, r.1) (omega arith) (λ j lt. absurd (omega arith)) above)
]

next_some : (end : ℕ) → (next : Next) × GoesOnAt end next
next_some end = elim (cases_eq end unbounded) [
  | inl e ↦ (End, e)
  | inr n ↦ (More end, (n, refl))
]

pub part_some : (c : Page) (from : ℕ) → Leads c from 0 Here → (part : PartRows) × IsPartOf c from part
part_some (Leaf l) from at = (
    let place = first_place from 0 l.rows.items l.order in
    let next = next_some (end_of l.high) in (
      record { rows = record { items = drop place.0 l.rows.items }; next = next.0 },
      record { rows = lists_from l.rows.items (drop place.0 l.rows.items) from place.0 l.order place.1 refl; next = next.1 },
    ))
part_some (Inner i) from at = absurd (let above = i.above_leaves in let level = at.2 in omega arith)
part_some (Anchor a) from at = absurd at.0
part_some (Dead d) from at = absurd at.0

next_count : (x : ℕ × ℕ) (rows : List (ℕ × ℕ)) (from n : ℕ) → x.0 ≤ from → IsCountTo rows from n → IsCountTo (x ∷ rows) from (suc n)
next_count x rows from n low p = record { in_range = omega (arith, p.in_range); before = before; behind = behind }
  where
    before : (j : ℕ) → j < suc n → key_at (x ∷ rows) j ≤ from
    before zero lt = low
    before (suc j) lt = p.before j (omega arith)

    behind : (j : ℕ) → suc n ≤ j → j < length (x ∷ rows) → from < key_at (x ∷ rows) j
    behind zero le lt = absurd (omega arith)
    behind (suc j) le lt = p.behind j (omega arith) (omega arith)

first_count : (from least : ℕ) (rows : List (ℕ × ℕ)) → RisesFrom least rows → (n : ℕ) × IsCountTo rows from n
first_count from least [] r = (0, record { in_range = omega arith; before = λ j lt. absurd (omega arith); behind = λ j le lt. absurd (omega arith) })
first_count from least (x ∷ rows) r = elim (cases_lt from x.0) [
  | inl above ↦ (0, first_above (x ∷ rows) from 0 (omega arith, r.1) (omega arith) (λ j lt. absurd (omega arith)) above)
  | inr low ↦ (let p = first_count from (x.0 + 1) rows r.1 in (suc p.0, next_count x rows from p.0 low p.1))
]

below_some : (low : ℕ) → (next : Next) × GoesOnBelow low next
below_some zero = (End, refl)
below_some (suc n) = (More n, omega arith)

part_down_some : (c : Page) (from : ℕ) → Leads c from 0 Here → (part : PartRows) × IsPartDownOf c from part
part_down_some (Leaf l) from at = (
    let count = first_count from 0 l.rows.items l.order in
    let next = below_some l.low in (
      record { rows = record { items = reverse (take count.0 l.rows.items) }; next = next.0 },
      record { rows = lists_down l.rows.items (rising_keys 0 l.rows.items l.order) from count.0 count.1 (reverse (take count.0 l.rows.items)) refl; next = next.1 },
    ))
part_down_some (Inner i) from at = absurd (let above = i.above_leaves in let level = at.2 in omega arith)
part_down_some (Anchor a) from at = absurd at.0
part_down_some (Dead d) from at = absurd at.0

pub toward_some : (direction : Direction) (c : Page) (from : ℕ) → Leads c from 0 Here → (part : PartRows) × IsPartToward direction c from part
toward_some Up c from at = part_some c from at
toward_some Down c from at = part_down_some c from at

pub by_some : (from : PartStart) (c : Page) → Leads c from.key 0 Here → (part : PartRows) × IsPartBy from c part
by_some from c at = toward_some from.direction c from.key at

-- And no other

rises : (least : ℕ) (rows : List (ℕ × ℕ)) → HasRisingKeys rows → (0 < length rows → least ≤ key_at rows 0) → RisesFrom least rows
rises least [] rising first = tt
rises least (x ∷ rows) rising first = (first (omega arith), rises (x.0 + 1) rows (λ i j lt within. rising (suc i) (suc j) (omega arith) (omega arith)) (λ some. (let lt : key_at (x ∷ rows) 0 < key_at (x ∷ rows) 1 = rising 0 1 (omega arith) (omega arith) in omega arith)))

all_listed : (rows : List (ℕ × ℕ)) → HasRisingKeys rows → ListsPairs (map_of rows) (λ key. Unit {0}) rows
all_listed rows rising = lists_window rows rows (λ key. Unit {0}) 0 (length rows) rising refl (omega arith) (λ j d lt. ap (λ k. get_or rows k d) (let z : j ≡ 0 + j = omega arith in z)) (λ j lt. tt) (λ p lt t. (omega arith, omega arith))

same_option : (a b : Option ℕ) → ((v : ℕ) → a ≡ Some v → b ≡ Some v) → ((v : ℕ) → b ≡ Some v → a ≡ Some v) → a ≡ b
same_option (Some v) b f g = sym (f v refl)
same_option None (Some w) f g = g w refl
same_option None None f g = refl

pub lists_one : (m : Map) (Takes : ℕ → Type 0) (xs ys : List (ℕ × ℕ)) → ListsPairs m Takes xs → ListsPairs m Takes ys → xs ≡ ys
lists_one m Takes xs ys a b =
    let x = all_listed xs a.rising in
    let y = all_listed ys b.rising in
    rows_one 0 xs ys (rises 0 xs a.rising (λ some. omega arith)) (rises 0 ys b.rising (λ some. omega arith)) (λ j. same_option (map_of xs j) (map_of ys j)
    (λ v e. ((y.pairs j v).0 ((b.pairs j v).1 ((a.pairs j v).0 ((x.pairs j v).1 (e, tt))))).0)
    (λ v e. ((x.pairs j v).0 ((a.pairs j v).1 ((b.pairs j v).0 ((y.pairs j v).1 (e, tt))))).0))

next_one : (end : ℕ) (a b : Next) → GoesOnAt end a → GoesOnAt end b → a ≡ b
next_one end (More k) (More l) s t = ap More (s.1 ∙ sym t.1)
next_one end (More k) End s t = absurd (s.0 t)
next_one end End (More l) s t = absurd (t.0 s)
next_one end End End s t = refl

pub part_one : (c : Page) (from : ℕ) (a b : PartRows) → IsPartOf c from a → IsPartOf c from b → a ≡ b
part_one c from a b s t = (
    let rows = vec_one a.rows b.rows (lists_one _ _ a.rows.items b.rows.items s.rows t.rows) in
    let next = next_one _ a.next b.next s.next t.next in
    λ i. record { rows = rows i; next = next i })

pub below_one : (low : ℕ) (a b : Next) → GoesOnBelow low a → GoesOnBelow low b → a ≡ b
below_one low (More k) (More l) s t = ap More (omega (arith, s, t))
below_one low (More k) End s t = absurd (omega (arith, s, t))
below_one low End (More l) s t = absurd (omega (arith, s, t))
below_one low End End s t = refl

-- Lists that read backwards are the same pairs are the same.
pub back_one : (m : Map) (Takes : ℕ → Type 0) (xs ys : List (ℕ × ℕ)) → ListsPairs m Takes (reverse xs) → ListsPairs m Takes (reverse ys) → xs ≡ ys
back_one m Takes xs ys a b = sym (reverse-reverse xs) ∙ ap reverse (lists_one m Takes (reverse xs) (reverse ys) a b) ∙ reverse-reverse ys

pub part_down_one : (c : Page) (from : ℕ) (a b : PartRows) → IsPartDownOf c from a → IsPartDownOf c from b → a ≡ b
part_down_one c from a b s t = (
    let rows = vec_one a.rows b.rows (back_one _ _ a.rows.items b.rows.items s.rows t.rows) in
    let next = below_one _ a.next b.next s.next t.next in
    λ i. record { rows = rows i; next = next i })

toward_one : (direction : Direction) (c : Page) (from : ℕ) (a b : PartRows) → IsPartToward direction c from a → IsPartToward direction c from b → a ≡ b
toward_one Up c from a b s t = part_one c from a b s t
toward_one Down c from a b s t = part_down_one c from a b s t

pub by_one : (from : PartStart) (c : Page) (a b : PartRows) → IsPartBy from c a → IsPartBy from c b → a ≡ b
by_one from c a b s t = toward_one from.direction c from.key a b s t
