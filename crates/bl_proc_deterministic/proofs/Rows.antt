-- Pairs that rise are known by what they list.
use Rattle.std.proofs.Common.{◌≡◌, ◌≢◌, ℕ, ◌+◌, ◌<◌, ◌≤◌, List, [], ◌∷◌, ◌++◌, length, Option, Some, None, refl, sym, ◌∙◌, inl, inr, arith}
use Rattle.std.proofs.lemmas.Bool.{cases_lt, cases_eq}
use Rattle.bl_model.specs.Rows.{map_of}
use Rattle.bl_page.specs.Pairs.{RisesFrom, AllWithin}
use Rattle.bl_page.proofs.Lookups.{map_of_below}
use Rattle.bl_rearrange.proofs.Cuts.{RisesFrom-lower}

first_key : (k v l w : ℕ) (xs ys : List (ℕ × ℕ)) → RisesFrom (k + 1) xs → RisesFrom (l + 1) ys → ((j : ℕ) → map_of ((k, v) ∷ xs) j ≡ map_of ((l, w) ∷ ys) j) → k < l → ⊥
first_key k v l w xs ys rx ry same lt = (
    let here : map_of ((k, v) ∷ xs) k ≡ Some v = grind arith in
    let there : map_of ((l, w) ∷ ys) k ≡ None = map_of_below l k ((l, w) ∷ ys) (omega arith, ry) lt in
    let e : Some v ≡ None = sym here ∙ (same k ∙ there) in
    cc)

rest_same : (k v w : ℕ) (xs ys : List (ℕ × ℕ)) → RisesFrom (k + 1) xs → RisesFrom (k + 1) ys → ((j : ℕ) → map_of ((k, v) ∷ xs) j ≡ map_of ((k, w) ∷ ys) j) → (j : ℕ) → map_of xs j ≡ map_of ys j
rest_same k v w xs ys rx ry same j = elim (cases_eq k j) [
  | inl e ↦ map_of_below (k + 1) j xs rx (omega arith) ∙ sym (map_of_below (k + 1) j ys ry (omega arith))
  | inr ne ↦ (let a : map_of ((k, v) ∷ xs) j ≡ map_of xs j = grind arith in let b : map_of ((k, w) ∷ ys) j ≡ map_of ys j = grind arith in sym a ∙ (same j ∙ b))
]

value_same : (k v w : ℕ) (xs ys : List (ℕ × ℕ)) → ((j : ℕ) → map_of ((k, v) ∷ xs) j ≡ map_of ((k, w) ∷ ys) j) → v ≡ w
value_same k v w xs ys same = (
    let a : map_of ((k, v) ∷ xs) k ≡ Some v = grind arith in
    let b : map_of ((k, w) ∷ ys) k ≡ Some w = grind arith in
    let e : Some v ≡ Some w = sym a ∙ (same k ∙ b) in
    cc)

pub rows_one : (least : ℕ) (xs ys : List (ℕ × ℕ)) → RisesFrom least xs → RisesFrom least ys → ((j : ℕ) → map_of xs j ≡ map_of ys j) → xs ≡ ys
rows_one least [] [] rx ry same = refl
rows_one least [] ((l, w) ∷ ys) rx ry same = (let b : map_of ((l, w) ∷ ys) l ≡ Some w = grind arith in let e : None ≡ Some w = same l ∙ b in cc)
rows_one least ((k, v) ∷ xs) [] rx ry same = (let b : map_of ((k, v) ∷ xs) k ≡ Some v = grind arith in let e : Some v ≡ None = sym b ∙ same k in cc)
rows_one least ((k, v) ∷ xs) ((l, w) ∷ ys) rx ry same = elim (cases_lt k l) [
  | inl lt ↦ absurd (first_key k v l w xs ys rx.1 ry.1 same lt)
  | inr ge ↦ elim (cases_lt l k) [
    | inl lt ↦ absurd (first_key l w k v ys xs ry.1 rx.1 (λ j. sym (same j)) lt)
    | inr le ↦ (
        let e : l ≡ k = omega arith in
        let ry' : RisesFrom (k + 1) ys = rw e at ry.1 in
        let same' : (j : ℕ) → map_of ((k, v) ∷ xs) j ≡ map_of ((k, w) ∷ ys) j = rw e at same in
        let values = value_same k v w xs ys same' in
        let rest = rows_one (k + 1) xs ys rx.1 ry' (rest_same k v w xs ys rx.1 ry' same') in
        λ i. (sym e i, values i) ∷ rest i)
  ]
]

pub front_one : {A : Type 0} (xs ys us vs : List A) → length xs ≡ length us → xs ++ ys ≡ us ++ vs → xs ≡ us
front_one [] ys [] vs l e = refl
front_one [] ys (u ∷ us) vs l e = absurd (omega arith)
front_one (x ∷ xs) ys [] vs l e = absurd (omega arith)
front_one (x ∷ xs) ys (u ∷ us) vs l e = (let a : x ≡ u = cc in let b : xs ++ ys ≡ us ++ vs = cc in let c = front_one xs ys us vs (omega arith) b in λ i. a i ∷ c i)

pub back_one : {A : Type 0} (xs ys us vs : List A) → length xs ≡ length us → xs ++ ys ≡ us ++ vs → ys ≡ vs
back_one [] ys [] vs l e = e
back_one [] ys (u ∷ us) vs l e = absurd (omega arith)
back_one (x ∷ xs) ys [] vs l e = absurd (omega arith)
back_one (x ∷ xs) ys (u ∷ us) vs l e = (let b : xs ++ ys ≡ us ++ vs = cc in back_one xs ys us vs (omega arith) b)

-- two parts that meet at a key
rises_both : (least low middle : ℕ) (xs ys : List (ℕ × ℕ)) → 0 < middle → RisesFrom least xs → AllWithin low middle xs → least ≤ middle → RisesFrom middle ys → RisesFrom least (xs ++ ys)
rises_both least low middle [] ys some rx wx le ry = RisesFrom-lower least middle ys le ry
rises_both least low middle (x ∷ xs) ys some rx wx le ry = (
    let below : x.0 < middle = (let h = wx.0.1 in grind arith) in
    (rx.0, rises_both (x.0 + 1) low middle xs ys some rx.1 wx.1 (omega arith) ry))

lower_listed : (middle j low : ℕ) (xs ys : List (ℕ × ℕ)) → RisesFrom middle ys → j < middle → map_of (xs ++ ys) j ≡ map_of xs j
lower_listed middle j low [] ys ry lt = map_of_below middle j ys ry lt
lower_listed middle j low (x ∷ xs) ys ry lt = grind (arith, lower_listed middle j low xs ys ry lt)

upper_listed : (middle j low : ℕ) (xs ys : List (ℕ × ℕ)) → 0 < middle → AllWithin low middle xs → middle ≤ j → map_of (xs ++ ys) j ≡ map_of ys j
upper_listed middle j low [] ys some wx ge = refl
upper_listed middle j low (x ∷ xs) ys some wx ge = (
    let below : x.0 < middle = (let h = wx.0.1 in grind arith) in
    let other : x.0 ≢ j = λ e. omega arith in
    grind (arith, other, upper_listed middle j low xs ys some wx.1 ge))

-- what lies within bounds from a key on rises from that key
rises_within : (least low high : ℕ) (ys : List (ℕ × ℕ)) → RisesFrom least ys → AllWithin low high ys → RisesFrom low ys
rises_within least low high [] r w = tt
rises_within least low high (y ∷ ys) r w = (w.0.0, r.1)

-- the two parts of what lists m, cut at a key
pub record IsSplit (m : ℕ → Option ℕ) (low middle high : ℕ) (xs ys : List (ℕ × ℕ)) : Type 0 where
  pub some : 0 < middle
  pub lower : RisesFrom 0 xs
  pub lower_in : AllWithin low middle xs
  pub upper : RisesFrom 0 ys
  pub upper_in : AllWithin middle high ys
  pub below : (j : ℕ) → j < middle → map_of xs j ≡ m j
  pub above : (j : ℕ) → middle ≤ j → map_of ys j ≡ m j

whole : (m : ℕ → Option ℕ) (low middle high : ℕ) (xs ys : List (ℕ × ℕ)) → IsSplit m low middle high xs ys → RisesFrom 0 (xs ++ ys) × ((j : ℕ) → map_of (xs ++ ys) j ≡ m j)
whole m low middle high xs ys p = (
    let up = rises_within 0 middle high ys p.upper p.upper_in in (
      rises_both 0 low middle xs ys p.some p.lower p.lower_in (omega arith) up,
      λ j. elim (cases_lt j middle) [
        | inl lt ↦ lower_listed middle j low xs ys up lt ∙ p.below j lt
        | inr ge ↦ upper_listed middle j low xs ys p.some p.lower_in ge ∙ p.above j ge
      ],
    ))

pub split_rows_one : (m : ℕ → Option ℕ) (low b c high : ℕ) (xs ys us vs : List (ℕ × ℕ)) → IsSplit m low b high xs ys → IsSplit m low c high us vs → xs ++ ys ≡ us ++ vs
split_rows_one m low b c high xs ys us vs p q = (let a = whole m low b high xs ys p in let d = whole m low c high us vs q in rows_one 0 (xs ++ ys) (us ++ vs) a.0 d.0 (λ j. a.1 j ∙ sym (d.1 j)))
