-- What was dealt into shares is put together again.
use Rattle.std.proofs.Common.{◌≡◌, ◌≢◌, ℕ, zero, suc, ◌+◌, ◌<◌, ◌≤◌, List, [], ◌∷◌, ◌++◌, length, map, take, drop, get_or, refl, sym, ap, ◌∙◌, subst, arith, ⊎_elim}
use Rattle.std.specs.Prelude.{All, flat_map, sum, if◌then◌else◌, ◌==◌, IsPermutation}
use Rattle.std.specs.List.{AllZip}
use Rattle.std.proofs.Math.Seq.{take-append_seam}
use Rattle.std.proofs.lemmas.Bool.{cases_eq}
use Rattle.std.proofs.lemmas.Bool.Decides.{nat_tests}
use Rattle.std.proofs.lemmas.List.Elements.{All-head, All-tail}
use Rattle.std.proofs.lemmas.List.Sums.{sum_by-cons}
use Rattle.std.proofs.lemmas.List.Sorted.{IsPermutation-refl, IsPermutation-trans, IsPermutation-cons, IsPermutation-append_right, IsPermutation-middle}
use Rattle.bl_serve_lines.specs.Dealt.{dealt, numbers}

module _ {A : Type 0} (share s : ℕ) (deals : List ℕ) (x : A) (xs : List A) where
  -- the first thing is the share's
  pub here : s ≡ share → dealt share (s ∷ deals) (x ∷ xs) ≡ x ∷ dealt share deals xs
  here own = grind (arith, nat_tests, own)

  -- it is another one's
  pub elsewhere : s ≢ share → dealt share (s ∷ deals) (x ∷ xs) ≡ dealt share deals xs
  elsewhere other = grind (arith, nat_tests, other)

-- what each share has left when the first thing of one is taken
abbrev pub left_of : {A : Type 0} → ℕ → List A → (ℕ → List A) → ℕ → List A
left_of share rest hands s = if s == share then rest else hands s

-- what is dealt so that each share has its hand
pub record Regathers {A : Type 0} (deals : List ℕ) (hands : ℕ → List A) : Type 0 where
  pub all : List A
  pub long : length all ≡ length deals
  pub each : (share : ℕ) → dealt share deals all ≡ hands share

gathers_none : {A : Type 0} (hand : List A) → length hand ≡ 0 → [] ≡ hand
gathers_none [] is = refl
gathers_none (x ∷ hand) is = absurd (omega (arith, is))

-- each share's hand is as long as what is dealt to it
abbrev Fits : {A B : Type 0} → List ℕ → List B → (ℕ → List A) → Type 0
Fits deals lines hands = (share : ℕ) → length (hands share) ≡ length (dealt share deals lines)

module _ {A B : Type 0} (t : ℕ) (deals : List ℕ) (line : B) (lines : List B) (hands : ℕ → List A) (x : A) (rest : List A) (is : hands t ≡ x ∷ rest) where
  left_own : (share : ℕ) → share ≡ t → left_of t rest hands share ≡ rest
  left_own share own = grind (arith, nat_tests, own)

  left_other : (share : ℕ) → share ≢ t → left_of t rest hands share ≡ hands share
  left_other share other = grind (arith, nat_tests, other)

  -- what is left fits what is left to deal
  rest_fits : Fits (t ∷ deals) (line ∷ lines) hands → Fits deals lines (left_of t rest hands)
  rest_fits long share = ⊎_elim
      (λ (own : share ≡ t).
      let a = ap length (left_own share own) in let b = ap length (ap hands own ∙ is) in let c = long share in let d = ap length (here share t deals line lines (sym own)) in
      let same : length (left_of t rest hands share) ≡ length (dealt share deals lines) = omega (arith, a, b, c, d) in same)
      (λ (other : share ≡ t → ⊥). ap length (left_other share other) ∙ (long share ∙ ap length (elsewhere share t deals line lines (λ e. other (sym e)))))
      (cases_eq share t)

  gathers_on : Regathers deals (left_of t rest hands) → Regathers (t ∷ deals) hands
  gathers_on r = record { all = x ∷ r.all; long = ap suc r.long; each = each }
    where
      each : (share : ℕ) → dealt share (t ∷ deals) (x ∷ r.all) ≡ hands share
      each share = ⊎_elim
          (λ (own : share ≡ t). here share t deals x r.all (sym own) ∙ (ap (λ (z : List A). x ∷ z) (r.each share ∙ left_own share own) ∙ sym (ap hands own ∙ is)))
          (λ (other : share ≡ t → ⊥). elsewhere share t deals x r.all (λ e. other (sym e)) ∙ (r.each share ∙ left_other share other))
          (cases_eq share t)

gathers_more : {A B : Type 0} (t : ℕ) (deals : List ℕ) (line : B) (lines : List B) (hands : ℕ → List A) → ((others : ℕ → List A) → Fits deals lines others → Regathers deals others) → Fits (t ∷ deals) (line ∷ lines) hands → (hand : List A) → hands t ≡ hand → Regathers (t ∷ deals) hands
gathers_more t deals line lines hands gathers long [] is = let a = long t in let b = ap length (here t t deals line lines refl) in let c = ap length is in absurd (omega (arith, a, b, c))
gathers_more t deals line lines hands gathers long (x ∷ rest) is = gathers_on t deals line lines hands x rest is (gathers (left_of t rest hands) (rest_fits t deals line lines hands x rest is long))

pub regathers : {A B : Type 0} (deals : List ℕ) (lines : List B) (hands : ℕ → List A) → length lines ≡ length deals → Fits deals lines hands → Regathers deals hands
regathers [] lines hands same long = record { all = []; long = refl; each = λ share. gathers_none (hands share) (long share) }
regathers (t ∷ deals) [] hands same long = absurd (omega (arith, same))
regathers (t ∷ deals) (line ∷ lines) hands same long = gathers_more t deals line lines hands (λ others fit. regathers deals lines others (omega (arith, same)) fit) long (hands t) refl

-- what holds of each share's pairs holds of all
module _ {A B : Type 0} (R : A → B → Type 0) where
  moved : {xs us : List A} {ys vs : List B} → xs ≡ us → ys ≡ vs → AllZip R xs ys → AllZip R us vs
  moved a b = subst (λ (z : List A × List B). AllZip R z.0 z.1) (λ i. (a i, b i))

  pub all_pairs : (deals : List ℕ) (xs : List A) (ys : List B) → length xs ≡ length deals → length ys ≡ length deals → ((share : ℕ) → AllZip R (dealt share deals xs) (dealt share deals ys)) → AllZip R xs ys
  all_pairs [] [] [] a b h = tt
  all_pairs [] (x ∷ xs) ys a b h = absurd (omega (arith, a))
  all_pairs [] [] (y ∷ ys) a b h = absurd (omega (arith, b))
  all_pairs (t ∷ deals) [] ys a b h = absurd (omega (arith, a))
  all_pairs (t ∷ deals) (x ∷ xs) [] a b h = absurd (omega (arith, b))
  all_pairs (t ∷ deals) (x ∷ xs) (y ∷ ys) a b h = ((moved (here t t deals x xs refl) (here t t deals y ys refl) (h t)).0, all_pairs deals xs ys (omega (arith, a)) (omega (arith, b)) rest)
    where
      rest : (share : ℕ) → AllZip R (dealt share deals xs) (dealt share deals ys)
      rest share = ⊎_elim
          (λ (own : t ≡ share). (moved (here share t deals x xs own) (here share t deals y ys own) (h share)).1)
          (λ (other : t ≡ share → ⊥). moved (elsewhere share t deals x xs other) (elsewhere share t deals y ys other) (h share))
          (cases_eq t share)

-- the shares from one on, one after another
abbrev pub shares_of : {A : Type 0} → ℕ → ℕ → List ℕ → List A → List A
shares_of from count deals xs = flat_map (λ share. dealt share deals xs) (numbers from count)

shares_above : {A : Type 0} (from count t : ℕ) (deals : List ℕ) (x : A) (xs : List A) → t < from → shares_of from count (t ∷ deals) (x ∷ xs) ≡ shares_of from count deals xs
shares_above from zero t deals x xs low = refl
shares_above {A} from (suc count) t deals x xs low = ap (λ (z : List A). z ++ shares_of (suc from) count (t ∷ deals) (x ∷ xs)) (elsewhere from t deals x xs (λ e. omega (arith, e, low)))
    ∙ ap (λ (z : List A). dealt from deals xs ++ z) (shares_above (suc from) count t deals x xs (omega (arith, low)))

to_front : {A : Type 0} (from count t : ℕ) (deals : List ℕ) (x : A) (xs : List A) → from ≤ t → t < from + count → IsPermutation (shares_of from count (t ∷ deals) (x ∷ xs)) (x ∷ shares_of from count deals xs)
to_front from zero t deals x xs low high = absurd (omega (arith, low, high))
to_front {A} from (suc count) t deals x xs low high = ⊎_elim
    (λ (e : from ≡ t). subst (λ (z : List A). IsPermutation z (x ∷ shares_of from (suc count) deals xs))
    (sym (ap (λ (z : List A). z ++ shares_of (suc from) count (t ∷ deals) (x ∷ xs)) (here from t deals x xs (sym e))
    ∙ ap (λ (z : List A). x ∷ (dealt from deals xs ++ z)) (shares_above (suc from) count t deals x xs (omega (arith, e)))))
    (IsPermutation-refl (x ∷ shares_of from (suc count) deals xs)))
    (λ (ne : from ≡ t → ⊥).
    let there = to_front (suc from) count t deals x xs (omega (arith, low, ne)) (omega (arith, high)) in
    subst (λ (z : List A). IsPermutation (z ++ shares_of (suc from) count (t ∷ deals) (x ∷ xs)) (x ∷ shares_of from (suc count) deals xs)) (sym (elsewhere from t deals x xs (λ e. ne (sym e))))
    (IsPermutation-trans _ _ _ (IsPermutation-append_right (dealt from deals xs) _ _ there) (IsPermutation-middle (dealt from deals xs) x (shares_of (suc from) count deals xs))))
    (cases_eq from t)

shares_of_none : {A : Type 0} (from count : ℕ) (deals : List ℕ) → ◌≡◌ {A = List A} (shares_of from count deals []) []
shares_of_none from count deals = go from count deals
  where
    none : {A : Type 0} (share : ℕ) (deals : List ℕ) → ◌≡◌ {A = List A} (dealt share deals []) []
    none share [] = refl
    none share (s ∷ deals) = refl

    go : {A : Type 0} (from count : ℕ) (deals : List ℕ) → ◌≡◌ {A = List A} (shares_of from count deals []) []
    go from zero deals = refl
    go {A} from (suc count) deals = ap (λ (z : List A). z ++ shares_of (suc from) count deals []) (none from deals) ∙ go (suc from) count deals

-- all shares together have all things
pub all_shares : {A : Type 0} (count : ℕ) (deals : List ℕ) (xs : List A) → length xs ≡ length deals → All (λ share. share < count) deals → IsPermutation (shares_of 0 count deals xs) xs
all_shares {A} count deals [] long low = subst (λ (z : List A). IsPermutation z []) (sym (shares_of_none 0 count deals)) (IsPermutation-refl [])
all_shares count [] (x ∷ xs) long low = absurd (omega (arith, long))
all_shares count (t ∷ deals) (x ∷ xs) long low = IsPermutation-trans _ _ _ (to_front 0 count t deals x xs (omega arith) (let h = All-head (λ share. share < count) t deals low in omega (arith, h)))
    (IsPermutation-cons x _ _ (all_shares count deals xs (omega (arith, long)) (All-tail (λ share. share < count) t deals low)))

-- ---- behind so many places

-- what is dealt is as long, whatever is dealt
pub dealt_long : {A B : Type 0} (share : ℕ) (deals : List ℕ) (xs : List A) (ys : List B) → length deals ≤ length xs → length deals ≤ length ys → length (dealt share deals xs) ≡ length (dealt share deals ys)
dealt_long share [] xs ys a b = refl
dealt_long share (s ∷ deals) [] ys a b = absurd (omega (arith, a))
dealt_long share (s ∷ deals) (x ∷ xs) [] a b = absurd (omega (arith, b))
dealt_long share (s ∷ deals) (x ∷ xs) (y ∷ ys) a b = let more = dealt_long share deals xs ys (omega (arith, a)) (omega (arith, b)) in ⊎_elim
    (λ (own : s ≡ share). ap length (here share s deals x xs own) ∙ (ap suc more ∙ sym (ap length (here share s deals y ys own))))
    (λ (other : s ≡ share → ⊥). ap length (elsewhere share s deals x xs other) ∙ (more ∙ sym (ap length (elsewhere share s deals y ys other))))
    (cases_eq s share)

module _ {A : Type 0} (share : ℕ) where
  -- one place more is the share's
  pub dealt_more : (deals : List ℕ) (xs : List A) (n e : ℕ) (d : A) → length xs ≡ length deals → n < length deals → get_or deals n e ≡ share → dealt share (take (suc n) deals) xs ≡ dealt share (take n deals) xs ++ get_or xs n d ∷ []
  dealt_more [] xs n e d same low is = absurd (omega (arith, low))
  dealt_more (s ∷ deals) [] n e d same low is = absurd (omega (arith, same))
  dealt_more (s ∷ deals) (x ∷ xs) zero e d same low is = here share s (take 0 deals) x xs is
  dealt_more (s ∷ deals) (x ∷ xs) (suc n) e d same low is = let more = dealt_more deals xs n e d (omega (arith, same)) (omega (arith, low)) is in ⊎_elim
      (λ (own : s ≡ share). here share s (take (suc n) deals) x xs own ∙ (ap (λ (z : List A). x ∷ z) more ∙ ap (λ (z : List A). z ++ get_or xs n d ∷ []) (sym (here share s (take n deals) x xs own))))
      (λ (other : s ≡ share → ⊥). elsewhere share s (take (suc n) deals) x xs other ∙ (more ∙ ap (λ (z : List A). z ++ get_or xs n d ∷ []) (sym (elsewhere share s (take n deals) x xs other))))
      (cases_eq s share)

  -- it is another one's
  pub dealt_past : (deals : List ℕ) (xs : List A) (n e : ℕ) → length xs ≡ length deals → n < length deals → get_or deals n e ≢ share → dealt share (take (suc n) deals) xs ≡ dealt share (take n deals) xs
  dealt_past [] xs n e same low is = absurd (omega (arith, low))
  dealt_past (s ∷ deals) [] n e same low is = absurd (omega (arith, same))
  dealt_past (s ∷ deals) (x ∷ xs) zero e same low is = elsewhere share s (take 0 deals) x xs is
  dealt_past (s ∷ deals) (x ∷ xs) (suc n) e same low is = let more = dealt_past deals xs n e (omega (arith, same)) (omega (arith, low)) is in ⊎_elim
      (λ (own : s ≡ share). here share s (take (suc n) deals) x xs own ∙ (ap (λ (z : List A). x ∷ z) more ∙ sym (here share s (take n deals) x xs own)))
      (λ (other : s ≡ share → ⊥). elsewhere share s (take (suc n) deals) x xs other ∙ (more ∙ sym (elsewhere share s (take n deals) x xs other)))
      (cases_eq s share)

  -- none of so many places is the share's
  pub dealt_none : (deals : List ℕ) (xs : List A) (from many e : ℕ) → length xs ≡ length deals → from + many ≤ length deals → ((k : ℕ) → from ≤ k → k < from + many → get_or deals k e ≢ share)
      → dealt share (take (from + many) deals) xs ≡ dealt share (take from deals) xs
  dealt_none deals xs from zero e same low none = ap (λ (n : ℕ). dealt share (take n deals) xs) (let z : from + 0 ≡ from = omega arith in z)
  dealt_none deals xs from (suc many) e same low none = ap (λ (n : ℕ). dealt share (take n deals) xs) (let z : from + suc many ≡ suc (from + many) = omega arith in z)
      ∙ (dealt_past deals xs (from + many) e same (omega (arith, low)) (none (from + many) (omega arith) (omega arith))
      ∙ dealt_none deals xs from many e same (omega (arith, low)) (λ k a b. none k a (omega (arith, b))))

-- a place of the share: so many of its things stand before it
pub counted_here : {A : Type 0} (share : ℕ) (deals : List ℕ) (xs : List A) (n e : ℕ) (d : A) → length xs ≡ length deals → n < length deals → get_or deals n e ≡ share
    → (length (dealt share (take n deals) deals) < length (dealt share deals deals)) × (get_or (dealt share deals xs) (length (dealt share (take n deals) deals)) d ≡ get_or xs n d)
counted_here share [] xs n e d same low is = absurd (omega (arith, low))
counted_here share (s ∷ deals) [] n e d same low is = absurd (omega (arith, same))
counted_here {A} share (s ∷ deals) (x ∷ xs) zero e d same low is = let a = ap length (here share s deals s deals is) in (omega (arith, a), ap (λ (z : List A). get_or z 0 d) (here share s deals x xs is))
counted_here {A} share (s ∷ deals) (x ∷ xs) (suc n) e d same low is =
    let more = counted_here share deals xs n e d (omega (arith, same)) (omega (arith, low)) is in let m = more.0 in ⊎_elim
    (λ (own : s ≡ share).
    let a = here share s (take n deals) s deals own in let b = ap length (here share s deals s deals own) in let la = ap length a in (
      omega (arith, la, b, m),
      ap (λ (z : List A). get_or z (length (dealt share (s ∷ take n deals) (s ∷ deals))) d) (here share s deals x xs own) ∙ (ap (λ (z : List ℕ). get_or (x ∷ dealt share deals xs) (length z) d) a ∙ more.1),
    ))
    (λ (other : s ≡ share → ⊥).
    let a = elsewhere share s (take n deals) s deals other in let b = ap length (elsewhere share s deals s deals other) in let la = ap length a in (
      omega (arith, la, b, m),
      ap (λ (z : List A). get_or z (length (dealt share (s ∷ take n deals) (s ∷ deals))) d) (elsewhere share s deals x xs other) ∙ (ap (λ (z : List ℕ). get_or (dealt share deals xs) (length z) d) a ∙ more.1),
    ))
    (cases_eq s share)

-- ---- numbers

pub numbers_long : (from count : ℕ) → length (numbers from count) ≡ count
numbers_long from zero = refl
numbers_long from (suc count) = ap suc (numbers_long (suc from) count)

pub number_at : (from count n d : ℕ) → n < count → get_or (numbers from count) n d ≡ from + n
number_at from zero n d low = absurd (omega (arith, low))
number_at from (suc count) zero d low = omega arith
number_at from (suc count) (suc n) d low = number_at (suc from) count n d (omega (arith, low)) ∙ (let e : suc from + n ≡ from + suc n = omega arith in e)

-- ---- texts one after another

abbrev joined : List (List ℕ) → List ℕ
joined texts = flat_map (λ t. t) texts

-- the text at a place among others stands behind all before it
pub text_at : (texts : List (List ℕ)) (n : ℕ) → n < length texts → take (length (get_or texts n [])) (drop (sum (take n (map length texts))) (joined texts)) ≡ get_or texts n []
text_at [] n low = absurd (omega (arith, low))
text_at (t ∷ texts) zero low = take-append_seam t (joined texts)
text_at (t ∷ texts) (suc n) low =
    let lengths : List ℕ = take n (map length texts) in
    ap (λ (k : ℕ). take (length (get_or texts n [])) (drop k (t ++ joined texts))) (sum_by-cons (λ (k : ℕ). k) (length t) lengths)
    ∙ (ap (take (length (get_or texts n []))) (drop_behind t (joined texts) (sum lengths)) ∙ text_at texts n (omega (arith, low)))
  where
    drop_behind : (xs ys : List ℕ) (k : ℕ) → drop (length xs + k) (xs ++ ys) ≡ drop k ys
    drop_behind [] ys k = ap (λ (n : ℕ). drop n ys) (let e : 0 + k ≡ k = omega arith in e)
    drop_behind (x ∷ xs) ys k = ap (λ (n : ℕ). drop n (x ∷ (xs ++ ys))) (let e : suc (length xs) + k ≡ suc (length xs + k) = omega arith in e) ∙ drop_behind xs ys k
