-- The words of a page have no fault.
use Rattle.std.proofs.Common.{◌≡◌, ℕ, zero, suc, ◌+◌, ◌-◌, ◌/◌, ◌%◌, ◌<◌, ◌≤◌, ◌^◌, List, [], ◌∷◌, ◌++◌, length, get_or, refl, ap, sym, subst, ◌∙◌, arith}
use Rattle.std.specs.Prelude.{replicate}
use Rattle.std.proofs.lemmas.List.{get_or-append_right, take_at}
use Rattle.bl_page.specs.declared.page.Page.{Page}
use Rattle.bl_page.specs.declared.page.Page.TheVariants as page
use Rattle.bl_page.specs.declared.page.WordFault.{WordFault}
use Rattle.bl_page.specs.declared.page.WordFault.TheVariants as fault
use Rattle.bl_page.specs.Pairs.{RisesFrom, AllWithin, BeginsWith, NameNumbers, AreNumbers}
use Rattle.bl_page.specs.Words.{words_of, head, layout, entries_of, IsBelow}
use Rattle.bl_page.specs.Faults.{Kind, number, pairs_in, pairs_of, IsOf, LevelFits, CountFits, BoundsFit, OrderFits, CoverFits, RestFits, IsWordFault}
use Rattle.bl_page.proofs.Writing.{length-entries_of}

-- nothing is wrong with words of that kind
pub record AllFit (most : ℕ) (kind : Kind) (words : List ℕ) : Type 0 where
  pub is_of : IsOf kind words
  pub level : LevelFits kind words
  pub count : CountFits kind words
  pub bounds : BoundsFit most kind words
  pub order : OrderFits kind words
  pub cover : CoverFits most kind words
  pub rest : RestFits kind words

abbrev pub kind_of : Page → Kind
kind_of (page.Anchor a) = Kind.Anchor
kind_of (page.Leaf l) = Kind.Leaf
kind_of (page.Inner i) = Kind.Inner
kind_of (page.Dead d) = Kind.Dead

pub number-same : (a b : Kind) → number a ≡ number b → a ≡ b
number-same Kind.Anchor Kind.Anchor e = refl
number-same Kind.Anchor Kind.Leaf e = absurd (omega arith)
number-same Kind.Anchor Kind.Inner e = absurd (omega arith)
number-same Kind.Anchor Kind.Dead e = absurd (omega arith)
number-same Kind.Leaf Kind.Anchor e = absurd (omega arith)
number-same Kind.Leaf Kind.Leaf e = refl
number-same Kind.Leaf Kind.Inner e = absurd (omega arith)
number-same Kind.Leaf Kind.Dead e = absurd (omega arith)
number-same Kind.Inner Kind.Anchor e = absurd (omega arith)
number-same Kind.Inner Kind.Leaf e = absurd (omega arith)
number-same Kind.Inner Kind.Inner e = refl
number-same Kind.Inner Kind.Dead e = absurd (omega arith)
number-same Kind.Dead Kind.Anchor e = absurd (omega arith)
number-same Kind.Dead Kind.Leaf e = absurd (omega arith)
number-same Kind.Dead Kind.Inner e = absurd (omega arith)
number-same Kind.Dead Kind.Dead e = refl

pub kind_same : (a b : Kind) (words : List ℕ) → IsOf a words → IsOf b words → a ≡ b
kind_same a b words p q = number-same a b (sym p ∙ q)

pub no_fault : (most : ℕ) (kind : Kind) (words : List ℕ) → AllFit most kind words → (f : WordFault) → IsWordFault most f words → ⊥
no_fault most kind words fit fault.Kind h = h kind fit.is_of
no_fault most kind words fit fault.Level (k, is, other) = other (subst (λ k. LevelFits k words) (kind_same kind k words fit.is_of is) fit.level)
no_fault most kind words fit fault.Count (k, is, level, other) = other (subst (λ k. CountFits k words) (kind_same kind k words fit.is_of is) fit.count)
no_fault most kind words fit fault.Bounds (k, is, level, count, other) = other (subst (λ k. BoundsFit most k words) (kind_same kind k words fit.is_of is) fit.bounds)
no_fault most kind words fit fault.Order (k, is, level, count, bounds, other) = other (subst (λ k. OrderFits k words) (kind_same kind k words fit.is_of is) fit.order)
no_fault most kind words fit fault.Cover (k, is, level, count, bounds, order, other) = other (subst (λ k. CoverFits most k words) (kind_same kind k words fit.is_of is) fit.cover)
no_fault most kind words fit fault.Rest (k, is, level, count, bounds, order, cover, other) = other (subst (λ k. RestFits k words) (kind_same kind k words fit.is_of is) fit.rest)

-- word 0 taken apart
pub head-kind : (kind level count : ℕ) → level < 2 ^ 16 → count < 2 ^ 16 → head kind level count / 2 ^ 32 ≡ kind
head-kind kind level count small few = omega arith

pub head-level : (kind level count : ℕ) → level < 2 ^ 16 → count < 2 ^ 16 → head kind level count / 2 ^ 16 % 2 ^ 16 ≡ level
head-level kind level count small few = omega arith

pub head-count : (kind level count : ℕ) → level < 2 ^ 16 → count < 2 ^ 16 → head kind level count % 2 ^ 16 ≡ count
head-count kind level count small few = omega arith

-- the entries are read again, whatever follows
pub pairs_in-entries_of : (pairs : List (ℕ × ℕ)) (rest : List ℕ) → pairs_in (length pairs) (entries_of pairs ++ rest) ≡ pairs
pairs_in-entries_of [] rest = refl
pairs_in-entries_of (pair ∷ pairs) rest = ap (λ t. pair ∷ t) (pairs_in-entries_of pairs rest)

-- past the end, and in zeros, a read gives 0
zeros-at : (n k : ℕ) → get_or (replicate {A = ℕ} n 0) k 0 ≡ 0
zeros-at zero k = refl
zeros-at (suc n) zero = refl
zeros-at (suc n) (suc k) = zeros-at n k

-- behind the entries stand zeros
pub layout-rest : (first low high right : ℕ) (entries : List ℕ) (i : ℕ) → 4 + length entries ≤ i → get_or (layout first low high right entries) i 0 ≡ 0
layout-rest first low high right entries i past =
    let k = i - 4 in
    let is : i ≡ suc (suc (suc (suc (i - 4)))) = omega arith in
    ap (λ j. get_or (layout first low high right entries) j 0) is
    ∙ get_or-append_right entries (replicate {A = ℕ} (28 - length entries) 0) (length entries) (i - 4) 0 refl (omega arith) ∙ zeros-at (28 - length entries) (i - 4 - length entries)

pub fits_below : (most : ℕ) (p : Page) → IsBelow most p → AllFit most (kind_of p) (words_of p)
fits_below most (page.Anchor a) small =
    let n = length a.leftmost.items in
    let count = head-count 1 0 n (omega arith) (omega (arith, a.few)) in
    record {
      is_of = head-kind 1 0 n (omega arith) (omega (arith, a.few));
      level = head-level 1 0 n (omega arith) (omega (arith, a.few));
      count = (omega (arith, count, a.some), omega (arith, count, a.few));
      bounds = (refl, refl, refl);
      order = tt;
      cover = subst (AreNumbers most) (sym (take_at a.leftmost.items (replicate {A = ℕ} (28 - n) 0) _ (sym count))) small;
      rest = λ i past lt. layout-rest (head 1 0 n) 0 0 0 a.leftmost.items i (omega (arith, count, past));
    }
fits_below most (page.Leaf l) small =
    let rows = l.rows.items in
    let count = head-count 2 0 (length rows) (omega arith) (omega (arith, l.few)) in
    let same : pairs_of (words_of (page.Leaf l)) ≡ rows = ap (λ n. pairs_in n (entries_of rows ++ replicate {A = ℕ} (28 - length (entries_of rows)) 0)) count ∙ pairs_in-entries_of rows _ in
    record {
      is_of = head-kind 2 0 (length rows) (omega arith) (omega (arith, l.few));
      level = head-level 2 0 (length rows) (omega arith) (omega (arith, l.few));
      count = omega (arith, count, l.few);
      bounds = (l.bounds, small);
      order = subst (RisesFrom 0) (sym same) l.order;
      cover = subst (AllWithin l.low l.high) (sym same) l.cover;
      rest = λ i past lt. layout-rest (head 2 0 (length rows)) l.low l.high l.right (entries_of rows) i (omega (arith, count, past, length-entries_of rows));
    }
fits_below most (page.Inner n) small =
    let children = n.children.items in
    let size = length children in
    let level : n.level < 2 ^ 16 = omega (arith, n.below_limit) in
    let few : length children < 2 ^ 16 = omega (arith, n.few) in
    let count = head-count 3 n.level size level few in
    let is_level = head-level 3 n.level size level few in
    let same : pairs_of (words_of (page.Inner n)) ≡ children = ap (λ n. pairs_in n (entries_of children ++ replicate {A = ℕ} (28 - length (entries_of children)) 0)) count ∙ pairs_in-entries_of children _ in
    record {
      is_of = head-kind 3 n.level size level few;
      level = (omega (arith, is_level, n.above_leaves), omega (arith, is_level, n.below_limit));
      count = (omega (arith, count, some_first n.low children n.first), omega (arith, count, n.few));
      bounds = (n.bounds, small.0);
      order = subst (RisesFrom 0) (sym same) n.order;
      cover = (subst (AllWithin n.low n.high) (sym same) n.cover, subst (BeginsWith n.low) (sym same) n.first, subst (NameNumbers most) (sym same) small.1);
      rest = λ i past lt. layout-rest (head 3 n.level size) n.low n.high n.right (entries_of children) i (omega (arith, count, past, length-entries_of children));
    }
  where
    some_first : (low : ℕ) (pairs : List (ℕ × ℕ)) → BeginsWith low pairs → 0 < length pairs
    some_first low [] h = absurd h
    some_first low (pair ∷ pairs) h = omega arith
fits_below most (page.Dead d) small =
    let level : d.level < 2 ^ 16 = omega (arith, d.below_limit) in
    record {
      is_of = head-kind 4 d.level 0 level (omega arith);
      level = let is_level = head-level 4 d.level 0 level (omega arith) in omega (arith, is_level, d.below_limit);
      count = head-count 4 d.level 0 level (omega arith);
      bounds = (refl, small);
      order = tt;
      cover = tt;
      rest = λ i past lt. layout-rest (head 4 d.level 0) d.low 0 d.right [] i past;
    }

-- the number of each page that there is fits 32 bits
pub is_below : (p : Page) → IsBelow (2 ^ 32) p
is_below (page.Anchor a) = a.pages
is_below (page.Leaf l) = l.link
is_below (page.Inner n) = (n.link, n.pages)
is_below (page.Dead d) = d.link

pub fits : (p : Page) → AllFit (2 ^ 32) (kind_of p) (words_of p)
fits p = fits_below (2 ^ 32) p (is_below p)
