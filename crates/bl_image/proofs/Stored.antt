-- The pages of an image that are stored, and those behind them, none of which is in use.
use Rattle.std.proofs.Common.{◌≡◌, ℕ, zero, suc, ◌+◌, ◌-◌, ◌<◌, ◌≤◌, List, [], ◌∷◌, ◌++◌, length, get_or, take, drop, Option, Some, None, refl, ap, sym, subst, ◌∙◌, arith}
use Rattle.std.specs.Prelude.{replicate, max, is_some, true, false}
use Rattle.std.proofs.lemmas.Bool.{true≢false, false≢true}
use Rattle.std.specs.List.{AllByRecursion}
use Rattle.std.proofs.lemmas.List.{drop_more, get_or-take, length-take-le, take-append-drop}
use Rattle.bl_page.specs.declared.page.Page.{Page}
use Rattle.bl_image.specs.Images.{page_words, Fits64, NamesBelow, least_stored, one_more, used_to, stored}

abbrev pub blanks : ℕ → List (Option Page)
blanks n = replicate n None

pub is_none : (page : Option Page) → is_some page ≡ false → page ≡ None
is_none None h = refl
is_none (Some p) h = absurd (true≢false h)

pub is_used : (page : Option Page) → is_some page ≡ true → page ≡ None → ⊥
is_used None h blank = false≢true h
is_used (Some p) h blank = absurd cc

pub used_blanks : (n : ℕ) → used_to (blanks n) ≡ 0
used_blanks zero = refl
used_blanks (suc n) = ap (one_more None) (used_blanks n)

-- pages behind that are not in use change nothing
pub used_behind : (pages : List (Option Page)) (n : ℕ) → used_to (pages ++ blanks n) ≡ used_to pages
used_behind [] n = used_blanks n
used_behind (page ∷ pages) n = ap (one_more page) (used_behind pages n)

more_most : (page : Option Page) (n m : ℕ) → n ≤ m → one_more page n ≤ suc m
more_most None zero m le = omega arith
more_most None (suc n) m le = omega arith
more_most (Some p) n m le = omega arith

pub used_most : (pages : List (Option Page)) → used_to pages ≤ length pages
used_most [] = omega arith
used_most (page ∷ pages) = more_most page (used_to pages) (length pages) (used_most pages)

none_front : (n : ℕ) → one_more None n ≤ 0 → n ≤ 0
none_front zero le = omega arith
none_front (suc n) le = absurd (omega arith)

less_front : (page : Option Page) (n m : ℕ) → one_more page n ≤ suc m → n ≤ m
less_front None zero m le = omega arith
less_front None (suc n) m le = omega arith
less_front (Some p) n m le = omega arith

-- behind the last page in use none is
pub rest_blank : (n : ℕ) (pages : List (Option Page)) → used_to pages ≤ n → drop n pages ≡ blanks (length pages - n)
rest_blank zero [] le = refl
rest_blank zero (Some p ∷ pages) le = absurd (omega arith)
rest_blank zero (None ∷ pages) le =
    let e : length pages - 0 ≡ length pages = omega arith in
    let f : suc (length pages) - 0 ≡ suc (length pages) = omega arith in
    ap (λ (t : List (Option Page)). None ∷ t) (rest_blank zero pages (none_front (used_to pages) le) ∙ ap blanks e) ∙ ap blanks (sym f)
rest_blank (suc n) [] le = let e : 0 - suc n ≡ 0 = omega arith in ap blanks (sym e)
rest_blank (suc n) (page ∷ pages) le =
    let e : suc (length pages) - suc n ≡ length pages - n = omega arith in rest_blank n pages (less_front page (used_to pages) n le) ∙ ap blanks (sym e)

no_first : (n : ℕ) → one_more None n ≡ 1 → ⊥
no_first zero e = absurd (omega arith)
no_first (suc n) e = absurd (omega arith)

before : (n m : ℕ) → one_more None n ≡ suc (suc m) → n ≡ suc m
before zero m e = absurd (omega arith)
before (suc n) m e = omega arith

-- the last page in use is in use
pub last_used : (pages : List (Option Page)) (n : ℕ) → used_to pages ≡ suc n → get_or pages n None ≡ None → ⊥
last_used [] n e none = absurd (omega arith)
last_used (Some p ∷ pages) zero e none = absurd cc
last_used (Some p ∷ pages) (suc n) e none = last_used pages n (omega arith) none
last_used (None ∷ pages) zero e none = no_first (used_to pages) e
last_used (None ∷ pages) (suc n) e none = last_used pages n (before (used_to pages) n e) none

suc_front : (page : Option Page) (n : ℕ) → one_more page (suc n) ≡ suc (suc n)
suc_front None n = refl
suc_front (Some p) n = refl

-- where the last page is in use, all count
pub used_full : (pages : List (Option Page)) (n : ℕ) → length pages ≡ suc n → (get_or pages n None ≡ None → ⊥) → used_to pages ≡ suc n
used_full [] n long some = absurd (omega arith)
used_full (None ∷ []) zero long some = absurd (some refl)
used_full (Some p ∷ []) zero long some = refl
used_full (page ∷ next ∷ pages) zero long some = absurd (omega arith)
used_full (page ∷ pages) (suc n) long some = ap (one_more page) (used_full pages n (omega arith) some) ∙ suc_front page n

-- a page in use, behind which none is
pub used_at : (pages : List (Option Page)) (n behind : ℕ) → n < length pages → (get_or pages n None ≡ None → ⊥) → drop (n + 1) pages ≡ blanks behind → used_to pages ≡ n + 1
used_at pages n behind lt some blank =
    let cut : length (take (n + 1) pages) ≡ suc n = omega (arith, length-take-le (n + 1) pages (omega arith)) in
    let whole : used_to pages ≡ used_to (take (n + 1) pages ++ blanks behind) = ap used_to (sym (take-append-drop (n + 1) pages) ∙ ap (λ t. take (n + 1) pages ++ t) blank) in
    let full = used_full (take (n + 1) pages) n cut (λ none. some (sym (get_or-take (n + 1) pages n None (omega arith)) ∙ none)) in
    whole ∙ used_behind (take (n + 1) pages) behind ∙ full ∙ (let e : suc n ≡ n + 1 = omega arith in e)

-- one page more from the end that is not in use
pub blank_more : (pages : List (Option Page)) (behind : ℕ) → behind < length pages → get_or pages (length pages - 1 - behind) None ≡ None
    → drop (length pages - behind) pages ≡ blanks behind → drop (length pages - (behind + 1)) pages ≡ blanks (behind + 1)
blank_more pages behind lt none blank =
    let x : ℕ = length pages - 1 - behind in
    let here : length pages - (behind + 1) ≡ x = omega arith in
    let next : x + 1 ≡ length pages - behind = omega (arith, lt) in
    let count : suc behind ≡ behind + 1 = omega arith in
    let rest : drop (x + 1) pages ≡ blanks behind = ap (λ n. drop n pages) next ∙ blank in
    ap (λ n. drop n pages) here ∙ drop_more pages x None (omega (arith, lt)) ∙ (λ i. none i ∷ rest i) ∙ ap blanks count

pub most_left : (a b : ℕ) → a ≤ max a b
most_left a b = omega arith

pub most_right : (a b : ℕ) → b ≤ max a b
most_right a b = omega arith

most_within : (a b c : ℕ) → a ≤ c → b ≤ c → max a b ≤ c
most_within a b c left right = omega arith

pub right_most : (a b : ℕ) → a < max a b → b ≡ max a b
right_most a b lt = omega arith

pub most_is_right : (a b c : ℕ) → a < c → b ≡ c → max a b ≡ c
most_is_right a b c lt same = omega arith

pub most_is_left : (a b c : ℕ) → a ≤ c → c ≤ a → b ≤ c → max a b ≡ c
most_is_left a b c low high right = omega arith

least_most : (count : ℕ) → 4 ≤ count → least_stored count ≤ count
least_most count some = grind arith

pub stored_most : (pages : List (Option Page)) → 4 ≤ length pages → stored pages ≤ length pages
stored_most pages some = most_within (least_stored (length pages)) (used_to pages) (length pages) (least_most (length pages) some) (used_most pages)

pub used_stored : (pages : List (Option Page)) → used_to pages ≤ stored pages
used_stored pages = most_right (least_stored (length pages)) (used_to pages)

-- those that are stored, and those behind them
pub stored_rest : (pages : List (Option Page)) → pages ≡ take (stored pages) pages ++ blanks (length pages - stored pages)
stored_rest pages = sym (take-append-drop (stored pages) pages) ∙ ap (λ t. take (stored pages) pages ++ t) (rest_blank (stored pages) pages (used_stored pages))

zeros_fit : (n : ℕ) → Fits64 (replicate n 0)
zeros_fit zero = tt
zeros_fit (suc n) = (omega arith, zeros_fit n)

pub none_fits : Fits64 (page_words None)
none_fits = zeros_fit 32

pub blanks_fit : (n : ℕ) → AllByRecursion (λ page. Fits64 (page_words page)) (blanks n)
blanks_fit zero = tt
blanks_fit (suc n) = (none_fits, blanks_fit n)

pub blanks_below : (most n : ℕ) → AllByRecursion (NamesBelow most) (blanks n)
blanks_below most zero = tt
blanks_below most (suc n) = (tt, blanks_below most n)

pub all_both : (P : Option Page → Type 0) (a b : List (Option Page)) → AllByRecursion P a → AllByRecursion P b → AllByRecursion P (a ++ b)
all_both P [] b h k = k
all_both P (page ∷ a) b h k = (h.0, all_both P a b h.1 k)

-- all pages fit where the stored ones do
pub all_fit : (pages : List (Option Page)) → AllByRecursion (λ page. Fits64 (page_words page)) (take (stored pages) pages) → AllByRecursion (λ page. Fits64 (page_words page)) pages
all_fit pages h = subst (AllByRecursion (λ page. Fits64 (page_words page))) (sym (stored_rest pages)) (all_both _ (take (stored pages) pages) (blanks (length pages - stored pages)) h (blanks_fit _))
