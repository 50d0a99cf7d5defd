-- Each page has one spelling, and no two pages share one.
use Rattle.std.proofs.Common.{◌≡◌, ℕ, ◌-◌, List, ◌++◌, length, get_or, take, drop, Result, Ok, Err, ap, sym, subst, ◌∙◌, arith}
use Rattle.std.specs.Prelude.{IfOk, IfErr, replicate}
use Rattle.std.proofs.lemmas.List.{take_at}
use Rattle.arrayvec.specs.ArrayVec.{ArrayVec}
use Rattle.bl_page.specs.declared.page.Page.{Page}
use Rattle.bl_page.specs.declared.page.Page.TheVariants as page
use Rattle.bl_page.specs.declared.page.Anchor.{Anchor}
use Rattle.bl_page.specs.declared.page.Leaf.{Leaf}
use Rattle.bl_page.specs.declared.page.Inner.{Inner}
use Rattle.bl_page.specs.declared.page.WordFault.{WordFault}
use Rattle.bl_page.specs.Words.{words_of, entries_of, IsBelow}
use Rattle.bl_page.specs.Faults.{IsOf, level_in, count_in, pairs_in, pairs_of, IsWordFault}
use Rattle.bl_page.proofs.Same.{anchor_same, leaf_same, inner_same, dead_same}
use Rattle.bl_page.proofs.FaultLemmas.{AllFit, kind_of, kind_same, no_fault, fits, fits_below, head-level, head-count, pairs_in-entries_of}

same_kind : (p q : Page) → words_of p ≡ words_of q → kind_of p ≡ kind_of q
same_kind p q e = kind_same (kind_of p) (kind_of q) (words_of q) (subst (IsOf (kind_of p)) e (fits p).is_of) (fits q).is_of

vec_same : {A : Type 0} (v w : ArrayVec A) → v.items ≡ w.items → v ≡ w
vec_same v w e = ap (λ xs. record { items = xs }) e

pub leftmost_again : (a : Anchor) → take (count_in (words_of (page.Anchor a))) (drop 4 (words_of (page.Anchor a))) ≡ a.leftmost.items
leftmost_again a = let count = head-count 1 0 (length a.leftmost.items) (omega arith) (omega (arith, a.few)) in
    take_at a.leftmost.items (replicate {A = ℕ} (28 - length a.leftmost.items) 0) _ (sym count)

pub rows_again : (l : Leaf) → pairs_of (words_of (page.Leaf l)) ≡ l.rows.items
rows_again l = let count = head-count 2 0 (length l.rows.items) (omega arith) (omega (arith, l.few)) in
    ap (λ n. pairs_in n (entries_of l.rows.items ++ replicate {A = ℕ} (28 - length (entries_of l.rows.items)) 0)) count ∙ pairs_in-entries_of l.rows.items _

pub children_again : (n : Inner) → pairs_of (words_of (page.Inner n)) ≡ n.children.items
children_again n = let count = head-count 3 n.level (length n.children.items) (omega (arith, n.below_limit)) (omega (arith, n.few)) in
    ap (λ k. pairs_in k (entries_of n.children.items ++ replicate {A = ℕ} (28 - length (entries_of n.children.items)) 0)) count ∙ pairs_in-entries_of n.children.items _

pub once : (p q : Page) → words_of p ≡ words_of q → p ≡ q
once (page.Anchor a) (page.Anchor b) e =
    ap page.Anchor (anchor_same a b (vec_same a.leftmost b.leftmost (sym (leftmost_again a) ∙ ap (λ w. take (count_in w) (drop 4 w)) e ∙ leftmost_again b)))
once (page.Leaf l) (page.Leaf m) e =
    ap page.Leaf (leaf_same l m (ap (λ w. get_or w 1 0) e) (ap (λ w. get_or w 2 0) e) (ap (λ w. get_or w 3 0) e) (vec_same l.rows m.rows (sym (rows_again l) ∙ ap pairs_of e ∙ rows_again m)))
once (page.Inner n) (page.Inner o) e =
    let level : n.level ≡ o.level = sym (head-level 3 n.level (length n.children.items) (omega (arith, n.below_limit)) (omega (arith, n.few))) ∙ ap level_in e
    ∙ head-level 3 o.level (length o.children.items) (omega (arith, o.below_limit)) (omega (arith, o.few)) in
    ap page.Inner (inner_same n o level (ap (λ w. get_or w 1 0) e) (ap (λ w. get_or w 2 0) e) (ap (λ w. get_or w 3 0) e) (vec_same n.children o.children (sym (children_again n) ∙ ap pairs_of e ∙ children_again o)))
once (page.Dead d) (page.Dead f) e =
    let level : d.level ≡ f.level = sym (head-level 4 d.level 0 (omega (arith, d.below_limit)) (omega arith)) ∙ ap level_in e ∙ head-level 4 f.level 0 (omega (arith, f.below_limit)) (omega arith) in
    ap page.Dead (dead_same d f level (ap (λ w. get_or w 1 0) e) (ap (λ w. get_or w 3 0) e))
once (page.Anchor a) (page.Leaf m) e = absurd (let k = same_kind (page.Anchor a) (page.Leaf m) e in cc k)
once (page.Anchor a) (page.Inner o) e = absurd (let k = same_kind (page.Anchor a) (page.Inner o) e in cc k)
once (page.Anchor a) (page.Dead f) e = absurd (let k = same_kind (page.Anchor a) (page.Dead f) e in cc k)
once (page.Leaf l) (page.Anchor b) e = absurd (let k = same_kind (page.Leaf l) (page.Anchor b) e in cc k)
once (page.Leaf l) (page.Inner o) e = absurd (let k = same_kind (page.Leaf l) (page.Inner o) e in cc k)
once (page.Leaf l) (page.Dead f) e = absurd (let k = same_kind (page.Leaf l) (page.Dead f) e in cc k)
once (page.Inner n) (page.Anchor b) e = absurd (let k = same_kind (page.Inner n) (page.Anchor b) e in cc k)
once (page.Inner n) (page.Leaf m) e = absurd (let k = same_kind (page.Inner n) (page.Leaf m) e in cc k)
once (page.Inner n) (page.Dead f) e = absurd (let k = same_kind (page.Inner n) (page.Dead f) e in cc k)
once (page.Dead d) (page.Anchor b) e = absurd (let k = same_kind (page.Dead d) (page.Anchor b) e in cc k)
once (page.Dead d) (page.Leaf m) e = absurd (let k = same_kind (page.Dead d) (page.Leaf m) e in cc k)
once (page.Dead d) (page.Inner o) e = absurd (let k = same_kind (page.Dead d) (page.Inner o) e in cc k)

pub only_page : (most : ℕ) (words : List ℕ) (r : Result Page WordFault) → IfOk r (λ p. words ≡ words_of p) → IfErr r (λ f. IsWordFault most f words)
    → (p : Page) → IsBelow most p → words ≡ words_of p → r ≡ Ok p
only_page most words (Ok read) ok err p small is = ap Ok (once read p (sym ok ∙ is))
only_page most words (Err f) ok err p small is = absurd (no_fault most (kind_of p) words (subst (AllFit most (kind_of p)) (sym is) (fits_below most p small)) f err)
