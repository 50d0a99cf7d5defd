-- What the words of a page say of it.
use Rattle.std.proofs.Common.{◌≡◌, ℕ, ◌+◌, ◌-◌, ◌^◌, ◌<◌, List, drop, take, length, get_or, ap, sym, subst, ◌∙◌, arith}
use Rattle.std.proofs.lemmas.List.{get_or-drop, get_or-take}
use Rattle.bl_model.specs.Rows.{map_of}
use Rattle.bl_page.specs.declared.page.Page.{Page}
use Rattle.bl_page.specs.declared.page.Page.TheVariants as page
use Rattle.bl_page.specs.Pairs.{end_of, NameChildren, IsChild}
use Rattle.bl_page.specs.Words.{words_of}
use Rattle.bl_page.specs.Faults.{kind_in, level_in, count_in, pairs_of, HasPairs}
use Rattle.bl_page.proofs.FaultLemmas.{fits, head-level, head-count}
use Rattle.bl_page.proofs.Once.{rows_again, children_again, leftmost_again}
use Rattle.bl_page.proofs.PagesIn.{AreChildren-at}
use Rattle.bl_page.specs.Nodes.{node_of, roots_of, IsTreePage}
use Rattle.bl_rearrange.specs.Rearranged.{pairs_of as pairs_in}
use Rattle.bl_page.specs.Tops.{top_of}

-- a key can be sought in the words of a leaf or an inner page, and what is found is what the page lists
pub tree_pairs : (c : Page) (words : List ℕ) → IsTreePage c → words ≡ words_of c → HasPairs words
tree_pairs (page.Anchor a) words tree e = absurd tree
tree_pairs (page.Leaf l) words tree e = let fit = fits (page.Leaf l) in subst HasPairs (sym e) record { few = fit.count; rises = fit.order; rest = fit.rest }
tree_pairs (page.Inner n) words tree e = let fit = fits (page.Inner n) in subst HasPairs (sym e) record { few = fit.count.1; rises = fit.order; rest = fit.rest }
tree_pairs (page.Dead d) words tree e = absurd tree

pub tree_lists : (c : Page) (words : List ℕ) → IsTreePage c → words ≡ words_of c → map_of (pairs_of words) ≡ (node_of c).look
tree_lists (page.Anchor a) words tree e = absurd tree
tree_lists (page.Leaf l) words tree e = ap (λ w. map_of (pairs_of w)) e ∙ ap map_of (rows_again l)
tree_lists (page.Inner n) words tree e = ap (λ w. map_of (pairs_of w)) e ∙ ap map_of (children_again n)
tree_lists (page.Dead d) words tree e = absurd tree

-- an inner page's pairs name pages
pub inner_names : (c : Page) (words : List ℕ) → IsTreePage c → words ≡ words_of c → 0 < level_in words → NameChildren (pairs_of words)
inner_names (page.Anchor a) words tree e some = absurd tree
inner_names (page.Leaf l) words tree e some = let none : level_in words ≡ 0 = ap level_in e ∙ (fits (page.Leaf l)).level in absurd (omega (arith, some, none))
inner_names (page.Inner n) words tree e some = subst (λ w. NameChildren (pairs_of w)) (sym e) (fits (page.Inner n)).cover.2
inner_names (page.Dead d) words tree e some = absurd tree

pub level_is : (c : Page) (words : List ℕ) → IsTreePage c → words ≡ words_of c → level_in words ≡ (node_of c).shape.level
level_is (page.Anchor a) words tree e = absurd tree
level_is (page.Leaf l) words tree e = ap level_in e ∙ (fits (page.Leaf l)).level
level_is (page.Inner n) words tree e = ap level_in e ∙ head-level 3 n.level (length n.children.items) (omega (arith, n.below_limit)) (omega (arith, n.few))
level_is (page.Dead d) words tree e = absurd tree

pub bounds_are : (c : Page) (words : List ℕ) → IsTreePage c → words ≡ words_of c → (get_or words 1 0 ≡ (node_of c).shape.low) × (end_of (get_or words 2 0) ≡ (node_of c).shape.end)
bounds_are (page.Anchor a) words tree e = absurd tree
bounds_are (page.Leaf l) words tree e = (ap (λ w. get_or w 1 0) e, ap (λ w. end_of (get_or w 2 0)) e)
bounds_are (page.Inner n) words tree e = (ap (λ w. get_or w 1 0) e, ap (λ w. end_of (get_or w 2 0)) e)
bounds_are (page.Dead d) words tree e = absurd tree

pub levels_are : (c : Page) (words : List ℕ) → words ≡ words_of c → kind_in words ≡ 1 → count_in words ≡ (roots_of c).levels
levels_are (page.Anchor a) words e one = ap count_in e ∙ head-count 1 0 (length a.leftmost.items) (omega arith) (omega (arith, a.few))
levels_are (page.Leaf l) words e one = absurd (let k : kind_in words ≡ 2 = ap kind_in e ∙ (fits (page.Leaf l)).is_of in omega (arith, k, one))
levels_are (page.Inner n) words e one = absurd (let k : kind_in words ≡ 3 = ap kind_in e ∙ (fits (page.Inner n)).is_of in omega (arith, k, one))
levels_are (page.Dead d) words e one = absurd (let k : kind_in words ≡ 4 = ap kind_in e ∙ (fits (page.Dead d)).is_of in omega (arith, k, one))

-- the last entry of an anchor is the leftmost page of its top level
pub top_is : (c : Page) (words : List ℕ) → words ≡ words_of c → kind_in words ≡ 1 → (get_or words (3 + count_in words) 0 ≡ top_of (roots_of c)) × (get_or words (3 + count_in words) 0 < 2 ^ 32)
top_is (page.Anchor a) words e one =
    let n = length a.leftmost.items in
    let fit = fits (page.Anchor a) in
    let count : count_in words ≡ n = ap count_in e ∙ head-count 1 0 n (omega arith) (omega (arith, a.few)) in
    let some : 0 < n = a.some in
    let all : take (count_in words) (drop 4 words) ≡ a.leftmost.items = ap (λ w. take (count_in w) (drop 4 w)) e ∙ leftmost_again a in
    let back : 4 + (n - 1) ≡ 3 + count_in words = omega (arith, count, some) in
    let at : get_or words (3 + count_in words) 0 ≡ get_or a.leftmost.items (n - 1) 0 =
    ap (λ i. get_or words i 0) (sym back) ∙ sym (get_or-drop 4 words (n - 1) 0) ∙ sym (get_or-take (count_in words) (drop 4 words) (n - 1) 0 (omega (arith, count, some))) ∙ ap (λ xs. get_or xs (n - 1) 0) all in
    let child : IsChild (get_or a.leftmost.items (n - 1) 0) = AreChildren-at a.leftmost.items (n - 1) a.pages (omega (arith, some)) in
    (at, omega (arith, at, child.1))
top_is (page.Leaf l) words e one = absurd (let k : kind_in words ≡ 2 = ap kind_in e ∙ (fits (page.Leaf l)).is_of in omega (arith, k, one))
top_is (page.Inner n) words e one = absurd (let k : kind_in words ≡ 3 = ap kind_in e ∙ (fits (page.Inner n)).is_of in omega (arith, k, one))
top_is (page.Dead d) words e one = absurd (let k : kind_in words ≡ 4 = ap kind_in e ∙ (fits (page.Dead d)).is_of in omega (arith, k, one))

-- only a leaf or an inner page is of neither of the other kinds
pub tree_by_kind : (c : Page) (words : List ℕ) → words ≡ words_of c → (kind_in words ≡ 1 → ⊥) → (kind_in words ≡ 4 → ⊥) → IsTreePage c
tree_by_kind (page.Anchor a) words e one four = absurd (one (ap kind_in e ∙ (fits (page.Anchor a)).is_of))
tree_by_kind (page.Leaf l) words e one four = tt
tree_by_kind (page.Inner n) words e one four = tt
tree_by_kind (page.Dead d) words e one four = absurd (four (ap kind_in e ∙ (fits (page.Dead d)).is_of))

-- how many pairs a leaf or an inner page has
pub pairs_counted : (c : Page) (words : List ℕ) → IsTreePage c → words ≡ words_of c → count_in words ≡ length (pairs_in c)
pairs_counted (page.Anchor a) words tree e = absurd tree
pairs_counted (page.Leaf l) words tree e = ap count_in e ∙ head-count 2 0 (length l.rows.items) (omega arith) (omega (arith, l.few))
pairs_counted (page.Inner n) words tree e = ap count_in e ∙ head-count 3 n.level (length n.children.items) (omega (arith, n.below_limit)) (omega (arith, n.few))
pairs_counted (page.Dead d) words tree e = absurd tree
