-- The words of pages that are merged or evened out.
use Rattle.std.proofs.Common.{◌≡◌, ℕ, ◌+◌, List, length, get_or, sym, ap, arith}
use Rattle.bl_page.specs.declared.page.Page.{Page}
use Rattle.bl_page.specs.declared.page.Page.TheVariants.{Anchor, Leaf, Inner, Dead}
use Rattle.bl_page.specs.Words.{head, layout, entries_of, words_of}
use Rattle.bl_page.specs.Nodes.{IsTreePage}
use Rattle.bl_rearrange.specs.Rearranged.{pairs_of, low_of, high_of, right_of, IsNow}
use Rattle.bl_rearrange.specs.Neighbours.{AreNeighbours}

-- neighbours are leaves or inner pages
pub neighbours_tree : (c d : Page) → AreNeighbours c d → IsTreePage c × IsTreePage d
neighbours_tree (Leaf l) (Leaf r) n = (tt, tt)
neighbours_tree (Inner l) (Inner r) n = (tt, tt)
neighbours_tree (Leaf l) (Anchor r) n = absurd n
neighbours_tree (Leaf l) (Inner r) n = absurd n
neighbours_tree (Leaf l) (Dead r) n = absurd n
neighbours_tree (Inner l) (Anchor r) n = absurd n
neighbours_tree (Inner l) (Leaf r) n = absurd n
neighbours_tree (Inner l) (Dead r) n = absurd n
neighbours_tree (Anchor l) d n = absurd n
neighbours_tree (Dead l) d n = absurd n

-- the bounds and the link of a page, and how many pairs it has, in its words
pub record Reads (c : Page) (words : List ℕ) : Type 0 where
  pub low : get_or words 1 0 ≡ low_of c
  pub high : get_or words 2 0 ≡ high_of c
  pub right : get_or words 3 0 ≡ right_of c

pub reads : (c : Page) (words : List ℕ) → words ≡ words_of c → Reads c words
reads (Anchor a) words e = record { low = ap (λ (w : List ℕ). get_or w 1 0) e; high = ap (λ (w : List ℕ). get_or w 2 0) e; right = ap (λ (w : List ℕ). get_or w 3 0) e }
reads (Leaf l) words e = record { low = ap (λ (w : List ℕ). get_or w 1 0) e; high = ap (λ (w : List ℕ). get_or w 2 0) e; right = ap (λ (w : List ℕ). get_or w 3 0) e }
reads (Inner i) words e = record { low = ap (λ (w : List ℕ). get_or w 1 0) e; high = ap (λ (w : List ℕ). get_or w 2 0) e; right = ap (λ (w : List ℕ). get_or w 3 0) e }
reads (Dead d) words e = record { low = ap (λ (w : List ℕ). get_or w 1 0) e; high = ap (λ (w : List ℕ). get_or w 2 0) e; right = ap (λ (w : List ℕ). get_or w 3 0) e }

-- A page of the kind of the page with these words, with other bounds, link and pairs, is spelled by these.
pub spelled_now : (low high right first : ℕ) (c p : Page) (words : List ℕ) (pairs : List (ℕ × ℕ)) → words ≡ words_of c → IsNow low high right c p → pairs_of p ≡ pairs → first + length (pairs_of c) ≡ get_or words 0 0 + length pairs → layout first low high right (entries_of pairs) ≡ words_of p
spelled_now low high right first (Leaf c) (Leaf p) words pairs e now is sum =
    let word : get_or words 0 0 ≡ head 2 0 (length c.rows.items) = ap (λ (w : List ℕ). get_or w 0 0) e in
    let count : length p.rows.items ≡ length pairs = ap length is in
    let same : head 2 0 (length p.rows.items) ≡ first = omega (arith, word, sum, count) in
    sym (λ i. layout (same i) (now.0 i) (now.1 i) (now.2 i) (entries_of (is i)))
spelled_now low high right first (Inner c) (Inner p) words pairs e now is sum =
    let word : get_or words 0 0 ≡ head 3 c.level (length c.children.items) = ap (λ (w : List ℕ). get_or w 0 0) e in
    let count : length p.children.items ≡ length pairs = ap length is in
    let level = now.0 in
    let same : head 3 p.level (length p.children.items) ≡ first = omega (arith, word, sum, count, level) in
    sym (λ i. layout (same i) (now.1 i) (now.2 i) (now.3 i) (entries_of (is i)))
spelled_now low high right first (Leaf c) (Anchor p) words pairs e now is sum = absurd now
spelled_now low high right first (Leaf c) (Inner p) words pairs e now is sum = absurd now
spelled_now low high right first (Leaf c) (Dead p) words pairs e now is sum = absurd now
spelled_now low high right first (Inner c) (Anchor p) words pairs e now is sum = absurd now
spelled_now low high right first (Inner c) (Leaf p) words pairs e now is sum = absurd now
spelled_now low high right first (Inner c) (Dead p) words pairs e now is sum = absurd now
spelled_now low high right first (Anchor c) p words pairs e now is sum = absurd now
spelled_now low high right first (Dead c) p words pairs e now is sum = absurd now
