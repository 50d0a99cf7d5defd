-- Some of the pairs that two pages list together, by words.
use Rattle.std.proofs.Common.{◌≡◌, ℕ, zero, suc, ◌+◌, ◌*◌, ◌-◌, ◌<◌, ◌≤◌, List, [], ◌∷◌, ◌++◌, length, get_or, take, drop, refl, ap, ◌∙◌, arith}
use Rattle.std.specs.Prelude.{replicate}
use Rattle.std.proofs.lemmas.List.{get_or_append_left, get_or-append_right, length-take-le, length-drop}
use Rattle.bl_page.specs.declared.page.Page.{Page}
use Rattle.bl_page.specs.declared.page.Page.TheVariants.{Anchor, Leaf, Inner, Dead}
use Rattle.bl_page.specs.Words.{entries_of, words_of}
use Rattle.bl_page.specs.Nodes.{IsTreePage}
use Rattle.bl_rearrange.specs.Rearranged.{pairs_of}
use Rattle.bl_proc_routes.proofs.Shifts.{padded, length-entries}

-- an entry of a page, in its words
entry_in : (pairs : List (ℕ × ℕ)) (first low high right n k : ℕ) → get_or (first ∷ low ∷ high ∷ right ∷ entries_of pairs ++ replicate n 0) (4 + k) 0 ≡ get_or (entries_of pairs) k 0
entry_in pairs first low high right n k =
    let e : 4 + k ≡ suc (suc (suc (suc k))) = omega arith in
    ap (λ (j : ℕ). get_or (first ∷ low ∷ high ∷ right ∷ entries_of pairs ++ replicate n 0) j 0) e ∙ padded (entries_of pairs) n k

pub entry_at : (c : Page) (words : List ℕ) (k : ℕ) → IsTreePage c → words ≡ words_of c → get_or words (4 + k) 0 ≡ get_or (entries_of (pairs_of c)) k 0
entry_at (Anchor a) words k tree e = absurd tree
entry_at (Leaf l) words k tree e = ap (λ (w : List ℕ). get_or w (4 + k) 0) e ∙ entry_in l.rows.items _ l.low l.high l.right (28 - length (entries_of l.rows.items)) k
entry_at (Inner i) words k tree e = ap (λ (w : List ℕ). get_or w (4 + k) 0) e ∙ entry_in i.children.items _ i.low i.high i.right (28 - length (entries_of i.children.items)) k
entry_at (Dead d) words k tree e = absurd tree

entries-append : (xs ys : List (ℕ × ℕ)) → entries_of (xs ++ ys) ≡ entries_of xs ++ entries_of ys
entries-append [] ys = refl
entries-append (x ∷ xs) ys = ap (λ (t : List ℕ). x.0 ∷ x.1 ∷ t) (entries-append xs ys)

-- an entry of two lists of pairs
pub entry_below : (xs ys : List (ℕ × ℕ)) (k : ℕ) → k < 2 * length xs → get_or (entries_of (xs ++ ys)) k 0 ≡ get_or (entries_of xs) k 0
entry_below xs ys k lt = ap (λ (es : List ℕ). get_or es k 0) (entries-append xs ys) ∙ get_or_append_left (entries_of xs) (entries_of ys) 0 k (omega (arith, length-entries xs, lt))

pub entry_above : (xs ys : List (ℕ × ℕ)) (k : ℕ) → 2 * length xs ≤ k → get_or (entries_of (xs ++ ys)) k 0 ≡ get_or (entries_of ys) (k - 2 * length xs) 0
entry_above xs ys k ge = ap (λ (es : List ℕ). get_or es k 0) (entries-append xs ys) ∙ get_or-append_right (entries_of xs) (entries_of ys) (2 * length xs) k 0 (length-entries xs) ge

-- an entry of some of the pairs
taken : (count : ℕ) (pairs : List (ℕ × ℕ)) (k : ℕ) → k < 2 * count → get_or (entries_of (take count pairs)) k 0 ≡ get_or (entries_of pairs) k 0
taken zero pairs k lt = absurd (omega arith)
taken (suc n) [] k lt = refl
taken (suc n) (pair ∷ pairs) zero lt = refl
taken (suc n) (pair ∷ pairs) (suc zero) lt = refl
taken (suc n) (pair ∷ pairs) (suc (suc k)) lt = taken n pairs k (omega (arith, lt))

pub dropped : (from : ℕ) (pairs : List (ℕ × ℕ)) (k : ℕ) → get_or (entries_of (drop from pairs)) k 0 ≡ get_or (entries_of pairs) (2 * from + k) 0
dropped zero pairs k = let e : 2 * 0 + k ≡ k = omega arith in rw e refl
dropped (suc n) [] k = refl
dropped (suc n) (pair ∷ pairs) k = let e : 2 * suc n + k ≡ suc (suc (2 * n + k)) = omega arith in rw e (dropped n pairs k)

pub entry_within : (from count : ℕ) (pairs : List (ℕ × ℕ)) (k : ℕ) → k < 2 * count → get_or (entries_of (take count (drop from pairs))) k 0 ≡ get_or (entries_of pairs) (2 * from + k) 0
entry_within from count pairs k lt = taken count (drop from pairs) k lt ∙ dropped from pairs k

pub entries_long : (from count : ℕ) (pairs : List (ℕ × ℕ)) → from + count ≤ length pairs → length (entries_of (take count (drop from pairs))) ≡ 2 * count
entries_long from count pairs le =
    let some : length (take count (drop from pairs)) ≡ count = length-take-le count (drop from pairs) (omega (arith, length-drop from pairs, le)) in
    omega (arith, length-entries (take count (drop from pairs)), some)
