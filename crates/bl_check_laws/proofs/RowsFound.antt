-- The rows of an image and the leaves of its tree: what the leaves say is the map of the rows.
use Rattle.std.proofs.Common.{◌≡◌, ◌≢◌, ℕ, zero, suc, ◌+◌, ◌<◌, ◌≤◌, List, [], ◌∷◌, ◌++◌, true, Option, Some, None, refl, sym, subst, ap, ◌∙◌, inl, inr, arith}
use Rattle.std.specs.Prelude.{IsTrue, is_some, nat_lt, if◌then◌else◌}
use Rattle.std.proofs.lemmas.Bool.{cases_lt, false≢true}
use Rattle.bl_model.specs.Rows.{map_of}
use Rattle.bl_page.specs.declared.page.Leaf.{Leaf as LeafPage}
use Rattle.bl_page.specs.declared.page.Page.{Page}
use Rattle.bl_page.specs.declared.page.Page.TheVariants.{Leaf, Inner}
use Rattle.bl_page.specs.Pairs.{end_of, RisesFrom, AllWithin}
use Rattle.bl_page.specs.Nodes.{Node, Roots, unbounded, node_of}
use Rattle.bl_claims.specs.Snapshots.{Snapshot}
use Rattle.bl_claims.specs.Laws.{IsChain}
use Rattle.bl_tree.specs.Starts.{AreSound, found, start_map}
use Rattle.bl_tree.proofs.LawsHold.{snapshot, KnowsMiddles, has_chain}
use Rattle.bl_tree.proofs.SoundStarts.{if_lt, if_ge, start_tree, alive, none_paired, sound_tree}
use Rattle.bl_check.specs.Rows.{RowsFrom}
use Rattle.bl_check.specs.Rows.RowsFrom.{Last, Next}
use Rattle.bl_page.specs.Pages.{page_at}
use Rattle.bl_check.specs.Spans.{span_of}
use Rattle.bl_claims.specs.Opening.{node_in}
use Rattle.bl_check_laws.specs.Begins.{live_in}
use Rattle.bl_check_laws.proofs.RowLemmas.{map_of-front, map_of-back, none_outside, AllWithin-wider, AllWithin-append, RisesFrom-low, RisesFrom-append}

-- pages have one list of rows from a page on

same_leaf : (pages : List (Option Page)) (x : ℕ) (l m : LeafPage) → page_at pages x ≡ Some (Leaf l) → page_at pages x ≡ Some (Leaf m) → l ≡ m
same_leaf pages x l m a b = let e : Some (Leaf l) ≡ Some (Leaf m) = sym a ∙ b in cc

pub rows_same : (pages : List (Option Page)) (x : ℕ) (a b : List (ℕ × ℕ)) → RowsFrom pages x a → RowsFrom pages x b → a ≡ b
rows_same pages x a b (Last l at end) (Last m at' end') = ap (λ leaf. leaf.rows.items) (same_leaf pages x l m at at')
rows_same pages x a b (Last l at end) (Next m at' some r) = absurd (some (sym (ap (λ leaf. leaf.right) (same_leaf pages x l m at at')) ∙ end))
rows_same pages x a b (Next l at some r) (Last m at' end) = absurd (some (ap (λ leaf. leaf.right) (same_leaf pages x l m at at') ∙ end))
rows_same pages x a b (Next {rest = rest} l at some r) (Next {rest = rest'} m at' some' r') =
    let e = same_leaf pages x l m at at' in
    let f = rows_same pages m.right rest rest' (subst (λ leaf. RowsFrom pages leaf.right rest) e r) r' in
    ap (λ leaf. leaf.rows.items ++ rest) e ∙ ap (λ more. m.rows.items ++ more) f

-- a live page of level 0 is a leaf
pub leaf_there : (page : Option Page) → is_some (span_of page) ≡ true → (node_in page).shape.level ≡ 0 → (leaf : LeafPage) × (page ≡ Some (Leaf leaf))
leaf_there (Some (Leaf l)) alive level = (l, refl)
leaf_there (Some (Inner i)) alive level = absurd (omega (arith, i.above_leaves))
leaf_there old alive level = absurd (false≢true alive)

first_alive : (t : Snapshot) (level x : ℕ) (rest : List ℕ) → IsChain t level x rest → t.live x
first_alive t level x [] c = c.0
first_alive t level x (y ∷ rest) c = c.0

module _ (pages : List (Option Page)) (node : ℕ → Node) (roots : Roots) (same : (x : ℕ) → IsTrue (live_in pages x) → node x ≡ node_in (page_at pages x)) (g : AreSound (live_in pages) node roots) where
  -- what is known of a leaf
  leaf_live : (x : ℕ) (l : LeafPage) → page_at pages x ≡ Some (Leaf l) → IsTrue (live_in pages x)
  leaf_live x l at = ap (λ page. is_some (span_of page)) at

  leaf_node : (x : ℕ) (l : LeafPage) → page_at pages x ≡ Some (Leaf l) → node x ≡ node_of (Leaf l)
  leaf_node x l at = same x (leaf_live x l at) ∙ ap node_in at

  leaf_end : (x : ℕ) (l : LeafPage) → page_at pages x ≡ Some (Leaf l) → end_of l.high ≤ unbounded
  leaf_end x l at = subst (λ n. n.shape.end ≤ unbounded) (leaf_node x l at) (g.within x (leaf_live x l at))

  last_end : (x : ℕ) (l : LeafPage) → page_at pages x ≡ Some (Leaf l) → l.right ≡ 0 → end_of l.high ≡ unbounded
  last_end x l at end = elim (cases_lt (end_of l.high) unbounded) [
    | inl lt ↦
        let n = leaf_node x l at in
        let next = (g.linked x (leaf_live x l at) (subst (λ n. n.shape.end < unbounded) (sym n) lt)).0 in
        absurd (false≢true (sym g.anchor ∙ subst (λ z. live_in pages z ≡ true) (ap (λ n. n.shape.right) n ∙ end) next))
    | inr ge ↦ (let le = leaf_end x l at in omega arith)
  ]

  next_end : (x : ℕ) (l : LeafPage) → page_at pages x ≡ Some (Leaf l) → l.right ≢ 0 → end_of l.high < unbounded
  next_end x l at some = elim (cases_lt (end_of l.high) unbounded) [
    | inl lt ↦ lt
    | inr ge ↦ absurd (let le = leaf_end x l at in let n = leaf_node x l at in
        some (ap (λ n. n.shape.right) (sym n) ∙ g.last x (leaf_live x l at) (ap (λ n. n.shape.end) n ∙ (let e : end_of l.high ≡ unbounded = omega arith in e))))
  ]

  next_low : (x : ℕ) (l : LeafPage) → page_at pages x ≡ Some (Leaf l) → l.right ≢ 0 → (node l.right).shape.low ≡ end_of l.high
  next_low x l at some =
      let n = leaf_node x l at in
      let h = g.linked x (leaf_live x l at) (subst (λ n. n.shape.end < unbounded) (sym n) (next_end x l at some)) in
      subst (λ z. (node z).shape.low ≡ end_of l.high) (ap (λ n. n.shape.right) n) (h.2 ∙ ap (λ n. n.shape.end) n)

  -- each page that rows are counted from is live
  from_live : (x : ℕ) (rows : List (ℕ × ℕ)) → RowsFrom pages x rows → IsTrue (live_in pages x)
  from_live x rows (Last l at end) = leaf_live x l at
  from_live x rows (Next {rest = rest} l at some r) = leaf_live x l at

  -- the keys of the rows rise from the low of the first page on, and are keys
  pub rows_bound : (x : ℕ) (rows : List (ℕ × ℕ)) → RowsFrom pages x rows → RisesFrom (node x).shape.low rows × AllWithin (node x).shape.low 0 rows
  rows_bound x rows (Last l at end) =
      let n = leaf_node x l at in let last = last_end x l at end in
      subst (λ low. RisesFrom low l.rows.items × AllWithin low 0 l.rows.items) (ap (λ n. n.shape.low) (sym n))
      (RisesFrom-low l.low l.high l.rows.items l.order l.cover, AllWithin-wider l.low l.high l.low 0 l.rows.items (omega arith) (omega arith) l.cover)
  rows_bound x rows (Next {rest = rest} l at some r) =
      let n = leaf_node x l at in
      let le = leaf_end x l at in
      let wide : l.low < end_of l.high = l.bounds in
      let more = subst (λ low. RisesFrom low rest × AllWithin low 0 rest) (next_low x l at some) (rows_bound l.right rest r) in
      subst (λ low. RisesFrom low (l.rows.items ++ rest) × AllWithin low 0 (l.rows.items ++ rest)) (ap (λ n. n.shape.low) (sym n)) (
        RisesFrom-append l.low l.low l.high l.rows.items rest (omega arith) (RisesFrom-low l.low l.high l.rows.items l.order l.cover) l.cover more.0,
        AllWithin-append l.low 0 l.rows.items rest (AllWithin-wider l.low l.high l.low 0 l.rows.items (omega arith) (omega arith) l.cover) (AllWithin-wider (end_of l.high) 0 l.low 0 rest (omega arith) (omega arith) more.1),
      )

  found_here : (n x k : ℕ) → k < (node x).shape.end → found node n x k ≡ x
  found_here zero x k lt = refl
  found_here (suc n) x k lt = if_lt k (node x).shape.end x (found node n (node x).shape.right k) lt

  -- a leaf that covers the key
  says_here : (n x k : ℕ) (l : LeafPage) → page_at pages x ≡ Some (Leaf l) → k < end_of l.high → (node (found node n x k)).look k ≡ map_of l.rows.items k
  says_here n x k l at lt =
      let e = leaf_node x l at in
      subst (λ z. (node z).look k ≡ map_of l.rows.items k) (sym (found_here n x k (subst (λ n. k < n.shape.end) (sym e) lt))) (ap (λ n. n.look k) e)

  pub rows_found : (n x k : ℕ) (rows : List (ℕ × ℕ)) → RowsFrom pages x rows → k < unbounded → (node x).shape.low ≤ k → k < (node x).shape.end + n → (node (found node n x k)).look k ≡ map_of rows k
  rows_found n x k rows (Last l at end) small low far = says_here n x k l at (let e = last_end x l at end in omega arith)
  rows_found n x k rows (Next {rest = rest} l at some r) small low far = elim (cases_lt k (end_of l.high)) [
    | inl lt ↦
        let more = subst (λ low. AllWithin low 0 rest) (next_low x l at some) (rows_bound l.right rest r).1 in
        let above : map_of rest k ≡ None = none_outside (end_of l.high) 0 k rest more (λ in_it. absurd (omega (arith, lt, in_it.0))) in
        says_here n x k l at lt ∙ sym (map_of-front l.rows.items rest k above)
    | inr ge ↦
        let e = leaf_node x l at in
        let below : map_of l.rows.items k ≡ None = none_outside l.low l.high k l.rows.items l.cover (λ in_it. absurd (omega (arith, ge, in_it.1))) in
        further n (λ m low far. rows_found m l.right k rest r small low far) (subst (λ s. k < s.shape.end + n) e far) ge ∙ sym (map_of-back l.rows.items rest k below)
  ]
    where
      further : (n : ℕ) → ((m : ℕ) → (node l.right).shape.low ≤ k → k < (node l.right).shape.end + m → (node (found node m l.right k)).look k ≡ map_of rest k) → k < end_of l.high + n → end_of l.high ≤ k → (node (found node n x k)).look k ≡ map_of rest k
      further zero on_right far ge = absurd (omega arith)
      further (suc n) on_right far ge =
          let e = leaf_node x l at in
          let next_is = next_low x l at some in
          let wide = g.wide l.right (from_live l.right rest r) in
          let on : found node (suc n) x k ≡ found node n l.right k = if_ge k (node x).shape.end x (found node n (node x).shape.right k) (subst (λ n. n.shape.end ≤ k) (sym e) ge) ∙ ap (λ s. found node n s.shape.right k) e in
          subst (λ z. (node z).look k ≡ map_of rest k) (sym on) (on_right n (omega arith) (omega arith))

  -- the map with which work begins
  pub rows_map : (rows : List (ℕ × ℕ)) (k : ℕ) → RowsFrom pages (roots.leftmost 0) rows → start_map node roots 0 k ≡ map_of rows k
  rows_map rows k r =
      let o = g.leftmost 0 g.some_level in
      let here = if_lt 0 roots.levels (if nat_lt k unbounded then (node (found node (suc k) (roots.leftmost 0) k)).look k else None) None g.some_level in
      elim (cases_lt k unbounded) [
        | inl lt ↦ here ∙ if_lt k unbounded _ None lt ∙ rows_found (suc k) (roots.leftmost 0) k rows r lt (omega (arith, o.2)) (omega arith)
        | inr ge ↦ here ∙ if_ge k unbounded _ None ge ∙ sym (none_outside (node (roots.leftmost 0)).shape.low 0 k rows (rows_bound (roots.leftmost 0) rows r).1 (λ in_it. absurd (omega (arith, ge, in_it.1))))
      ]

  abbrev at_start : Snapshot
  at_start = snapshot (start_tree (live_in pages) node roots) (λ x y. ⊥) (λ y. ⊥)

  -- there are rows: the chain of level 0 ends
  chain_rows : (x : ℕ) (rest : List ℕ) → IsChain at_start 0 x rest → (rows : List (ℕ × ℕ)) × RowsFrom pages x rows
  chain_rows x [] c =
      let a = alive (live_in pages) x c.0 in
      let leaf = leaf_there (page_at pages x) a (ap (λ n. n.shape.level) (sym (same x a)) ∙ c.1) in
      (leaf.0.rows.items, Last leaf.0 leaf.1 (ap (λ n. n.shape.right) (sym (leaf_node x leaf.0 leaf.1)) ∙ c.3))
  chain_rows x (y ∷ rest) c =
      let a = alive (live_in pages) x c.0 in
      let leaf = leaf_there (page_at pages x) a (ap (λ n. n.shape.level) (sym (same x a)) ∙ c.1) in
      let b = alive (live_in pages) y (first_alive at_start 0 y rest c.3) in
      let right : leaf.0.right ≡ y = ap (λ n. n.shape.right) (sym (leaf_node x leaf.0 leaf.1)) ∙ c.2.right in
      let more = chain_rows y rest c.3 in (
        leaf.0.rows.items ++ more.0,
        Next {rest = more.0} leaf.0 leaf.1 (λ e. absurd (false≢true (sym g.anchor ∙ subst (λ z. live_in pages z ≡ true) (sym right ∙ e) b)))
            (subst (λ z. RowsFrom pages z more.0) (sym right) more.1),
      )

  pub some_rows : (rows : List (ℕ × ℕ)) × RowsFrom pages (roots.leftmost 0) rows
  some_rows =
      let knows : KnowsMiddles (start_tree (live_in pages) node roots) (λ x y. ⊥) (λ y. ⊥) = record {
        middle = λ x y h. absurd ((none_paired (live_in pages) y x).1 h);
        evened = λ x y h. absurd ((none_paired (live_in pages) y x).1 h);
      } in
      let c = has_chain 0 knows (sound_tree (live_in pages) node roots g) g.some_level in
      chain_rows (roots.leftmost 0) c.rest c.chain
