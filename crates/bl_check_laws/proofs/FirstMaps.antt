-- The leaves of a sound image list together what the map says with which work begins.
use Rattle.std.proofs.Common.{◌≡◌, ◌⊎◌, ◌≢◌, ℕ, zero, suc, ◌++◌, List, [], ◌∷◌, true, Option, Some, None, refl, sym, subst, ap, ◌∙◌, inl, inr, arith}
use Rattle.std.specs.Prelude.{is_some}
use Rattle.std.proofs.lemmas.Bool.{cases_eq, cases_lt}
use Rattle.bl_model.specs.Rows.{map_of}
use Rattle.bl_page.specs.declared.page.Leaf.{Leaf as LeafPage}
use Rattle.bl_page.specs.declared.page.Page.{Page}
use Rattle.bl_page.specs.declared.page.Page.TheVariants.{Anchor, Leaf, Inner, Dead}
use Rattle.bl_page.specs.Pages.{page_at}
use Rattle.bl_check.specs.Spans.{span_of}
use Rattle.bl_page.specs.Nodes.{Node, Roots, Covers, unbounded, node_of}
use Rattle.bl_tree.specs.Starts.{start_map}
use Rattle.bl_claims.specs.Opening.{node_in, roots_in}
use Rattle.bl_claims.specs.Seeing.{rows_in}
use Rattle.bl_tree.proofs.SoundPages.{sound_node}
use Rattle.bl_tree.proofs.SoundStarts.{if_lt, if_ge, map_says, start_live, sound_tree}
use Rattle.bl_tree.proofs.Statuses.{live_live}
use Rattle.bl_check_laws.specs.Begins.{live_in, MayBegin}
use Rattle.bl_check_laws.proofs.RowLemmas.{map_of-back}
use Rattle.bl_check_laws.proofs.RowsFound.{leaf_there}

-- the first of two lists has the key
map_of-first : (a b : List (ℕ × ℕ)) (k v : ℕ) → map_of a k ≡ Some v → map_of (a ++ b) k ≡ Some v
map_of-first [] b k v e = absurd (let f : None ≡ Some v = e in cc)
map_of-first (pair ∷ a) b k v e = elim (cases_eq pair.0 k) [
  | inl same ↦ grind (arith, e)
  | inr other ↦ (let r : map_of a k ≡ Some v = grind (arith, e) in let f = map_of-first a b k v r in grind (arith, f))
]

-- Of a key each of these lists says nothing, or this; then so do they together.
two_say : (k : ℕ) (says : Option ℕ) (a b : List (ℕ × ℕ)) → (map_of a k ≡ None) ⊎ (map_of a k ≡ says) → (map_of b k ≡ None) ⊎ (map_of b k ≡ says) → (map_of (a ++ b) k ≡ None) ⊎ (map_of (a ++ b) k ≡ says)
two_say k says a b h i = by_value (map_of a k) refl
  where
    by_value : (o : Option ℕ) → map_of a k ≡ o → (map_of (a ++ b) k ≡ None) ⊎ (map_of (a ++ b) k ≡ says)
    by_value None e = elim i [ inl n ↦ inl (map_of-back a b k e ∙ n) | inr s ↦ inr (map_of-back a b k e ∙ s) ]
    by_value (Some v) e = elim h [
      | inl n ↦ absurd (let f : Some v ≡ None = sym e ∙ n in cc)
      | inr s ↦ inr (map_of-first a b k v e ∙ (sym e ∙ s))
    ]

-- the rows of one page, if it is a leaf
abbrev leaf_rows : Option Page → List (ℕ × ℕ)
leaf_rows (Some (Leaf l)) = l.rows.items
leaf_rows page = []

rows_first : (page : Option Page) (pages : List (Option Page)) → rows_in (page ∷ pages) ≡ leaf_rows page ++ rows_in pages
rows_first None pages = refl
rows_first (Some (Anchor a)) pages = refl
rows_first (Some (Leaf l)) pages = refl
rows_first (Some (Inner i)) pages = refl
rows_first (Some (Dead d)) pages = refl

-- what each page says so
abbrev EachSays : ℕ → Option ℕ → List (Option Page) → Type 0
EachSays k says pages = (x : ℕ) → (map_of (leaf_rows (page_at pages x)) k ≡ None) ⊎ (map_of (leaf_rows (page_at pages x)) k ≡ says)

all_say : (k : ℕ) (says : Option ℕ) (pages : List (Option Page)) → EachSays k says pages → (map_of (rows_in pages) k ≡ None) ⊎ (map_of (rows_in pages) k ≡ says)
all_say k says [] h = inl refl
all_say k says (page ∷ pages) h = subst (λ (z : List (ℕ × ℕ)). (map_of z k ≡ None) ⊎ (map_of z k ≡ says)) (sym (rows_first page pages)) (two_say k says (leaf_rows page) (rows_in pages) (h 0) (all_say k says pages (λ x. h (suc x))))

-- what one page lists is among all rows
some_say : (k v x : ℕ) (pages : List (Option Page)) → map_of (leaf_rows (page_at pages x)) k ≡ Some v → map_of (rows_in pages) k ≢ None
some_say k v x [] e none = (let f : None ≡ Some v = e in cc)
some_say k v zero (page ∷ pages) e none = (let f : Some v ≡ None = sym (map_of-first (leaf_rows page) (rows_in pages) k v e) ∙ (ap (λ (z : List (ℕ × ℕ)). map_of z k) (sym (rows_first page pages)) ∙ none) in cc)
some_say k v (suc x) (page ∷ pages) e none = by_value (ap (λ (z : List (ℕ × ℕ)). map_of z k) (sym (rows_first page pages)) ∙ none) (some_say k v x pages e) (map_of (leaf_rows page) k) refl
  where
    by_value : map_of (leaf_rows page ++ rows_in pages) k ≡ None → map_of (rows_in pages) k ≢ None → (o : Option ℕ) → map_of (leaf_rows page) k ≡ o → ⊥
    by_value all rest None n = rest (sym (map_of-back (leaf_rows page) (rows_in pages) k n) ∙ all)
    by_value all rest (Some u) n = (let f : Some u ≡ None = sym (map_of-first (leaf_rows page) (rows_in pages) k u n) ∙ all in cc)

module _ (pages : List (Option Page)) (g : MayBegin pages) where
  abbrev node : ℕ → Node
  node x = node_in (page_at pages x)

  abbrev roots : Roots
  roots = roots_in (page_at pages 0)

  abbrev says : ℕ → Option ℕ
  says k = start_map node roots 0 k

  leaf_says : (x k : ℕ) (l : LeafPage) → page_at pages x ≡ Some (Leaf l) → (map_of l.rows.items k ≡ None) ⊎ (map_of l.rows.items k ≡ says k)
  leaf_says x k l at = by_value (map_of l.rows.items k) refl
    where
      by_value : (o : Option ℕ) → map_of l.rows.items k ≡ o → (map_of l.rows.items k ≡ None) ⊎ (map_of l.rows.items k ≡ says k)
      by_value None e = inl e
      by_value (Some v) e =
          let is : node x ≡ node_of (Leaf l) = ap node_in at in
          let alive : live_in pages x ≡ true = ap (λ (page : Option Page). is_some (span_of page)) at in
          let covers : Covers (node x).shape k = subst (λ (n : Node). Covers n.shape k) (sym is) ((sound_node (Leaf l) tt).covered k v e) in
          let agree = (sound_tree (live_in pages) node roots g).agree x k (rw (start_live (live_in pages) x g.anchor alive) live_live) covers in
          inr (ap (λ (n : Node). n.look k) (sym is) ∙ (agree ∙ ap (λ (n : Node). start_map node roots n.shape.level k) is))

  page_says : (x k : ℕ) (page : Option Page) → page_at pages x ≡ page → (map_of (leaf_rows page) k ≡ None) ⊎ (map_of (leaf_rows page) k ≡ says k)
  page_says x k None at = inl refl
  page_says x k (Some (Anchor a)) at = inl refl
  page_says x k (Some (Leaf l)) at = leaf_says x k l at
  page_says x k (Some (Inner i)) at = inl refl
  page_says x k (Some (Dead d)) at = inl refl

  -- where the map has a value, a leaf lists it
  listed : (k v : ℕ) → says k ≡ Some v → map_of (rows_in pages) k ≢ None
  listed k v e none = elim (cases_lt k unbounded) [
    | inl small ↦
        let m = map_says (live_in pages) node roots g 0 k g.some_level small in
        let leaf = leaf_there (page_at pages m.0) m.1 m.2 in
        let rows : map_of (leaf_rows (page_at pages m.0)) k ≡ Some v = ap (λ page. map_of (leaf_rows page) k) leaf.1 ∙ (ap (λ page. (node_in page).look k) (sym leaf.1) ∙ (sym m.4 ∙ e)) in
        some_say k v m.0 pages rows none
    | inr large ↦ absurd (let f : says k ≡ None = if_lt 0 roots.levels _ None g.some_level ∙ if_ge k unbounded _ None large in let z : None ≡ Some v = sym f ∙ e in cc)
  ]

  pub leaves_say : (k : ℕ) → map_of (rows_in pages) k ≡ says k
  leaves_say k = elim (all_say k (says k) pages (λ x. page_says x k (page_at pages x) refl)) [ inl none ↦ by_value (says k) refl none | inr is ↦ is ]
    where
      by_value : (o : Option ℕ) → says k ≡ o → map_of (rows_in pages) k ≡ None → map_of (rows_in pages) k ≡ says k
      by_value None e none = none ∙ sym e
      by_value (Some v) e none = absurd (listed k v e none)
