-- A lone walk, page by page.
use Rattle.std.proofs.Common.{ℕ, ◌≡◌, ◌⊎◌, ◌+◌, ◌<◌, ◌≤◌, suc, List, [], ◌∷◌, length, get_or, arith, sym, ap, ◌∙◌, refl, subst, inl, inr}
use Rattle.std.specs.Coded.{le_prop}
use Rattle.std.proofs.Math.Logic.{∥∥₁_elim}
use mathlib.Core.Logic.{∥∥₁_map}
use Rattle.bl_page.specs.declared.page.Page.{Page}
use Rattle.bl_page.specs.Nodes.{unbounded, node_of, roots_of, IsTreePage}
use Rattle.bl_claims.specs.Walks.{IsWalk, Each, HasLoneWalk}
use Rattle.bl_claims.specs.Walks.IsWalk.{Ends, Right, Down}
use Rattle.bl_tree.proofs.WalksEnd.{walk_is_short}
use Rattle.bl_claims.specs.Moments.{IsLivePage, snapshot_of}
use Rattle.bl_tree_worlds.proofs.WorldLaws.{live_status}
use Rattle.bl_tree.specs.Trees.{is_live}
use Rattle.bl_tree.proofs.Statuses.{free_dead}
use Rattle.std.proofs.lemmas.Bool.{false≢true}
use Rattle.bl_proc_routes.specs.declared.routes.Step.{Step}
use Rattle.bl_proc_routes.specs.declared.routes.Step.TheVariants as onward
use Rattle.bl_proc_routes.specs.Routes.{Leads}
use Rattle.bl_page.specs.Tops.{top_of}
use Rattle.bl_proc_deterministic.proofs.Onwards.{leads_one}
use Rattle.bl_proc_invariant.specs.Knowing.{know}
use Rattle.bl_proc_invariant.proofs.Starting.{run_laws}
use Rattle.bl_world.specs.Views.{View}
use Rattle.bl_world.specs.Worlds.{HasWorld, IsWorld}
use Rattle.bl_world.specs.Lone.{HasWalk}
use Rattle.bl_world.proofs.Arms.{read_at}

-- a walk begins with its first page
walk_begins : (contents : ℕ → Page) (k x leaf : ℕ) (pages : List ℕ) → IsWalk (λ y. node_of (contents y)) k x pages leaf → (rest : List ℕ) × (pages ≡ x ∷ rest)
walk_begins contents k x leaf pages (Ends level covers) = ([], refl)
walk_begins contents k x leaf pages (Right {pages = rest} beyond walk) = (rest, refl)
walk_begins contents k x leaf pages (Down {pages = rest} above covers of walk) = (rest, refl)

module _ (contents : ℕ → Page) (k : ℕ) where
  one_place : (x : ℕ) (o o' : Step) → Leads (contents x) k 0 o → Leads (contents x) k 0 o' → o ≡ o'
  one_place x o o' h i = leads_one (contents x) k 0 o o' h i

  walk_here : (x leaf : ℕ) (pages : List ℕ) → IsTreePage (contents x) → IsWalk (λ y. node_of (contents y)) k x pages leaf → Leads (contents x) k 0 onward.Here → (leaf ≡ x) × (length pages ≡ 1)
  walk_here x leaf pages kind (Ends level covers) h = (refl, refl)
  walk_here x leaf pages kind (Right beyond walk) h = absurd (let e = one_place x onward.Here (onward.Right (node_of (contents x)).shape.right) h (refl, inr (kind, beyond)) in cc)
  walk_here x leaf pages kind (Down {c = c} above covers of walk) h = absurd (let e = one_place x onward.Here (onward.Down c) h (kind, covers, above, of) in cc)

  walk_on : (x leaf y : ℕ) (pages : List ℕ) → IsTreePage (contents x) → IsWalk (λ y. node_of (contents y)) k x pages leaf → Leads (contents x) k 0 (onward.Right y) ⊎ Leads (contents x) k 0 (onward.Down y) → (rest : List ℕ) × (pages ≡ x ∷ rest) × IsWalk (λ y. node_of (contents y)) k y rest leaf
  walk_on x leaf y pages kind (Ends level covers) h = absurd (elim h [
    | inl i ↦ (let e = one_place x (onward.Right y) onward.Here i (kind, covers, level) in cc)
    | inr i ↦ (let e = one_place x (onward.Down y) onward.Here i (kind, covers, level) in cc)
  ])
  walk_on x leaf y pages kind (Right {leaf = end} {pages = rest} beyond walk) h = elim h [
    | inl i ↦ (let e = one_place x (onward.Right (node_of (contents x)).shape.right) (onward.Right y) (refl, inr (kind, beyond)) i in let f : (node_of (contents x)).shape.right ≡ y = cc in (rest, refl, subst (λ v. IsWalk (λ y. node_of (contents y)) k v rest end) f walk))
    | inr i ↦ absurd (let e = one_place x (onward.Right (node_of (contents x)).shape.right) (onward.Down y) (refl, inr (kind, beyond)) i in cc)
  ]
  walk_on x leaf y pages kind (Down {c = c} {leaf = end} {pages = rest} above covers of walk) h = elim h [
    | inl i ↦ absurd (let e = one_place x (onward.Down c) (onward.Right y) (kind, covers, above, of) i in cc)
    | inr i ↦ (let e = one_place x (onward.Down c) (onward.Down y) (kind, covers, above, of) i in let f : c ≡ y = cc in (rest, refl, subst (λ v. IsWalk (λ y. node_of (contents y)) k v rest end) f walk))
  ]

  walk_never : (x leaf : ℕ) (pages : List ℕ) → IsTreePage (contents x) → IsWalk (λ y. node_of (contents y)) k x pages leaf → Leads (contents x) k 0 onward.Again → ⊥
  walk_never x leaf pages kind (Ends level covers) h = absurd (let e = one_place x onward.Again onward.Here h (kind, covers, level) in cc)
  walk_never x leaf pages kind (Right beyond walk) h = absurd (let e = one_place x onward.Again (onward.Right (node_of (contents x)).shape.right) h (refl, inr (kind, beyond)) in cc)
  walk_never x leaf pages kind (Down {c = c} above covers of walk) h = absurd (let e = one_place x onward.Again (onward.Down c) h (kind, covers, above, of) in cc)

-- so far the walk has come to this page, by so many gets; and it goes on by these pages
pub record Comes (v : View) (key page gets : ℕ) : Type 0 where
  pub has : HasWorld v.pages v.owners v.processes v.events
  pub walk : HasLoneWalk (snapshot_of has.world.now has.world.trail) key
  pub pages : List ℕ
  pub on : IsWalk (λ x. node_of (has.world.now.contents x)) key page pages walk.leaf
  pub lives : Each (IsLivePage has.world.now has.world.trail) pages
  pub left : gets + length pages ≡ suc (length walk.pages)

module _ (v : View) (key : ℕ) where
  -- a live page is one of the world's
  live_small : (h : HasWorld v.pages v.owners v.processes v.events) (x : ℕ) → IsLivePage h.world.now h.world.trail x → x < length v.pages
  live_small h x l = subst (λ n. x < n) h.size (h.good.owned.small x (λ e. false≢true (sym free_dead ∙ (ap is_live (sym e) ∙ live_status know h.world x h.good l))))

  first_live : (h : HasWorld v.pages v.owners v.processes v.events) (page leaf : ℕ) (pages : List ℕ) → IsWalk (λ x. node_of (h.world.now.contents x)) key page pages leaf → Each (IsLivePage h.world.now h.world.trail) pages → IsLivePage h.world.now h.world.trail page
  first_live h page leaf pages walk lives = (let b = walk_begins h.world.now.contents key page leaf pages walk in (subst (Each (IsLivePage h.world.now h.world.trail)) b.1 lives).0)

  page_live : (page gets : ℕ) (c : Comes v key page gets) → IsLivePage c.has.world.now c.has.world.trail page
  page_live page gets c = first_live c.has page c.walk.leaf c.pages c.on c.lives

  -- the page that stands there
  page_is : (page gets : ℕ) (c : Comes v key page gets) (found : Page) → found ≡ get_or v.pages page found → c.has.world.now.contents page ≡ found
  page_is page gets c found e = c.has.contents page found (read_at v.pages page found (live_small c.has page (page_live page gets c)) e)

  pub comes_first : (anchor : Page) (page : ℕ) → key < unbounded → anchor ≡ get_or v.pages 0 anchor → 0 < length v.pages → page ≡ top_of (roots_of anchor) → IsWorld v → ∥ Comes v key page 1 ∥₁
  comes_first anchor page b e some is h = ∥∥₁_map h (λ h.
      (let w = (run_laws h.world h.good (λ p since runs. h.logs p)).walks key b in
      let there : h.world.now.contents 0 ≡ anchor = h.contents 0 anchor (read_at v.pages 0 anchor some e) in
      let top : (roots_of (h.world.now.contents 0)).levels ≡ suc w.top_level = sym w.is_top in
      let at : (roots_of (h.world.now.contents 0)).leftmost w.top_level ≡ page = ap (roots_of (h.world.now.contents 0)).leftmost (omega (arith, top)) ∙ (ap (λ c. top_of (roots_of c)) there ∙ sym is) in
      record {
        has = h;
        walk = w;
        pages = w.pages;
        on = subst (λ x. IsWalk (λ y. node_of (h.world.now.contents y)) key x w.pages w.leaf) at w.walk;
        lives = w.all_live;
        left = omega arith;
      }))

  pub has_first : IsWorld v → 0 < length v.pages
  has_first h = ∥∥₁_elim h le_prop (λ h. subst (λ n. 0 < n) h.size (h.good.owned.small 0 (λ e. (let a = h.good.tree.anchored in cc))))

  pub comes_within : (page gets : ℕ) → ∥ Comes v key page gets ∥₁ → page < length v.pages
  comes_within page gets h = ∥∥₁_elim h le_prop (λ c. live_small c.has page (page_live page gets c))

  -- it has not come to its end yet, so it has got fewer pages than there are
  pub comes_few : (page gets : ℕ) → ∥ Comes v key page gets ∥₁ → gets ≤ length v.pages
  comes_few page gets h = ∥∥₁_elim h le_prop (λ c.
      (let short = walk_is_short (length v.pages) c.walk (live_small c.has) in
      let b = walk_begins c.has.world.now.contents key page c.walk.leaf c.pages c.on in
      let one : length c.pages ≡ suc (length b.0) = ap length b.1 in
      let left = c.left in
      omega (arith, short, one, left)))

  pub comes_on : (page gets y : ℕ) (found : Page) → found ≡ get_or v.pages page found → Leads found key 0 (onward.Right y) ⊎ Leads found key 0 (onward.Down y) → ∥ Comes v key page gets ∥₁ → ∥ Comes v key y (gets + 1) ∥₁
  comes_on page gets y found e leads h = ∥∥₁_map h (λ c.
      (let live = page_live page gets c in
      let is = page_is page gets c found e in
      let here = subst (λ d. Leads d key 0 (onward.Right y) ⊎ Leads d key 0 (onward.Down y)) (sym is) leads in
      let r = walk_on c.has.world.now.contents key page c.walk.leaf y c.pages live.kind c.on here in
      let one : length c.pages ≡ suc (length r.0) = ap length r.1 in
      let left = c.left in
      record {
        has = c.has;
        walk = c.walk;
        pages = r.0;
        on = r.2;
        lives = (subst (Each (IsLivePage c.has.world.now c.has.world.trail)) r.1 c.lives).1;
        left = omega (arith, one, left);
      }))

  pub comes_here : (page gets : ℕ) (found : Page) → found ≡ get_or v.pages page found → Leads found key 0 onward.Here → ∥ Comes v key page gets ∥₁ → ∥ HasWalk v key page (gets + 1) ∥₁
  comes_here page gets found e leads h = ∥∥₁_map h (λ c.
      (let live = page_live page gets c in
      let is = page_is page gets c found e in
      let r = walk_here c.has.world.now.contents key page c.walk.leaf c.pages live.kind c.on (subst (λ d. Leads d key 0 onward.Here) (sym is) leads) in
      let one = r.1 in
      let left = c.left in
      record { has = c.has; walk = c.walk; ends = sym r.0; count = omega (arith, one, left) }))

  pub comes_never : (page gets : ℕ) (found : Page) → found ≡ get_or v.pages page found → Leads found key 0 onward.Again → ∥ Comes v key page gets ∥₁ → ⊥
  comes_never page gets found e leads h = ∥∥₁_elim h (λ a b. absurd a) (λ c.
      (let live = page_live page gets c in
      let is = page_is page gets c found e in
      walk_never c.has.world.now.contents key page c.walk.leaf c.pages live.kind c.on (subst (λ d. Leads d key 0 onward.Again) (sym is) leads)))
