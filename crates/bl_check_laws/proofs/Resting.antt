-- The pages of a good world, of which nobody holds one, are those of a sound image, whose rows are the world's map.
use Rattle.std.proofs.Common.{◌≡◌, ◌≢◌, ℕ, ◌+◌, ◌-◌, ◌<◌, ◌≤◌, ◌==◌, if◌then◌else◌, List, [], ◌∷◌, length, true, false, Option, Some, None, refl, sym, subst, ap, ◌∙◌, inl, inr, arith}
use Rattle.std.specs.Prelude.{IfSome, IsSomeAnd}
use Rattle.std.specs.List.{AllByRecursion}
use Rattle.std.proofs.lemmas.Bool.{cases_eq, cases_lt, false≢true}
use Rattle.bl_model.specs.Rows.{map_of}
use Rattle.bl_page.specs.declared.page.Page.{Page}
use Rattle.bl_page.specs.declared.page.Page.TheVariants.{Anchor, Leaf, Inner, Dead}
use Rattle.bl_page.specs.Pairs.{end_of, RisesFrom}
use Rattle.bl_page.specs.Machine.{Name, Owner, State}
use Rattle.bl_page.specs.Machine.Phase.{Waiting}
use Rattle.bl_image.specs.Images.{IsImage, IsCount, image_bytes}
use Rattle.bl_page.specs.Nodes.{Node, unbounded, node_of, roots_of, IsTreePage}
use Rattle.bl_tree.specs.Trees.{is_live, IsLive}
use Rattle.bl_tree.specs.Trees.Status.{Free, Live, Left, Right, Gone, Anchored}
use Rattle.bl_tree.proofs.Statuses.{live_live, right_live, anchored_dead}
use Rattle.bl_claims.specs.Laws.{IsChain}
use Rattle.bl_tree.proofs.LawsHold.{snapshot, KnowsMiddles, has_chain, listing}
use Rattle.bl_claims.specs.Moments.{IsLivePage}
use Rattle.bl_tree_worlds.specs.Worlds.{Know, World, nodes, tree_of, IsGood}
use Rattle.bl_tree_worlds.proofs.WorldLaws.{tree_page, all_sound, live_page}
use Rattle.bl_check.specs.declared.span.Span.{Span}
use Rattle.bl_check.specs.Rows.{AreRowsOf}
use Rattle.bl_check.specs.Rules.{is_anchor, is_dead, HasNext, LinkFits, Reaches, OnChain, ChildrenFit, Rule, AllKeep, AreSound}
use Rattle.bl_check.specs.Rules.Reaches.{Here, Next}
use Rattle.bl_page.specs.Pages.{page_at}
use Rattle.bl_check.specs.Spans.{span_of, span_at, StandsAt, levels, leftmost}
use Rattle.bl_claims.specs.Opening.{node_in, roots_in, IsStored, IsOpened}
use Rattle.bl_check_laws.specs.Begins.{IsLeft, AreLeft}
use Rattle.bl_check_laws.proofs.Beginnings.{AllFit, says, some_bound, bound_is, fits_span, anchored}
use Rattle.bl_check_laws.proofs.Opened.{opened_begins, keys_fit}

-- pages and spans

tree_span : (c : Page) → IsTreePage c → (s : Span) × (span_of (Some c) ≡ Some s)
tree_span (Anchor a) h = absurd h
tree_span (Leaf l) h = (record { level = 0; low = l.low; high = l.high; right = l.right }, refl)
tree_span (Inner i) h = (record { level = i.level; low = i.low; high = i.high; right = i.right }, refl)
tree_span (Dead d) h = absurd h

span_tree : (c : Page) (s : Span) → span_of (Some c) ≡ Some s → IsTreePage c
span_tree (Anchor a) s is = absurd cc
span_tree (Leaf l) s is = tt
span_tree (Inner i) s is = tt
span_tree (Dead d) s is = absurd cc

no_roots : (c : Page) → 0 < (roots_of c).levels → IsTreePage c → ⊥
no_roots (Anchor a) h tree = tree
no_roots (Leaf l) h tree = absurd (omega arith)
no_roots (Inner i) h tree = absurd (omega arith)
no_roots (Dead d) h tree = tree

with_levels : (c : Page) → 0 < (roots_of c).levels → is_anchor (Some c) ≡ true
with_levels (Anchor a) h = refl
with_levels old h = absurd (omega arith)

if_some : (o : Option Span) (Q : Span → Type 0) → ((s : Span) → o ≡ Some s → Q s) → IfSome o Q
if_some None Q h = tt
if_some (Some s) Q h = h s refl

one_span : (o : Option Span) (s t : Span) → o ≡ Some s → o ≡ Some t → s ≡ t
one_span o s t a b = (let e : ◌≡◌ {A = Option Span} (Some s) (Some t) = sym a ∙ b in cc)

stands_by : (o : Option Span) (s : Span) (level low : ℕ) → o ≡ Some s → s.level ≡ level → s.low ≡ low → IsSomeAnd o (λ t. (t.level ≡ level) × (t.low ≡ low))
stands_by o s level low at l k = subst (λ (z : Option Span). IsSomeAnd z (λ t. (t.level ≡ level) × (t.low ≡ low))) (sym at) (l, k)

-- pairs with rising keys are what their map lists

listed_above : (least : ℕ) (pairs : List (ℕ × ℕ)) (k c : ℕ) → RisesFrom least pairs → map_of pairs k ≡ Some c → least ≤ k
listed_above least [] k c h is = absurd cc
listed_above least (pair ∷ pairs) k c h is = elim (cases_eq pair.0 k) [
  | inl same ↦ omega (arith, h.0, same)
  | inr other ↦
      let e : (if pair.0 == k then Some pair.1 else map_of pairs k) ≡ map_of pairs k = grind arith in
      let r = listed_above (pair.0 + 1) pairs k c h.1 (sym e ∙ is) in omega (arith, h.0, r)
]

all_listed : (Q : ℕ × ℕ → Type 0) (least : ℕ) (pairs : List (ℕ × ℕ)) → RisesFrom least pairs → ((k c : ℕ) → map_of pairs k ≡ Some c → Q (k, c)) → AllByRecursion Q pairs
all_listed Q least [] h q = tt
all_listed Q least (pair ∷ pairs) h q = (
  q pair.0 pair.1 (let e : (if pair.0 == pair.0 then Some pair.1 else map_of pairs pair.0) ≡ Some pair.1 = grind arith in e),
  all_listed Q (pair.0 + 1) pairs h.1 (λ k c is. q k c (
      let above = listed_above (pair.0 + 1) pairs k c h.1 is in
      let e : (if pair.0 == k then Some pair.1 else map_of pairs k) ≡ map_of pairs k = grind (arith, above) in e ∙ is)),
)

-- an owner of an image that is opened
abbrev owner_in : Option Page → Owner
owner_in None = Owner.Released
owner_in (Some page) = Owner.Open

module _ {P : Type 0} (know : P → Know) (w : World P) (g : IsGood know w) (pages : List (Option Page)) (fit : AllFit pages) (left : AreLeft pages w.now) where
  abbrev node : ℕ → Node
  node = nodes w.now

  open_page : (x : ℕ) → IsLive (w.status x) → w.now.owner x ≡ Owner.Open
  open_page x h = elim (live_page know w x g h).owned [ inl o ↦ o | inr o ↦ absurd (left.none_held x o.0 o.1) ]

  plain : (x : ℕ) → IsLive (w.status x) → w.status x ≡ Live
  plain x h = elim (g.owned.opened x (open_page x h)) [ inl l ↦ l | inr a ↦ absurd (false≢true (sym anchored_dead ∙ (ap is_live (sym a) ∙ h))) ]

  not_left : (x y : ℕ) → IsLive (w.status x) → w.status x ≢ Left y
  not_left x y h e = (let z : Live ≡ Left y = sym (plain x h) ∙ e in cc)

  not_right : (x y : ℕ) → IsLive (w.status x) → w.status x ≢ Right y
  not_right x y h e = (let z : Live ≡ Right y = sym (plain x h) ∙ e in cc)

  none_right : (x y : ℕ) → w.status y ≡ Right x → ⊥
  none_right x y e = not_right y x (rw e (right_live x)) e

  middles : KnowsMiddles (tree_of w) (λ x y. ⊥) (λ y. ⊥)
  middles = record { middle = none_right; evened = λ x y e. absurd (none_right x y e) }

  stored : (x : ℕ) (page : Option Page) → IsLeft w.now x page → w.now.owner x ≡ Owner.Open → page ≡ Some (w.now.contents x)
  stored x None h o = absurd (h o)
  stored x (Some page) h o = ap Some (sym h.1)

  -- a page that is open is of the tree, or the anchor
  tree_open : (x : ℕ) → w.now.owner x ≡ Owner.Open → IsTreePage (w.now.contents x) → IsLive (w.status x)
  tree_open x o tree = elim (g.owned.opened x o) [
    | inl l ↦ rw l live_live
    | inr a ↦ absurd (no_roots (w.now.contents 0) g.tree.some_level (subst (λ (z : ℕ). IsTreePage (w.now.contents z)) (g.owned.one_anchor x a) tree))
  ]

  -- what a live page says in the image
  record IsHere (x : ℕ) : Type 0 where
    pub span : Span
    pub at : span_at pages x ≡ Some span
    pub level : (node x).shape.level ≡ span.level
    pub low : (node x).shape.low ≡ span.low
    pub end : (node x).shape.end ≡ end_of span.high
    pub right : (node x).shape.right ≡ span.right

  here : (x : ℕ) → IsLive (w.status x) → IsHere x
  here x h =
      let page = stored x (page_at pages x) (left.pages_are x) (open_page x h) in
      let t = tree_span (w.now.contents x) (tree_page know w x g h) in
      let at : span_at pages x ≡ Some t.0 = ap span_of page ∙ t.1 in
      let said = says (page_at pages x) t.0 at in
      let same : node x ≡ node_in (page_at pages x) = sym (ap node_in page) in
      record {
        span = t.0;
        at = at;
        level = ap (λ (n : Node). n.shape.level) same ∙ said.level;
        low = ap (λ (n : Node). n.shape.low) same ∙ said.low;
        end = ap (λ (n : Node). n.shape.end) same ∙ said.end;
        right = ap (λ (n : Node). n.shape.right) same ∙ said.right;
      }

  alive_in : (x : ℕ) (page : Option Page) (s : Span) → IsLeft w.now x page → span_of page ≡ Some s → IsLive (w.status x)
  alive_in x None s h is = absurd cc
  alive_in x (Some page) s h is = tree_open x h.0 (subst IsTreePage (sym h.1) (span_tree page s is))

  alive : (x : ℕ) (s : Span) → span_at pages x ≡ Some s → IsLive (w.status x)
  alive x s at = alive_in x (page_at pages x) s (left.pages_are x) at

  stands_at : (x level low : ℕ) → IsLive (w.status x) → (node x).shape.level ≡ level → (node x).shape.low ≡ low → StandsAt pages x level low
  stands_at x level low h l k = let t = here x h in stands_by (span_at pages x) t.span level low t.at (sym t.level ∙ l) (sym t.low ∙ k)

  -- links

  has_next : (x : ℕ) (h : IsLive (w.status x)) → (node x).shape.end < unbounded → HasNext pages (here x h).span
  has_next x h lt =
      let t = here x h in
      let some : t.span.high ≢ 0 = some_bound t.span.high (subst (λ (e : ℕ). e < unbounded) t.end lt) in (
        some,
        subst (λ (z : ℕ). StandsAt pages z t.span.level t.span.high) t.right (stands_at (node x).shape.right t.span.level t.span.high
            (g.tree.side.link_live x h lt) (g.tree.side.link_level x h lt ∙ t.level) (g.tree.side.link_same x h lt (not_left x (node x).shape.right h) ∙ (t.end ∙ bound_is t.span.high some))),
      )

  link_fits : (x : ℕ) (h : IsLive (w.status x)) → LinkFits pages (here x h).span
  link_fits x h =
      let t = here x h in
      let small = fits_span pages x t.span fit t.at in (
        (λ none. sym t.right ∙ g.tree.side.last x h (t.end ∙ ap end_of none)),
        (λ some. has_next x h (let e : (node x).shape.end ≡ t.span.high = t.end ∙ bound_is t.span.high some in omega (arith, e, small))),
      )

  -- chains

  same_page : (x y : ℕ) → IsLive (w.status x) → IsLive (w.status y) → (node x).shape.level ≡ (node y).shape.level → (node x).shape.low ≤ (node y).shape.low → (node y).shape.low < (node x).shape.end → x ≡ y
  same_page x y h i l le lt =
      let wide = g.tree.side.wide y i in
      g.tree.side.apart x y (node y).shape.low h i l (le, lt) (omega arith, wide) (not_left x y h) (not_right x y h)

  reach : (level first x : ℕ) (rest : List ℕ) → IsChain (snapshot (tree_of w) (λ y z. ⊥) (λ y. ⊥)) level first rest → IsLive (w.status x) → (node x).shape.level ≡ level → (node first).shape.low ≤ (node x).shape.low → Reaches pages first x
  reach level first x [] c h l le =
      let wide = g.tree.side.wide x h in let within = g.tree.side.within x h in let last = c.2 in
      subst (λ (z : ℕ). Reaches pages first z) (same_page first x c.0 h (c.1 ∙ sym l) le (omega (arith, wide, within, last))) Here
  reach level first x (y ∷ rest) c h l le = elim (cases_lt (node x).shape.low (node first).shape.end) [
    | inl lt ↦ subst (λ (z : ℕ). Reaches pages first z) (same_page first x c.0 h (c.1 ∙ sym l) le lt) Here
    | inr ge ↦
        let wide = g.tree.side.wide x h in let within = g.tree.side.within x h in
        let t = here first c.0 in
        let below : (node first).shape.end < unbounded = omega (arith, ge, wide, within) in
        let meets : (node first).shape.end ≡ (node y).shape.low = elim c.2.meets [ inl e ↦ e | inr e ↦ absurd e.1 ] in
        Next t.span t.at (has_next first c.0 below) (subst (λ (z : ℕ). Reaches pages z x) (sym c.2.right ∙ t.right) (reach level y x rest c.3 h l (omega (arith, meets, ge))))
  ]

  -- the anchor

  anchor_open : w.now.owner 0 ≡ Owner.Open
  anchor_open = by_owner (w.now.owner 0) refl
    where
      by_owner : (o : Owner) → w.now.owner 0 ≡ o → w.now.owner 0 ≡ Owner.Open
      by_owner Owner.Released e = absurd (let z : Anchored ≡ Free = sym g.tree.anchored ∙ g.owned.released 0 e in cc)
      by_owner Owner.Open e = e
      by_owner (Owner.Held p) e = absurd (left.none_held 0 p e)
      by_owner (Owner.Retired t) e = absurd (let z : Anchored ≡ Gone = sym g.tree.anchored ∙ (g.owned.retired 0 t e).0 in cc)

  anchor_page : page_at pages 0 ≡ Some (w.now.contents 0)
  anchor_page = stored 0 (page_at pages 0) (left.pages_are 0) anchor_open

  anchor_is : is_anchor (page_at pages 0) ≡ true
  anchor_is = ap is_anchor anchor_page ∙ with_levels (w.now.contents 0) g.tree.some_level

  is_first : (x : ℕ) (page : Option Page) → IsLeft w.now x page → is_anchor page ≡ true → x ≡ 0
  is_first x None h is = absurd (false≢true is)
  is_first x (Some (Anchor a)) h is = elim (g.owned.opened x h.0) [
    | inl l ↦ absurd (let tree = tree_page know w x g (rw l live_live) in subst IsTreePage h.1 tree)
    | inr a ↦ g.owned.one_anchor x a
  ]
  is_first x (Some (Leaf l)) h is = absurd (false≢true is)
  is_first x (Some (Inner i)) h is = absurd (false≢true is)
  is_first x (Some (Dead d)) h is = absurd (false≢true is)

  level_count : levels pages ≡ (roots_of (w.now.contents 0)).levels
  level_count = (anchored (page_at pages 0) anchor_is).count ∙ ap (λ (p : Option Page). (roots_in p).levels) anchor_page

  leftmost_page : (l : ℕ) → leftmost pages l ≡ (roots_of (w.now.contents 0)).leftmost l
  leftmost_page l = (anchored (page_at pages 0) anchor_is).leftmost_is l ∙ ap (λ (p : Option Page). (roots_in p).leftmost l) anchor_page

  leftmost_stands : (level : ℕ) → level < levels pages → StandsAt pages (leftmost pages level) level 0
  leftmost_stands level lt =
      let c = g.tree.leftmost level (subst (λ (n : ℕ). level < n) level_count lt) in
      let low = g.tree.side.sep_low ((roots_of (w.now.contents 0)).leftmost level) c.alive in
      let sep = c.sep_is in
      subst (λ (z : ℕ). StandsAt pages z level 0) (sym (leftmost_page level)) (stands_at ((roots_of (w.now.contents 0)).leftmost level) level 0 c.alive c.level_is (omega (arith, low, sep)))

  on_chain : (x : ℕ) → IsLive (w.status x) → OnChain pages (node x).shape.level x
  on_chain x h =
      let below = g.tree.below x h (λ e. let k = g.owned.uprooted x e in left.none_held x k.by k.held) in
      let c = has_chain (node x).shape.level middles g.tree below in
      let begins = c.begins in (
        subst (λ (n : ℕ). (node x).shape.level < n) (sym level_count) below,
        subst (λ (z : ℕ). Reaches pages z x) (sym (leftmost_page (node x).shape.level)) (reach (node x).shape.level ((roots_of (w.now.contents 0)).leftmost (node x).shape.level) x c.rest c.chain h refl (omega (arith, begins))),
      )

  -- children

  child_fits : (x k c : ℕ) → IsLive (w.status x) → 0 < (node x).shape.level → (node x).look k ≡ Some c → StandsAt pages c ((node x).shape.level - 1) k
  child_fits x k c h above look =
      let o = listing middles (all_sound know w g) g.tree x k c h above look in
      let lower = o.lower in
      stands_at c ((node x).shape.level - 1) k o.alive (omega (arith, lower)) (elim o.low [ inl e ↦ e | inr e ↦ absurd e.1 ])

  children_fit : (x : ℕ) (page : Option Page) → IsLeft w.now x page → ChildrenFit pages page
  children_fit x None h = tt
  children_fit x (Some (Anchor a)) h = tt
  children_fit x (Some (Leaf l)) h = tt
  children_fit x (Some (Inner i)) h =
      let tree : IsTreePage (w.now.contents x) = subst IsTreePage (sym h.1) tt in
      let same : node x ≡ node_of (Inner i) = ap node_of h.1 in
      all_listed (λ pair. StandsAt pages pair.1 (i.level - 1) pair.0) 0 i.children.items i.order (λ k c is.
      subst (λ (n : ℕ). StandsAt pages c (n - 1) k) (ap (λ (n : Node). n.shape.level) same)
      (child_fits x k c (tree_open x h.0 tree) (subst (λ (n : Node). 0 < n.shape.level) (sym same) i.above_leaves) (ap (λ (n : Node). n.look k) same ∙ is)))
  children_fit x (Some (Dead d)) h = tt

  none_dead : (x : ℕ) (page : Option Page) → IsLeft w.now x page → is_dead page ≡ false
  none_dead x None h = refl
  none_dead x (Some (Anchor a)) h = refl
  none_dead x (Some (Leaf l)) h = refl
  none_dead x (Some (Inner i)) h = refl
  none_dead x (Some (Dead d)) h = elim (g.owned.opened x h.0) [
    | inl l ↦ absurd (let tree = tree_page know w x g (rw l live_live) in subst IsTreePage h.1 tree)
    | inr a ↦ absurd (let some = g.tree.some_level in let none : (roots_of (w.now.contents 0)).levels ≡ 0 = ap (λ (z : ℕ). (roots_of (w.now.contents z)).levels) (sym (g.owned.one_anchor x a)) ∙ ap (λ (c : Page). (roots_of c).levels) h.1 in omega (arith, some, none))
  ]

  -- all rules

  span_here : (x : ℕ) (s : Span) (at : span_at pages x ≡ Some s) → s ≡ (here x (alive x s at)).span
  span_here x s at = one_span (span_at pages x) s (here x (alive x s at)).span at (here x (alive x s at)).at

  keeps : (rule : Rule) → AllKeep rule pages
  keeps Rule.OneAnchor x lt = ((λ is. is_first x (page_at pages x) (left.pages_are x) is), λ e. subst (λ (z : ℕ). is_anchor (page_at pages z) ≡ true) (sym e) anchor_is)
  keeps Rule.Leftmost x lt = λ e level below. leftmost_stands level below
  keeps Rule.Links x lt = λ level on. if_some (span_at pages x) (λ s. LinkFits pages s) (λ s at. subst (λ (z : Span). LinkFits pages z) (sym (span_here x s at)) (link_fits x (alive x s at)))
  keeps Rule.Chains x lt = if_some (span_at pages x) (λ s. OnChain pages s.level x) (λ s at. let h = alive x s at in
      subst (λ (l : ℕ). OnChain pages l x) ((here x h).level ∙ ap (λ (z : Span). z.level) (sym (span_here x s at))) (on_chain x h))
  keeps Rule.Children x lt = children_fit x (page_at pages x) (left.pages_are x)
  keeps Rule.NoneDead x lt = none_dead x (page_at pages x) (left.pages_are x)

  pub rests_sound : AreSound pages
  rests_sound rule = keeps rule

  -- the map

  module _ (count : IsCount (length pages)) (rows : List (ℕ × ℕ)) (are : AreRowsOf pages rows) where
    abbrev opened : State Page
    opened = record { contents = w.now.contents; owner = λ x. owner_in (page_at pages x); phase = λ p. Waiting; clock = 0 }

    image : IsImage pages (image_bytes pages)
    image = record { count = count; words = fit; bytes_are = refl }

    stored_at : (x : ℕ) (page : Option Page) → page_at pages x ≡ page → IsLeft w.now x page → IsStored opened x page
    stored_at x None e h = ap owner_in e
    stored_at x (Some page) e h = (ap owner_in e, h.1)

    is_opened : IsOpened pages opened
    is_opened = record { pages_are = λ x. stored_at x (page_at pages x) refl (left.pages_are x); waiting = λ p. refl }

    was_open : (x : ℕ) (page : Option Page) → IsLeft w.now x page → owner_in page ≡ Owner.Open → w.now.owner x ≡ Owner.Open
    was_open x None h e = absurd (let z : Owner.Released ≡ Owner.Open = e in cc)
    was_open x (Some page) h e = h.0

    never_held : (p : Name) (page : Option Page) → owner_in page ≡ Owner.Held p → ⊥
    never_held p None e = (let z : Owner.Released ≡ Owner.Held p = e in cc)
    never_held p (Some page) e = (let z : Owner.Open ≡ Owner.Held p = e in cc)

    was_live : (x : ℕ) → IsLivePage opened [] x → IsLive (w.status x)
    was_live x h = elim h.owned [
      | inl o ↦ tree_open x (was_open x (page_at pages x) (left.pages_are x) o) h.kind
      | inr o ↦ absurd (never_held o.0 (page_at pages x) o.1)
    ]

    no_value : (k : ℕ) → unbounded ≤ k → (o : Option ℕ) → w.map 0 k ≡ o → o ≡ None
    no_value k far None is = refl
    no_value k far (Some v) is = absurd (let lt = g.bounded k v is in omega (arith, lt, far))

    pub rests_map : (k : ℕ) → w.map 0 k ≡ map_of rows k
    rests_map k = elim (cases_lt k unbounded) [
      | inl lt ↦
          let laws = (opened_begins pages (image_bytes pages) rows opened image rests_sound are is_opened).laws in
          let walk = laws.walks k lt in
          let h = was_live walk.leaf walk.alive in
          ap (λ (l : ℕ). w.map l k) (sym walk.is_leaf) ∙ sym (g.tree.agree walk.leaf k h walk.covers) ∙ laws.agreement walk.leaf k walk.alive walk.is_leaf walk.covers
      | inr far ↦ no_value k far (w.map 0 k) refl ∙ sym (keys_fit pages (image_bytes pages) rows k image rests_sound are far)
    ]
