-- In every good world a search has few gets ahead, wherever it may go next: no more than there are pages from a live page or
-- from the anchor, and at most twice as many from a dead one.
use Rattle.std.proofs.Common.{ℕ, ◌≡◌, ◌≢◌, ◌⊎◌, ◌≤◌, ◌<◌, ◌+◌, ◌*◌, ◌-◌, Bool, true, false, zero, suc, List, [], ◌∷◌, length, arith, ap, sym, ◌∙◌, refl, inl, inr, subst}
use Rattle.std.proofs.lemmas.Bool.{cases_lt, cases_eq, false≢true}
use Rattle.bl_page.specs.declared.page.Page.{Page}
use Rattle.bl_page.specs.declared.page.Page.TheVariants.{Anchor, Leaf, Inner, Dead}
use Rattle.bl_page.specs.Machine.{Name, Owner}
use Rattle.bl_page.specs.Machine.Owner.{Released, Held, Retired}
use Rattle.bl_page.specs.Nodes.{Node, unbounded, node_of, roots_of, IsTreePage}
use Rattle.bl_tree.specs.Trees.{Status, is_live, IsLive}
use Rattle.bl_tree.specs.Trees.Status.{Free, Fresh, Live, Left, Right, Uprooted, Gone, Anchored}
use Rattle.bl_tree.proofs.Statuses.{live_live, left_live, right_live, uprooted_live, free_dead, not_anchor}
use Rattle.bl_claims.specs.Walks.{Each, IsWalk, IsNoneOf, NoneTwice}
use Rattle.bl_tree.proofs.LawsHold.{live}
use Rattle.bl_tree.proofs.WalksEnd.{After, Walked, walk_from, at_most}
use Rattle.bl_tree_worlds.specs.Worlds.{Know, World, nodes, tree_of, was_in, MayGet, IsGoes, IsGood}
use Rattle.bl_tree_worlds.proofs.Steady.{free_not, fresh_not, anchored_not}
use Rattle.bl_tree_worlds.proofs.WorldLaws.{tree_page, all_sound}
use Rattle.bl_proc_routes.specs.declared.routes.Step.TheVariants as onward
use Rattle.bl_proc_steps.specs.declared.descent.Descent.{Descent}
use Rattle.bl_proc_steps.specs.declared.descent.Descent.TheVariants.{AtAnchor, At}
use Rattle.bl_proc_routes.specs.Routes.{Leads}
use Rattle.bl_page.specs.Tops.{top_of}
use Rattle.bl_proc.specs.Parts.{way_by}
use Rattle.bl_proc_invariant.specs.Tables.{descent_goes}
use Rattle.bl_proc_bounds.specs.Paces.{IsAhead}
use Rattle.bl_proc_bounds.specs.Paces.IsAhead.{On}
use Rattle.bl_proc_bounds.proofs.Ahead.{walk_ahead}

-- a page that was in the tree is live or dead
live_or_gone : (s : Status) → was_in s ≡ true → IsLive s ⊎ (s ≡ Gone)
live_or_gone Free h = absurd (false≢true (sym free_not ∙ h))
live_or_gone Fresh h = absurd (false≢true (sym fresh_not ∙ h))
live_or_gone Live h = inl live_live
live_or_gone (Left y) h = inl (left_live y)
live_or_gone (Right y) h = inl (right_live y)
live_or_gone Uprooted h = inl uprooted_live
live_or_gone Gone h = inr refl
live_or_gone Anchored h = absurd (false≢true (sym anchored_not ∙ h))

After-not : (node : ℕ → Node) (x y : ℕ) → After node x y → x ≢ y
After-not node x y a i = elim a [
  | inl p ↦ absurd (let e : (node x).shape.level ≡ (node y).shape.level = ap (λ v. (node v).shape.level) i in omega arith)
  | inr p ↦ absurd (let e : (node x).shape.end ≡ (node y).shape.end = ap (λ v. (node v).shape.end) i in omega (arith, p.1))
]

none_of : (node : ℕ → Node) (x : ℕ) (ys : List ℕ) → Each (After node x) ys → IsNoneOf x ys
none_of node x [] h = tt
none_of node x (y ∷ ys) h = (After-not node x y h.0, none_of node x ys h.1)

each_map : (P Q : ℕ → Type 0) (xs : List ℕ) → ((x : ℕ) → P x → Q x) → Each P xs → Each Q xs
each_map P Q [] f h = tt
each_map P Q (x ∷ xs) f h = (f x h.0, each_map P Q xs f h.1)

none_each : (P : ℕ → Type 0) (x : ℕ) (ys : List ℕ) → ((y : ℕ) → P y → x ≢ y) → Each P ys → IsNoneOf x ys
none_each P x [] f h = tt
none_each P x (y ∷ ys) f h = (f y h.0, none_each P x ys f h.1)

-- what covers no key leads to its right, if it has a link, or to the anchor
gone_leads : (c : Page) (k : ℕ) → (node_of c).shape.end ≡ 0 → (Leads c k 0 (onward.Right (node_of c).shape.right) × ((node_of c).shape.right ≢ 0)) ⊎ Leads c k 0 onward.Again
gone_leads (Anchor a) k h = inr (λ d. absurd d, λ t. absurd t)
gone_leads (Leaf l) k h = absurd (let wide = l.bounds in omega arith)
gone_leads (Inner i) k h = absurd (let wide = i.bounds in omega arith)
gone_leads (Dead d) k h = elim (cases_eq d.right 0) [
  | inl e ↦ inr (λ t. e, λ t. absurd t)
  | inr n ↦ inl ((refl, inl (tt, n)), n)
]

-- retired after that time, if it is
abbrev IsLater : (ℕ → Owner) → ℕ → ℕ → Type 0
IsLater owner time y = (t : ℕ) → owner y ≡ Retired t → time < t

-- From the dead page x on a search meets these dead pages, each retired later than the one before; the last leads to a page of
-- the tree, or to the anchor. So it meets none twice.
record Buried (contents : ℕ → Page) (owner : ℕ → Owner) (status : ℕ → Status) (size k x : ℕ) : Type 0 where
  pub rest : List ℕ
  pub gets : ℕ
  pub more : ℕ
  pub ahead : IsAhead contents k (At x) gets
  pub count : gets ≡ suc (length rest) + more
  pub few : more ≤ suc size
  pub dead : Each (λ y. status y ≡ Gone) rest
  pub later : (time : ℕ) → owner x ≡ Retired time → Each (IsLater owner time) rest
  pub alone : (q : Name) → owner x ≡ Held q → rest ≡ []
  pub once : NoneTwice (x ∷ rest)

-- so many gets are ahead of a search, at most so many
pub record Near (contents : ℕ → Page) (k : ℕ) (d : Descent) (most : ℕ) : Type 0 where
  pub gets : ℕ
  pub ahead : IsAhead contents k d gets
  pub few : gets ≤ most

module _ {P : Type 0} (know : P → Know) (w : World P) (g : IsGood know w) (k : ℕ) (b : k < unbounded) where
  live_small : (x : ℕ) → live (tree_of w) x → x < w.size
  live_small x h = g.owned.small x (λ e. false≢true (sym free_dead ∙ (ap is_live (sym e) ∙ h)))

  live_other : (x : ℕ) → live (tree_of w) x → 0 ≢ x
  live_other x h = not_anchor w.status x h g.tree.anchored

  anchor_small : 0 < w.size
  anchor_small = g.owned.small 0 (λ e. (let a = g.tree.anchored in cc))

  -- the walk from a live page on meets each page once, and not the anchor
  walk_short : (x : ℕ) → (v : Walked (tree_of w) k x) → suc (suc (length v.rest)) ≤ w.size
  walk_short x v =
      at_most w.size (0 ∷ x ∷ v.rest)
      ((live_other x v.begins, none_each (live (tree_of w)) 0 v.rest live_other v.lives), (none_of (nodes w.now) x v.rest v.after, v.once))
      (anchor_small, (live_small x v.begins, each_map (live (tree_of w)) (λ y. y < w.size) v.rest live_small v.lives))

  walked : (x : ℕ) → (v : Walked (tree_of w) k x) → IsAhead w.now.contents k (At x) (suc (length v.rest))
  walked x v = walk_ahead w.now.contents k x v.leaf (x ∷ v.rest) (tree_page know w x g v.begins, each_map (live (tree_of w)) (λ y. IsTreePage (w.now.contents y)) v.rest (λ y h. tree_page know w y g h) v.lives) v.walk

  -- the walk from the leftmost page of the top level
  top_walk : Walked (tree_of w) k (top_of (roots_of (w.now.contents 0)))
  top_walk =
      let some = g.tree.some_level in
      let x = top_of (roots_of (w.now.contents 0)) in
      let o = g.tree.leftmost ((roots_of (w.now.contents 0)).levels - 1) (omega arith) in
      let low = g.tree.side.sep_low x o.alive in
      walk_from k ((roots_of (w.now.contents 0)).levels - 1) x g.tree (all_sound know w g) b o.alive o.level_is (omega (arith, o.sep_is))

  top_near : Near w.now.contents k (At (top_of (roots_of (w.now.contents 0)))) (w.size - 1)
  top_near =
      let x = top_of (roots_of (w.now.contents 0)) in
      let v = top_walk in
      record { gets = suc (length v.rest); ahead = walked x v; few = (let s = walk_short x v in omega arith) }

  -- a walk meets no page whose low is above its key
  walk_low : (x leaf : ℕ) (pages : List ℕ) → Each (live (tree_of w)) pages → IsWalk (nodes w.now) k x pages leaf → Each (λ y. (nodes w.now y).shape.low ≤ k) pages
  walk_low x leaf pages h (IsWalk.Ends level covers) = (covers.0, tt)
  walk_low x leaf pages h (IsWalk.Right {pages = rest} beyond walk) = ((let wide = g.tree.side.wide x h.0 in omega (arith, beyond)), walk_low _ _ rest h.1 walk)
  walk_low x leaf pages h (IsWalk.Down {pages = rest} above covers of walk) = (covers.0, walk_low _ _ rest h.1 walk)

  -- from the anchor
  pub anchor_near : Near w.now.contents k AtAnchor w.size
  anchor_near =
      let t = top_near in
      let few = t.few in
      let some = anchor_small in
      record { gets = suc t.gets; ahead = On refl t.ahead; few = omega arith }

  -- from a live page
  live_near : (x : ℕ) → live (tree_of w) x → Near w.now.contents k (At x) w.size
  live_near x h = elim (cases_lt k (nodes w.now x).shape.low) [
    | inl below ↦
        let page = tree_page know w x g h in
        let not_dead_page : Leads (w.now.contents x) k 0 onward.Again = again (w.now.contents x) page below in
        let y = top_of (roots_of (w.now.contents 0)) in
        let v = top_walk in
        let lows = walk_low y v.leaf (y ∷ v.rest) (v.begins, v.lives) v.walk in
        let elsewhere : IsNoneOf x (y ∷ v.rest) = none_each (λ z. (nodes w.now z).shape.low ≤ k) x (y ∷ v.rest) (λ z f i. (let e : (nodes w.now x).shape.low ≡ (nodes w.now z).shape.low = ap (λ u. (nodes w.now u).shape.low) i in omega (arith, e, f, below))) lows in
        let short : suc (suc (suc (length v.rest))) ≤ w.size =
        at_most w.size (0 ∷ x ∷ y ∷ v.rest)
        ((live_other x h, (live_other y v.begins, none_each (live (tree_of w)) 0 v.rest live_other v.lives)), (elsewhere, (none_of (nodes w.now) y v.rest v.after, v.once)))
        (anchor_small, (live_small x h, (live_small y v.begins, each_map (live (tree_of w)) (λ z. z < w.size) v.rest live_small v.lives))) in
        let from_anchor : IsAhead w.now.contents k AtAnchor (suc (suc (length v.rest))) = On refl (walked y v) in
        record { gets = suc (suc (suc (length v.rest))); ahead = On not_dead_page from_anchor; few = short }
    | inr from ↦
        let v : Walked (tree_of w) k x = walk_from k (nodes w.now x).shape.level x g.tree (all_sound know w g) b h refl from in
        record { gets = suc (length v.rest); ahead = walked x v; few = (let s = walk_short x v in omega arith) }
  ]
    where
      again : (c : Page) → IsTreePage c → k < (node_of c).shape.low → Leads c k 0 onward.Again
      again (Anchor a) t l = absurd t
      again (Leaf a) t l = (λ d. absurd d, λ u. inl l)
      again (Inner a) t l = (λ d. absurd d, λ u. inl l)
      again (Dead a) t l = absurd t

  -- who owns a dead page
  dead_owner : (x : ℕ) → w.status x ≡ Gone → ((q : Name) × (w.now.owner x ≡ Held q)) ⊎ ((t : ℕ) × (w.now.owner x ≡ Retired t))
  dead_owner x h = by_owner (w.now.owner x) refl
    where
      by_owner : (o : Owner) → w.now.owner x ≡ o → ((q : Name) × (w.now.owner x ≡ Held q)) ⊎ ((t : ℕ) × (w.now.owner x ≡ Retired t))
      by_owner Released e = let f = g.owned.released x e in cc
      by_owner Owner.Open e = elim (g.owned.opened x e) [ inl o ↦ cc | inr o ↦ cc ]
      by_owner (Held q) e = inl (q, e)
      by_owner (Retired t) e = inr (t, e)

  -- a dead page from which the way begins again, or that leads to a page of the tree
  buried_again : (x : ℕ) → Leads (w.now.contents x) k 0 onward.Again → Buried w.now.contents w.now.owner w.status w.size k x
  buried_again x h =
      let t = anchor_near in
      let few = t.few in
      record { rest = []; gets = suc t.gets; more = t.gets; ahead = On h t.ahead; count = omega arith; few = omega arith; dead = tt; later = λ time o. tt; alone = λ q o. refl; once = (tt, tt) }

  buried_last : (x y : ℕ) → Leads (w.now.contents x) k 0 (onward.Right y) → live (tree_of w) y → Buried w.now.contents w.now.owner w.status w.size k x
  buried_last x y h l =
      let n = live_near y l in
      let few = n.few in
      record { rest = []; gets = suc n.gets; more = n.gets; ahead = On (inl h) n.ahead; count = omega arith; few = omega arith; dead = tt; later = λ time o. tt; alone = λ q o. refl; once = (tt, tt) }

  -- a dead page that leads to a dead page
  buried_more : (x y time : ℕ) → w.now.owner x ≡ Retired time → IsLater w.now.owner time y → w.status y ≡ Gone → Leads (w.now.contents x) k 0 (onward.Right y) → Buried w.now.contents w.now.owner w.status w.size k y → Buried w.now.contents w.now.owner w.status w.size k x
  buried_more x y time o after gone h r =
      let all : Each (IsLater w.now.owner time) (y ∷ r.rest) = (
        after,
        elim (dead_owner y gone) [
          | inl held ↦ rw (r.alone held.0 held.1) tt
          | inr retired ↦
              let less = after retired.0 retired.1 in
              each_map (IsLater w.now.owner retired.0) (IsLater w.now.owner time) r.rest (λ z f t e. (let l = f t e in omega arith)) (r.later retired.0 retired.1)
        ],
      ) in
      record {
        rest = y ∷ r.rest;
        gets = suc r.gets;
        more = r.more;
        ahead = On (inl h) r.ahead;
        count = (let c = r.count in omega arith);
        few = r.few;
        dead = (gone, r.dead);
        later = λ t e. (let v : Retired t ≡ Retired time = sym e ∙ o in let i : t ≡ time = cc in subst (λ s. Each (IsLater w.now.owner s) (y ∷ r.rest)) (sym i) all);
        alone = λ q e. (let v : Held q ≡ Retired time = sym e ∙ o in absurd (cc v));
        once = (none_each (IsLater w.now.owner time) x (y ∷ r.rest) (λ z f i. (let l = f time (ap w.now.owner (sym i) ∙ o) in omega arith)) all, r.once);
      }

  -- The clock bounds how many dead pages there are behind one that is retired.
  buried : (n : ℕ) (p : Name) (x : ℕ) → MayGet w p x → w.status x ≡ Gone → ((t : ℕ) → w.now.owner x ≡ Retired t → w.now.clock ≤ t + n) → Buried w.now.contents w.now.owner w.status w.size k x
  buried zero p x may gone late = elim (dead_owner x gone) [
    | inl held ↦ elim (gone_leads (w.now.contents x) k (g.gone x gone).end) [
      | inl h ↦ buried_last x (nodes w.now x).shape.right h.0 (((g.gone x gone).left h.1).not_yet held.0 held.1).1
      | inr h ↦ buried_again x h
    ]
    | inr retired ↦ absurd (let before = (g.owned.retired x retired.0 retired.1).1 in let after = late retired.0 retired.1 in omega arith)
  ]
  buried (suc n) p x may gone late = elim (gone_leads (w.now.contents x) k (g.gone x gone).end) [
    | inr h ↦ buried_again x h
    | inl h ↦ elim (dead_owner x gone) [
      | inl held ↦ buried_last x (nodes w.now x).shape.right h.0 (((g.gone x gone).left h.1).not_yet held.0 held.1).1
      | inr retired ↦
          let left = (g.gone x gone).left h.1 in
          let on = left.leads p may in
          elim (live_or_gone (w.status (nodes w.now x).shape.right) on.0.was) [
            | inl l ↦ buried_last x (nodes w.now x).shape.right h.0 l
            | inr dead ↦
                let after : IsLater w.now.owner retired.0 (nodes w.now x).shape.right = λ t e. left.later p retired.0 t may retired.1 e in
                buried_more x (nodes w.now x).shape.right retired.0 retired.1 after dead h.0
                (buried n p (nodes w.now x).shape.right on.0 dead (λ t e. (let less = after t e in let l = late retired.0 retired.1 in omega arith)))
          ]
    ]
  ]

  gone_small : (x : ℕ) → w.status x ≡ Gone → x < w.size
  gone_small x h = g.owned.small x (λ e. cc)

  gone_other : (x : ℕ) → w.status x ≡ Gone → 0 ≢ x
  gone_other x h i = (let a = g.tree.anchored in let e : w.status x ≡ Anchored = ap w.status (sym i) ∙ a in cc)

  -- from any page that it may get
  page_near : (p : Name) (x : ℕ) → MayGet w p x → Near w.now.contents k (At x) (2 * w.size)
  page_near p x may = elim (live_or_gone (w.status x) may.was) [
    | inl l ↦ (let n = live_near x l in let few = n.few in let some = anchor_small in record { gets = n.gets; ahead = n.ahead; few = omega arith })
    | inr gone ↦
        let r = buried w.now.clock p x may gone (λ t e. omega arith) in
        let short : suc (suc (length r.rest)) ≤ w.size =
        at_most w.size (0 ∷ x ∷ r.rest)
        ((gone_other x gone, none_each (λ y. w.status y ≡ Gone) 0 r.rest gone_other r.dead), r.once)
        (anchor_small, (gone_small x gone, each_map (λ y. w.status y ≡ Gone) (λ y. y < w.size) r.rest gone_small r.dead)) in
        let count = r.count in
        let few = r.few in
        record { gets = r.gets; ahead = r.ahead; few = omega arith }
  ]

  -- from wherever a search may be
  pub descent_near : (p : Name) (d : Descent) → Each (IsGoes w p) (descent_goes d) → Near w.now.contents k d (2 * w.size)
  descent_near p AtAnchor goes = (let t = anchor_near in let few = t.few in record { gets = t.gets; ahead = t.ahead; few = omega arith })
  descent_near p (At x) goes = page_near p x goes.0.may

  -- from where a search begins that has looked at a page
  pub probed_near : (x : ℕ) (free : Bool) → (free ≡ true → w.now.owner x ≡ Owner.Open) → Near w.now.contents k (way_by x free) w.size
  probed_near zero free observed = anchor_near
  probed_near (suc x) false observed = anchor_near
  probed_near (suc x) true observed = live_near (suc x) (elim (g.owned.opened (suc x) (observed refl)) [
    | inl h ↦ rw h live_live
    | inr h ↦ absurd (let z = g.owned.one_anchor (suc x) h in omega (arith, z))
  ])
