-- The invariant implies the laws of the tree.
use Rattle.std.proofs.Common.{ℕ, ◌≡◌, ◌≢◌, ◌⊎◌, ◌≤◌, ◌<◌, ◌+◌, zero, suc, List, [], ◌∷◌, ◌-◌, subst, arith, ap, sym, ◌∙◌, refl, inl, inr}
use Rattle.std.proofs.lemmas.Bool.{cases_eq, cases_lt}
use Rattle.bl_claims.specs.Snapshots.{Snapshot}
use Rattle.bl_page.specs.Nodes.{unbounded}
use Rattle.bl_claims.specs.Laws.{Agreement, Overlap, IsLinked, IsChain, HasChain, IsListed, Listing}
use Rattle.bl_tree.specs.Trees.{Status, IsLive, Tree, IsTree}
use Rattle.bl_tree.specs.SoundNodes.{AllSound}
use Rattle.bl_tree.specs.Trees.Status.{Free, Fresh, Live, Left, Right, Uprooted, Gone, Anchored}

abbrev pub live : Tree → ℕ → Type 0
live t x = IsLive (t.status x)

-- the tree, where these pages are in the middle of a compression, and these in the middle of an evening
abbrev pub snapshot : Tree → (ℕ → ℕ → Type 0) → (ℕ → Type 0) → Snapshot
snapshot t Middle Evened = record { live = live t; node = t.node; roots = t.roots; middle = Middle; evened = Evened }

-- the pages that are in the middle of a compression are known to be, and those in the middle of an evening
pub record KnowsMiddles (t : Tree) (Middle : ℕ → ℕ → Type 0) (Evened : ℕ → Type 0) : Type 0 where
  pub middle : (x y : ℕ) → t.status y ≡ Right x → Middle x y
  pub evened : (x y : ℕ) → t.status y ≡ Right x → ((t.node y).shape.low ≡ t.sep y) ⊎ Evened y

pub left_of : (s : Status) (y : ℕ) → (s ≡ Left y) ⊎ (s ≢ Left y)
left_of Free y = inr (λ e. cc)
left_of Fresh y = inr (λ e. cc)
left_of Live y = inr (λ e. cc)
left_of (Left m) y = elim (cases_eq m y) [ inl e ↦ inl (ap Left e) | inr n ↦ inr (λ e. n cc) ]
left_of (Right m) y = inr (λ e. cc)
left_of Uprooted y = inr (λ e. cc)
left_of Gone y = inr (λ e. cc)
left_of Anchored y = inr (λ e. cc)

pub right_of : (s : Status) → ((m : ℕ) × (s ≡ Right m)) ⊎ ((y : ℕ) → s ≢ Right y)
right_of Free = inr (λ y e. cc)
right_of Fresh = inr (λ y e. cc)
right_of Live = inr (λ y e. cc)
right_of (Left m) = inr (λ y e. cc)
right_of (Right m) = inl (m, refl)
right_of Uprooted = inr (λ y e. cc)
right_of Gone = inr (λ y e. cc)
right_of Anchored = inr (λ y e. cc)

pub agreement : {top : ℕ} {t : Tree} → IsTree top t → Agreement (snapshot t (λ x y. ⊥) (λ y. ⊥)) (t.map 0)
agreement {t = t} g = λ x k h l c. g.agree x k h c ∙ ap (λ i. t.map i k) l

pub overlap : {top : ℕ} {t : Tree} {Middle : ℕ → ℕ → Type 0} {Evened : ℕ → Type 0} → KnowsMiddles t Middle Evened → IsTree top t → Overlap (snapshot t Middle Evened)
overlap {t = t} m g = λ x y k hx hy l cx cy. elim (left_of (t.status x) y) [
  | inl e ↦ inr (inl (m.middle x y (g.side.left x y e)))
  | inr n ↦ elim (left_of (t.status y) x) [
    | inl e ↦ inr (inr (m.middle y x (g.side.left y x e)))
    | inr o ↦ inl (g.side.apart x y k hx hy l cx cy n (λ i. o (g.side.right y x i)))
  ]
]

linked : {top : ℕ} {t : Tree} {Middle : ℕ → ℕ → Type 0} {Evened : ℕ → Type 0} (x : ℕ) → KnowsMiddles t Middle Evened → IsTree top t → IsLive (t.status x) → (t.node x).shape.end < top → IsLinked (snapshot t Middle Evened) x (t.node x).shape.right
linked {t = t} x m g h e = record {
  right = refl;
  meets = elim (left_of (t.status x) (t.node x).shape.right) [
    | inl i ↦ elim (cases_lt (t.node (t.node x).shape.right).shape.low (t.node x).shape.end) [
      | inl less ↦ inr (less, m.middle x _ (g.side.left x _ i))
      | inr more ↦ inl (let low = g.side.link_low x h e in omega arith)
    ]
    | inr n ↦ inl (sym (g.side.link_same x h e n))
  ];
}

chain : {t : Tree} {Middle : ℕ → ℕ → Type 0} {Evened : ℕ → Type 0} (n x : ℕ) → KnowsMiddles t Middle Evened → IsTree unbounded t → IsLive (t.status x) → unbounded ≤ (t.node x).shape.end + n → (rest : List ℕ) × IsChain (snapshot t Middle Evened) (t.node x).shape.level x rest
chain {t} zero x m g h far = let w = g.side.within x h in let e : (t.node x).shape.end ≡ unbounded = omega arith in ([], (h, refl, e, g.side.last x h e))
chain {t} {Middle} {Evened} (suc n) x m g h far = elim (cases_lt (t.node x).shape.end unbounded) [
  | inl e ↦
      let rise = g.side.link_rise x h e in
      let more = chain n (t.node x).shape.right m g (g.side.link_live x h e) (omega arith) in
      ((t.node x).shape.right ∷ more.0, (h, refl, linked x m g h e, subst (λ l. IsChain (snapshot t Middle Evened) l (t.node x).shape.right more.0) (g.side.link_level x h e) more.1))
  | inr o ↦ let w = g.side.within x h in let e : (t.node x).shape.end ≡ unbounded = omega arith in ([], (h, refl, e, g.side.last x h e))
]

pub has_chain : {t : Tree} {Middle : ℕ → ℕ → Type 0} {Evened : ℕ → Type 0} (level : ℕ) → KnowsMiddles t Middle Evened → IsTree unbounded t → level < t.roots.levels → HasChain (snapshot t Middle Evened) level
has_chain {t} {Middle} {Evened} level m g h =
    let o = g.leftmost level h in
    let low = g.side.sep_low (t.roots.leftmost level) o.alive in
    let c = chain unbounded (t.roots.leftmost level) m g o.alive (omega arith) in
    record { begins = omega (arith, o.sep_is); rest = c.0; chain = subst (λ l. IsChain (snapshot t Middle Evened) l (t.roots.leftmost level) c.0) o.level_is c.1 }

pub listing : {top : ℕ} {t : Tree} {Middle : ℕ → ℕ → Type 0} {Evened : ℕ → Type 0} → KnowsMiddles t Middle Evened → AllSound t → IsTree top t → Listing (snapshot t Middle Evened)
listing {t = t} {Middle = Middle} {Evened = Evened} m s g = λ x k c h above look.
    let l : suc ((t.node x).shape.level - 1) ≡ (t.node x).shape.level = omega arith in
    let o = g.listed ((t.node x).shape.level - 1) k c (rw l (sym (g.agree x k h ((s x h).covered k c look)) ∙ look)) in
    let low = g.side.sep_low c o.alive in
    let sep : t.sep c ≡ k = o.sep_is in
    let at_sep : (t.node c).shape.low ≡ t.sep c → IsListed (snapshot t Middle Evened) (t.node x).shape.level k c = λ e. record { alive = o.alive; lower = ap suc o.level_is ∙ l; low = inl (e ∙ sep) } in
    elim (right_of (t.status c)) [
      | inl r ↦ elim (m.evened r.0 c r.1) [
        | inl e ↦ at_sep e
        | inr e ↦ elim (cases_lt (t.node c).shape.low k) [
          | inl less ↦ record { alive = o.alive; lower = ap suc o.level_is ∙ l; low = inr (less, e) }
          | inr more ↦ at_sep (omega arith)
        ]
      ]
      | inr n ↦ at_sep (g.side.sep_same c o.alive n)
    ]
