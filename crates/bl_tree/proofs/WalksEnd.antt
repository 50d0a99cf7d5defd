-- The lone walk of each key ends at the live leaf that covers it, and meets no page twice.
use Rattle.std.proofs.Common.{length, ◌==◌, if◌then◌else◌, ℕ, ◌≡◌, ◌≢◌, ◌⊎◌, ◌≤◌, ◌<◌, ◌+◌, ◌-◌, Option, Some, None, zero, suc, List, [], ◌∷◌, arith, ap, sym, ◌∙◌, refl, inl, inr}
use Rattle.std.proofs.lemmas.Bool.{cases_eq, cases_lt}
use Rattle.bl_model.specs.Map.{Map}
use Rattle.bl_page.specs.Nodes.{Node, Covers, unbounded, IsChildOf}
use Rattle.bl_claims.specs.Snapshots.{Snapshot}
use Rattle.bl_claims.specs.Walks.{Each, IsWalk, IsNoneOf, NoneTwice, HasLoneWalk}
use Rattle.bl_claims.specs.Walks.IsWalk.{Ends, Right, Down}
use Rattle.bl_tree.specs.Trees.{Tree, IsTree}
use Rattle.bl_tree.specs.SoundNodes.{AllSound}
use Rattle.bl_tree.proofs.LawsHold.{live, snapshot}

some_or_none : (o : Option ℕ) → ((c : ℕ) × (o ≡ Some c)) ⊎ (o ≡ None)
some_or_none (Some c) = inl (c, refl)
some_or_none None = inr refl

-- a key has a child where some key that is not above it is listed
pub record HasChild (look : Map) (low k : ℕ) : Type 0 where
  pub child : ℕ
  pub of : IsChildOf look k child
  pub above : low ≤ of.key

pub has_child : (look : Map) (low c : ℕ) → look low ≡ Some c → (n k : ℕ) → k ≡ low + n → HasChild look low k
has_child look low c h zero k e = record { child = c; of = record { key = low; listed = h; reached = omega arith; greatest = λ j o f le. omega arith }; above = omega arith }
has_child look low c h (suc n) k e = elim (some_or_none (look k)) [
  | inl s ↦ record { child = s.0; of = record { key = k; listed = s.1; reached = omega arith; greatest = λ j o f le. le }; above = omega arith }
  | inr s ↦
      let r = has_child look low c h n (k - 1) (omega arith) in
      let reached = r.of.reached in
      record {
        child = r.child;
        of = record {
          key = r.of.key;
          listed = r.of.listed;
          reached = omega arith;
          greatest = λ j o f le. elim (cases_eq j k) [ inl i ↦ absurd (let g : look k ≡ Some o = rw i at f in cc) | inr i ↦ r.of.greatest j o f (omega arith) ];
        };
        above = r.above;
      }
]

-- y comes after x in a walk: further down, or further right
abbrev pub After : (ℕ → Node) → ℕ → ℕ → Type 0
After node x y = ((node y).shape.level < (node x).shape.level) ⊎ (((node y).shape.level ≡ (node x).shape.level) × ((node x).shape.end < (node y).shape.end))

After-trans : (node : ℕ → Node) (x y z : ℕ) → After node x y → After node y z → After node x z
After-trans node x y z a b = elim a [
  | inl p ↦ elim b [ inl q ↦ inl (omega arith) | inr q ↦ inl (omega (arith, q.0)) ]
  | inr p ↦ elim b [ inl q ↦ inl (omega (arith, p.0)) | inr q ↦ inr (q.0 ∙ p.0, omega (arith, p.1, q.1)) ]
]

all_after : (node : ℕ → Node) (x y : ℕ) (zs : List ℕ) → After node x y → Each (After node y) zs → Each (After node x) zs
all_after node x y [] a h = tt
all_after node x y (z ∷ zs) a h = (After-trans node x y z a h.0, all_after node x y zs a h.1)

After-not : (node : ℕ → Node) (x y : ℕ) → After node x y → x ≢ y
After-not node x y a i = elim a [
  | inl p ↦ absurd (let e : (node x).shape.level ≡ (node y).shape.level = ap (λ v. (node v).shape.level) i in omega arith)
  | inr p ↦ absurd (let e : (node x).shape.end ≡ (node y).shape.end = ap (λ v. (node v).shape.end) i in omega (arith, p.1))
]

none_of : (node : ℕ → Node) (x : ℕ) (ys : List ℕ) → Each (After node x) ys → IsNoneOf x ys
none_of node x [] h = tt
none_of node x (y ∷ ys) h = (After-not node x y h.0, none_of node x ys h.1)

-- a walk from x on
pub record Walked (t : Tree) (k x : ℕ) : Type 0 where
  pub rest : List ℕ
  pub leaf : ℕ
  pub walk : IsWalk t.node k x (x ∷ rest) leaf
  pub begins : live t x
  pub lives : Each (live t) rest
  pub alive : live t leaf
  pub is_leaf : (t.node leaf).shape.level ≡ 0
  pub covers : Covers (t.node leaf).shape k
  pub after : Each (After t.node x) rest
  pub once : NoneTwice rest

step : {t : Tree} {k : ℕ} (x y : ℕ) → live t x → After t.node x y → (w : Walked t k y) → IsWalk t.node k x (x ∷ y ∷ w.rest) w.leaf → Walked t k x
step {t = t} x y h a w walk = record {
  rest = y ∷ w.rest;
  leaf = w.leaf;
  walk = walk;
  begins = h;
  lives = (w.begins, w.lives);
  alive = w.alive;
  is_leaf = w.is_leaf;
  covers = w.covers;
  after = (a, all_after t.node x y w.rest a w.after);
  once = (none_of t.node y w.rest w.after, w.once);
}

down : {t : Tree} {k : ℕ} (x c : ℕ) → live t x → 0 < (t.node x).shape.level → Covers (t.node x).shape k → IsChildOf (t.node x).look k c → (t.node c).shape.level < (t.node x).shape.level → Walked t k c → Walked t k x
down x c h above covers of lower w = step x c h (inl lower) w (Down {pages = c ∷ w.rest} above covers of w.walk)

-- Right steps end at the live page of the level that covers the key; from there the walk is known.
right_walk : {top : ℕ} {t : Tree} (k l n x : ℕ) → IsTree top t → k < top → ((z : ℕ) → live t z → (t.node z).shape.level ≡ l → Covers (t.node z).shape k → Walked t k z) → live t x → (t.node x).shape.level ≡ l → (t.node x).shape.low ≤ k → k < (t.node x).shape.end + n → Walked t k x
right_walk k l zero x g b from h level low far = from x h level (low, omega arith)
right_walk {top} {t} k l (suc n) x g b from h level low far = elim (cases_lt k (t.node x).shape.end) [
  | inl c ↦ from x h level (low, c)
  | inr c ↦
      let e : (t.node x).shape.end < top = omega arith in
      let rise = g.side.link_rise x h e in
      let next = g.side.link_low x h e in
      let same = g.side.link_level x h e in
      let w = right_walk k l n (t.node x).shape.right g b from (g.side.link_live x h e) (same ∙ level) (omega arith) (omega arith) in
      step x (t.node x).shape.right h (inr (same, rise)) w (Right c w.walk)
]

-- from any live page whose low is not above the key
pub walk_from : {top : ℕ} {t : Tree} (k l x : ℕ) → IsTree top t → AllSound t → k < top → live t x → (t.node x).shape.level ≡ l → (t.node x).shape.low ≤ k → Walked t k x
walk_from {t = t} k zero x g s b h level low = right_walk k 0 (suc k) x g b (λ z i e c. record { rest = []; leaf = z; walk = Ends e c; begins = i; lives = tt; alive = i; is_leaf = e; covers = c; after = tt; once = tt }) h level low (omega arith)
walk_from {t = t} k (suc l) x g s b h level low = right_walk k (suc l) (suc k) x g b (λ z i e c.
    let above : 0 < (t.node z).shape.level = omega arith in
    let f = (s z i).first above in
    let c_low = c.0 in
    let r = has_child (t.node z).look (t.node z).shape.low f.0 f.1 (k - (t.node z).shape.low) k (omega arith) in
    let reached = r.of.reached in
    let r_above = r.above in
    let listed : t.map (suc l) r.of.key ≡ Some r.child = rw (← e) (sym (g.agree z r.of.key i (r_above, omega (arith, c.1))) ∙ r.of.listed) in
    let o = g.listed l r.of.key r.child listed in
    let child_low = g.side.sep_low r.child o.alive in
    down z r.child i above c r.of (omega (arith, o.level_is)) (walk_from k l r.child g s b o.alive o.level_is (omega (arith, o.sep_is)))) h level low (omega arith)

pub lone_walk : {t : Tree} (k : ℕ) → IsTree unbounded t → AllSound t → k < unbounded → HasLoneWalk (snapshot t (λ x y. ⊥) (λ y. ⊥)) k
lone_walk {t} k g s b =
    let some = g.some_level in
    let o = g.leftmost (t.roots.levels - 1) (omega arith) in
    let x = t.roots.leftmost (t.roots.levels - 1) in
    let low = g.side.sep_low x o.alive in
    let w = walk_from k (t.roots.levels - 1) x g s b o.alive o.level_is (omega (arith, o.sep_is)) in
    record {
      top_level = t.roots.levels - 1;
      is_top = omega arith;
      pages = x ∷ w.rest;
      leaf = w.leaf;
      walk = w.walk;
      all_live = (w.begins, w.lives);
      alive = w.alive;
      is_leaf = w.is_leaf;
      covers = w.covers;
      once = (none_of t.node x w.rest w.after, w.once);
    }

-- pages without one of them
without : ℕ → List ℕ → List ℕ
without n [] = []
without n (x ∷ xs) = if x == n then xs else x ∷ without n xs

none_without : (n x : ℕ) (xs : List ℕ) → IsNoneOf x xs → IsNoneOf x (without n xs)
unfolding without
none_without n x [] h = tt
none_without n x (y ∷ ys) h = elim (cases_eq y n) [
  | inl e ↦ (let f : (if y == n then ys else y ∷ without n ys) ≡ ys = grind arith in rw f h.1)
  | inr e ↦ (let f : (if y == n then ys else y ∷ without n ys) ≡ y ∷ without n ys = grind arith in rw f (h.0, none_without n x ys h.1))
]

-- and then they are below n, where they were at most n
below_without : (n : ℕ) (xs : List ℕ) → NoneTwice xs → Each (λ x. x < suc n) xs → NoneTwice (without n xs) × Each (λ x. x < n) (without n xs) × (length xs ≤ suc (length (without n xs)))
unfolding without
below_without n [] h b = (tt, tt, omega arith)
below_without n (y ∷ ys) h b = elim (cases_eq y n) [
  | inl e ↦ (let f : (if y == n then ys else y ∷ without n ys) ≡ ys = grind arith in rw f (h.1, others ys (rw e at h.0) b.1, omega arith))
  | inr e ↦
      let f : (if y == n then ys else y ∷ without n ys) ≡ y ∷ without n ys = grind arith in
      let r = below_without n ys h.1 b.1 in
      rw f ((none_without n y ys h.0, r.0), (omega (arith, b.0), r.1), omega (arith, r.2))
]
  where
    others : (zs : List ℕ) → IsNoneOf n zs → Each (λ x. x < suc n) zs → Each (λ x. x < n) zs
    others [] i c = tt
    others (z ∷ zs) i c = (omega (arith, c.0, i.0), others zs i.1 c.1)

-- as many different pages as there are numbers, at most
pub at_most : (n : ℕ) (xs : List ℕ) → NoneTwice xs → Each (λ x. x < n) xs → length xs ≤ n
at_most zero [] h b = omega arith
at_most zero (x ∷ xs) h b = absurd (omega (arith, b.0))
at_most (suc n) xs h b = let r = below_without n xs h b in let i = at_most n (without n xs) r.0 r.1 in omega (arith, r.2)

-- so a lone walk has no more pages than there are
pub walk_is_short : {t : Snapshot} {k : ℕ} (n : ℕ) (w : HasLoneWalk t k) → ((x : ℕ) → t.live x → x < n) → length w.pages ≤ n
walk_is_short {t = t} n w small = at_most n w.pages w.once (each w.pages w.all_live)
  where
    each : (xs : List ℕ) → Each t.live xs → Each (λ x. x < n) xs
    each [] h = tt
    each (x ∷ xs) h = (small x h.0, each xs h.1)
