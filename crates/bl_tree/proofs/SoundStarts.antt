-- Sound pages are a tree.
use Rattle.std.proofs.Common.{ℕ, ◌≡◌, ◌≢◌, ◌⊎◌, ◌≤◌, ◌<◌, ◌+◌, ◌==◌, Bool, true, false, if◌then◌else◌, Some, None, zero, suc, arith, ap, sym, ◌∙◌, refl, inl, inr}
use Rattle.std.specs.Prelude.{nat_lt}
use Rattle.std.proofs.lemmas.Bool.{cases_eq, cases_lt, false≢true}
use Rattle.std.proofs.lemmas.Bool.Decides.{nat_tests}
use Rattle.bl_page.specs.Nodes.{Node, Covers, Roots, unbounded}
use Rattle.bl_tree.specs.Starts.{IsReached, AreSound, found, start_map}
use Rattle.bl_tree.specs.Starts.IsReached.{Here, Next}
use Rattle.bl_tree.specs.Trees.{Status, is_live, IsLive, Tree, IsTree}
use Rattle.bl_tree.specs.Trees.Status.{Free, Live, Left, Right, Uprooted, Anchored}
use Rattle.bl_tree.proofs.Statuses.{live_live, free_dead, anchored_dead}

-- where each page stands
abbrev pub start_status : (ℕ → Bool) → ℕ → Status
start_status live x = if x == 0 then Anchored else if live x then Live else Free

abbrev pub start_tree : (ℕ → Bool) → (ℕ → Node) → Roots → Tree
start_tree live node roots = record { node = node; roots = roots; status = start_status live; sep = λ x. (node x).shape.low; map = start_map node roots }

pub if_lt : {A : Type 0} (a b : ℕ) (x y : A) → a < b → (if nat_lt a b then x else y) ≡ x
if_lt a b x y h = grind (arith, nat_tests)

pub if_ge : {A : Type 0} (a b : ℕ) (x y : A) → b ≤ a → (if nat_lt a b then x else y) ≡ y
if_ge a b x y h = grind (arith, nat_tests)

pub bool_cases : (b : Bool) → (b ≡ true) ⊎ (b ≡ false)
bool_cases true = inl refl
bool_cases false = inr refl

pub start_zero : (live : ℕ → Bool) → start_status live 0 ≡ Anchored
start_zero live = refl

pub start_live : (live : ℕ → Bool) (x : ℕ) → live 0 ≡ false → live x ≡ true → start_status live x ≡ Live
start_live live x z h = elim (cases_eq x 0) [
  | inl i ↦ absurd (false≢true (sym z ∙ (ap live (sym i) ∙ h)))
  | inr i ↦ grind arith
]

start_kinds : (live : ℕ → Bool) (x : ℕ) → (start_status live x ≡ Anchored) ⊎ ((start_status live x ≡ Free) ⊎ ((start_status live x ≡ Live) × (live x ≡ true)))
start_kinds live x = elim (cases_eq x 0) [
  | inl i ↦ inl (grind arith)
  | inr i ↦ elim (bool_cases (live x)) [
    | inl h ↦ inr (inr (grind arith, h))
    | inr h ↦ inr (inl (grind arith))
  ]
]

pub alive : (live : ℕ → Bool) (x : ℕ) → IsLive (start_status live x) → live x ≡ true
alive live x h = elim (start_kinds live x) [
  | inl e ↦ absurd (false≢true (sym anchored_dead ∙ (ap is_live (sym e) ∙ h)))
  | inr r ↦ elim r [
    | inl e ↦ absurd (false≢true (sym free_dead ∙ (ap is_live (sym e) ∙ h)))
    | inr e ↦ e.1
  ]
]

pub none_paired : (live : ℕ → Bool) (x y : ℕ) → (start_status live x ≢ Left y) × (start_status live x ≢ Right y)
none_paired live x y = elim (start_kinds live x) [
  | inl e ↦ (λ f. cc, λ f. cc)
  | inr r ↦ elim r [
    | inl e ↦ (λ f. cc, λ f. cc)
    | inr e ↦ (λ f. cc (e.0), λ f. cc (e.0))
  ]
]

pub none_uprooted : (live : ℕ → Bool) (x : ℕ) → start_status live x ≢ Uprooted
none_uprooted live x f = elim (start_kinds live x) [
  | inl e ↦ cc
  | inr r ↦ elim r [
    | inl e ↦ cc
    | inr e ↦ cc (e.0)
  ]
]

module _ (live : ℕ → Bool) (node : ℕ → Node) (roots : Roots) (g : AreSound live node roots) where
  -- further on a chain every key is above
  further : (x y : ℕ) → live x ≡ true → IsReached node x y → (y ≡ x) ⊎ ((node x).shape.end ≤ (node y).shape.low)
  further x y h Here = inl refl
  further x y h (Next e r) =
      let n = g.linked x h e in
      let w = g.wide (node x).shape.right n.0 in
      elim (further (node x).shape.right y n.0 r) [
        | inl i ↦ inr (let f : (node y).shape.low ≡ (node (node x).shape.right).shape.low = ap (λ v. (node v).shape.low) i in omega (arith, n.1, n.2))
        | inr m ↦ inr (omega (arith, n.1, n.2))
      ]

  apart : (a x y k : ℕ) → live a ≡ true → IsReached node a x → IsReached node a y → Covers (node x).shape k → Covers (node y).shape k → x ≡ y
  apart a x y k h Here s c d = elim (further a y h s) [ inl i ↦ sym i | inr m ↦ absurd (omega (arith, c.1, d.0)) ]
  apart a x y k h (Next e r) Here c d = elim (further a x h (Next e r)) [ inl i ↦ i | inr m ↦ absurd (omega (arith, c.0, d.1)) ]
  apart a x y k h (Next e r) (Next f s) c d = apart (node a).shape.right x y k (g.linked a h e).0 r s c d

  -- the page that is found covers the key
  found_covers : (n x k : ℕ) → live x ≡ true → (node x).shape.low ≤ k → k < unbounded → k < (node x).shape.end + n → (live (found node n x k) ≡ true) × ((node (found node n x k)).shape.level ≡ (node x).shape.level) × Covers (node (found node n x k)).shape k
  found_covers zero x k h low b far = (h, refl, (low, omega arith))
  found_covers (suc n) x k h low b far = elim (cases_lt k (node x).shape.end) [
    | inl c ↦ rw (if_lt k (node x).shape.end x (found node n (node x).shape.right k) c) (h, refl, (low, c))
    | inr c ↦
        let l = g.linked x h (omega arith) in
        let w = g.wide (node x).shape.right l.0 in
        let r = found_covers n (node x).shape.right k l.0 (omega (arith, l.2)) b (omega (arith, l.2)) in
        rw (if_ge k (node x).shape.end x (found node n (node x).shape.right k) c) (r.0, r.1 ∙ l.1, r.2)
  ]

  pub map_says : (l k : ℕ) → l < roots.levels → k < unbounded → (y : ℕ) × (live y ≡ true) × ((node y).shape.level ≡ l) × Covers (node y).shape k × (start_map node roots l k ≡ (node y).look k)
  map_says l k h b =
      let o = g.leftmost l h in
      let r = found_covers (suc k) (roots.leftmost l) k o.0 (omega (arith, o.2)) b (omega arith) in
      (found node (suc k) (roots.leftmost l) k, r.0, r.1 ∙ o.1, r.2, if_lt l roots.levels _ None h ∙ if_lt k unbounded _ None b)

  map_listed : (l k c : ℕ) → start_map node roots (suc l) k ≡ Some c → (live c ≡ true) × ((node c).shape.level ≡ l) × ((node c).shape.low ≡ k)
  map_listed l k c h = elim (cases_lt (suc l) roots.levels) [
    | inl i ↦ elim (cases_lt k unbounded) [
      | inl j ↦
          let m = map_says (suc l) k i j in
          let look : (node m.0).look k ≡ Some c = sym m.4 ∙ h in
          let o = g.children m.0 k c m.1 (omega (arith, m.2)) look in
          (o.0, omega (arith, o.1, m.2), o.2)
      | inr j ↦ absurd (let e : start_map node roots (suc l) k ≡ None = if_lt (suc l) roots.levels _ None i ∙ if_ge k unbounded _ None j in cc)
    ]
    | inr i ↦ absurd (let e : start_map node roots (suc l) k ≡ None = if_ge (suc l) roots.levels _ None i in cc)
  ]

  -- sound pages are a tree
  pub sound_tree : IsTree unbounded (start_tree live node roots)
  sound_tree =
      let is_live_page : (x : ℕ) → live x ≡ true → IsLive (start_status live x) = λ x h. rw (start_live live x g.anchor h) live_live in
      record {
        side = record {
          wide = λ x h. g.wide x (alive live x h);
          within = λ x h. g.within x (alive live x h);
          last = λ x h. g.last x (alive live x h);
          link_live = λ x h e. is_live_page _ (g.linked x (alive live x h) e).0;
          link_level = λ x h e. (g.linked x (alive live x h) e).1;
          link_low = λ x h e. let o = g.linked x (alive live x h) e in omega (arith, o.2);
          link_rise = λ x h e. let o = g.linked x (alive live x h) e in let w = g.wide _ o.0 in omega (arith, o.2);
          link_same = λ x h e n. (g.linked x (alive live x h) e).2;
          left = λ x y h. absurd ((none_paired live x y).0 h);
          right = λ x y h. absurd ((none_paired live y x).1 h);
          apart = λ x y k h i l c d m n.
              let a = alive live x h in
              let b = alive live y i in
              let r = g.on_chain x a in
              let s = g.on_chain y b in
              apart (roots.leftmost (node x).shape.level) x y k (g.leftmost (node x).shape.level r.0).0 r.1 (rw l s.1) c d;
          sep_low = λ x h. omega arith;
          sep_same = λ x h n. refl;
        };
        agree = λ x k h c.
            let a = alive live x h in
            let r = g.on_chain x a in
            let within = g.within x a in
            let m = map_says (node x).shape.level k r.0 (omega (arith, c.1)) in
            let s = g.on_chain m.0 m.1 in
            let same : x ≡ m.0 = apart (roots.leftmost (node x).shape.level) x m.0 k (g.leftmost (node x).shape.level r.0).0 r.1 (rw m.2 at s.1) c m.3 in
            ap (λ y. (node y).look k) same ∙ sym m.4;
        listed = λ l k c h. let o = map_listed l k c h in record { alive = is_live_page c o.0; level_is = o.1; sep_is = o.2 };
        anchored = start_zero live;
        some_level = g.some_level;
        few_levels = g.few_levels;
        leftmost = λ l h. let o = g.leftmost l h in record { alive = is_live_page _ o.0; level_is = o.1; sep_is = o.2 };
        below = λ x h n. (g.on_chain x (alive live x h)).0;
        uprooted = λ x h. absurd (none_uprooted live x h);
        empty = λ l k c h e. absurd (let f : start_map node roots l k ≡ None = if_ge l roots.levels _ None h in cc);
      }
