-- A world in which nothing has happened is good.
use Rattle.std.proofs.Common.{true, false, ℕ, ◌≡◌, ◌≢◌, ◌⊎◌, [], sym, ◌∙◌, inl, inr, ◌<◌, ◌==◌, Bool, Some, None, length, get_or, arith, ap, refl}
use Rattle.bl_model.specs.declared.operation.Reply.{Reply}
use Rattle.bl_page.specs.Machine.{Name, Act, Owner, State}
use Rattle.bl_page.specs.Machine.Owner.{Released}
use Rattle.bl_page.specs.Machine.Phase.{Waiting}
use Rattle.bl_model.specs.Rows.{map_of}
use Rattle.bl_page.specs.Pairs.{end_of}
use Rattle.bl_page.specs.Nodes.{Node, Roots, unbounded, node_of, roots_of}
use Rattle.bl_tree.specs.Trees.{Status}
use Rattle.bl_tree.specs.Trees.Status.{Free, Fresh, Live, Right, Uprooted, Gone, Anchored}
use Rattle.bl_claims.specs.Trails.{DoesAt, SaysAt}
use Rattle.bl_tree_worlds.specs.Worlds.{Know, World, IsSure, IsBounded, IsGood}
use Rattle.bl_page.specs.declared.page.Page.{Page}
use Rattle.std.proofs.lemmas.Bool.{cases_eq, cases_lt}
use Rattle.std.proofs.lemmas.Bool.Decides.{nat_tests}
use Rattle.bl_tree.proofs.Opening.{empty_leaf, opens}
use Rattle.bl_tree.specs.Starts.{AreSound, start_map}
use Rattle.bl_tree.proofs.SoundStarts.{start_status, start_live, sound_tree, bool_cases}
use Rattle.bl_tree_worlds.specs.Blank.{IsBlank, IsStart}
use Rattle.bl_claims.specs.Opening.{Opening}

nothing_does : (i : ℕ) (p : Name) (act : Act _ Reply) → DoesAt [] i p act → ⊥
nothing_does i p act h = let e = h.is in cc

nothing_says : (i : ℕ) (p : Name) (said : _) → SaysAt [] i p said → ⊥
nothing_says i p said h = let e = h.is in cc

status_of : {P : Type 0} (know : P → Know) (w : World P) (x : ℕ) → IsStart know w → (w.status x ≡ Live) ⊎ ((w.status x ≡ Anchored) ⊎ (w.status x ≡ Free))
status_of know w x s = elim (s.owned x) [
  | inl o ↦ elim o.1 [ inl l ↦ inl l | inr a ↦ inr (inl a) ]
  | inr o ↦ inr (inr o.1)
]

blank_sure : {P : Type 0} (know : P → Know) (w : World P) (p : Name) → IsStart know w → IsSure w p (know (w.proc p))
blank_sure know w p s =
    let b = s.blank p in
    record {
      stage = rw b.stage (s.waiting p);
      said = rw (b.said, s.trail) (λ i said h. nothing_says i p said h);
      holds = rw b.holds tt;
      goes = rw b.goes tt;
      children = rw b.children tt;
      passed = rw b.passed tt;
      sound = b.sound;
    }

pub starts_good : {P : Type 0} (know : P → Know) (w : World P) → IsStart know w → IsGood know w
starts_good know w s =
    let not : (x : ℕ) (a : Status) → w.status x ≡ a → Live ≢ a → Anchored ≢ a → w.status x ≡ Free = λ x a h l n. elim (status_of know w x s) [
      | inl e ↦ absurd (l (sym e ∙ h))
      | inr r ↦ elim r [ inl e ↦ absurd (n (sym e ∙ h)) | inr e ↦ e ]
    ] in
    record {
      tree = s.tree;
      owned = record {
        released = λ x h. elim (s.owned x) [ inl o ↦ (let e = o.0 in cc) | inr o ↦ o.1 ];
        free = λ x h. elim (s.owned x) [ inl o ↦ elim o.1 [ inl l ↦ cc | inr a ↦ cc ] | inr o ↦ o.0 ];
        opened = λ x h. elim (s.owned x) [ inl o ↦ o.1 | inr o ↦ (let e = o.0 in cc) ];
        retired = λ x t h. elim (s.owned x) [ inl o ↦ (let e = o.0 in absurd cc) | inr o ↦ (let e = o.0 in absurd cc) ];
        held = λ x p h. elim (s.owned x) [ inl o ↦ (let e = o.0 in absurd cc) | inr o ↦ (let e = o.0 in absurd cc) ];
        small = s.small;
        one_anchor = s.one_anchor;
        uprooted = λ x h. (let e = not x Uprooted h (λ v. cc) (λ v. cc) in absurd cc);
      };
      recorded = record {
        leads = rw s.trail s.start;
        marked = rw s.trail (record {
          points = λ i p said h. absurd (nothing_says i p said h);
          once = λ i j p said other h k. absurd (nothing_says i p said h);
          answered = λ i p answer h. absurd (nothing_does i p (Act.End answer) h);
        });
        phases = λ p. rw (s.trail, s.waiting p) (λ i h. nothing_does i p Act.Begin h, λ i a h. nothing_does i p (Act.End a) h);
        legal = rw s.trail tt;
        map = rw s.trail s.map;
        since = λ p since h. (let e = s.waiting p in absurd cc);
      };
      bounded = s.bounded;
      names = record {
        fresh = λ y h. (let e = not y Fresh h (λ v. cc) (λ v. cc) in absurd cc);
        named = λ y h f. elim (s.owned y) [ inl o ↦ (let e = o.0 in let k = f.held in cc) | inr o ↦ (let e = o.0 in let k = f.held in cc) ];
      };
      gone = λ x h. (let e = not x Gone h (λ v. cc) (λ v. cc) in absurd cc);
      middles = λ x y h. (let e = not y (Right x) h (λ v. cc) (λ v. cc) in absurd cc);
      sure = λ p. blank_sure know w p s;
    }

-- the world that begins there
abbrev pub opening_world : {P : Type 0} → State Page → ℕ → (Name → P) → World P
opening_world now size proc = record {
  start = now;
  first = λ k. None;
  size = size;
  now = now;
  trail = [];
  proc = proc;
  status = start_status (λ x. x == 1);
  sep = λ x. 0;
  map = λ l k. None;
}

-- its tree, by the fields of its pages
opening_leaf : (now : State Page) → Opening now → node_of (now.contents 1) ≡ empty_leaf
opening_leaf now o =
    let l = o.leaf in
    ap node_of l.1 ∙ (λ i. record { shape = record { level = 0; low = l.2 i; end = end_of (l.3 i); right = l.4 i }; look = map_of (l.5 i) })

opening_roots : (now : State Page) → Opening now → ((roots_of (now.contents 0)).levels ≡ 1) × ((roots_of (now.contents 0)).leftmost 0 ≡ 1)
opening_roots now o =
    let a = o.anchor in
    (ap (λ c. (roots_of c).levels) a.1 ∙ ap length a.2, ap (λ c. (roots_of c).leftmost 0) a.1 ∙ ap (λ z. get_or z 0 0) a.2)

pub opening_good : {P : Type 0} (know : P → Know) (now : State Page) (size : ℕ) (proc : Name → P) → 1 < size → Opening now → ((p : Name) → IsBlank (know (proc p))) → IsGood know (opening_world now size proc)
opening_good know now size proc wide o blank =
    let live : ℕ → Bool = λ x. x == 1 in
    let free : (x : ℕ) → x ≢ 0 → x ≢ 1 → start_status (λ x. x == 1) x ≡ Free = λ x a b. grind arith in
    starts_good know (opening_world now size proc) (record {
      start = refl;
      trail = refl;
      waiting = o.waiting;
      tree = opens (λ x. node_of (now.contents x)) (roots_of (now.contents 0)) (opening_leaf now o) (opening_roots now o).0 (opening_roots now o).1;
      map = λ k. refl;
      bounded = λ k v h. absurd (let e : None ≡ Some v = h in cc);
      owned = λ x. elim (cases_eq x 0) [
        | inl i ↦ inl (rw i o.anchor_open, inr (rw i refl))
        | inr i ↦ elim (cases_eq x 1) [
          | inl j ↦ inl (rw j o.leaf_open, inl (rw j refl))
          | inr j ↦ inr (o.others x i j, free x i j)
        ]
      ];
      small = λ x h. elim (cases_eq x 0) [
        | inl i ↦ omega arith
        | inr i ↦ elim (cases_eq x 1) [ inl j ↦ omega arith | inr j ↦ absurd (h (free x i j)) ]
      ];
      one_anchor = λ x h. elim (cases_eq x 0) [
        | inl i ↦ i
        | inr i ↦ elim (cases_eq x 1) [
          | inl j ↦ absurd (let e : Live ≡ Anchored = sym (ap (start_status (λ x. x == 1)) j) ∙ h in cc)
          | inr j ↦ absurd (let e : Free ≡ Anchored = sym (free x i j) ∙ h in cc)
        ]
      ];
      blank = blank;
    })

-- The world of sound pages: page 0 and the live pages are open, all others released.
pub record Sound (live : ℕ → Bool) (now : State Page) (size : ℕ) : Type 0 where
  pub pages : AreSound live (λ x. node_of (now.contents x)) (roots_of (now.contents 0))
  pub anchor_open : now.owner 0 ≡ Owner.Open
  pub live_open : (x : ℕ) → live x ≡ true → now.owner x ≡ Owner.Open
  pub others : (x : ℕ) → x ≢ 0 → live x ≡ false → now.owner x ≡ Released
  pub small : (x : ℕ) → live x ≡ true → x < size
  pub some : 0 < size
  pub waiting : (p : Name) → now.phase p ≡ Waiting

abbrev pub sound_world : {P : Type 0} → (ℕ → Bool) → State Page → ℕ → (Name → P) → World P
sound_world live now size proc = record {
  start = now;
  first = start_map (λ x. node_of (now.contents x)) (roots_of (now.contents 0)) 0;
  size = size;
  now = now;
  trail = [];
  proc = proc;
  status = start_status live;
  sep = λ x. (node_of (now.contents x)).shape.low;
  map = start_map (λ x. node_of (now.contents x)) (roots_of (now.contents 0));
}

map_bounded : (node : ℕ → Node) (roots : Roots) (l : ℕ) → IsBounded (start_map node roots l)
map_bounded node roots l k v h = elim (cases_lt k unbounded) [
  | inl j ↦ j
  | inr j ↦ absurd (let e : start_map node roots l k ≡ None = grind (arith, nat_tests, j) in cc)
]

pub sound_good : {P : Type 0} (know : P → Know) (live : ℕ → Bool) (now : State Page) (size : ℕ) (proc : Name → P) → Sound live now size → ((p : Name) → IsBlank (know (proc p))) → IsGood know (sound_world live now size proc)
sound_good know live now size proc o blank =
    let kinds : (x : ℕ) → (x ≡ 0) ⊎ (((x ≢ 0) × (live x ≡ true)) ⊎ ((x ≢ 0) × (live x ≡ false))) = λ x. elim (cases_eq x 0) [
      | inl i ↦ inl i
      | inr i ↦ elim (bool_cases (live x)) [ inl h ↦ inr (inl (i, h)) | inr h ↦ inr (inr (i, h)) ]
    ] in
    let free : (x : ℕ) → x ≢ 0 → live x ≡ false → start_status live x ≡ Free = λ x a b. grind arith in
    starts_good know (sound_world live now size proc) (record {
      start = refl;
      trail = refl;
      waiting = o.waiting;
      tree = sound_tree live (λ x. node_of (now.contents x)) (roots_of (now.contents 0)) o.pages;
      map = λ k. refl;
      bounded = map_bounded (λ x. node_of (now.contents x)) (roots_of (now.contents 0)) 0;
      owned = λ x. elim (kinds x) [
        | inl i ↦ inl (rw i o.anchor_open, inr (rw i refl))
        | inr r ↦ elim r [
          | inl j ↦ inl (o.live_open x j.1, inl (start_live live x o.pages.anchor j.1))
          | inr j ↦ inr (o.others x j.0 j.1, free x j.0 j.1)
        ]
      ];
      small = λ x h. elim (kinds x) [
        | inl i ↦ rw i o.some
        | inr r ↦ elim r [ inl j ↦ o.small x j.1 | inr j ↦ absurd (h (free x j.0 j.1)) ]
      ];
      one_anchor = λ x h. elim (kinds x) [
        | inl i ↦ i
        | inr r ↦ elim r [
          | inl j ↦ absurd (let e : Live ≡ Anchored = sym (start_live live x o.pages.anchor j.1) ∙ h in cc)
          | inr j ↦ absurd (let e : Free ≡ Anchored = sym (free x j.0 j.1) ∙ h in cc)
        ]
      ];
      blank = blank;
    })
