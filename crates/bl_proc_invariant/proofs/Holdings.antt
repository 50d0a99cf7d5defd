-- What a post knows of the page that it holds, and one mark more.
use Rattle.std.proofs.Common.{ℕ, ◌≡◌, ◌≢◌, ◌⊎◌, ◌<◌, ◌≤◌, ◌+◌, ◌++◌, List, [], ◌∷◌, Option, None, Some, arith, ap, sym, ◌∙◌, refl, subst, inl, inr, append_assoc, append-nil}
use Rattle.std.specs.Prelude.{Contains}
use Rattle.std.proofs.lemmas.Bool.{cases_eq, cases_lt}
use Rattle.std.proofs.lemmas.List.Elements.{Contains-push, Contains-push_cases}
use Rattle.bl_model.specs.declared.operation.Reply.{Reply}
use Rattle.bl_page.specs.declared.page.Page.{Page}
use Rattle.bl_page.specs.declared.page.Page.TheVariants.{Anchor, Leaf, Inner, Dead}
use Rattle.bl_page.specs.declared.machine.Missed.TheVariants as missed
use Rattle.bl_page.specs.Machine.{Act}
use Rattle.bl_page.specs.Machine.Act.{Get, Latch, Miss}
use Rattle.bl_rearrange.specs.declared.fitted.Fitted.TheVariants.{Split}
use Rattle.bl_rearrange.specs.Rearranged.{IsFitted}
use Rattle.bl_page.specs.Nodes.{Covers, node_of}
use Rattle.bl_tree.specs.Moves.{IsRow, IsCut}
use Rattle.bl_tree.proofs.SoundPages.{sound_node}
use Rattle.bl_claims.specs.Trails.{Mark, Trail}
use Rattle.bl_claims.specs.Meanings.{writes_in, writes_of, RaisesOnly, HasRaised, WritesBack, UnderLatch, ListTogether, MeansDone, MeansNoRoom}
use Rattle.bl_tree_worlds.proofs.Meant.{writes_of-append, writes_of-push, got_on, got_last}
use Rattle.bl_proc_invariant.specs.Logs.{Holding, HoldsParent, HoldsBoth, IsToPut}

pub none_of : (mark : Mark) → Contains [] mark → ⊥
none_of mark c = absurd (omega (arith, c.1))

module _ (ms : Trail) (m : Mark) where
  -- the page was latched just now
  pub held_now : {level : ℕ} (x : ℕ) → m.event.act ≡ Latch x → HasRaised level ms → Holding level (ms ++ m ∷ []) x []
  held_now x e first = record { before = ms; first = first; latch = m; during = []; split = refl; latched = e; kept = λ n c. absurd (none_of n c); writes_are = refl }

  -- the page is not opened by this mark, which may write something
  abbrev pub held_on : {level x : ℕ} {acts : List (Act Page Reply)} (more : List (Act Page Reply)) → m.event.act ≢ Act.Open x → writes_in m.event.act ≡ more → Holding level ms x acts → Holding level (ms ++ m ∷ []) x (acts ++ more)
  held_on {level} {x} {acts} more shut put h = record {
    before = h.before;
    first = h.first;
    latch = h.latch;
    during = h.during ++ m ∷ [];
    split = ap (λ z. z ++ m ∷ []) h.split ∙ append_assoc h.before (h.latch ∷ h.during) (m ∷ []);
    latched = h.latched;
    kept = λ n c. elim (Contains-push_cases h.during m n c) [ inl i ↦ h.kept n i | inr e ↦ λ o. shut (ap (λ z. z.event.act) e ∙ o) ];
    writes_are = writes_of-push h.during m ∙ (ap (λ z. z ++ writes_in m.event.act) h.writes_are ∙ ap (λ z. acts ++ z) put);
  }

  pub parent_held_on : {level key x : ℕ} {parent : Page} {acts : List (Act Page Reply)} (more : List (Act Page Reply)) → m.event.act ≢ Act.Open x → writes_in m.event.act ≡ more → HoldsParent level key ms x parent acts → HoldsParent level key (ms ++ m ∷ []) x parent (acts ++ more)
  parent_held_on more shut put h = record { holding = held_on more shut put h.holding; got = got_on h.holding.during m h.got; level_is = h.level_is; covers = h.covers; unlisted = h.unlisted }

  pub both_held_on : {level key x y : ℕ} {parent : Page} {acts : List (Act Page Reply)} (more : List (Act Page Reply)) → m.event.act ≢ Act.Open x → writes_in m.event.act ≡ more → HoldsBoth level key ms x parent y acts → HoldsBoth level key (ms ++ m ∷ []) x parent y (acts ++ more)
  both_held_on more shut put h =
      let a = h.above in
      record {
        above = record { holding = held_on more shut put a.holding; got = got_on a.holding.during m a.got; level_is = a.level_is; covers = a.covers; unlisted = a.unlisted };
        child = h.child;
        got = got_on a.holding.during m h.got;
        below = h.below;
        child_covers = h.child_covers;
        low = h.low;
      }

  -- the child was got just now
  pub child_got : {level key x : ℕ} {parent : Page} {acts : List (Act Page Reply)} (y : ℕ) (c : Page) → m.event.act ≡ Get y → m.saw ≡ Some c → HoldsParent level key ms x parent acts → ((node_of c).shape.level + 1 ≡ level) → Covers (node_of c).shape key → (node_of c).shape.low ≡ key → HoldsBoth level key (ms ++ m ∷ []) x parent y (acts ++ [])
  child_got y c act saw h level_is covers low = record {
    above = record { holding = held_on [] (λ o. (let e = sym act ∙ o in cc)) (ap writes_in act) h.holding; got = got_on h.holding.during m h.got; level_is = h.level_is; covers = h.covers; unlisted = h.unlisted };
    child = c;
    got = got_last h.holding.during m act saw;
    below = omega (arith, level_is);
    child_covers = covers;
    low = low;
  }

  -- the parent was got just now
  pub parent_got : {level key x : ℕ} {acts : List (Act Page Reply)} (c : Page) → m.event.act ≡ Get x → m.saw ≡ Some c → Holding level ms x acts → (node_of c).shape.level ≡ level → Covers (node_of c).shape key → (node_of c).look key ≡ None → HoldsParent level key (ms ++ m ∷ []) x c (acts ++ [])
  parent_got c act saw h level_is covers unlisted = record {
    holding = held_on [] (λ o. (let e = sym act ∙ o in cc)) (ap writes_in act) h;
    got = got_last h.during m act saw;
    level_is = level_is;
    covers = covers;
    unlisted = unlisted;
  }

  -- a reservation was refused while the page was held
  pub refused_while : {level x : ℕ} → m.event.act ≡ Miss missed.Reservation → Holding level ms x [] → MeansNoRoom level (ms ++ m ∷ [])
  refused_while {level} {x} act h = record {
    at = x;
    under = record {
      before = h.before;
      latch = h.latch;
      during = h.during ++ m ∷ [];
      after = [];
      split = ap (λ z. z ++ m ∷ []) h.split ∙ (append_assoc h.before (h.latch ∷ h.during) (m ∷ []) ∙ ap (λ z. h.before ++ h.latch ∷ z) (sym (append-nil (h.during ++ m ∷ []))));
      first = h.first;
      latched = h.latched;
      no_more = refl;
      kept = λ n c. elim (Contains-push_cases h.during m n c) [ inl i ↦ h.kept n i | inr e ↦ λ o. (let f = ap (λ z. z.event.act) e ∙ o in let g = sym act ∙ f in cc) ];
    };
    none = writes_of-push h.during m ∙ (ap (λ z. z ++ writes_in m.event.act) h.writes_are ∙ ap writes_in act);
    mark = m;
    is = Contains-push h.during m;
    refused = act;
  }

-- while the page is held
abbrev pub under : {level : ℕ} {ms : Trail} {x : ℕ} {acts : List (Act Page Reply)} → Holding level ms x acts → UnderLatch level ms x
under {level} {ms} {x} {acts} h = record {
  before = h.before;
  latch = h.latch;
  during = h.during;
  after = [];
  split = h.split ∙ ap (λ z. h.before ++ h.latch ∷ z) (sym (append-nil h.during));
  first = h.first;
  latched = h.latched;
  kept = h.kept;
  no_more = refl;
}

-- while it holds the page and has written nothing there, it has written nothing but new top levels
pub held_raised : {level : ℕ} {ms : Trail} {x : ℕ} → Holding level ms x [] → HasRaised level ms
held_raised {level} h = record {
  earlier = h.first.earlier;
  begin = h.first.begin;
  since = h.first.since ++ h.latch ∷ h.during;
  split = h.split ∙ (ap (λ z. z ++ h.latch ∷ h.during) h.first.split ∙ append_assoc h.first.earlier (h.first.begin ∷ h.first.since) (h.latch ∷ h.during));
  begun = h.first.begun;
  is = subst (RaisesOnly level) (sym (writes_of-append h.first.since (h.latch ∷ h.during)
      ∙ (ap (λ z. writes_of h.first.since ++ (writes_in z ++ writes_of h.during)) h.latched ∙ (ap (λ z. writes_of h.first.since ++ z) h.writes_are ∙ append-nil (writes_of h.first.since))))) h.first.is;
}

-- all that was to be put has been put, as it is to be
pub is_done : {level key x : ℕ} {ms : Trail} (separator : Option ℕ) (acts : List (Act Page Reply)) (pages : List Page) → IsToPut level key ms x acts pages → WritesBack x separator pages acts → MeansDone level key separator ms
is_done {level} {key} {x} {ms} separator acts pages p back =
    let a = p.both.above in
    record {
      parent = record { at = x; under = under a.holding; parent = p.parent; got = a.got; level_is = a.level_is; covers = a.covers };
      child = record { at = p.child; child = p.both.child; got = p.both.got; level_is = p.both.below; covers = p.both.child_covers };
      low = p.both.low;
      pages = pages;
      writes = subst (WritesBack x separator pages) (sym a.holding.writes_are) back;
      lists = p.together;
    }

-- the low of the upper half
pub cut_low : (c left right : Page) (key word new separator : ℕ) → IsFitted c key word new (Split left right separator) → (node_of right).shape.low ≡ separator
cut_low (Leaf c) left (Leaf p) key word new separator f = f.4.0
cut_low (Inner c) left (Inner p) key word new separator f = f.4.1
cut_low old left right key word new separator f = absurd f.4

-- what a page lists it covers
pub covered_in : (c : Page) (j v : ℕ) → (node_of c).look j ≡ Some v → Covers (node_of c).shape j
covered_in (Anchor a) j v e = absurd cc
covered_in (Leaf l) j v e = (sound_node (Leaf l) tt).covered j v e
covered_in (Inner i) j v e = (sound_node (Inner i) tt).covered j v e
covered_in (Dead d) j v e = absurd cc

same_word : (a b : ℕ) → Some a ≡ Some b → b ≡ a
same_word a b e = cc

-- a row more lists what it is to list
pub row_together : (old new : Page) (key child : ℕ) → IsRow key (Some child) (node_of old) (node_of new) → (node_of old).look key ≡ None → ListTogether (new ∷ []) old key child
row_together old new key child r none = record {
  no_other = λ j c page is e. let one : new ≡ page = elim (Contains-push_cases [] new page is) [ inl i ↦ absurd (none_of_pages page i) | inr i ↦ i ] in
      elim (cases_eq j key) [
        | inl i ↦ inr (i, same_word child c (sym (subst (λ z. (node_of new).look z ≡ Some child) (sym i) r.here) ∙ subst (λ z. (node_of z).look j ≡ Some c) (sym one) e))
        | inr n ↦ inl (sym (r.rest j n) ∙ subst (λ z. (node_of z).look j ≡ Some c) (sym one) e)
      ];
  kept = λ j c e. (
    new,
    Contains-push [] new,
    elim (cases_eq j key) [
      | inl i ↦ absurd (let f : (node_of old).look j ≡ None = ap (node_of old).look i ∙ none in let g : Some c ≡ None = sym e ∙ f in cc)
      | inr n ↦ r.rest j n ∙ e
    ],
  );
  listed = (new, Contains-push [] new, r.here);
}
  where
    none_of_pages : (page : Page) → Contains [] page → ⊥
    none_of_pages page c = absurd (omega (arith, c.1))

-- the two halves of a page that was split list what they are to list
pub cut_together : (old left right : Page) (y key child : ℕ) → IsCut y key (Some child) (node_of old) (node_of left) (node_of right) → (node_of old).look key ≡ None → ListTogether (right ∷ left ∷ []) old key child
cut_together old left right y key child r none = record {
  no_other = λ j c page is e. elim (Contains-push_cases (right ∷ []) left page is) [
    | inl i ↦ elim (Contains-push_cases [] right page i) [
      | inl n ↦ absurd (omega (arith, n.1))
      | inr one ↦ in_right j c (subst (λ z. (node_of z).look j ≡ Some c) (sym one) e)
    ]
    | inr one ↦ in_left j c (subst (λ z. (node_of z).look j ≡ Some c) (sym one) e)
  ];
  kept = λ j c e. elim (cases_eq j key) [
    | inl i ↦ absurd (let f : (node_of old).look j ≡ None = ap (node_of old).look i ∙ none in let g : Some c ≡ None = sym e ∙ f in cc)
    | inr n ↦ elim (cases_lt j (node_of right).shape.low) [
      | inl l ↦ (left, Contains-push (right ∷ []) left, r.look j l n ∙ e)
      | inr l ↦ (right, first_in, r.right_look j l n ∙ e)
    ]
  ];
  listed = elim (cases_lt key (node_of right).shape.low) [
    | inl l ↦ (left, Contains-push (right ∷ []) left, r.here l)
    | inr l ↦ (right, first_in, r.right_here l)
  ];
}
  where
    first_in : Contains (right ∷ left ∷ []) right
    first_in = (0, omega arith, refl)

    in_left : (j c : ℕ) → (node_of left).look j ≡ Some c → ((node_of old).look j ≡ Some c) ⊎ ((j ≡ key) × (c ≡ child))
    in_left j c e =
        let low : j < (node_of right).shape.low = (let h = covered_in left j c e in omega (arith, h.1, r.end)) in
        elim (cases_eq j key) [
          | inl i ↦ inr (i, same_word child c (sym (ap (node_of left).look i ∙ r.here (subst (λ z. z < (node_of right).shape.low) i low)) ∙ e))
          | inr n ↦ inl (sym (r.look j low n) ∙ e)
        ]

    in_right : (j c : ℕ) → (node_of right).look j ≡ Some c → ((node_of old).look j ≡ Some c) ⊎ ((j ≡ key) × (c ≡ child))
    in_right j c e =
        let high : (node_of right).shape.low ≤ j = (covered_in right j c e).0 in
        elim (cases_eq j key) [
          | inl i ↦ inr (i, same_word child c (sym (ap (node_of right).look i ∙ r.right_here (subst (λ z. (node_of right).shape.low ≤ z) i high)) ∙ e))
          | inr n ↦ inl (sym (r.right_look j high n) ∙ e)
        ]
