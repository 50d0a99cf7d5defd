-- A process begins, and ends.
use Rattle.std.proofs.Common.{ℕ, ◌≡◌, ◌≢◌, ◌⊎◌, Option, Some, arith, ap, sym, ◌∙◌, refl, inl, inr}
use Rattle.bl_model.specs.declared.operation.Reply.{Reply}
use Rattle.bl_page.specs.Machine.{Name, Owner, Phase, Act, IsAt}
use Rattle.bl_page.specs.Machine.Owner.{Released, Held, Retired}
use Rattle.bl_page.specs.Machine.Act.{Begin, End}
use Rattle.bl_page.specs.Machine.Phase.{Running, Ended}
use Rattle.bl_tree.specs.Trees.Status.{Gone}
use Rattle.bl_page.specs.Nodes.{node_of}
use Rattle.bl_claims.specs.Trails.{Mark, Answered}
use Rattle.bl_tree_worlds.specs.Worlds.{Passed, Know, World, nodes, MayGet, IsPassed, IsSure, HoldsPage, AreOwned, IsRecorded, IsGood, Extends, silent}
use Rattle.bl_tree_worlds.proofs.Pushes.{name_cases}
use Rattle.bl_tree_worlds.proofs.Frames.{all_sure}
use Rattle.bl_tree_worlds.proofs.Steady.{was_live}
use Rattle.bl_tree_worlds.proofs.Records.{record_begin, record_end}
use Rattle.bl_tree_worlds.proofs.Names.{names_step}
use Rattle.bl_tree_worlds.proofs.Ghosts.{same_tree, middles_step, held_step}
use Rattle.bl_tree_worlds.proofs.Watches.{SameGhost}

-- who owns a dead page
dead_owner : {P : Type 0} (know : P → Know) (w : World P) (x : ℕ) → AreOwned know w → w.status x ≡ Gone → ((q : Name) × (w.now.owner x ≡ Held q)) ⊎ ((t : ℕ) × (w.now.owner x ≡ Retired t))
dead_owner know w x g h = by_owner (w.now.owner x) refl
  where
    by_owner : (o : Owner) → w.now.owner x ≡ o → ((q : Name) × (w.now.owner x ≡ Held q)) ⊎ ((t : ℕ) × (w.now.owner x ≡ Retired t))
    by_owner Released e = let f = g.released x e in cc
    by_owner Owner.Open e = elim (g.opened x e) [ inl o ↦ cc | inr o ↦ cc ]
    by_owner (Held q) e = inl (q, e)
    by_owner (Retired t) e = inr (t, e)

-- An event that changes only where p stands.
pub record Turns {P : Type 0} (know : P → Know) (w w' : World P) (m : Mark) (b : P) (phase : Phase) : Type 0 where
  pub extends : Extends w w' m b
  pub contents : (x : ℕ) → w'.now.contents x ≡ w.now.contents x
  pub owner : (x : ℕ) → w'.now.owner x ≡ w.now.owner x
  pub phases : IsAt m.event.process phase w.now.phase w'.now.phase
  pub ghost : SameGhost w w'
  pub no_take : (y : ℕ) → (m.event.act ≢ Act.Take y) × (m.event.act ≢ Act.Latch y)
  pub no_put : (y : ℕ) (c : _) → m.event.act ≢ Act.Put y c
  pub middle : (know b).middle ≡ (know (w.proc m.event.process)).middle
  pub places : (x : ℕ) → HoldsPage (know (w.proc m.event.process)).holds x → HoldsPage (know b).holds x
  pub own : IsSure w' m.event.process (know b)
  pub recorded : IsRecorded w'
  -- what p may get, if it runs now, it may get from a dead page on
  pub leads : (x : ℕ) → w.status x ≡ Gone → (nodes w.now x).shape.right ≢ 0 → MayGet w' m.event.process x → MayGet w' m.event.process (nodes w.now x).shape.right × ((nodes w.now (nodes w.now x).shape.right).shape.level ≡ (nodes w.now x).shape.level)
  -- and no page that is retired
  pub unretired : (x time : ℕ) → MayGet w' m.event.process x → w.now.owner x ≡ Retired time → ⊥
  pub passed : (s : Passed) → IsPassed w (Some s) → IsPassed w' (Some s)

turns_keeps : {P : Type 0} (know : P → Know) (w w' : World P) (m : Mark) (b : P) (phase : Phase) → Turns know w w' m b phase → IsGood know w → IsGood know w'
turns_keeps know w w' m b phase s g =
    let on = s.extends.steps.on in
    let p = m.event.process in
    let node : (y : ℕ) → nodes w'.now y ≡ nodes w.now y = λ y. ap node_of (s.contents y) in
    let may : (q : Name) (y : ℕ) → q ≢ p → MayGet w q y → MayGet w' q y = λ q y n h. record { since = h.since; runs = s.phases.others q n ∙ h.runs; was = rw s.ghost.status h.was; kept = λ t e. h.kept t (sym (s.owner y) ∙ e) } in
    let may_back : (q : Name) (y : ℕ) → q ≢ p → MayGet w' q y → MayGet w q y = λ q y n h. record { since = h.since; runs = sym (s.phases.others q n) ∙ h.runs; was = rw s.ghost.status at h.was; kept = λ t e. h.kept t (s.owner y ∙ e) } in
    record {
      tree = same_tree w w' (record { contents = s.contents; status = s.ghost.status; sep = s.ghost.sep; map = s.ghost.map }) g.tree;
      owned = record {
        released = λ x h. rw s.ghost.status (g.owned.released x (sym (s.owner x) ∙ h));
        free = λ x h. s.owner x ∙ g.owned.free x (rw s.ghost.status at h);
        opened = λ x h. rw s.ghost.status (g.owned.opened x (sym (s.owner x) ∙ h));
        retired = λ x t h. let o = g.owned.retired x t (sym (s.owner x) ∙ h) in (rw s.ghost.status o.0, omega (arith, o.1));
        held = held_step know w w' m b s.extends (λ x h. s.places x (g.owned.held x p (sym (s.owner x) ∙ h))) (λ x q n h. sym (s.owner x) ∙ h) g.owned;
        small = λ x h. rw s.extends.size (g.owned.small x (rw s.ghost.status at h));
        one_anchor = λ x h. g.owned.one_anchor x (rw s.ghost.status at h);
        uprooted = λ x h. let k = g.owned.uprooted x (rw s.ghost.status at h) in record { by = k.by; held = s.owner x ∙ k.held; anchor_held = s.owner 0 ∙ k.anchor_held };
      };
      recorded = s.recorded;
      bounded = rw s.ghost.map g.bounded;
      names = names_step w w' m s.extends.trail (record {
        fresh = λ y h. inr (rw s.ghost.status at h, λ q e. s.owner y ∙ e, (s.no_take y).0, (s.no_take y).1, λ x c n e o. s.no_put x c e);
        not_taken = λ y h. (s.no_take y).0;
        live = λ y h. inl (rw s.ghost.status at h, λ q e. inl (sym (s.owner y) ∙ e));
      }) g.names;
      gone = λ x h.
          let o : w.status x ≡ Gone = rw s.ghost.status at h in
          let old = g.gone x o in
          record {
            end = rw (node x) old.end;
            above = rw (node x) old.above;
            left = λ some.
                let link : (nodes w.now x).shape.right ≢ 0 = rw (node x) at some in
                let was_left = old.left link in
                record {
                  leads = λ q m. elim (name_cases q p) [
                    | inl i ↦ let k = s.leads x o link (rw i at m) in rw (i, node x) (k.0, ap (λ v. v.shape.level) (node (nodes w.now x).shape.right) ∙ k.1)
                    | inr i ↦ let k = was_left.leads q (may_back q x i m) in rw (node x) (may q (nodes w.now x).shape.right i k.0, ap (λ v. v.shape.level) (node (nodes w.now x).shape.right) ∙ k.1)
                  ];
                  not_yet = λ q held. let k = was_left.not_yet q (sym (s.owner x) ∙ held) in rw (node x) (s.owner _ ∙ k.0, rw s.ghost.status k.1, ap (λ v. v.shape.level) (node (nodes w.now x).shape.right) ∙ k.2);
                  later = λ q time next m e. rw (node x) (λ f. elim (name_cases q p) [
                    | inl i ↦ absurd (s.unretired x time (rw i at m) (sym (s.owner x) ∙ e))
                    | inr i ↦ was_left.later q time next (may_back q x i m) (sym (s.owner x) ∙ e) (sym (s.owner (nodes w.now x).shape.right) ∙ f)
                  ]);
                };
          };
      middles = λ x y h. let o : w.status y ≡ _ = rw s.ghost.status at h in let i = g.middles x y o in middles_step know w w' m b x y s.extends s.middle i (λ z k l. (s.owner z ∙ k, ap (λ f. f z) s.ghost.status, node z)) o;
      sure = all_sure know w w' m b s.extends (record {
        owner = λ q x n h. s.owner x ∙ h;
        contents = λ q x n h. s.contents x;
        status = λ q x n h. ap (λ f. f x) s.ghost.status;
        sep = λ q x n h. ap (λ f. f x) s.ghost.sep;
        relied = λ q c n h. (rw s.ghost.status h.alive, ap (λ f. f c.at) s.ghost.sep);
        may = λ q x n h. may q x n h;
        level = λ x h. ap (λ v. v.shape.level) (node x);
        live_was = λ x h. was_live (w.status x) h;
        phase = λ q n. s.phases.others q n;
        passed = s.passed;
      }) g.sure s.own;
    }

pub record Begins {P : Type 0} (know : P → Know) (w w' : World P) (p : Name) (b : P) : Type 0 where
  pub extends : Extends w w' (silent p Begin) b
  pub ghost : SameGhost w w'
  pub middle : (know b).middle ≡ (know (w.proc p)).middle
  pub places : (x : ℕ) → HoldsPage (know (w.proc p)).holds x → HoldsPage (know b).holds x
  pub own : IsSure w' p (know b)

pub Begins-keeps : {P : Type 0} (know : P → Know) (w w' : World P) (p : Name) (b : P) → Begins know w w' p b → IsGood know w → IsGood know w'
Begins-keeps know w w' p b s g =
    let change = s.extends.steps.changes in
    let on = s.extends.steps.on in
    turns_keeps know w w' (silent p Begin) b (Running change.2.0) (record {
      extends = s.extends;
      contents = change.0;
      owner = change.1;
      phases = change.2.3;
      ghost = s.ghost;
      no_take = λ y. (λ e. cc, λ e. cc);
      no_put = λ y c e. cc;
      middle = s.middle;
      places = s.places;
      own = s.own;
      recorded = record_begin w w' p b s.extends (λ k. ap (λ f. f 0 k) s.ghost.map) g.recorded;
      leads = λ x d link h. elim (dead_owner know w x g.owned d) [
        | inl o ↦
            let k = ((g.gone x d).left link).not_yet o.0 o.1 in
            (record { since = h.since; runs = h.runs; was = rw s.ghost.status (was_live _ k.1); kept = λ t e. (let f : Retired t ≡ Held o.0 = sym e ∙ (change.1 _ ∙ k.0) in cc) }, k.2)
        | inr o ↦ absurd (
            let f : Running h.since ≡ Running change.2.0 = sym h.runs ∙ change.2.3.at in
            let v : h.since ≡ change.2.0 = cc in
            let t = (g.owned.retired x o.0 o.1).1 in
            let le = h.kept o.0 (change.1 x ∙ o.1) in
            omega (arith, change.2.1))
      ];
      unretired = λ x time h o.
          let f : Running h.since ≡ Running change.2.0 = sym h.runs ∙ change.2.3.at in
          let v : h.since ≡ change.2.0 = cc in
          let before = (g.owned.retired x time o).1 in
          let after = h.kept time (change.1 x ∙ o) in
          absurd (omega (arith, change.2.1));
      passed = λ a h. (
        omega (arith, h.0),
        λ q since below runs. elim (name_cases q p) [
          | inl i ↦ let f : Running since ≡ Running change.2.0 = sym runs ∙ (ap w'.now.phase i ∙ change.2.3.at) in let v : since ≡ change.2.0 = cc in omega (arith, h.0, change.2.1)
          | inr i ↦ h.1 q since below (sym (change.2.3.others q i) ∙ runs)
        ],
      );
    }) g

pub record Finishes {P : Type 0} (know : P → Know) (w w' : World P) (p : Name) (answer : Option Reply) (b : P) : Type 0 where
  pub extends : Extends w w' (silent p (End answer)) b
  pub observed : Answered w.trail p answer
  pub ghost : SameGhost w w'
  pub middle : (know b).middle ≡ (know (w.proc p)).middle
  pub places : (x : ℕ) → HoldsPage (know (w.proc p)).holds x → HoldsPage (know b).holds x
  pub own : IsSure w' p (know b)

pub Finishes-keeps : {P : Type 0} (know : P → Know) (w w' : World P) (p : Name) (answer : Option Reply) (b : P) → Finishes know w w' p answer b → IsGood know w → IsGood know w'
Finishes-keeps know w w' p answer b s g =
    let change = s.extends.steps.changes in
    let on = s.extends.steps.on in
    turns_keeps know w w' (silent p (End answer)) b Ended (record {
      extends = s.extends;
      contents = change.0;
      owner = change.1;
      phases = change.2;
      ghost = s.ghost;
      no_take = λ y. (λ e. cc, λ e. cc);
      no_put = λ y c e. cc;
      middle = s.middle;
      places = s.places;
      own = s.own;
      recorded = record_end w w' p answer b s.extends s.observed (λ k. ap (λ f. f 0 k) s.ghost.map) g.recorded;
      leads = λ x d link h. (let f : Running h.since ≡ Ended = sym h.runs ∙ change.2.at in cc);
      unretired = λ x time h o. (let f : Running h.since ≡ Ended = sym h.runs ∙ change.2.at in cc);
      passed = λ a h. (
        omega (arith, h.0),
        λ q since below runs. elim (name_cases q p) [
          | inl i ↦ (let f : Running since ≡ Ended = sym runs ∙ (ap w'.now.phase i ∙ change.2.at) in cc)
          | inr i ↦ h.1 q since below (sym (change.2.others q i) ∙ runs)
        ],
      );
    }) g
