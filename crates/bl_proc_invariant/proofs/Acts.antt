-- One event of a process, by what it knows before and after: the world after it is good.
use Rattle.std.proofs.Common.{ℕ, ◌≡◌, ◌≢◌, ◌⊎◌, ◌<◌, Option, Some, None, List, [], ◌∷◌, sym, ◌∙◌, refl, subst, inl, inr}
use Rattle.bl_model.specs.declared.operation.Reply.{Reply}
use Rattle.bl_page.specs.declared.page.Page.{Page}
use Rattle.bl_page.specs.Machine.{Name, Owner, State, Act, Phase, Enabled}
use Rattle.bl_page.specs.Machine.Act.{Begin, End, Take, Latch}
use Rattle.bl_page.specs.Machine.Phase.{Running}
use Rattle.bl_tree.specs.Trees.{Status}
use Rattle.bl_page.specs.Machine.Owner.{Released, Held}
use Rattle.bl_tree.specs.Trees.Status.{Fresh, Live, Uprooted, Gone, Anchored}
use Rattle.bl_claims.specs.Trails.{Said, Mark, Saw, Answered, HasSaid}
use Rattle.bl_tree_worlds.specs.Worlds.{Hold, Know, World, MapsTo, HoldsPage, IsHeld, IsSure, IsGood, silent}
use Rattle.bl_claims.specs.Walks.{Each}
use Rattle.bl_tree_worlds.proofs.Watches.{Learns, IsWatch, Watches-keeps}
use Rattle.bl_tree_worlds.proofs.Latches.{Latches-keeps, Opens-keeps}
use Rattle.bl_tree_worlds.proofs.Ends.{Begins-keeps, Finishes-keeps}
use Rattle.bl_tree_worlds.proofs.Outside.{Takes-keeps}
use Rattle.bl_tree_worlds.proofs.After.{after, Extends-after, put_at, is_put_at}
use Rattle.bl_proc_invariant.specs.Turns.{Does, Turned}

-- what is said of the status of each page that a list has, holds of the status of each page in the list
pub held_status : {P : Type 0} (w : World P) (p : Name) (S : ℕ → Status → Type 0) (holds : List Hold) (y : ℕ) → Each (IsHeld w p) holds → Each (λ h. S h.at h.status) holds → HoldsPage holds y → S y (w.status y)
held_status w p S [] y is all h = absurd h
held_status w p S (a ∷ rest) y is all h = elim h [
  | inl e ↦ subst (λ z. S z (w.status z)) e (subst (S a.at) (sym is.0.status) all.0)
  | inr i ↦ held_status w p S rest y is.1 all.1 i
]

module _ {P : Type 0} (know : P → Know) (w : World P) (g : IsGood know w) (p : Name) (b : P) (k k' : Know) (before : know (w.proc p) ≡ k) (then : know b ≡ k') where
  pub sure : IsSure w p k
  sure = rw before at (g.sure p)

  -- it gets a page, looks, or misses
  pub watched : (a : Act Page Reply) (saw : Option Page) (said : Option Said) (s : State Page) → IsWatch a → Enabled w.now p a → Does w.now p a s → Saw w.now a saw → k'.middle ≡ k.middle → ((x : ℕ) → HoldsPage k.holds x → HoldsPage k'.holds x) → ((it : Said) → said ≡ Some it → ((since : ℕ) × (w.now.phase p ≡ Running since)) × HasSaid w.trail p None) → MapsTo (w.map 0) (w.map 0) said → Learns w (after w s (record { event = record { process = p; act = a }; saw = saw; said = said }) b w.status w.sep w.map) (record { event = record { process = p; act = a }; saw = saw; said = said }) k' → Turned know w p a s b
  watched a saw said s watch can does saw_it middle places point maps learns =
      let m : Mark = record { event = record { process = p; act = a }; saw = saw; said = said } in
      let next : World P = after w s m b w.status w.sep w.map in
      let extends = Extends-after w s m b w.status w.sep w.map (record { enabled = can; changes = does.changes; on = does.on }) saw_it in
      record {
        next = next;
        saw = saw;
        said = said;
        extends = extends;
        now = refl;
        good = Watches-keeps know w next m b (record {
          extends = extends;
          watch = watch;
          ghost = record { status = refl; sep = refl; map = refl };
          middle = rw (before, then) middle;
          places = λ x h. rw then (places x (rw before at h));
          point = point;
          maps = maps;
          learns = rw then learns;
        }) g;
      }

  -- what is said of the status of each page that it knows it holds, holds of each page that it holds
  pub of_held : (S : ℕ → Status → Type 0) → Each (λ h. S h.at h.status) k.holds → (y : ℕ) → w.now.owner y ≡ Held p → S y (w.status y)
  of_held S all y o = held_status w p S k.holds y sure.holds all (rw before at (g.owned.held y p o))

  pub not_gone : Each (λ h. h.status ≢ Gone) k.holds → (y : ℕ) → w.now.owner y ≡ Held p → w.status y ≢ Gone
  not_gone all y o = of_held (λ z a. a ≢ Gone) all y o

  -- it latches a page
  pub latched : (x : ℕ) (s : State Page) → w.now.owner x ≡ Owner.Open → Does w.now p (Latch x) s → k'.middle ≡ k.middle → HoldsPage k'.holds x → ((y : ℕ) → HoldsPage k.holds y → HoldsPage k'.holds y) → Learns w (after w s (silent p (Latch x)) b w.status w.sep w.map) (silent p (Latch x)) k' → Turned know w p (Latch x) s b
  latched x s can does middle here places learns =
      let next : World P = after w s (silent p (Latch x)) b w.status w.sep w.map in
      let extends = Extends-after w s (silent p (Latch x)) b w.status w.sep w.map (record { enabled = can; changes = does.changes; on = does.on }) tt in
      record {
        next = next;
        saw = None;
        said = None;
        extends = extends;
        now = refl;
        good = Latches-keeps know w next p x b (record {
          extends = extends;
          ghost = record { status = refl; sep = refl; map = refl };
          middle = rw (before, then) middle;
          here = rw then here;
          places = λ y h. rw then (places y (rw before at h));
          learns = rw then learns;
        }) g;
      }

  -- it opens a page
  pub opened : (x : ℕ) (s : State Page) → w.now.owner x ≡ Held p → Does w.now p (Act.Open x) s → (w.status x ≡ Live) ⊎ (w.status x ≡ Anchored) → k.middle ≡ None → k'.middle ≡ None → Each (λ h. (h.status ≢ Gone) × (h.status ≢ Uprooted)) k.holds → ((y : ℕ) → y ≢ x → HoldsPage k.holds y → HoldsPage k'.holds y) → Learns w (after w s (silent p (Act.Open x)) b w.status w.sep w.map) (silent p (Act.Open x)) k' → Turned know w p (Act.Open x) s b
  opened x s can does named none none' alive places learns =
      let next : World P = after w s (silent p (Act.Open x)) b w.status w.sep w.map in
      let extends = Extends-after w s (silent p (Act.Open x)) b w.status w.sep w.map (record { enabled = can; changes = does.changes; on = does.on }) tt in
      record {
        next = next;
        saw = None;
        said = None;
        extends = extends;
        now = refl;
        good = Opens-keeps know w next p x b (record {
          extends = extends;
          ghost = record { status = refl; sep = refl; map = refl };
          named = named;
          no_middle = rw before none;
          no_dead = λ y h o. (of_held (λ z a. (a ≢ Gone) × (a ≢ Uprooted)) alive y o).0 h;
          no_uprooted = λ y h o. (of_held (λ z a. (a ≢ Gone) × (a ≢ Uprooted)) alive y o).1 h;
          middle = rw (before, then) (none' ∙ sym none);
          places = λ y n h. rw then (places y n (rw before at h));
          learns = rw then learns;
        }) g;
      }

  -- it takes a page
  pub taken : (y : ℕ) (s : State Page) → w.now.owner y ≡ Released → y < w.size → Does w.now p (Take y) s → k'.middle ≡ k.middle → HoldsPage k'.holds y → ((x : ℕ) → HoldsPage k.holds x → HoldsPage k'.holds x) → IsSure (after w s (silent p (Take y)) b (put_at y Fresh w.status) w.sep w.map) p k' → Turned know w p (Take y) s b
  taken y s can within does middle here places own =
      let next : World P = after w s (silent p (Take y)) b (put_at y Fresh w.status) w.sep w.map in
      let extends = Extends-after w s (silent p (Take y)) b (put_at y Fresh w.status) w.sep w.map (record { enabled = can; changes = does.changes; on = does.on }) tt in
      record {
        next = next;
        saw = None;
        said = None;
        extends = extends;
        now = refl;
        good = Takes-keeps know w next p y b (record {
          extends = extends;
          within = within;
          status = is_put_at y Fresh w.status;
          sep = refl;
          map = refl;
          middle = rw (before, then) middle;
          here = rw then here;
          places = λ x h. rw then (places x (rw before at h));
          own = rw then own;
        }) g;
      }

  -- it begins
  pub began : (s : State Page) → w.now.phase p ≡ Phase.Waiting → Does w.now p Begin s → k'.middle ≡ k.middle → ((x : ℕ) → HoldsPage k.holds x → HoldsPage k'.holds x) → IsSure (after w s (silent p Begin) b w.status w.sep w.map) p k' → Turned know w p Begin s b
  began s can does middle places own =
      let next : World P = after w s (silent p Begin) b w.status w.sep w.map in
      let extends = Extends-after w s (silent p Begin) b w.status w.sep w.map (record { enabled = can; changes = does.changes; on = does.on }) tt in
      record {
        next = next;
        saw = None;
        said = None;
        extends = extends;
        now = refl;
        good = Begins-keeps know w next p b (record {
          extends = extends;
          ghost = record { status = refl; sep = refl; map = refl };
          middle = rw (before, then) middle;
          places = λ x h. rw then (places x (rw before at h));
          own = rw then own;
        }) g;
      }

  -- it ends
  pub finished : (reply : Option Reply) (s : State Page) → Enabled w.now p (End reply) → Does w.now p (End reply) s → Answered w.trail p reply → k'.middle ≡ k.middle → ((x : ℕ) → HoldsPage k.holds x → HoldsPage k'.holds x) → IsSure (after w s (silent p (End reply)) b w.status w.sep w.map) p k' → Turned know w p (End reply) s b
  finished reply s can does observed middle places own =
      let next : World P = after w s (silent p (End reply)) b w.status w.sep w.map in
      let extends = Extends-after w s (silent p (End reply)) b w.status w.sep w.map (record { enabled = can; changes = does.changes; on = does.on }) tt in
      record {
        next = next;
        saw = None;
        said = None;
        extends = extends;
        now = refl;
        good = Finishes-keeps know w next p reply b (record {
          extends = extends;
          observed = observed;
          ghost = record { status = refl; sep = refl; map = refl };
          middle = rw (before, then) middle;
          places = λ x h. rw then (places x (rw before at h));
          own = rw then own;
        }) g;
      }
