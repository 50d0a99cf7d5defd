-- Any process may release a page that was retired before each process that runs began, and goes on as it was.
use Rattle.std.proofs.Common.{ℕ, ◌≡◌, ◌≢◌, ◌≤◌, true, Option, Some, None, sym, ap, ◌∙◌, refl, subst, arith}
use Rattle.bl_page.specs.declared.page.Page.{Page}
use Rattle.bl_page.specs.Machine.{Name, State, IsAt, AllBeganAfter}
use Rattle.bl_page.specs.Machine.Act.{Release}
use Rattle.bl_page.specs.Machine.Owner.{Held, Retired}
use Rattle.bl_page.specs.Nodes.{Node, Covers, node_of}
use Rattle.bl_tree.specs.Trees.{Status, IsLive}
use Rattle.bl_tree.specs.Trees.Status.{Free, Gone}
use Rattle.bl_tree.proofs.Statuses.{gone_dead, not_dead}
use Rattle.bl_tree_worlds.proofs.Pushes.{HasSaid-silent}
use Rattle.bl_tree_worlds.specs.Worlds.{Hold, Goes, Child, Passed, World, nodes, was_in, IsStage, IfKnown, MayGet, IsHeld, IsGoes, IsRelied, IsPassed, IsSure, IsGood, silent}
use Rattle.bl_tree_worlds.proofs.Frames.{Each-map}
use Rattle.bl_tree_worlds.proofs.After.{after, Extends-after, put_at, is_put_at}
use Rattle.bl_tree_worlds.proofs.Outside.{Releases-keeps}
use Rattle.bl_proc_invariant.specs.Turns.{Does, Turned}
use Rattle.bl_proc_invariant.specs.Knowing.{Run, know}

module _ (w : World Run) (p : Name) (x : ℕ) (s : State Page) (g : IsGood know w) (can : (time : ℕ) × (w.now.owner x ≡ Retired time) × AllBeganAfter w.now time) (does : Does w.now p (Release x) s) where
  abbrev freed : World Run
  freed = after w s (silent p (Release x)) (w.proc p) (put_at x Free w.status) w.sep w.map

  status : IsAt x Free w.status freed.status
  status = is_put_at x Free w.status

  node : (y : ℕ) → nodes s y ≡ nodes w.now y
  node y = ap node_of (does.changes.0 y)

  -- what a process holds, lists or may get is another page
  not_held : (y : ℕ) → w.now.owner y ≡ Held p → y ≢ x
  not_held y h i = (let v : Held p ≡ Retired can.0 = sym h ∙ (ap w.now.owner i ∙ can.1) in cc)

  not_live : (y : ℕ) → IsLive (w.status y) → y ≢ x
  not_live y h = (let gone : w.status x ≡ Gone = (g.owned.retired x can.0 can.1).0 in not_dead w.status x y (rw gone gone_dead) h)

  not_got : (y : ℕ) → MayGet w p y → y ≢ x
  not_got y h i = (let before = h.kept can.0 (ap w.now.owner i ∙ can.1) in let began = can.2 p h.since h.runs in omega arith)

  held : (h : Hold) → IsHeld w p h → IsHeld freed p h
  held h i =
      let ne = not_held h.at i.owner in
      record {
        owner = does.changes.1.others h.at ne ∙ i.owner;
        status = status.others h.at ne ∙ i.status;
        sep = i.sep;
        page = subst (IfKnown h.page) (sym (does.changes.0 h.at)) i.page;
      }

  goes : (h : Goes) → IsGoes w p h → IsGoes freed p h
  goes h i =
      let ne = not_got h.page i.may in
      record {
        may = record {
          since = i.may.since;
          runs = does.changes.2 p ∙ i.may.runs;
          was = subst (λ (z : Status). was_in z ≡ true) (sym (status.others h.page ne)) i.may.was;
          kept = λ t e. i.may.kept t (sym (does.changes.1.others h.page ne) ∙ e);
        };
        least = subst (λ (z : Node). h.least ≤ z.shape.level) (sym (node h.page)) i.least;
        most = subst (λ (z : Node). z.shape.level ≤ h.most) (sym (node h.page)) i.most;
      }

  relied : (c : Child) → IsRelied w p c → IsRelied freed p c
  relied c i =
      let ne = not_held c.parent i.owner in
      record {
        owner = does.changes.1.others c.parent ne ∙ i.owner;
        status = status.others c.parent ne ∙ i.status;
        covers = subst (λ (z : Node). Covers z.shape c.key) (sym (node c.parent)) i.covers;
        level = rw (node c.parent, node c.at) i.level;
        alive = subst IsLive (sym (status.others c.at (not_live c.at i.alive))) i.alive;
        sep = i.sep;
      }

  passed : (a : Option Passed) → IsPassed w a → IsPassed freed a
  passed None h = tt
  passed (Some a) h = (omega (arith, h.0, does.on), λ q since among runs. h.1 q since among (sym (does.changes.2 q) ∙ runs))

  sure : IsSure freed p (know (w.proc p))
  sure =
      let k = know (w.proc p) in
      let is = g.sure p in
      record {
        stage = subst (IsStage k.stage) (sym (does.changes.2 p)) is.stage;
        said = HasSaid-silent w.trail (silent p (Release x)) p k.said refl is.said;
        holds = Each-map (IsHeld w p) (IsHeld freed p) k.holds held is.holds;
        goes = Each-map (IsGoes w p) (IsGoes freed p) k.goes goes is.goes;
        children = Each-map (IsRelied w p) (IsRelied freed p) k.children relied is.children;
        passed = passed k.passed is.passed;
        sound = is.sound;
      }

  -- it says nothing there
  pub release : (t : Turned know w p (Release x) s (w.proc p)) × (t.said ≡ None)
  release =
      let extends = Extends-after w s (silent p (Release x)) (w.proc p) (put_at x Free w.status) w.sep w.map (record { enabled = can; changes = does.changes; on = does.on }) tt in (
        record {
          next = freed;
          saw = None;
          said = None;
          extends = extends;
          now = refl;
          good = Releases-keeps know w freed p x (w.proc p) (record {
            extends = extends;
            status = status;
            sep = refl;
            map = refl;
            middle = refl;
            places = λ y h. h;
            own = sure;
          }) g;
        },
        refl,
      )
