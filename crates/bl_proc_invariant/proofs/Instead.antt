-- Another process at one name, which holds the same pages: where what it knows is true, the world stays good.
use Rattle.std.proofs.Common.{ℕ, ◌≡◌, None, Some, ap, sym, ◌∙◌, subst, inl, inr}
use Rattle.bl_model.specs.declared.operation.Reply.{Reply}
use Rattle.bl_page.specs.declared.page.Page.{Page}
use Rattle.bl_page.specs.Machine.{Name, State, Act}
use Rattle.bl_tree_worlds.proofs.Pushes.{name_cases}
use Rattle.bl_tree_worlds.specs.Worlds.{Middle, Know, World, HoldsPage, IsHeld, IsGoes, IsRelied, IsSure, IsGood, IsPassed, MayGet}
use Rattle.bl_tree_worlds.proofs.Frames.{Each-map}
use Rattle.bl_tree_worlds.proofs.After.{put_name, is_put_name}
use Rattle.bl_proc_invariant.specs.Turns.{Turned}

-- the same world with another process at one name
abbrev pub with_proc : {P : Type 0} → World P → Name → P → World P
with_proc w p b = record w { proc = put_name p b w.proc }

pub same_sure : {P : Type 0} (w : World P) (p q : Name) (b : P) (k : Know) → IsSure w q k → IsSure (with_proc w p b) q k
same_sure w p q b k is = record {
  stage = is.stage;
  said = is.said;
  holds = Each-map (IsHeld w q) (IsHeld (with_proc w p b) q) k.holds (λ h i. record { owner = i.owner; status = i.status; sep = i.sep; page = i.page }) is.holds;
  goes = Each-map (IsGoes w q) (IsGoes (with_proc w p b) q) k.goes (λ h i. record { may = same_may w p q b h.page i.may; least = i.least; most = i.most }) is.goes;
  children = Each-map (IsRelied w q) (IsRelied (with_proc w p b) q) k.children (λ c i. record { owner = i.owner; status = i.status; covers = i.covers; level = i.level; alive = i.alive; sep = i.sep }) is.children;
  passed = passed k.passed is.passed;
  sound = is.sound;
}
  where
    same_may : {P : Type 0} (w : World P) (p q : Name) (b : P) (x : ℕ) → MayGet w q x → MayGet (with_proc w p b) q x
    same_may w p q b x m = record { since = m.since; runs = m.runs; was = m.was; kept = m.kept }

    passed : (s : _) → IsPassed w s → IsPassed (with_proc w p b) s
    passed None h = h
    passed (Some s) h = h

pub instead_held : {P : Type 0} (know : P → Know) (w : World P) (p : Name) (b : P) → IsGood know w → ((x : ℕ) → HoldsPage (know (w.proc p)).holds x → HoldsPage (know b).holds x) → ((m : Middle) → (know (w.proc p)).middle ≡ Some m → HoldsPage (know (w.proc p)).holds m.right → (know b).middle ≡ Some m) → IsSure w p (know b) → IsGood know (with_proc w p b)
instead_held know w p b g holds middle own =
    let put = is_put_name p b w.proc in
    record {
      tree = g.tree;
      owned = record {
        released = g.owned.released;
        free = g.owned.free;
        opened = g.owned.opened;
        retired = g.owned.retired;
        held = λ x q o. elim (name_cases q p) [
          | inl e ↦
              let at : put_name p b w.proc q ≡ b = ap (put_name p b w.proc) e ∙ put.at in
              rw at (holds x (subst (λ n. HoldsPage (know (w.proc n)).holds x) e (g.owned.held x q o)))
          | inr n ↦ rw (put.others q n) (g.owned.held x q o)
        ];
        small = g.owned.small;
        one_anchor = g.owned.one_anchor;
        uprooted = λ x e. let k = g.owned.uprooted x e in record { by = k.by; held = k.held; anchor_held = k.anchor_held };
      };
      recorded = record {
        leads = g.recorded.leads;
        marked = g.recorded.marked;
        phases = g.recorded.phases;
        legal = g.recorded.legal;
        map = g.recorded.map;
        since = g.recorded.since;
      };
      bounded = g.bounded;
      names = record { fresh = g.names.fresh; named = g.names.named };
      gone = λ x h. let o = g.gone x h in record {
        end = o.end;
        above = o.above;
        left = λ link. let to = o.left link in record {
          leads = λ q m. (
              let l = to.leads q (record { since = m.since; runs = m.runs; was = m.was; kept = m.kept }) in
              (record { since = l.0.since; runs = l.0.runs; was = l.0.was; kept = l.0.kept }, l.1));
          not_yet = to.not_yet;
          later = λ q time next m. to.later q time next (record { since = m.since; runs = m.runs; was = m.was; kept = m.kept });
        };
      };
      middles = λ x y e.
          let m = g.middles x y e in
          let is : (know (put_name p b w.proc m.by)).middle ≡ Some (record { parent = m.parent; left = x; right = y }) = elim (name_cases m.by p) [
            | inl i ↦ ap (λ r. (know r).middle) (ap (put_name p b w.proc) i ∙ put.at) ∙ middle _ (ap (λ n. (know (w.proc n)).middle) (sym i) ∙ m.is) (subst (λ n. HoldsPage (know (w.proc n)).holds y) i (g.owned.held y m.by m.held))
            | inr n ↦ ap (λ r. (know r).middle) (put.others m.by n) ∙ m.is
          ] in
          record {
            by = m.by;
            parent = m.parent;
            is = is;
            held = m.held;
            parent_held = m.parent_held;
            parent_live = m.parent_live;
            parent_level = m.parent_level;
            parent_covers = m.parent_covers;
          };
      sure = λ q. elim (name_cases q p) [
        | inl e ↦
            let at : put_name p b w.proc q ≡ b = ap (put_name p b w.proc) e ∙ put.at in
            rw at (same_sure w p q b (know b) (subst (λ n. IsSure w n (know b)) (sym e) own))
        | inr n ↦ rw (put.others q n) (same_sure w p q b (know (w.proc q)) (g.sure q))
      ];
    }

pub instead_good : {P : Type 0} (know : P → Know) (w : World P) (p : Name) (b : P) → IsGood know w → (know b).holds ≡ (know (w.proc p)).holds → ((m : Middle) → (know (w.proc p)).middle ≡ Some m → HoldsPage (know (w.proc p)).holds m.right → (know b).middle ≡ Some m) → IsSure w p (know b) → IsGood know (with_proc w p b)
instead_good know w p b g holds middle own = instead_held know w p b g (λ x h. subst (λ hs. HoldsPage hs x) (sym holds) h) middle own

-- A turn of the process that stands there instead is a turn of the one that stood there before.
abbrev pub turned_instead : {P : Type 0} (know : P → Know) (w : World P) (p : Name) (a : Act Page Reply) (s : State Page) (old b : P) → Turned know (with_proc w p old) p a s b → Turned know w p a s b
turned_instead know w p a s old b t = record {
  next = t.next;
  saw = t.saw;
  said = t.said;
  extends = record {
    start = t.extends.start;
    first = t.extends.first;
    size = t.extends.size;
    steps = t.extends.steps;
    saw = t.extends.saw;
    trail = t.extends.trail;
    proc = record { at = t.extends.proc.at; others = λ q n. t.extends.proc.others q n ∙ (is_put_name p old w.proc).others q n };
  };
  now = t.now;
  good = t.good;
}

-- After a turn another process may stand there, which knows no more than is true.
pub then_instead : {P : Type 0} (know : P → Know) (w : World P) (p : Name) (a : Act Page Reply) (s : State Page) (b new : P) → (know new).holds ≡ (know b).holds → (know new).middle ≡ (know b).middle → ((v : World P) → IsSure v p (know b) → IsSure v p (know new)) → Turned know w p a s b → Turned know w p a s new
then_instead know w p a s b new holds middle on t =
    let here : t.next.proc p ≡ b = t.extends.proc.at in
    let put = is_put_name p new t.next.proc in
    let sure : IsSure t.next p (know b) = subst (λ r. IsSure t.next p (know r)) here (t.good.sure p) in
    record {
      next = with_proc t.next p new;
      saw = t.saw;
      said = t.said;
      extends = record {
        start = t.extends.start;
        first = t.extends.first;
        size = t.extends.size;
        steps = t.extends.steps;
        saw = t.extends.saw;
        trail = t.extends.trail;
        proc = record { at = put.at; others = λ q n. put.others q n ∙ t.extends.proc.others q n };
      };
      now = t.now;
      good = instead_good know t.next p new t.good (holds ∙ ap (λ r. (know r).holds) (sym here)) (λ m e h. middle ∙ (ap (λ r. (know r).middle) (sym here) ∙ e)) (on t.next sure);
    }
