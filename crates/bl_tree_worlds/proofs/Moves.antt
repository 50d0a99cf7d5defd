-- The puts of inserts, deletes and posts keep a world good.
use Rattle.std.proofs.Common.{ℕ, ◌≡◌, ◌≢◌, Option, None, ap, sym, ◌∙◌, inl, inr}
use Rattle.std.proofs.lemmas.Bool.{cases_eq, false≢true}
use Rattle.bl_page.specs.declared.page.Page.{Page}
use Rattle.bl_page.specs.Machine.{Name}
use Rattle.bl_page.specs.Machine.Owner.{Held}
use Rattle.bl_page.specs.Nodes.{unbounded, node_of, roots_of}
use Rattle.bl_tree.specs.Trees.{Status}
use Rattle.bl_tree.specs.Trees.Status.{Fresh, Live, Right, Uprooted, Anchored}
use Rattle.bl_tree.specs.Moves.{IsPut}
use Rattle.bl_tree.proofs.Statuses.{fresh_dead}
use Rattle.bl_tree.proofs.Rows.{ChangesRow-keeps}
use Rattle.bl_tree.proofs.Splits.{Splits-keeps}
use Rattle.bl_tree.proofs.Growths.{Grows-keeps}
use Rattle.bl_tree.proofs.Asides.{Aside-keeps}
use Rattle.bl_claims.specs.Trails.{Said}
use Rattle.bl_tree_worlds.specs.Worlds.{nodes, Know, World, tree_of, was_in, IsGood}
use Rattle.bl_tree_worlds.proofs.Steady.{fresh_not, anchored_not}
use Rattle.bl_tree_worlds.proofs.Puts.{same_owner, Puts-keeps}
use Rattle.bl_tree_worlds.specs.Puts.{Owes, PutsFresh, PutsRow, PutsSplit, PutsTop}
use Rattle.bl_tree_worlds.proofs.Living.{Living-puts, none_middle, middle_kept}

-- the put of a page that is not page 0
pub put_page : {P : Type 0} {know : P → Know} (w w' : World P) {p : Name} {x : ℕ} {c : Page} {said : Option Said} {b : P} → Owes know w w' p x c said b → 0 ≢ x → IsPut x (node_of c) (tree_of w) (tree_of w')
put_page w w' o n =
    let change = o.extends.steps.changes in
    record { node = record { at = ap node_of change.0.at; others = λ z i. ap node_of (change.0.others z i) }; roots = ap roots_of (change.0.others 0 n) }

pub not_zero : {P : Type 0} (know : P → Know) (w : World P) (x : ℕ) (a : Status) → IsGood know w → w.status x ≡ a → Anchored ≢ a → 0 ≢ x
not_zero know w x a g e n i = n (sym g.tree.anchored ∙ (ap w.status i ∙ e))

-- whoever holds the anchor, and no uprooted page, knows that there is none
pub none_uprooted : {P : Type 0} (know : P → Know) (w : World P) (p : Name) (z : ℕ) → w.now.owner 0 ≡ Held p → ((y : ℕ) → w.now.owner y ≡ Held p → w.status y ≢ Uprooted) → IsGood know w → w.status z ≢ Uprooted
none_uprooted know w p z held_0 none g h =
    let k = g.owned.uprooted z h in
    none z (k.held ∙ ap Held (same_owner p k.by (w.now.owner 0) held_0 k.anchor_held)) h

pub PutsFresh-keeps : {P : Type 0} (know : P → Know) (w w' : World P) (p : Name) (y key : ℕ) (c : Page) (b : P) → PutsFresh know w w' p y key c b → IsGood know w → IsGood know w'
PutsFresh-keeps know w w' p y key c b s g =
    let held = s.owes.extends.steps.enabled in
    let n = not_zero know w y Fresh g s.fresh (λ e. cc) in
    let put = put_page w w' s.owes n in
    Puts-keeps know w w' p y c None b (Living-puts know w w' p y c None b (record {
      owes = s.owes;
      tree = Aside-keeps {x = y} {t = tree_of w} {t' = tree_of w'} (record {
        dead = rw s.fresh fresh_dead;
        dead_after = rw (s.status, s.fresh) fresh_dead;
        other = λ i. n (sym i);
        node = put.node.others;
        status = λ z i. ap (λ f. f z) s.status;
        sep = s.sep.others;
        roots = put.roots;
        map = s.map;
      }) g.tree;
      status = λ z. inl (ap (λ f. f z) s.status);
      sep = λ z. elim (cases_eq z y) [ inl i ↦ inr (rw i held, rw i s.fresh) | inr i ↦ inl (s.sep.others z i) ];
      level = λ h. absurd (false≢true (sym fresh_not ∙ (ap was_in (sym s.fresh) ∙ h)));
      alone = λ z o h. s.only z o (rw s.status at h);
      uproots = λ z h. inl (rw s.status at h);
      middle = λ a z o h. absurd (none_middle know w p a z s.no_middle g o (rw s.status at h));
    })) g

pub PutsRow-keeps : {P : Type 0} (know : P → Know) (w w' : World P) (p : Name) (x k : ℕ) (v : Option ℕ) (c : Page) (said : Option Said) (b : P) → PutsRow know w w' p x k v c said b → IsGood know w → IsGood know w'
PutsRow-keeps know w w' p x k v c said b s g =
    let put = put_page w w' s.owes (not_zero know w x Live g s.live (λ e. cc)) in
    let same : (z : ℕ) → (nodes w'.now z).shape ≡ (nodes w.now z).shape = λ z. elim (cases_eq z x) [
      | inl i ↦ ap (λ v. (nodes w'.now v).shape) i ∙ (ap (λ n. n.shape) put.node.at ∙ (s.row.shape ∙ ap (λ v. (nodes w.now v).shape) (sym i)))
      | inr i ↦ ap (λ n. n.shape) (put.node.others z i)
    ] in
    Puts-keeps know w w' p x c said b (Living-puts know w w' p x c said b (record {
      owes = s.owes;
      tree = ChangesRow-keeps {x = x} {k = k} {v = v} {b = node_of c} {t = tree_of w} {t' = tree_of w'} (record { live = s.live; row = s.row; child = s.child; put = put; status = s.status; sep = s.sep; map = s.map }) g.tree;
      status = λ z. inl (ap (λ f. f z) s.status);
      sep = λ z. inl (ap (λ f. f z) s.sep);
      level = λ h. ap (λ n. n.level) s.row.shape;
      alone = λ z o h. absurd (s.none_fresh z o (rw s.status at h));
      uproots = λ z h. inl (rw s.status at h);
      middle = λ a z o h. middle_kept know w w' p b a z s.middle s.status same g o (rw s.status at h);
    })) g

pub PutsSplit-keeps : {P : Type 0} (know : P → Know) (w w' : World P) (p : Name) (x y k : ℕ) (v : Option ℕ) (c : Page) (said : Option Said) (b : P) → PutsSplit know w w' p x y k v c said b → IsGood know w → IsGood know w'
PutsSplit-keeps know w w' p x y k v c said b s g =
    let put = put_page w w' s.owes (not_zero know w x Live g s.live (λ e. cc)) in
    let u = s.status in
    let apart : y ≢ x = λ i. (let e : w.status x ≡ Fresh = rw i at s.fresh in cc (s.live)) in
    let not_y : (z : ℕ) (a : Status) → w'.status z ≡ a → Live ≢ a → z ≢ y = λ z a h n i. n (sym u.at ∙ (ap w'.status (sym i) ∙ h)) in
    Puts-keeps know w w' p x c said b (Living-puts know w w' p x c said b (record {
      owes = s.owes;
      tree = Splits-keeps {x = x} {y = y} {k = k} {v = v} {b = node_of c} {t = tree_of w} {t' = tree_of w'} (record { live = s.live; fresh = s.fresh; cut = s.cut; y_sep = s.y_sep; child = s.child; put = put; status = u; sep = s.sep; map = s.map }) g.tree;
      status = λ z. elim (cases_eq z y) [ inl i ↦ inr (rw i s.held, inr (rw i s.fresh, rw i u.at, rw i apart)) | inr i ↦ inl (u.others z i) ];
      sep = λ z. inl (ap (λ f. f z) s.sep);
      level = λ h. s.cut.level;
      alone = λ z o h. let n = not_y z Fresh h (λ e. cc) in absurd (n (s.only z o (sym (u.others z n) ∙ h)));
      uproots = λ z h. inl (sym (u.others z (not_y z Uprooted h (λ e. cc))) ∙ h);
      middle = λ a z o h. absurd (none_middle know w p a z s.no_middle g o (sym (u.others z (not_y z (Right a) h (λ e. cc))) ∙ h));
    })) g

pub PutsTop-keeps : {P : Type 0} (know : P → Know) (w w' : World P) (p : Name) (y : ℕ) (c : Page) (b : P) → PutsTop know w w' p y c b → IsGood know w → IsGood know w'
PutsTop-keeps know w w' p y c b s g =
    let change = s.owes.extends.steps.changes in
    let held_0 : w.now.owner 0 ≡ Held p = s.owes.extends.steps.enabled in
    let u = s.status in
    let apart : y ≢ 0 = λ i. not_zero know w y Fresh g s.fresh (λ e. cc) (sym i) in
    let not_y : (z : ℕ) (a : Status) → w'.status z ≡ a → Live ≢ a → z ≢ y = λ z a h n i. n (sym u.at ∙ (ap w'.status (sym i) ∙ h)) in
    Puts-keeps know w w' p 0 c None b (Living-puts know w w' p 0 c None b (record {
      owes = s.owes;
      tree = Grows-keeps {top = unbounded} {y = y} {t = tree_of w} {t' = tree_of w'} (record {
        fresh = s.fresh;
        room = s.room;
        level = s.level;
        low = s.low;
        end = s.end;
        right = s.right;
        y_sep = s.y_sep;
        none = λ z h. none_uprooted know w p z held_0 s.none_uprooted g h;
        first = s.first;
        only = s.others;
        levels = rw change.0.at s.levels;
        leftmost = rw change.0.at s.leftmost;
        node = λ z n. ap node_of (change.0.others z n);
        status = u;
        sep = s.sep;
        map = s.map;
      }) g.tree;
      status = λ z. elim (cases_eq z y) [ inl i ↦ inr (rw i s.held, inr (rw i s.fresh, rw i u.at, rw i apart)) | inr i ↦ inl (u.others z i) ];
      sep = λ z. inl (ap (λ f. f z) s.sep);
      level = λ h. absurd (false≢true (sym anchored_not ∙ (ap was_in (sym g.tree.anchored) ∙ h)));
      alone = λ z o h. let n = not_y z Fresh h (λ e. cc) in absurd (n (s.only z o (sym (u.others z n) ∙ h)));
      uproots = λ z h. inl (sym (u.others z (not_y z Uprooted h (λ e. cc))) ∙ h);
      middle = λ a z o h. absurd (none_middle know w p a z s.no_middle g o (sym (u.others z (not_y z (Right a) h (λ e. cc))) ∙ h));
    })) g
