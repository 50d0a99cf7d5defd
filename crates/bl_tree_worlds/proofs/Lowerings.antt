-- The two puts by which the height falls keep a world good.
use Rattle.std.proofs.Common.{ℕ, ◌≡◌, ◌≢◌, None, arith, ap, sym, ◌∙◌, inl, inr}
use Rattle.std.proofs.lemmas.Bool.{cases_eq, false≢true}
use Rattle.bl_page.specs.declared.page.Page.{Page}
use Rattle.bl_page.specs.Machine.{Name}
use Rattle.bl_page.specs.Machine.Owner.{Held}
use Rattle.bl_page.specs.Nodes.{unbounded, node_of}
use Rattle.bl_tree.specs.Trees.{Status, IsLive}
use Rattle.bl_tree.specs.Trees.Status.{Free, Fresh, Right, Uprooted, Gone, Anchored}
use Rattle.bl_tree.proofs.Statuses.{live_live, uprooted_live}
use Rattle.bl_tree.proofs.Lowerings.{Lowers-keeps, Falls-keeps}
use Rattle.bl_tree_worlds.specs.Worlds.{Know, World, nodes, tree_of, was_in, IsGood}
use Rattle.bl_tree_worlds.specs.Puts.{PutsLower, PutsFallen}
use Rattle.bl_tree_worlds.proofs.Steady.{was_gone, anchored_not}
use Rattle.bl_tree_worlds.proofs.Puts.{Puts-keeps}
use Rattle.bl_tree_worlds.proofs.Living.{Living-puts, none_middle}
use Rattle.bl_tree_worlds.proofs.Moves.{put_page, not_zero, none_uprooted}

pub PutsLower-keeps : {P : Type 0} (know : P → Know) (w w' : World P) (p : Name) (x : ℕ) (c : Page) (b : P) → PutsLower know w w' p x c b → IsGood know w → IsGood know w'
PutsLower-keeps know w w' p x c b s g =
    let change = s.owes.extends.steps.changes in
    let held_0 : w.now.owner 0 ≡ Held p = s.owes.extends.steps.enabled in
    let u = s.status in
    let not_x : (z : ℕ) (a : Status) → w'.status z ≡ a → Uprooted ≢ a → z ≢ x = λ z a h n i. n (sym u.at ∙ (ap w'.status (sym i) ∙ h)) in
    let before : (z : ℕ) (a : Status) → w'.status z ≡ a → Uprooted ≢ a → w.status z ≡ a = λ z a h n. sym (u.others z (not_x z a h n)) ∙ h in
    Puts-keeps know w w' p 0 c None b (Living-puts know w w' p 0 c None b (record {
      owes = s.owes;
      tree = Lowers-keeps {top = unbounded} {x = x} {t = tree_of w} {t' = tree_of w'} (omega arith) (record {
        live = s.live;
        level = s.level;
        above = s.above;
        low = s.low;
        end = s.end;
        none = λ z h. none_uprooted know w p z held_0 s.none_uprooted g h;
        levels = rw change.0.at s.levels;
        leftmost = rw change.0.at s.leftmost;
        node = λ z n. ap node_of (change.0.others z n);
        status = u;
        stays = record { sep = s.sep; map = s.map };
      }) g.tree;
      status = λ z. elim (cases_eq z x) [ inl i ↦ inr (rw i s.held, inl (rw (i, s.live) live_live, rw (i, u.at) uprooted_live)) | inr i ↦ inl (u.others z i) ];
      sep = λ z. inl (ap (λ f. f z) s.sep);
      level = λ h. absurd (false≢true (sym anchored_not ∙ (ap was_in (sym g.tree.anchored) ∙ h)));
      alone = λ z o h. absurd (s.none_fresh z o (before z Fresh h (λ e. cc)));
      uproots = λ z h. inr held_0;
      middle = λ a z o h. absurd (none_middle know w p a z s.no_middle g o (before z (Right a) h (λ e. cc)));
    })) g

pub PutsFallen-keeps : {P : Type 0} (know : P → Know) (w w' : World P) (p : Name) (x : ℕ) (c : Page) (b : P) → PutsFallen know w w' p x c b → IsGood know w → IsGood know w'
PutsFallen-keeps know w w' p x c b s g =
    let held = s.owes.extends.steps.enabled in
    let u = s.status in
    let lx : IsLive (w.status x) = rw s.uprooted uprooted_live in
    let k = g.tree.uprooted x s.uprooted in
    let put = put_page w w' s.owes (not_zero know w x Uprooted g s.uprooted (λ e. cc)) in
    let not_x : (z : ℕ) (a : Status) → w'.status z ≡ a → Gone ≢ a → z ≢ x = λ z a h n i. n (sym u.at ∙ (ap w'.status (sym i) ∙ h)) in
    let before : (z : ℕ) (a : Status) → w'.status z ≡ a → Gone ≢ a → w.status z ≡ a = λ z a h n. sym (u.others z (not_x z a h n)) ∙ h in
    Puts-keeps know w w' p x c None b (record {
      extends = s.owes.extends;
      tree = Falls-keeps {x = x} {d = node_of c} {t = tree_of w} {t' = tree_of w'} (omega arith) (record { uprooted = s.uprooted; put = put; status = u; sep = s.sep; map = s.map }) g.tree;
      status = λ z n. u.others z (λ i. n (ap w.now.owner i ∙ held));
      sep = λ z n. ap (λ f. f z) s.sep;
      was = λ z h. elim (cases_eq z x) [ inl i ↦ rw (i, u.at) was_gone | inr i ↦ rw (u.others z i) h ];
      free = λ z h. before z Free h (λ e. cc);
      anchor = λ z h. before z Anchored h (λ e. cc);
      level = λ h. s.dead_level;
      fresh = λ z o h. absurd (s.none_fresh z o (before z Fresh h (λ e. cc)));
      becomes = λ z o h. inl (elim (cases_eq z x) [ inl i ↦ rw i lx | inr i ↦ rw (u.others z i) at h ]);
      uproots = λ z o h. inl (before z Uprooted h (λ e. cc));
      gone = λ z o h. elim (cases_eq z x) [
        | inl i ↦ (i, record { end = rw put.node.at s.dead_end; above = λ e. rw (put.node.at, s.dead_level, k.level_is) g.tree.some_level; left = λ link. absurd (link (rw put.node.at s.dead_right)) })
        | inr i ↦ absurd (s.owes.no_dead z o (sym (u.others z i) ∙ h))
      ];
      no_dead = s.owes.no_dead;
      middle = λ a z o h. absurd (none_middle know w p a z s.no_middle g o (before z (Right a) h (λ e. cc)));
      relied = λ q d n h o.
          -- the parent of a page that another relies on is of a level that the anchor has, so that page is not x
          let other : d.at ≢ x = λ i. absurd (
          let under = g.tree.below d.parent (rw h.status live_live) (λ e. cc (h.status)) in
          let e : (nodes w.now d.at).shape.level ≡ (nodes w.now x).shape.level = ap (λ v. (nodes w.now v).shape.level) i in
          omega (arith, h.level, k.level_is)) in
          (rw (u.others d.at other) h.alive, ap (λ f. f d.at) s.sep);
      places = s.owes.places;
      point = s.owes.point;
      maps = s.owes.maps;
      bounded = s.owes.bounded;
      own = s.owes.own;
    }) g
