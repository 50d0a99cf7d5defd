-- The later puts of compressions keep a world good: the parent's put of an evening, and the last puts.
use Rattle.std.proofs.Common.{ℕ, ◌≡◌, ◌≢◌, Some, None, suc, ap, sym, ◌∙◌, inl, inr}
use Rattle.std.proofs.lemmas.Bool.{cases_eq}
use Rattle.bl_page.specs.declared.page.Page.{Page}
use Rattle.bl_page.specs.Machine.{Name}
use Rattle.bl_page.specs.Machine.Owner.{Held}
use Rattle.bl_page.specs.Nodes.{unbounded, node_of}
use Rattle.bl_tree.specs.Trees.{Status, IsLive, IsTree}
use Rattle.bl_tree.specs.Trees.Status.{Free, Fresh, Live, Left, Right, Uprooted, Gone, Anchored}
use Rattle.bl_tree.specs.Moves.{IsAtTwo}
use Rattle.bl_tree.proofs.Statuses.{live_live, left_live, right_live}
use Rattle.bl_tree.proofs.Merges.{Dies-keeps}
use Rattle.bl_tree.proofs.Evenings.{LosesRight-keeps, LosesLeft-keeps}
use Rattle.bl_tree.proofs.Relists.{Relists-keeps}
use Rattle.bl_tree_worlds.specs.Worlds.{Middle, Know, World, nodes, tree_of, IsGood}
use Rattle.bl_tree_worlds.proofs.Steady.{was_live, was_gone}
use Rattle.bl_tree_worlds.proofs.Puts.{Puts-keeps}
use Rattle.bl_tree_worlds.proofs.Children.{not_relied}
use Rattle.bl_tree_worlds.specs.Compressions.{PutsRelisted, Parts, PutsRightLoss, PutsLeftLoss, PutsDead}
use Rattle.bl_tree_worlds.proofs.Living.{Living-puts, middle_kept}
use Rattle.bl_tree_worlds.proofs.Moves.{put_page, not_zero}

-- p is in the middle of one compression alone
one_middle : {P : Type 0} (know : P → Know) (w : World P) (p : Name) (parent x y a v : ℕ) → (know (w.proc p)).middle ≡ Some (record { parent = parent; left = x; right = y }) → IsGood know w → w.now.owner v ≡ Held p → w.status v ≡ Right a → v ≡ y
one_middle know w p parent x y a v is g o h =
    let k = g.middles a v h in
    let i : k.by ≡ p = cc (k.held, o) in
    let f : (know (w.proc k.by)).middle ≡ Some (record { parent = parent; left = x; right = y }) = rw i is in
    let one : Middle = record { parent = k.parent; left = a; right = v } in
    let two : Middle = record { parent = parent; left = x; right = y } in
    let same : Some one ≡ Some two = sym k.is ∙ f in
    let r : one ≡ two = cc in
    ap (λ (m : Middle). m.right) r

-- the last put of an evening, whatever page it puts
loss_keeps : {P : Type 0} (know : P → Know) (w w' : World P) (p : Name) (parent x y z : ℕ) (c : Page) (b : P) → Parts know w w' p parent x y z c b → IsAtTwo x y Live Live w.status w'.status → (node_of c).shape.level ≡ (nodes w.now z).shape.level → IsTree unbounded (tree_of w') → IsGood know w → IsGood know w'
loss_keeps know w w' p parent x y z c b s u level tree g =
    let lx : IsLive (w.status x) = rw s.left (left_live y) in
    let ly : IsLive (w.status y) = rw (g.tree.side.left x y s.left) (right_live x) in
    let not_x : (v : ℕ) (a : Status) → w'.status v ≡ a → Live ≢ a → v ≢ x = λ v a h n i. n (sym u.at ∙ (ap w'.status (sym i) ∙ h)) in
    let not_y : (v : ℕ) (a : Status) → w'.status v ≡ a → Live ≢ a → v ≢ y = λ v a h n i. n (sym u.at_two ∙ (ap w'.status (sym i) ∙ h)) in
    let before : (v : ℕ) (a : Status) → w'.status v ≡ a → Live ≢ a → w.status v ≡ a = λ v a h n. sym (u.others v (not_x v a h n) (not_y v a h n)) ∙ h in
    Puts-keeps know w w' p z c None b (Living-puts know w w' p z c None b (record {
      owes = s.owes;
      tree = tree;
      status = λ v. elim (cases_eq v x) [
        | inl i ↦ inr (rw i s.held, inl (rw i lx, rw (i, u.at) live_live))
        | inr i ↦ elim (cases_eq v y) [
          | inl j ↦ inr (rw j s.right_held, inl (rw j ly, rw (j, u.at_two) live_live))
          | inr j ↦ inl (u.others v i j)
        ]
      ];
      sep = λ v. inl (ap (λ f. f v) s.sep);
      level = λ h. level;
      alone = λ v o h. absurd (s.none_fresh v o (before v Fresh h (λ e. cc)));
      uproots = λ v h. inl (before v Uprooted h (λ e. cc));
      middle = λ a v o h. absurd (not_y v (Right a) h (λ e. cc) (one_middle know w p parent x y a v s.middle g o (before v (Right a) h (λ e. cc))));
    })) g

pub PutsRightLoss-keeps : {P : Type 0} (know : P → Know) (w w' : World P) (p : Name) (parent x y : ℕ) (c : Page) (b : P) → PutsRightLoss know w w' p parent x y c b → IsGood know w → IsGood know w'
PutsRightLoss-keeps know w w' p parent x y c b m g =
    let s = m.parts in
    loss_keeps know w w' p parent x y y c b s m.status m.loss.level
    (LosesRight-keeps {x = x} {y = y} {d = node_of c} {t = tree_of w} {t' = tree_of w'} (record { left = s.left; level = s.level; below = s.below; meets = m.meets; inner = m.inner; linked = m.linked; y_sep = m.y_sep; loss = m.loss; put = put_page w w' s.owes (not_zero know w y (Right x) g (g.tree.side.left x y s.left) (λ e. cc)); status = m.status; stays = record { sep = s.sep; map = s.map } }) g.tree) g

pub PutsLeftLoss-keeps : {P : Type 0} (know : P → Know) (w w' : World P) (p : Name) (parent x y : ℕ) (c : Page) (b : P) → PutsLeftLoss know w w' p parent x y c b → IsGood know w → IsGood know w'
PutsLeftLoss-keeps know w w' p parent x y c b m g =
    let s = m.parts in
    loss_keeps know w w' p parent x y x c b s m.status m.loss.level
    (LosesLeft-keeps {x = x} {y = y} {b = node_of c} {t = tree_of w} {t' = tree_of w'} (record { left = s.left; level = s.level; below = s.below; meets = m.meets; y_sep = m.y_sep; loss = m.loss; put = put_page w w' s.owes (not_zero know w x (Left y) g s.left (λ e. cc)); status = m.status; stays = record { sep = s.sep; map = s.map } }) g.tree) g

pub PutsRelisted-keeps : {P : Type 0} (know : P → Know) (w w' : World P) (p : Name) (parent x y e : ℕ) (c : Page) (b : P) → PutsRelisted know w w' p parent x y e c b → IsGood know w → IsGood know w'
PutsRelisted-keeps know w w' p parent x y e c b s g =
    let put = put_page w w' s.owes (not_zero know w parent Live g s.live (λ e. cc)) in
    let held = s.owes.extends.steps.enabled in
    let same : (z : ℕ) → (nodes w'.now z).shape ≡ (nodes w.now z).shape = λ z. elim (cases_eq z parent) [
      | inl i ↦ ap (λ v. (nodes w'.now v).shape) i ∙ (ap (λ n. n.shape) put.node.at ∙ (s.relisted.shape ∙ ap (λ v. (nodes w.now v).shape) (sym i)))
      | inr i ↦ ap (λ n. n.shape) (put.node.others z i)
    ] in
    let still : (v : ℕ) → w'.status v ≡ w.status v = λ v. ap (λ f. f v) s.status in
    Puts-keeps know w w' p parent c None b (record {
      extends = s.owes.extends;
      tree = Relists-keeps {p = parent} {x = x} {y = y} {e = e} {q = node_of c} {t = tree_of w} {t' = tree_of w'} (record { live = s.live; right = s.right; level = s.level; above = s.above; low = s.low; relisted = s.relisted; put = put; status = s.status; sep = s.sep; gone = s.gone; here = s.here; rest = s.rest; others = s.others }) g.tree;
      status = λ v n. still v;
      sep = λ v n. s.sep.others v (λ i. n (ap w.now.owner i ∙ s.right_held));
      was = λ v h. rw (still v) h;
      free = λ v h. sym (still v) ∙ h;
      anchor = λ v h. sym (still v) ∙ h;
      level = λ h. ap (λ n. n.level) s.relisted.shape;
      fresh = λ v o h. absurd (s.none_fresh v o (sym (still v) ∙ h));
      becomes = λ v o h. inl (rw (still v) at h);
      uproots = λ v o h. inl (sym (still v) ∙ h);
      gone = λ v o h. absurd (s.owes.no_dead v o (sym (still v) ∙ h));
      no_dead = s.owes.no_dead;
      middle = λ a v o h. middle_kept know w w' p b a v s.middle s.status same g o (sym (still v) ∙ h);
      relied = λ q d n h o. (rw (still d.at) h.alive, s.sep.others d.at (not_relied know w p q parent y d g n held s.live s.level s.relisted.old_covered h));
      places = s.owes.places;
      point = s.owes.point;
      maps = s.owes.maps;
      bounded = s.owes.bounded;
      own = s.owes.own;
    }) g

pub PutsDead-keeps : {P : Type 0} (know : P → Know) (w w' : World P) (p : Name) (parent x y : ℕ) (c : Page) (b : P) → PutsDead know w w' p parent x y c b → IsGood know w → IsGood know w'
PutsDead-keeps know w w' p parent x y c b m g =
    let s = m.parts in
    let u = m.status in
    let change = s.owes.extends.steps.changes in
    let sy : w.status y ≡ Right x = g.tree.side.left x y s.left in
    let lx : IsLive (w.status x) = rw s.left (left_live y) in
    let ly : IsLive (w.status y) = rw sy (right_live x) in
    let xy : x ≢ y = λ i. (let e : Left y ≡ Right x = sym s.left ∙ (ap w.status i ∙ sy) in cc) in
    let put = put_page w w' s.owes (not_zero know w y (Right x) g sy (λ e. cc)) in
    let not_x : (v : ℕ) (a : Status) → w'.status v ≡ a → Live ≢ a → v ≢ x = λ v a h n i. n (sym u.at ∙ (ap w'.status (sym i) ∙ h)) in
    let not_y : (v : ℕ) (a : Status) → w'.status v ≡ a → Gone ≢ a → v ≢ y = λ v a h n i. n (sym u.at_two ∙ (ap w'.status (sym i) ∙ h)) in
    let before : (v : ℕ) (a : Status) → w'.status v ≡ a → Live ≢ a → Gone ≢ a → w.status v ≡ a = λ v a h l n. sym (u.others v (not_x v a h l) (not_y v a h n)) ∙ h in
    let unlisted : w.map (suc (nodes w.now y).shape.level) (w.sep y) ≡ None = rw (← m.parent_level) (sym (g.tree.agree parent (w.sep y) (rw m.parent_live live_live) m.parent_covers) ∙ m.unlisted) in
    Puts-keeps know w w' p y c None b (record {
      extends = s.owes.extends;
      tree = Dies-keeps {x = x} {y = y} {d = node_of c} {t = tree_of w} {t' = tree_of w'} (record { left = s.left; level = s.level; below = s.below; end = m.end; right = m.right; unlisted = unlisted; put = put; status = u; stays = record { sep = s.sep; map = s.map } }) g.tree;
      status = λ v n. u.others v (λ i. n (ap w.now.owner i ∙ s.held)) (λ i. n (ap w.now.owner i ∙ s.right_held));
      sep = λ v n. ap (λ f. f v) s.sep;
      was = λ v h. elim (cases_eq v x) [
        | inl i ↦ rw (i, u.at) (was_live Live live_live)
        | inr i ↦ elim (cases_eq v y) [ inl j ↦ rw (j, u.at_two) was_gone | inr j ↦ rw (u.others v i j) h ]
      ];
      free = λ v h. before v Free h (λ e. cc) (λ e. cc);
      anchor = λ v h. before v Anchored h (λ e. cc) (λ e. cc);
      level = λ h. m.dead_level;
      fresh = λ v o h. absurd (s.none_fresh v o (before v Fresh h (λ e. cc) (λ e. cc)));
      becomes = λ v o h. inl (elim (cases_eq v x) [
        | inl i ↦ rw i lx
        | inr i ↦ elim (cases_eq v y) [ inl j ↦ rw j ly | inr j ↦ rw (u.others v i j) at h ]
      ]);
      uproots = λ v o h. inl (before v Uprooted h (λ e. cc) (λ e. cc));
      gone = λ v o h. elim (cases_eq v y) [
        | inl j ↦ (
          j,
          record {
            end = rw put.node.at m.dead_end;
            above = rw (put.node.at, m.leads) (λ e. absurd (not_zero know w x (Left y) g s.left (λ e. cc) (sym e)));
            left = λ link. record {
              alive = rw (put.node.at, m.leads, u.at) live_live;
              held = rw (put.node.at, m.leads) s.held;
              level = rw (put.node.at, m.leads, put.node.others x xy) (s.level ∙ sym m.dead_level);
            };
          },
        )
        | inr j ↦ absurd (s.owes.no_dead v o (sym (u.others v (not_x v Gone h (λ e. cc)) j) ∙ h))
      ];
      no_dead = s.owes.no_dead;
      middle = λ a v o h. absurd (not_y v (Right a) h (λ e. cc) (one_middle know w p parent x y a v s.middle g o (before v (Right a) h (λ e. cc) (λ e. cc))));
      relied = λ q d n h o.
          let other = not_relied know w p q parent y d g n m.parent_held m.parent_live m.parent_level m.parent_covers h in
          (elim (cases_eq d.at x) [ inl i ↦ rw (i, u.at) live_live | inr i ↦ rw (u.others d.at i other) h.alive ], ap (λ f. f d.at) s.sep);
      places = s.owes.places;
      point = s.owes.point;
      maps = s.owes.maps;
      bounded = s.owes.bounded;
      own = s.owes.own;
    }) g
