-- The puts of compressions keep a world good.
use Rattle.std.proofs.Common.{ℕ, ◌≡◌, ◌≢◌, ◌⊎◌, None, arith, ap, sym, ◌∙◌, refl, inl, inr}
use Rattle.std.proofs.lemmas.Bool.{cases_eq}
use Rattle.bl_page.specs.declared.page.Page.{Page}
use Rattle.bl_page.specs.Machine.{Name}
use Rattle.bl_page.specs.Nodes.{unbounded, node_of}
use Rattle.bl_tree.specs.Trees.{IsLive, IsTree}
use Rattle.bl_tree.specs.Trees.Status.{Fresh, Live, Left, Right, Uprooted}
use Rattle.bl_tree.proofs.Statuses.{live_live, left_live, right_live}
use Rattle.bl_tree.proofs.Merges.{Joins-keeps}
use Rattle.bl_tree.proofs.Evenings.{GainsLeft-keeps, GainsRight-keeps}
use Rattle.bl_tree_worlds.specs.Worlds.{Know, World, nodes, tree_of, IsGood}
use Rattle.bl_tree_worlds.proofs.Puts.{Puts-keeps}
use Rattle.bl_tree_worlds.specs.Compressions.{Couples, PutsJoin, PutsLeftGain, PutsRightGain}
use Rattle.bl_tree_worlds.proofs.Living.{Living-puts, none_middle}
use Rattle.bl_tree_worlds.proofs.Moves.{put_page, not_zero}

-- the first put of a compression, whatever it does to the pages
couples_keeps : {P : Type 0} (know : P → Know) (w w' : World P) (p : Name) (parent x y z : ℕ) (c : Page) (b : P) → Couples know w w' p parent x y z c b → (z ≡ x) ⊎ (z ≡ y) → (node_of c).shape.level ≡ (nodes w.now z).shape.level → IsTree unbounded (tree_of w') → IsGood know w → IsGood know w'
couples_keeps know w w' p parent x y z c b s which level tree g =
    let u = s.status in
    let change = s.owes.extends.steps.changes in
    let lx : IsLive (w.status x) = rw s.live live_live in
    let ly : IsLive (w.status y) = rw s.right_live live_live in
    let same_level : (nodes w.now y).shape.level ≡ (nodes w.now x).shape.level = rw (← s.linked) (g.tree.side.link_level x lx s.bound) in
    let px : parent ≢ x = λ i. absurd (let e : (nodes w.now parent).shape.level ≡ (nodes w.now x).shape.level = ap (λ v. (nodes w.now v).shape.level) i in omega (arith, s.parent_level)) in
    let py : parent ≢ y = λ i. absurd (let e : (nodes w.now parent).shape.level ≡ (nodes w.now y).shape.level = ap (λ v. (nodes w.now v).shape.level) i in omega (arith, s.parent_level)) in
    let pz : parent ≢ z = λ i. elim which [ inl v ↦ px (i ∙ v) | inr v ↦ py (i ∙ v) ] in
    let node : (v : ℕ) → v ≢ z → nodes w'.now v ≡ nodes w.now v = λ v n. ap node_of (change.0.others v n) in
    let y_level : (nodes w'.now y).shape.level ≡ (nodes w.now y).shape.level = elim (cases_eq y z) [
      | inl i ↦ rw (i, change.0.at) level
      | inr i ↦ ap (λ n. n.shape.level) (node y i)
    ] in
    Puts-keeps know w w' p z c None b (Living-puts know w w' p z c None b (record {
      owes = s.owes;
      tree = tree;
      status = λ v. elim (cases_eq v x) [
        | inl i ↦ inr (rw i s.held, inl (rw i lx, rw (i, u.at) (left_live y)))
        | inr i ↦ elim (cases_eq v y) [
          | inl j ↦ inr (rw j s.right_held, inl (rw j ly, rw (j, u.at_two) (right_live x)))
          | inr j ↦ inl (u.others v i j)
        ]
      ];
      sep = λ v. inl (ap (λ f. f v) s.sep);
      level = λ h. level;
      alone = λ v o h. elim (cases_eq v x) [
        | inl i ↦ (let e : Left y ≡ Fresh = sym u.at ∙ (ap w'.status (sym i) ∙ h) in cc)
        | inr i ↦ elim (cases_eq v y) [
          | inl j ↦ (let e : Right x ≡ Fresh = sym u.at_two ∙ (ap w'.status (sym j) ∙ h) in cc)
          | inr j ↦ absurd (s.none_fresh v o (sym (u.others v i j) ∙ h))
        ]
      ];
      uproots = λ v h. elim (cases_eq v x) [
        | inl i ↦ (let e : Left y ≡ Uprooted = sym u.at ∙ (ap w'.status (sym i) ∙ h) in cc)
        | inr i ↦ elim (cases_eq v y) [
          | inl j ↦ (let e : Right x ≡ Uprooted = sym u.at_two ∙ (ap w'.status (sym j) ∙ h) in cc)
          | inr j ↦ inl (sym (u.others v i j) ∙ h)
        ]
      ];
      middle = λ a v o h. elim (cases_eq v x) [
        | inl i ↦ (let e : Left y ≡ Right a = sym u.at ∙ (ap w'.status (sym i) ∙ h) in cc)
        | inr i ↦ elim (cases_eq v y) [
          | inl j ↦
              let e : Right x ≡ Right a = sym u.at_two ∙ (ap w'.status (sym j) ∙ h) in
              let k : a ≡ x = cc in
              rw (j, k) (record {
                parent = parent;
                is = s.middle;
                held = s.parent_held;
                live = u.others parent px py ∙ s.parent_live;
                level = rw (node parent pz, y_level) s.parent_level;
                covers = rw (node parent pz) s.parent_covers;
              })
          | inr j ↦ absurd (none_middle know w p a v s.no_middle g o (sym (u.others v i j) ∙ h))
        ]
      ];
    })) g

pub PutsJoin-keeps : {P : Type 0} (know : P → Know) (w w' : World P) (p : Name) (parent x y : ℕ) (c : Page) (b : P) → PutsJoin know w w' p parent x y c b → IsGood know w → IsGood know w'
PutsJoin-keeps know w w' p parent x y c b m g =
    let s = m.couple in
    couples_keeps know w w' p parent x y x c b s (inl refl) m.join.level
    (Joins-keeps {x = x} {y = y} {b = node_of c} {t = tree_of w} {t' = tree_of w'} (record { live = s.live; right_live = s.right_live; bound = s.bound; linked = s.linked; join = m.join; put = put_page w w' s.owes (not_zero know w x Live g s.live (λ e. cc)); status = s.status; stays = record { sep = s.sep; map = s.map } }) g.tree) g

pub PutsLeftGain-keeps : {P : Type 0} (know : P → Know) (w w' : World P) (p : Name) (parent x y : ℕ) (c : Page) (b : P) → PutsLeftGain know w w' p parent x y c b → IsGood know w → IsGood know w'
PutsLeftGain-keeps know w w' p parent x y c b m g =
    let s = m.couple in
    couples_keeps know w w' p parent x y x c b s (inl refl) m.gain.level
    (GainsLeft-keeps {x = x} {y = y} {b = node_of c} {t = tree_of w} {t' = tree_of w'} (record { live = s.live; right_live = s.right_live; bound = s.bound; linked = s.linked; gain = m.gain; put = put_page w w' s.owes (not_zero know w x Live g s.live (λ e. cc)); status = s.status; stays = record { sep = s.sep; map = s.map } }) g.tree) g

pub PutsRightGain-keeps : {P : Type 0} (know : P → Know) (w w' : World P) (p : Name) (parent x y : ℕ) (c : Page) (b : P) → PutsRightGain know w w' p parent x y c b → IsGood know w → IsGood know w'
PutsRightGain-keeps know w w' p parent x y c b m g =
    let s = m.couple in
    couples_keeps know w w' p parent x y y c b s (inr refl) m.gain.level
    (GainsRight-keeps {x = x} {y = y} {d = node_of c} {t = tree_of w} {t' = tree_of w'} (record { live = s.live; right_live = s.right_live; bound = s.bound; linked = s.linked; gain = m.gain; put = put_page w w' s.owes (not_zero know w y Live g s.right_live (λ e. cc)); status = s.status; stays = record { sep = s.sep; map = s.map } }) g.tree) g
