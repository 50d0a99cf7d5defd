-- Puts by which no page dies and no live page is listed by another key.
use Rattle.std.proofs.Common.{None, ℕ, ◌≡◌, ◌≢◌, ◌⊎◌, true, false, Option, ap, sym, ◌∙◌, inl, inr}
use Rattle.std.proofs.lemmas.Bool.{false≢true}
use Rattle.bl_page.specs.declared.page.Page.{Page}
use Rattle.bl_page.specs.Machine.{Name}
use Rattle.bl_page.specs.Machine.Owner.{Held}
use Rattle.bl_page.specs.Nodes.{unbounded, node_of}
use Rattle.bl_tree.specs.Trees.{Status, is_live, IsLive, IsTree}
use Rattle.bl_tree.specs.Trees.Status.{Free, Fresh, Live, Right, Uprooted, Gone, Anchored}
use Rattle.bl_tree.proofs.Statuses.{live_live, fresh_dead, free_dead, gone_dead, anchored_dead}
use Rattle.bl_claims.specs.Trails.{Said}
use Rattle.bl_tree_worlds.specs.Worlds.{Know, World, nodes, tree_of, was_in, IsGood}
use Rattle.bl_tree_worlds.proofs.Steady.{was_live, fresh_not}
use Rattle.bl_tree_worlds.proofs.Puts.{Puts, InMiddleOf}
use Rattle.bl_tree_worlds.specs.Puts.{Owes}

pub record Living {P : Type 0} (know : P → Know) (w w' : World P) (p : Name) (x : ℕ) (c : Page) (said : Option Said) (b : P) : Type 0 where
  pub owes : Owes know w w' p x c said b
  pub tree : IsTree unbounded (tree_of w')
  pub status : (y : ℕ) → (w'.status y ≡ w.status y) ⊎ ((w.now.owner y ≡ Held p) × ((IsLive (w.status y) × IsLive (w'.status y)) ⊎ ((w.status y ≡ Fresh) × (w'.status y ≡ Live) × (y ≢ x))))
  pub sep : (y : ℕ) → (w'.sep y ≡ w.sep y) ⊎ ((w.now.owner y ≡ Held p) × (w.status y ≡ Fresh))
  pub level : was_in (w.status x) ≡ true → (node_of c).shape.level ≡ (nodes w.now x).shape.level
  pub alone : (y : ℕ) → w.now.owner y ≡ Held p → w'.status y ≡ Fresh → y ≡ x
  pub uproots : (y : ℕ) → w'.status y ≡ Uprooted → (w.status y ≡ Uprooted) ⊎ (w.now.owner 0 ≡ Held p)
  pub middle : (a y : ℕ) → w.now.owner y ≡ Held p → w'.status y ≡ Right a → InMiddleOf know w w' p b a y

-- a live status is none of these
not_live : (a b : Status) → is_live b ≡ false → a ≡ b → IsLive a → ⊥
not_live a b d e h = false≢true (sym d ∙ (ap is_live (sym e) ∙ h))

pub Living-puts : {P : Type 0} (know : P → Know) (w w' : World P) (p : Name) (x : ℕ) (c : Page) (said : Option Said) (b : P) → Living know w w' p x c said b → Puts know w w' p x c said b
Living-puts know w w' p x c said b s =
    -- a status that comes about here is live
    let kept : (y : ℕ) (a : Status) → is_live a ≡ false → w'.status y ≡ a → w.status y ≡ a = λ y a d h. elim (s.status y) [
      | inl e ↦ sym e ∙ h
      | inr o ↦ elim o.1 [
        | inl l ↦ absurd (not_live (w'.status y) a d h l.1)
        | inr l ↦ absurd (not_live (w'.status y) a d h (rw l.1 live_live))
      ]
    ] in
    record {
      extends = s.owes.extends;
      tree = s.tree;
      status = λ y n. elim (s.status y) [ inl e ↦ e | inr o ↦ absurd (n o.0) ];
      sep = λ y n. elim (s.sep y) [ inl e ↦ e | inr o ↦ absurd (n o.0) ];
      was = λ y h. elim (s.status y) [
        | inl e ↦ rw e h
        | inr o ↦ elim o.1 [
          | inl l ↦ was_live (w'.status y) l.1
          | inr l ↦ absurd (false≢true (sym fresh_not ∙ (ap was_in (sym l.0) ∙ h)))
        ]
      ];
      free = λ y h. kept y Free free_dead h;
      anchor = λ y h. kept y Anchored anchored_dead h;
      level = s.level;
      fresh = λ y o h. (kept y Fresh fresh_dead h, s.alone y o h);
      becomes = λ y o h. elim (s.status y) [
        | inl e ↦ inl (rw e at h)
        | inr k ↦ elim k.1 [ inl l ↦ inl l.0 | inr l ↦ inr l.2 ]
      ];
      uproots = λ y o h. s.uproots y h;
      gone = λ y o h. absurd (s.owes.no_dead y o (kept y Gone gone_dead h));
      no_dead = s.owes.no_dead;
      middle = s.middle;
      relied = λ q d n h o. (
        elim (s.status d.at) [
          | inl e ↦ rw e h.alive
          | inr k ↦ elim k.1 [ inl l ↦ l.1 | inr l ↦ rw l.1 live_live ]
        ],
        elim (s.sep d.at) [
          | inl e ↦ e
          | inr k ↦ absurd (not_live (w.status d.at) Fresh fresh_dead k.1 h.alive)
        ],
      );
      places = s.owes.places;
      point = s.owes.point;
      maps = s.owes.maps;
      bounded = s.owes.bounded;
      own = s.owes.own;
    }

-- who is in the middle of no compression holds no page of one
pub none_middle : {P : Type 0} (know : P → Know) (w : World P) (p : Name) (a y : ℕ) → (know (w.proc p)).middle ≡ None → IsGood know w → w.now.owner y ≡ Held p → w.status y ≡ Right a → ⊥
none_middle know w p a y none g o h =
    let k = g.middles a y h in
    let i : k.by ≡ p = cc (k.held, o) in
    let f : (know (w.proc k.by)).middle ≡ None = rw i none in
    cc (k.is)

-- whoever stays in the middle of what it was in the middle of, where no bound changes
pub middle_kept : {P : Type 0} (know : P → Know) (w w' : World P) (p : Name) (b : P) (a y : ℕ) → (know b).middle ≡ (know (w.proc p)).middle → w'.status ≡ w.status → ((z : ℕ) → (nodes w'.now z).shape ≡ (nodes w.now z).shape) → IsGood know w → w.now.owner y ≡ Held p → w.status y ≡ Right a → InMiddleOf know w w' p b a y
middle_kept know w w' p b a y same status shape g o h =
    let k = g.middles a y h in
    let i : k.by ≡ p = cc (k.held, o) in
    record {
      parent = k.parent;
      is = same ∙ rw (← i) k.is;
      held = k.parent_held ∙ ap Held i;
      live = ap (λ f. f k.parent) status ∙ k.parent_live;
      level = rw (shape k.parent, shape y) k.parent_level;
      covers = rw (shape k.parent, shape y) k.parent_covers;
    }
