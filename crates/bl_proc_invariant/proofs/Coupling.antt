-- The first put of a compression keeps a world good, whichever of the two children gains; and so does a retirement.
use Rattle.std.proofs.Common.{ℕ, suc, ◌≡◌, ◌≢◌, ◌<◌, None, ap, sym, ◌∙◌, refl, subst, inl, inr}
use Rattle.bl_page.specs.declared.page.Page.{Page}
use Rattle.bl_page.specs.Machine.{Name, State}
use Rattle.bl_page.specs.Machine.Owner.{Held}
use Rattle.bl_page.specs.Machine.Act.{Put, Retire}
use Rattle.bl_page.specs.Nodes.{Covers, unbounded, node_of}
use Rattle.bl_tree.specs.Trees.Status.{Fresh, Left, Right}
use Rattle.bl_tree.specs.Moves.{IsAtTwo, IsJoin, IsLeftGain, IsRightGain}
use Rattle.bl_claims.specs.Trails.{Mark}
use Rattle.bl_tree_worlds.proofs.Pushes.{HasSaid-silent}
use Rattle.bl_tree_worlds.specs.Worlds.{Know, World, IsSure, IsGood, silent, put_mark}
use Rattle.bl_tree_worlds.proofs.After.{after, Extends-after, put_at, is_put_at}
use Rattle.bl_tree_worlds.proofs.Outside.{Retires-keeps}
use Rattle.bl_tree_worlds.specs.Compressions.{Couples}
use Rattle.bl_tree_worlds.proofs.Compressions.{PutsJoin-keeps, PutsLeftGain-keeps, PutsRightGain-keeps}
use Rattle.bl_rearrange.specs.declared.sides.Side.TheVariants as side
use Rattle.bl_rearrange.specs.declared.families.Siblings.{Siblings}
use Rattle.bl_proc_compress.specs.declared.compression.Decision.{Decision}
use Rattle.bl_proc_compress.specs.declared.compression.Puts.{Puts}
use Rattle.bl_proc_compress.specs.declared.compression.Compression.TheVariants.{PuttingFirst, PuttingParent, Retiring, OpeningLeft}
use Rattle.bl_proc_invariant.specs.Turns.{Does, Turned}
use Rattle.bl_proc_invariant.specs.Compressing.{left_now, right_now, AreThree, IsToPut, ToEvenRight, know_compression_by}
use Rattle.bl_proc_invariant.proofs.Acts.{of_held, not_gone}

-- two places are changed, one after the other
pub is_put_two : {A : Type 0} (x y : ℕ) (a b : A) (f : ℕ → A) → x ≢ y → IsAtTwo x y a b f (put_at y b (put_at x a f))
is_put_two x y a b f n =
    let first = is_put_at x a f in
    let second = is_put_at y b (put_at x a f) in
    record { at = second.others x n ∙ first.at; at_two = second.at; others = λ z i j. second.others z j ∙ first.others z i }

module _ {P : Type 0} (know : P → Know) (w : World P) (g : IsGood know w) (p : Name) (b : P) (level key : ℕ) (got : ℕ → Page) (at new : ℕ) (u : Puts) (before : know (w.proc p) ≡ know_compression_by level key got at new (PuttingFirst u)) (then : know b ≡ know_compression_by level key got at new (PuttingParent u)) where
  sure : IsSure w p (know_compression_by level key got at new (PuttingFirst u))
  sure = rw before at (g.sure p)

  three : AreThree u.at
  three = sure.sound.1

  to_put : IsToPut level key got u at new
  to_put = sure.sound.0

  parent_is : w.now.contents u.at.parent ≡ got u.at.parent
  parent_is = sure.holds.0.page

  left_is : w.now.contents u.at.left ≡ got u.at.left
  left_is = sure.holds.1.0.page

  right_is : w.now.contents u.at.right ≡ got u.at.right
  right_is = sure.holds.1.1.0.page

  -- the world after the put of z
  abbrev pub next : (z : ℕ) (c : Page) (s : State Page) → World P
  next z c s = after w s (put_mark p z c None) b (put_at u.at.right (Right u.at.left) (put_at u.at.left (Left u.at.right) w.status)) w.sep w.map

  two : IsAtTwo u.at.left u.at.right (Left u.at.right) (Right u.at.left) w.status (put_at u.at.right (Right u.at.left) (put_at u.at.left (Left u.at.right) w.status))
  two = is_put_two u.at.left u.at.right (Left u.at.right) (Right u.at.left) w.status three.both

  pub couples : (z : ℕ) (c : Page) (s : State Page) → w.now.owner z ≡ Held p → u.at.parent ≢ z → Does w.now p (Put z c) s → s.contents u.at.left ≡ left_now got u u.gains → s.contents u.at.right ≡ right_now got u u.gains → Covers (node_of (got u.at.parent)).shape (node_of (s.contents u.at.right)).shape.low → Couples know w (next z c s) p u.at.parent u.at.left u.at.right z c b
  couples z c s held n does left right covers =
      let extends = Extends-after w s (put_mark p z c None) b (put_at u.at.right (Right u.at.left) (put_at u.at.left (Left u.at.right) w.status)) w.sep w.map (record { enabled = held; changes = does.changes; on = does.on }) tt in
      let parent_still : s.contents u.at.parent ≡ w.now.contents u.at.parent = does.changes.0.others u.at.parent n in
      record {
        owes = record {
          extends = extends;
          no_dead = not_gone know w g p b _ _ before then (λ e. cc, (λ e. cc, (λ e. cc, tt)));
          places = λ v h. rw then (rw before at h);
          point = λ it e. cc;
          maps = λ j. refl;
          bounded = g.bounded;
          own = rw then (record {
            stage = rw (does.changes.2 p) sure.stage;
            said = HasSaid-silent w.trail (put_mark p z c None) p None refl sure.said;
            holds = (
              record { owner = does.changes.1 u.at.parent ∙ sure.holds.0.owner; status = two.others u.at.parent three.left three.right ∙ sure.holds.0.status; sep = tt; page = parent_still ∙ parent_is },
              (
                record { owner = does.changes.1 u.at.left ∙ sure.holds.1.0.owner; status = two.at; sep = tt; page = left },
                (record { owner = does.changes.1 u.at.right ∙ sure.holds.1.1.0.owner; status = two.at_two; sep = sure.holds.1.1.0.sep; page = right }, tt),
              ),
            );
            goes = tt;
            children = tt;
            passed = tt;
            sound = sure.sound;
          });
        };
        live = sure.holds.1.0.status;
        right_live = sure.holds.1.1.0.status;
        held = sure.holds.1.0.owner;
        right_held = sure.holds.1.1.0.owner;
        bound = subst (λ v. (node_of v).shape.end < unbounded) (sym left_is) to_put.bound;
        linked = ap (λ v. (node_of v).shape.right) left_is ∙ to_put.linked;
        parent_held = sure.holds.0.owner;
        parent_live = sure.holds.0.status;
        parent_level = ap (λ v. (node_of v).shape.level) parent_is ∙ (to_put.parent_level ∙ (sym to_put.level_is ∙ ap (λ v. suc (node_of v).shape.level) (sym right_is)));
        parent_covers = subst (λ v. Covers (node_of v).shape (node_of (s.contents u.at.right)).shape.low) (sym parent_is) covers;
        none_fresh = of_held know w g p b _ _ before then (λ v a. a ≢ Fresh) (λ e. cc, (λ e. cc, (λ e. cc, tt)));
        no_middle = rw before refl;
        middle = rw then refl;
        status = two;
        sep = refl;
        map = refl;
      }

  -- the left child gains: it takes all of the right one, or its front
  module _ (s : State Page) (gains : u.gains ≡ side.Left) (does : Does w.now p (Put u.at.left u.left) s) where
    left_couples : Couples know w (next u.at.left u.left s) p u.at.parent u.at.left u.at.right u.at.left u.left b
    left_couples =
        let still : s.contents u.at.right ≡ got u.at.right = does.changes.0.others u.at.right (λ e. three.both (sym e)) ∙ right_is in
        couples u.at.left u.left s sure.holds.1.0.owner three.left does
        (does.changes.0.at ∙ ap (left_now got u) (sym gains))
        (still ∙ ap (right_now got u) (sym gains))
        (subst (λ v. Covers (node_of (got u.at.parent)).shape (node_of v).shape.low) (sym still) to_put.covers)

    pub join_turn : IsJoin (node_of (got u.at.left)) (node_of (got u.at.right)) (node_of u.left) → Turned know w p (Put u.at.left u.left) s b
    join_turn join = record {
      next = next u.at.left u.left s;
      saw = None;
      said = None;
      extends = left_couples.owes.extends;
      now = refl;
      good = PutsJoin-keeps know w (next u.at.left u.left s) p u.at.parent u.at.left u.at.right u.left b (record {
        couple = left_couples;
        join = subst (λ (v : Page × Page). IsJoin (node_of v.0) (node_of v.1) (node_of u.left)) (λ i. (sym left_is i, sym right_is i)) join;
      }) g;
    }

    pub gain_left_turn : IsLeftGain u.at.right (node_of (got u.at.left)) (node_of (got u.at.right)) (node_of u.left) → Turned know w p (Put u.at.left u.left) s b
    gain_left_turn gain = record {
      next = next u.at.left u.left s;
      saw = None;
      said = None;
      extends = left_couples.owes.extends;
      now = refl;
      good = PutsLeftGain-keeps know w (next u.at.left u.left s) p u.at.parent u.at.left u.at.right u.left b (record {
        couple = left_couples;
        gain = subst (λ (v : Page × Page). IsLeftGain u.at.right (node_of v.0) (node_of v.1) (node_of u.left)) (λ i. (sym left_is i, sym right_is i)) gain;
      }) g;
    }

  -- the right child gains: it takes the back of the left one
  module _ (s : State Page) (does : Does w.now p (Put u.at.right u.right) s) (to : ToEvenRight got u at new) where
    right_couples : Couples know w (next u.at.right u.right s) p u.at.parent u.at.left u.at.right u.at.right u.right b
    right_couples =
        couples u.at.right u.right s sure.holds.1.1.0.owner three.right does
        ((does.changes.0.others u.at.left three.both ∙ left_is) ∙ ap (left_now got u) (sym to.gains))
        (does.changes.0.at ∙ ap (right_now got u) (sym to.gains))
        (subst (λ v. Covers (node_of (got u.at.parent)).shape (node_of v).shape.low) (sym does.changes.0.at) (subst (Covers (node_of (got u.at.parent)).shape) to.new_is to.relisted.new_covered))

    pub gain_right_turn : Turned know w p (Put u.at.right u.right) s b
    gain_right_turn = record {
      next = next u.at.right u.right s;
      saw = None;
      said = None;
      extends = right_couples.owes.extends;
      now = refl;
      good = PutsRightGain-keeps know w (next u.at.right u.right s) p u.at.parent u.at.left u.at.right u.right b (record {
        couple = right_couples;
        gain = subst (λ (v : Page × Page). IsRightGain (node_of v.0) (node_of v.1) (node_of u.right)) (λ i. (sym left_is i, sym right_is i)) to.gain;
      }) g;
    }

-- the dead page is retired, and the other two are still held
pub retire_turn : {P : Type 0} (know : P → Know) (w : World P) (g : IsGood know w) (p : Name) (b : P) (level key : ℕ) (got : ℕ → Page) (at new : ℕ) (t : Siblings) (decision : Decision) (s : State Page) → know (w.proc p) ≡ know_compression_by level key got at new (Retiring t decision) → know b ≡ know_compression_by level key got at new (OpeningLeft t decision) → Does w.now p (Retire t.right) s → Turned know w p (Retire t.right) s b
retire_turn know w g p b level key got at new t decision s before then does =
    let is : IsSure w p (know_compression_by level key got at new (Retiring t decision)) = rw before at (g.sure p) in
    let m : Mark = silent p (Retire t.right) in
    let three : AreThree t = is.sound.1 in
    let owns = does.changes.3 in
    let extends = Extends-after w s m b w.status w.sep w.map (record { enabled = is.holds.1.1.0.owner; changes = does.changes; on = does.on }) tt in
    record {
      next = after w s m b w.status w.sep w.map;
      saw = None;
      said = None;
      extends = extends;
      now = refl;
      good = Retires-keeps know w (after w s m b w.status w.sep w.map) p t.right b (record {
        extends = extends;
        gone = is.holds.1.1.0.status;
        status = refl;
        sep = refl;
        map = refl;
        middle = rw (before, then) refl;
        places = λ z n h. rw then (elim (rw before at h) [ inl e ↦ inl e | inr v ↦ elim v [ inl e ↦ inr (inl e) | inr k ↦ elim k [ inl e ↦ absurd (n (sym e)) | inr o ↦ absurd o ] ] ]);
        own = rw then (record {
          stage = rw (owns.2 p) is.stage;
          said = HasSaid-silent w.trail m p None refl is.said;
          holds = (
            record { owner = owns.1.others t.parent three.right ∙ is.holds.0.owner; status = is.holds.0.status; sep = tt; page = tt },
            (record { owner = owns.1.others t.left three.both ∙ is.holds.1.0.owner; status = is.holds.1.0.status; sep = tt; page = tt }, tt),
          );
          goes = tt;
          children = tt;
          passed = tt;
          sound = (is.sound.0, three.left);
        });
      }) g;
    }
