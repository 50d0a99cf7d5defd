-- The last put of a compression keeps a world good: a page dies, or loses what the other one has gained.
use Rattle.std.proofs.Common.{ℕ, suc, ◌≡◌, ◌≢◌, ◌<◌, None, arith, ap, sym, ◌∙◌, refl, subst}
use Rattle.bl_page.specs.declared.page.Page.{Page}
use Rattle.bl_page.specs.declared.page.Page.TheVariants.{Dead}
use Rattle.bl_page.specs.Machine.{Name, Owner, State}
use Rattle.bl_page.specs.Machine.Act.{Put}
use Rattle.bl_page.specs.Nodes.{Covers, node_of}
use Rattle.bl_tree.specs.Trees.{Status}
use Rattle.bl_tree.specs.Trees.Status.{Fresh, Live, Gone}
use Rattle.bl_tree.specs.Moves.{IsAtTwo, IsRightLoss, IsLeftLoss}
use Rattle.bl_tree_worlds.proofs.Pushes.{HasSaid-silent}
use Rattle.bl_tree_worlds.specs.Worlds.{Know, World, nodes, IsHeld, IsSure, IsGood, HoldsPage, put_mark}
use Rattle.bl_tree_worlds.proofs.After.{after, Extends-after, put_at}
use Rattle.bl_tree_worlds.specs.Compressions.{Parts}
use Rattle.bl_tree_worlds.proofs.Splittings.{PutsRightLoss-keeps, PutsLeftLoss-keeps, PutsDead-keeps}
use Rattle.bl_proc_compress.specs.Compressions.{IsBuried}
use Rattle.bl_proc_compress.specs.declared.compression.Decision.{Decision}
use Rattle.bl_proc_compress.specs.declared.compression.Puts.{Puts}
use Rattle.bl_proc_compress.specs.declared.compression.Compression.TheVariants.{PuttingLast, Retiring, OpeningRight}
use Rattle.bl_proc_invariant.specs.Turns.{Does, Turned}
use Rattle.bl_proc_invariant.specs.Tables.{holds_live}
use Rattle.bl_proc_invariant.specs.Compressing.{left_now, right_now, AreThree, IsToPut, ToMerge, ToEvenLeft, ToEvenRight, know_compression_by}
use Rattle.bl_proc_invariant.proofs.Acts.{of_held, not_gone}
use Rattle.bl_proc_invariant.proofs.Coupling.{is_put_two}

-- what a page that was merged away says
pub record BuriedSays (x : ℕ) (old new : Page) : Type 0 where
  pub level : (node_of new).shape.level ≡ (node_of old).shape.level
  pub end : (node_of new).shape.end ≡ 0
  pub leads : (node_of new).shape.right ≡ x

pub buried_says : (x : ℕ) (old new : Page) → IsBuried x old new → BuriedSays x old new
buried_says x old (Dead d) h = record { level = h.0; end = refl; leads = h.2 }
buried_says x old what h = absurd h

module _ {P : Type 0} (know : P → Know) (w : World P) (g : IsGood know w) (p : Name) (b : P) (level key : ℕ) (got : ℕ → Page) (at new : ℕ) (u : Puts) (before : know (w.proc p) ≡ know_compression_by level key got at new (PuttingLast u)) (s : State Page) where
  sure : IsSure w p (know_compression_by level key got at new (PuttingLast u))
  sure = rw before at (g.sure p)

  three : AreThree u.at
  three = sure.sound.1

  to_put : IsToPut level key got u at new
  to_put = sure.sound.0

  -- the world after the put of z, by which the left page is live, and the right one stands so
  abbrev pub next : (z : ℕ) (c : Page) → Status → World P
  next z c a = after w s (put_mark p z c None) b (put_at u.at.right a (put_at u.at.left Live w.status)) w.sep w.map

  two : (a : Status) → IsAtTwo u.at.left u.at.right Live a w.status (put_at u.at.right a (put_at u.at.left Live w.status))
  two a = is_put_two u.at.left u.at.right Live a w.status three.both

  parent_held : (z : ℕ) (c : Page) (a : Status) → Does w.now p (Put z c) s → IsHeld (next z c a) p (holds_live u.at.parent)
  parent_held z c a does = record { owner = does.changes.1 u.at.parent ∙ sure.holds.0.owner; status = (two a).others u.at.parent three.left three.right ∙ sure.holds.0.status; sep = tt; page = tt }

  left_held : (z : ℕ) (c : Page) (a : Status) → Does w.now p (Put z c) s → IsHeld (next z c a) p (holds_live u.at.left)
  left_held z c a does = record { owner = does.changes.1 u.at.left ∙ sure.holds.1.0.owner; status = (two a).at; sep = tt; page = tt }

  right_held : (z : ℕ) (c : Page) (a : Status) → Does w.now p (Put z c) s → IsHeld (next z c a) p (record { at = u.at.right; status = a; sep = None; page = None })
  right_held z c a does = record { owner = does.changes.1 u.at.right ∙ sure.holds.1.1.0.owner; status = (two a).at_two; sep = tt; page = tt }

  parts : (z : ℕ) (c : Page) (a : Status) → w.now.owner z ≡ Owner.Held p → Does w.now p (Put z c) s → ((v : ℕ) → HoldsPage (know (w.proc p)).holds v → HoldsPage (know b).holds v) → IsSure (next z c a) p (know b) → (nodes w.now u.at.left).shape.level ≡ (nodes w.now u.at.right).shape.level → (nodes w.now u.at.left).shape.low < (nodes w.now u.at.right).shape.low → Parts know w (next z c a) p u.at.parent u.at.left u.at.right z c b
  parts z c a held does places own same below = record {
    owes = record {
      extends = Extends-after w s (put_mark p z c None) b (put_at u.at.right a (put_at u.at.left Live w.status)) w.sep w.map (record { enabled = held; changes = does.changes; on = does.on }) tt;
      no_dead = not_gone know w g p b _ _ before (λ i. know b) (λ e. cc, (λ e. cc, (λ e. cc, tt)));
      places = places;
      point = λ it e. cc;
      maps = λ j. refl;
      bounded = g.bounded;
      own = own;
    };
    left = sure.holds.1.0.status;
    held = sure.holds.1.0.owner;
    right_held = sure.holds.1.1.0.owner;
    level = same;
    below = below;
    none_fresh = of_held know w g p b _ _ before (λ i. know b) (λ v a. a ≢ Fresh) (λ e. cc, (λ e. cc, (λ e. cc, tt)));
    middle = rw before refl;
    sep = refl;
    map = refl;
  }

  -- a merge: the right page is dead
  pub die_turn : (decision : Decision) → know b ≡ know_compression_by level key got at new (Retiring u.at decision) → Does w.now p (Put u.at.right u.right) s → ToMerge got u at new → Turned know w p (Put u.at.right u.right) s b
  die_turn decision then does to =
      let left_is : w.now.contents u.at.left ≡ u.left = sure.holds.1.0.page ∙ ap (left_now got u) to.gains in
      let right_is : w.now.contents u.at.right ≡ got u.at.right = sure.holds.1.1.0.page ∙ ap (right_now got u) to.gains in
      let parent_is : w.now.contents u.at.parent ≡ u.parent = sure.holds.0.page in
      let listed : w.sep u.at.right ≡ at = sure.holds.1.1.0.sep ∙ to.same in
      let says = buried_says u.at.left (got u.at.right) u.right to.buried in
      let left_level : suc (nodes w.now u.at.left).shape.level ≡ level = ap (λ v. suc (node_of v).shape.level) left_is ∙ (ap suc to.join.level ∙ to_put.left_level) in
      let right_level : suc (nodes w.now u.at.right).shape.level ≡ level = ap (λ v. suc (node_of v).shape.level) right_is ∙ to_put.level_is in
      let parent_shape : (nodes w.now u.at.parent).shape ≡ (node_of (got u.at.parent)).shape = ap (λ v. (node_of v).shape) parent_is ∙ to.row.shape in
      let q = parts u.at.right u.right Gone sure.holds.1.1.0.owner does (λ v h. rw then (rw before at h))
      (rw then (record {
        stage = rw (does.changes.2 p) sure.stage;
        said = HasSaid-silent w.trail (put_mark p u.at.right u.right None) p None refl sure.said;
        holds = (parent_held u.at.right u.right Gone does, (left_held u.at.right u.right Gone does, (right_held u.at.right u.right Gone does, tt)));
        goes = tt;
        children = tt;
        passed = tt;
        sound = (to_put.small, three);
      }))
      (omega (arith, left_level, right_level))
      (let below = to_put.below in let e = ap (λ v. (node_of v).shape.low) left_is in let f = ap (λ v. (node_of v).shape.low) right_is in let low = to.join.low in omega (arith, below, e, f, low)) in
      record {
        next = next u.at.right u.right Gone;
        saw = None;
        said = None;
        extends = q.owes.extends;
        now = refl;
        good = PutsDead-keeps know w (next u.at.right u.right Gone) p u.at.parent u.at.left u.at.right u.right b (record {
          parts = q;
          end = ap (λ v. (node_of v).shape.end) left_is ∙ (to.join.end ∙ ap (λ v. (node_of v).shape.end) (sym right_is));
          right = ap (λ v. (node_of v).shape.right) left_is ∙ (to.join.right ∙ ap (λ v. (node_of v).shape.right) (sym right_is));
          parent_held = sure.holds.0.owner;
          parent_live = sure.holds.0.status;
          parent_level = ap (λ v. v.level) parent_shape ∙ (to_put.parent_level ∙ sym right_level);
          parent_covers = subst (λ v. Covers v (w.sep u.at.right)) (sym parent_shape) (subst (Covers (node_of (got u.at.parent)).shape) (sym listed) to.row.covered);
          unlisted = ap (λ v. (node_of v).look (w.sep u.at.right)) parent_is ∙ (ap (node_of u.parent).look listed ∙ to.row.here);
          dead_level = says.level ∙ ap (λ v. (node_of v).shape.level) (sym right_is);
          dead_end = says.end;
          leads = says.leads;
          status = two Gone;
        }) g;
      }

  -- an evening: the page that gave pairs loses them
  opening : (z : ℕ) (c : Page) (decision : Decision) → Does w.now p (Put z c) s → IsSure (next z c Live) p (know_compression_by level key got at new (OpeningRight u.at decision))
  opening z c decision does = record {
    stage = rw (does.changes.2 p) sure.stage;
    said = HasSaid-silent w.trail (put_mark p z c None) p None refl sure.said;
    holds = (parent_held z c Live does, (left_held z c Live does, (right_held z c Live does, tt)));
    goes = tt;
    children = tt;
    passed = tt;
    sound = (to_put.small, three);
  }

  pub lose_right_turn : (decision : Decision) → know b ≡ know_compression_by level key got at new (OpeningRight u.at decision) → Does w.now p (Put u.at.right u.right) s → ToEvenLeft got u at new → Turned know w p (Put u.at.right u.right) s b
  lose_right_turn decision then does to =
      let left_is : w.now.contents u.at.left ≡ u.left = sure.holds.1.0.page ∙ ap (left_now got u) to.gains in
      let right_is : w.now.contents u.at.right ≡ got u.at.right = sure.holds.1.1.0.page ∙ ap (right_now got u) to.gains in
      let left_level : suc (nodes w.now u.at.left).shape.level ≡ level = ap (λ v. suc (node_of v).shape.level) left_is ∙ (ap suc to.gain.level ∙ to_put.left_level) in
      let right_level : suc (nodes w.now u.at.right).shape.level ≡ level = ap (λ v. suc (node_of v).shape.level) right_is ∙ to_put.level_is in
      let left_end = ap (λ v. (node_of v).shape.end) left_is in
      let right_low = ap (λ v. (node_of v).shape.low) right_is in
      let right_end = ap (λ v. (node_of v).shape.end) right_is in
      let q = parts u.at.right u.right Live sure.holds.1.1.0.owner does (λ v h. rw then (rw before at h)) (rw then (opening u.at.right u.right decision does))
      (omega (arith, left_level, right_level))
      (let below = to_put.below in let e = ap (λ v. (node_of v).shape.low) left_is in let low = to.gain.low in omega (arith, below, e, right_low, low)) in
      record {
        next = next u.at.right u.right Live;
        saw = None;
        said = None;
        extends = q.owes.extends;
        now = refl;
        good = PutsRightLoss-keeps know w (next u.at.right u.right Live) p u.at.parent u.at.left u.at.right u.right b (record {
          parts = q;
          meets = (let m = to.gain.above in omega (arith, m, left_end, right_low));
          inner = (let m = to.gain.below in omega (arith, m, left_end, right_end));
          linked = ap (λ v. (node_of v).shape.right) left_is ∙ to.gain.right;
          y_sep = sure.holds.1.1.0.sep ∙ (to.new_is ∙ sym left_end);
          loss = subst (λ (v : Page × Page). IsRightLoss (node_of v.0) (node_of v.1) (node_of u.right)) (λ i. (sym left_is i, sym right_is i)) to.loss;
          status = two Live;
        }) g;
      }

  pub lose_left_turn : (decision : Decision) → know b ≡ know_compression_by level key got at new (OpeningRight u.at decision) → Does w.now p (Put u.at.left u.left) s → ToEvenRight got u at new → Turned know w p (Put u.at.left u.left) s b
  lose_left_turn decision then does to =
      let left_is : w.now.contents u.at.left ≡ got u.at.left = sure.holds.1.0.page ∙ ap (left_now got u) to.gains in
      let right_is : w.now.contents u.at.right ≡ u.right = sure.holds.1.1.0.page ∙ ap (right_now got u) to.gains in
      let left_level : suc (nodes w.now u.at.left).shape.level ≡ level = ap (λ v. suc (node_of v).shape.level) left_is ∙ to_put.left_level in
      let right_level : suc (nodes w.now u.at.right).shape.level ≡ level = ap (λ v. suc (node_of v).shape.level) right_is ∙ (ap suc to.gain.level ∙ to_put.level_is) in
      let left_low = ap (λ v. (node_of v).shape.low) left_is in
      let left_end = ap (λ v. (node_of v).shape.end) left_is in
      let right_low = ap (λ v. (node_of v).shape.low) right_is in
      let q = parts u.at.left u.left Live sure.holds.1.0.owner does (λ v h. rw then (rw before at h)) (rw then (opening u.at.left u.left decision does))
      (omega (arith, left_level, right_level))
      (let m = to.gain.above in omega (arith, m, left_low, right_low)) in
      record {
        next = next u.at.left u.left Live;
        saw = None;
        said = None;
        extends = q.owes.extends;
        now = refl;
        good = PutsLeftLoss-keeps know w (next u.at.left u.left Live) p u.at.parent u.at.left u.at.right u.left b (record {
          parts = q;
          meets = (let m = to.gain.below in let e = to_put.meets in omega (arith, m, e, left_end, right_low));
          y_sep = sure.holds.1.1.0.sep ∙ (to.new_is ∙ sym right_low);
          loss = subst (λ (v : Page × Page). IsLeftLoss u.at.right (node_of v.0) (node_of v.1) (node_of u.left)) (λ i. (sym left_is i, sym right_is i)) to.loss;
          status = two Live;
        }) g;
      }
