-- The second put of a compression, of the parent, keeps a world good: it drops the right child, or lists it by another key.
use Rattle.std.proofs.Common.{ℕ, suc, ◌≡◌, ◌≢◌, ◌<◌, ◌≤◌, Option, Some, None, arith, ap, sym, ◌∙◌, refl, subst}
use Rattle.bl_page.specs.declared.page.Page.{Page}
use Rattle.bl_page.specs.Machine.{Name, Owner, State}
use Rattle.bl_page.specs.Machine.Act.{Put}
use Rattle.bl_model.specs.Map.{Map}
use Rattle.bl_tree.specs.Trees.Status.{Fresh}
use Rattle.bl_tree.specs.Moves.{IsRow, IsMapRow, IsRelisted}
use Rattle.bl_page.specs.Nodes.{node_of}
use Rattle.bl_tree_worlds.proofs.Pushes.{HasSaid-silent}
use Rattle.bl_tree_worlds.specs.Worlds.{Know, World, nodes, IsSure, IsGood, IsBounded, put_mark}
use Rattle.bl_tree_worlds.proofs.After.{after, Extends-after, put_at, is_put_at}
use Rattle.bl_tree_worlds.specs.Puts.{Owes}
use Rattle.bl_tree_worlds.proofs.Moves.{PutsRow-keeps}
use Rattle.bl_tree_worlds.proofs.Splittings.{PutsRelisted-keeps}
use Rattle.bl_proc_compress.specs.declared.compression.Puts.{Puts}
use Rattle.bl_proc_compress.specs.declared.compression.Compression.TheVariants.{PuttingParent, PuttingLast}
use Rattle.bl_proc_invariant.specs.Turns.{Does, Turned}
use Rattle.bl_proc_invariant.specs.Compressing.{right_now, AreThree, IsToPut, ToMerge, ToEvenLeft, ToEvenRight, know_compression_by}
use Rattle.bl_proc_invariant.proofs.Acts.{of_held, not_gone}

-- one level's map with its key changed, and with two of them
abbrev pub row_map : ℕ → ℕ → Option ℕ → (ℕ → Map) → ℕ → Map
row_map l k v m = put_at l (put_at k v (m l)) m

pub is_row_map : (l k : ℕ) (v : Option ℕ) (m : ℕ → Map) → IsMapRow l k v m (row_map l k v m)
is_row_map l k v m =
    let level = is_put_at l (put_at k v (m l)) m in
    let row = is_put_at k v (m l) in
    record { here = ap (λ f. f k) level.at ∙ row.at; rest = λ j n. ap (λ f. f j) level.at ∙ row.others j n; others = level.others }

module _ {P : Type 0} (know : P → Know) (w : World P) (g : IsGood know w) (p : Name) (b : P) (level key : ℕ) (got : ℕ → Page) (at new : ℕ) (u : Puts) (before : know (w.proc p) ≡ know_compression_by level key got at new (PuttingParent u)) (then : know b ≡ know_compression_by level key got at new (PuttingLast u)) (s : State Page) (does : Does w.now p (Put u.at.parent u.parent) s) (above : 0 < level) where
  sure : IsSure w p (know_compression_by level key got at new (PuttingParent u))
  sure = rw before at (g.sure p)

  three : AreThree u.at
  three = sure.sound.1

  to_put : IsToPut level key got u at new
  to_put = sure.sound.0

  parent_is : w.now.contents u.at.parent ≡ got u.at.parent
  parent_is = sure.holds.0.page

  parent_level : (nodes w.now u.at.parent).shape.level ≡ level
  parent_level = ap (λ v. (node_of v).shape.level) parent_is ∙ to_put.parent_level

  -- the world after it, with these keys and this map
  abbrev pub next : (ℕ → ℕ) → (ℕ → Map) → World P
  next sep map = after w s (put_mark p u.at.parent u.parent None) b w.status sep map

  owes : (sep : ℕ → ℕ) (map : ℕ → Map) → sep u.at.right ≡ new → map 0 ≡ w.map 0 → Owes know w (next sep map) p u.at.parent u.parent None b
  owes sep map listed rows =
      let extends = Extends-after w s (put_mark p u.at.parent u.parent None) b w.status sep map (record { enabled = sure.holds.0.owner; changes = does.changes; on = does.on }) tt in
      record {
        extends = extends;
        no_dead = not_gone know w g p b _ _ before then (λ e. cc, (λ e. cc, (λ e. cc, tt)));
        places = λ v h. rw then (rw before at h);
        point = λ it e. cc;
        maps = λ j. ap (λ f. f j) rows;
        bounded = subst IsBounded (sym rows) g.bounded;
        own = rw then (record {
          stage = rw (does.changes.2 p) sure.stage;
          said = HasSaid-silent w.trail (put_mark p u.at.parent u.parent None) p None refl sure.said;
          holds = (
            record { owner = does.changes.1 u.at.parent ∙ sure.holds.0.owner; status = sure.holds.0.status; sep = tt; page = does.changes.0.at },
            (
              record { owner = does.changes.1 u.at.left ∙ sure.holds.1.0.owner; status = sure.holds.1.0.status; sep = tt; page = does.changes.0.others u.at.left (λ e. three.left (sym e)) ∙ sure.holds.1.0.page },
              (record { owner = does.changes.1 u.at.right ∙ sure.holds.1.1.0.owner; status = sure.holds.1.1.0.status; sep = listed; page = does.changes.0.others u.at.right (λ e. three.right (sym e)) ∙ sure.holds.1.1.0.page }, tt),
            ),
          );
          goes = tt;
          children = tt;
          passed = tt;
          sound = sure.sound;
        });
      }

  none_fresh : (z : ℕ) → w.now.owner z ≡ Owner.Held p → w.status z ≢ Fresh
  none_fresh = of_held know w g p b _ _ before then (λ v a. a ≢ Fresh) (λ e. cc, (λ e. cc, (λ e. cc, tt)))

  not_leaves : (l : ℕ) → l ≡ level → 0 ≢ l
  not_leaves l e i = absurd (omega (arith, above, e, i))

  -- a merge: the parent lists the right child no more
  pub drop_turn : ToMerge got u at new → Turned know w p (Put u.at.parent u.parent) s b
  drop_turn to =
      let l = (nodes w.now u.at.parent).shape.level in
      let map = row_map l at None w.map in
      let changed = is_row_map l at None w.map in
      let o = owes w.sep map (sure.holds.1.1.0.sep ∙ sym to.same) (changed.others 0 (not_leaves l parent_level)) in
      record {
        next = next w.sep map;
        saw = None;
        said = None;
        extends = o.extends;
        now = refl;
        good = PutsRow-keeps know w (next w.sep map) p u.at.parent at None u.parent None b (record {
          owes = o;
          live = sure.holds.0.status;
          row = subst (λ v. IsRow at None (node_of v) (node_of u.parent)) (sym parent_is) to.row;
          child = λ i c e f. absurd (let z : None ≡ Some c = f in cc);
          none_fresh = none_fresh;
          middle = rw (before, then) refl;
          status = refl;
          sep = refl;
          map = changed;
        }) g;
      }

  -- an evening: the parent lists the right child, which says that of its level and its low, by the new key
  pub relist_turn : suc (nodes w.now u.at.right).shape.level ≡ level → 0 < (nodes w.now u.at.right).shape.low → (nodes w.now u.at.right).shape.low ≤ new → IsRelisted u.at.right at new (node_of (got u.at.parent)) (node_of u.parent) → Turned know w p (Put u.at.parent u.parent) s b
  relist_turn child_level some low relisted =
      let l = (nodes w.now u.at.parent).shape.level in
      let y = u.at.right in
      let first = row_map l (w.sep y) None w.map in
      let map = row_map l new (Some y) first in
      let dropped = is_row_map l (w.sep y) None w.map in
      let listed = is_row_map l new (Some y) first in
      let sep = is_put_at y new w.sep in
      let same : w.sep y ≡ at = sure.holds.1.1.0.sep in
      let differ : w.sep y ≢ new = λ e. relisted.differ (sym e ∙ same) in
      let n = not_leaves l parent_level in
      let o = owes (put_at y new w.sep) map sep.at (listed.others 0 n ∙ dropped.others 0 n) in
      record {
        next = next (put_at y new w.sep) map;
        saw = None;
        said = None;
        extends = o.extends;
        now = refl;
        good = PutsRelisted-keeps know w (next (put_at y new w.sep) map) p u.at.parent u.at.left y new u.parent b (record {
          owes = o;
          live = sure.holds.0.status;
          right = sure.holds.1.1.0.status;
          right_held = sure.holds.1.1.0.owner;
          level = parent_level ∙ sym child_level;
          above = some;
          low = low;
          relisted = subst (λ v. IsRelisted y (w.sep y) new (node_of v) (node_of u.parent)) (sym parent_is) (subst (λ z. IsRelisted y z new (node_of (got u.at.parent)) (node_of u.parent)) (sym same) relisted);
          none_fresh = none_fresh;
          middle = rw (before, then) refl;
          status = refl;
          sep = sep;
          gone = listed.rest (w.sep y) differ ∙ dropped.here;
          here = listed.here;
          rest = λ k i j. listed.rest k j ∙ dropped.rest k i;
          others = λ i e. listed.others i e ∙ dropped.others i e;
        }) g;
      }

  pub relist_left_turn : ToEvenLeft got u at new → Turned know w p (Put u.at.parent u.parent) s b
  relist_left_turn to =
      let right_is : w.now.contents u.at.right ≡ got u.at.right = sure.holds.1.1.0.page ∙ ap (right_now got u) to.gains in
      let below = to_put.below in
      relist_turn (ap (λ v. suc (node_of v).shape.level) right_is ∙ to_put.level_is)
      (subst (λ v. 0 < (node_of v).shape.low) (sym right_is) (omega (arith, below)))
      (subst (λ v. (node_of v).shape.low ≤ new) (sym right_is) (let m = to.gain.above in let e = to.new_is in omega (arith, m, e)))
      to.relisted

  pub relist_right_turn : ToEvenRight got u at new → Turned know w p (Put u.at.parent u.parent) s b
  relist_right_turn to =
      let right_is : w.now.contents u.at.right ≡ u.right = sure.holds.1.1.0.page ∙ ap (right_now got u) to.gains in
      relist_turn (ap (λ v. suc (node_of v).shape.level) right_is ∙ (ap suc to.gain.level ∙ to_put.level_is))
      (subst (λ v. 0 < (node_of v).shape.low) (sym right_is) (let m = to.gain.above in omega (arith, m)))
      (subst (λ v. (node_of v).shape.low ≤ new) (sym right_is) (let e = to.new_is in omega (arith, e)))
      to.relisted
