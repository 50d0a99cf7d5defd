-- On the way down: what a page that a process may get tells it.
use Rattle.std.proofs.Common.{ℕ, ◌≡◌, ◌≢◌, ◌⊎◌, ◌≤◌, ◌<◌, true, suc, arith, ap, sym, ◌∙◌, refl, inl, inr}
use Rattle.std.proofs.lemmas.Bool.{false≢true}
use Rattle.bl_page.specs.Machine.{Name, Owner}
use Rattle.bl_page.specs.Machine.Owner.{Released}
use Rattle.bl_page.specs.Machine.Phase.{Running}
use Rattle.bl_page.specs.Nodes.{Covers, unbounded, roots_of, IsTreePage, IsChildOf}
use Rattle.bl_tree.specs.Trees.{Status, is_live, IsLive}
use Rattle.bl_tree.specs.Trees.Status.{Free, Fresh, Live, Left, Right, Uprooted, Gone, Anchored}
use Rattle.bl_tree.proofs.Statuses.{live_live, left_live, right_live, uprooted_live, gone_dead}
use Rattle.bl_tree_worlds.specs.Worlds.{Know, World, nodes, was_in, MayGet, IsGoes, IsGood}
use Rattle.bl_tree_worlds.proofs.Steady.{was_live, free_not, fresh_not, anchored_not}
use Rattle.bl_tree.proofs.SoundPages.{sound_node}
use Rattle.bl_tree_worlds.proofs.WorldLaws.{wide_bound}

-- a page that was in the tree is live or dead
live_or_gone : (s : Status) → was_in s ≡ true → IsLive s ⊎ (s ≡ Gone)
live_or_gone Free h = absurd (false≢true (sym free_not ∙ h))
live_or_gone Fresh h = absurd (false≢true (sym fresh_not ∙ h))
live_or_gone Live h = inl live_live
live_or_gone (Left y) h = inl (left_live y)
live_or_gone (Right y) h = inl (right_live y)
live_or_gone Uprooted h = inl uprooted_live
live_or_gone Gone h = inr refl
live_or_gone Anchored h = absurd (false≢true (sym anchored_not ∙ h))

module _ {P : Type 0} (know : P → Know) (w : World P) (g : IsGood know w) where
  -- a leaf or an inner page that a process may get is live
  pub is_live_page : (p : Name) (x : ℕ) → MayGet w p x → IsTreePage (w.now.contents x) → IsLive (w.status x)
  is_live_page p x may kind = elim (live_or_gone (w.status x) may.was) [
    | inl h ↦ h
    | inr h ↦ absurd (let e = (g.gone x h).end in let b = wide_bound (w.now.contents x) kind in omega arith)
  ]

  -- and so is what covers no key dead
  pub is_dead_page : (p : Name) (x : ℕ) → MayGet w p x → (nodes w.now x).shape.end ≡ 0 → w.status x ≡ Gone
  is_dead_page p x may e = elim (live_or_gone (w.status x) may.was) [
    | inl h ↦ absurd (let b = g.tree.side.wide x h in omega arith)
    | inr h ↦ h
  ]

  -- a process that runs may get every live page
  pub may_live : (p : Name) (since x : ℕ) → w.now.phase p ≡ Running since → IsLive (w.status x) → MayGet w p x
  may_live p since x runs h = record {
    since = since;
    runs = runs;
    was = was_live (w.status x) h;
    kept = λ t e. absurd (false≢true (sym gone_dead ∙ (ap is_live (sym (g.owned.retired x t e).0) ∙ h)));
  }

  -- no get of a released page
  pub not_released : (p : Name) (x : ℕ) → MayGet w p x → w.now.owner x ≢ Released
  not_released p x may e = false≢true (sym free_not ∙ (ap was_in (sym (g.owned.released x e)) ∙ may.was))

  pub anchor_not_released : w.now.owner 0 ≢ Released
  anchor_not_released e = (let f = g.owned.released 0 e in let a = g.tree.anchored in cc)

  -- an open page that it may get is live, and in no compression
  pub open_live : (p : Name) (x : ℕ) → MayGet w p x → w.now.owner x ≡ Owner.Open → w.status x ≡ Live
  open_live p x may e = elim (g.owned.opened x e) [
    | inl h ↦ h
    | inr h ↦ absurd (false≢true (sym anchored_not ∙ (ap was_in (sym h) ∙ may.was)))
  ]

  -- from the anchor to the leftmost page of a level
  pub goes_leftmost : (p : Name) (since l : ℕ) → w.now.phase p ≡ Running since → l < (roots_of (w.now.contents 0)).levels → IsGoes w p (record { page = (roots_of (w.now.contents 0)).leftmost l; least = l; most = l })
  goes_leftmost p since l runs h =
      let o = g.tree.leftmost l h in
      record { may = may_live p since _ runs o.alive; least = omega (arith, o.level_is); most = omega (arith, o.level_is) }

  -- from a dead page on, where it has a link
  pub goes_on : (p : Name) (x least most : ℕ) → IsGoes w p (record { page = x; least = least; most = most }) → (nodes w.now x).shape.end ≡ 0 → (nodes w.now x).shape.right ≢ 0 → IsGoes w p (record { page = (nodes w.now x).shape.right; least = least; most = most })
  goes_on p x least most h e link =
      let k = ((g.gone x (is_dead_page p x h.may e)).left link).leads p h.may in
      record { may = k.0; least = rw k.1 h.least; most = rw k.1 h.most }

  -- to the right, where the key is beyond the bound
  pub goes_right : (p : Name) (x least most k : ℕ) → IsGoes w p (record { page = x; least = least; most = most }) → IsTreePage (w.now.contents x) → (nodes w.now x).shape.end ≤ k → k < unbounded → IsGoes w p (record { page = (nodes w.now x).shape.right; least = least; most = most })
  goes_right p x least most k h kind e b =
      let l = is_live_page p x h.may kind in
      let level = g.tree.side.link_level x l (omega arith) in
      record {
        may = may_live p h.may.since _ h.may.runs (g.tree.side.link_live x l (omega arith));
        least = rw level h.least;
        most = rw level h.most;
      }

  -- down, to the child of the key
  pub goes_down : (p : Name) (x level k child : ℕ) → MayGet w p x → IsTreePage (w.now.contents x) → (nodes w.now x).shape.level ≡ suc level → IsChildOf (nodes w.now x).look k child → IsGoes w p (record { page = child; least = level; most = level })
  goes_down p x level k child may kind at of =
      let l = is_live_page p x may kind in
      let covers = (sound_node (w.now.contents x) kind).covered of.key child of.listed in
      let o = g.tree.listed level of.key child (rw (← at) (sym (g.tree.agree x of.key l covers) ∙ of.listed)) in
      record { may = may_live p may.since child may.runs o.alive; least = omega (arith, o.level_is); most = omega (arith, o.level_is) }

  -- a leaf that covers the key says what the map says
  pub leaf_says : (p : Name) (x k : ℕ) → MayGet w p x → IsTreePage (w.now.contents x) → (nodes w.now x).shape.level ≡ 0 → Covers (nodes w.now x).shape k → (nodes w.now x).look k ≡ w.map 0 k
  leaf_says p x k may kind at covers = g.tree.agree x k (is_live_page p x may kind) covers ∙ ap (λ l. w.map l k) at

  -- and so does one that it holds
  pub held_leaf_says : (x k : ℕ) → IsLive (w.status x) → (nodes w.now x).shape.level ≡ 0 → Covers (nodes w.now x).shape k → (nodes w.now x).look k ≡ w.map 0 k
  held_leaf_says x k live at covers = g.tree.agree x k live covers ∙ ap (λ l. w.map l k) at
