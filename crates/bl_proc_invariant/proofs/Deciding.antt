-- At the right child: a compression that is to put three pages knows what it needs for that.
use Rattle.std.proofs.Common.{ℕ, suc, ◌≡◌, ◌⊎◌, ◌-◌, ◌<◌, ◌≤◌, Some, None, arith, ap, sym, ◌∙◌, refl, subst, inl, inr}
use Rattle.bl_page.specs.declared.page.Page.{Page}
use Rattle.bl_page.specs.declared.page.Page.TheVariants.{Inner}
use Rattle.bl_page.specs.Machine.{Name, State}
use Rattle.bl_page.specs.Machine.Owner.{Held}
use Rattle.bl_page.specs.Machine.Act.{Get}
use Rattle.bl_page.specs.Nodes.{Covers, unbounded, node_of}
use Rattle.bl_tree.specs.Trees.{IsLive, IsChild}
use Rattle.bl_tree.specs.Trees.Status.{Live, Right}
use Rattle.bl_tree.proofs.Statuses.{live_live}
use Rattle.bl_rearrange.specs.Neighbours.{AreNeighbours}
use Rattle.bl_tree_worlds.proofs.Pushes.{HasSaid-silent}
use Rattle.bl_claims.specs.Trails.{Mark}
use Rattle.bl_tree_worlds.specs.Worlds.{Know, World, nodes, tree_of, IsSure, IsGood}
use Rattle.bl_tree_worlds.proofs.Descents.{not_released}
use Rattle.bl_tree_worlds.proofs.Neighbours.{meets}
use Rattle.bl_rearrange.specs.declared.families.Siblings.{Siblings}
use Rattle.bl_rearrange.specs.declared.families.Family.{Family}
use Rattle.bl_proc_compress.specs.declared.compression.Puts.{Puts}
use Rattle.bl_proc_compress.specs.declared.compression.Compression.TheVariants.{LatchedRight, PuttingFirst}
use Rattle.bl_proc_invariant.specs.Turns.{Does, Turned}
use Rattle.bl_proc_invariant.specs.Compressing.{AreThree, ToMerge, ToEvenLeft, ToEvenRight, know_compression_by}
use Rattle.bl_proc_invariant.proofs.Acts.{watched}

module _ {P : Type 0} (know : P → Know) (w : World P) (g : IsGood know w) (p : Name) (b : P) (level key : ℕ) (got got' : ℕ → Page) (at at' new new' : ℕ) (f : Family) (c d : Page) (u : Puts) (before : know (w.proc p) ≡ know_compression_by level key got at new (LatchedRight f c)) (observed : d ≡ w.now.contents f.at.right) where
  sure : IsSure w p (know_compression_by level key got at new (LatchedRight f c))
  sure = rw before at (g.sure p)

  parent_is : w.now.contents f.at.parent ≡ Inner f.parent
  parent_is = sure.holds.0.page

  parent_level : (nodes w.now f.at.parent).shape.level ≡ level
  parent_level = ap (λ v. (node_of v).shape.level) parent_is ∙ sure.sound.0.2

  parent_live : IsLive (w.status f.at.parent)
  parent_live = rw sure.holds.0.status live_live

  -- the parent lists the right child, so it is listed by that key
  child : IsChild (tree_of w) (level - 1) f.key f.at.right
  child =
      let some = sure.sound.0.1 in
      let covers : Covers (nodes w.now f.at.parent).shape f.key = subst (λ v. Covers (node_of v).shape f.key) (sym parent_is) f.covers in
      let look : (nodes w.now f.at.parent).look f.key ≡ Some f.at.right = ap (λ v. (node_of v).look f.key) parent_is ∙ f.lists in
      let one : (nodes w.now f.at.parent).shape.level ≡ suc (level - 1) = parent_level ∙ (let e : level ≡ suc (level - 1) = omega (arith, some) in e) in
      g.tree.listed (level - 1) f.key f.at.right (ap (λ l. w.map l f.key) (sym one) ∙ (sym (g.tree.agree f.at.parent f.key parent_live covers) ∙ look))

  -- and as it is in no compression, that key is its low
  pub low_is : (nodes w.now f.at.right).shape.low ≡ f.key
  low_is = g.tree.side.sep_same f.at.right child.alive (λ z e. (let r : Live ≡ Right z = sym sure.holds.1.1.0.status ∙ e in cc)) ∙ child.sep_is

  pub decide_turn : (s : State Page) → know b ≡ know_compression_by level key got' f.key new' (PuttingFirst u) → u.at ≡ f.at → got' u.at.parent ≡ Inner f.parent → got' u.at.left ≡ c → got' u.at.right ≡ d → AreNeighbours c d → (ToMerge got' u f.key new' ⊎ (ToEvenLeft got' u f.key new' ⊎ ToEvenRight got' u f.key new')) → Does w.now p (Get f.at.right) s → Turned know w p (Get f.at.right) s b
  decide_turn s then same got_parent got_left got_right neighbours does_it does =
      let x = f.at.left in
      let y = f.at.right in
      let m : Mark = record { event = record { process = p; act = Get y }; saw = Some (w.now.contents y); said = None } in
      let k = meets c d neighbours in
      let some = sure.sound.0.1 in
      let left_is : w.now.contents x ≡ c = sure.holds.1.0.page in
      let right_level : suc (node_of d).shape.level ≡ level = (let e : (node_of d).shape.level ≡ level - 1 = ap (λ v. (node_of v).shape.level) observed ∙ child.level_is in omega (arith, e, some)) in
      let wide : (node_of d).shape.low < (node_of d).shape.end = subst (λ v. (node_of v).shape.low < (node_of v).shape.end) (sym observed) (g.tree.side.wide y child.alive) in
      let within : (node_of d).shape.end ≤ unbounded = subst (λ v. (node_of v).shape.end ≤ unbounded) (sym observed) (g.tree.side.within y child.alive) in
      let end = k.end in
      let low : (node_of d).shape.low ≡ f.key = ap (λ v. (node_of v).shape.low) observed ∙ low_is in
      watched know w g p b _ _ before then (Get y) (Some (w.now.contents y)) None s tt (sure.stage, not_released know w g p y sure.goes.0.may) does refl refl
      (λ z h. elim h [
        | inl e ↦ inl (ap (λ t. t.parent) same ∙ e)
        | inr v ↦ elim v [ inl e ↦ inr (inl (ap (λ t. t.left) same ∙ e)) | inr v ↦ elim v [ inl e ↦ inr (inr (inl (ap (λ t. t.right) same ∙ e))) | inr v ↦ absurd v ] ]
      ])
      (λ it e. cc) (λ j. refl)
      (record {
        stage = sure.stage;
        said = HasSaid-silent w.trail m p None refl sure.said;
        holds = (
          (subst (λ t. s.owner t.parent ≡ Held p) (sym same) (does.changes.1 f.at.parent ∙ sure.holds.0.owner), subst (λ t. w.status t.parent ≡ Live) (sym same) sure.holds.0.status, tt, ap (λ t. w.now.contents t.parent) same ∙ (parent_is ∙ sym got_parent)),
          (
            (subst (λ t. s.owner t.left ≡ Held p) (sym same) (does.changes.1 x ∙ sure.holds.1.0.owner), subst (λ t. w.status t.left ≡ Live) (sym same) sure.holds.1.0.status, tt, ap (λ t. w.now.contents t.left) same ∙ (left_is ∙ sym got_left)),
            ((subst (λ t. s.owner t.right ≡ Held p) (sym same) (does.changes.1 y ∙ sure.holds.1.1.0.owner), subst (λ t. w.status t.right ≡ Live) (sym same) sure.holds.1.1.0.status, ap (λ t. w.sep t.right) same ∙ child.sep_is, ap (λ t. w.now.contents t.right) same ∙ (sym observed ∙ sym got_right)), tt),
          ),
        );
        goes = tt;
        children = tt;
        passed = tt;
        sound = (
          record {
            small = sure.sound.0.0;
            parent_level = ap (λ v. (node_of v).shape.level) got_parent ∙ sure.sound.0.2;
            level_is = ap (λ v. suc (node_of v).shape.level) got_right ∙ right_level;
            left_level = ap (λ v. suc (node_of v).shape.level) got_left ∙ sure.sound.3;
            bound = subst (λ v. (node_of v).shape.end < unbounded) (sym got_left) (omega (arith, end, wide, within));
            linked = linked_is got_left;
            below = subst (λ (v : Page × Page). (node_of v.0).shape.low < (node_of v.1).shape.low) (λ i. (sym got_left i, sym got_right i)) k.below;
            meets = ap (λ v. (node_of v).shape.end) got_left ∙ (k.end ∙ ap (λ v. (node_of v).shape.low) (sym got_right));
            covers = subst (λ (v : Page × Page). Covers (node_of v.0).shape (node_of v.1).shape.low) (λ i. (sym got_parent i, sym got_right i)) (subst (Covers (node_of (Inner f.parent)).shape) (sym low) f.covers);
            does = does_it;
          },
          subst AreThree (sym same) sure.sound.1,
        );
      })
    where
      linked_is : got' u.at.left ≡ c → (node_of (got' u.at.left)).shape.right ≡ u.at.right
      linked_is e = ap (λ v. (node_of v).shape.right) e ∙ ((meets c d neighbours).left_right ∙ (sure.sound.2 ∙ ap (λ (t : Siblings). t.right) (sym same)))
