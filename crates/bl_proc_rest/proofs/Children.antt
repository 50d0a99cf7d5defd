-- The child that a compression is to latch, and the top page that a lowering is to latch, are pages of the tree.
use Rattle.std.proofs.Common.{ℕ, suc, ◌≡◌, ◌-◌, ◌<◌, ◌++◌, List, [], ◌∷◌, length, get_or, Some, arith, ap, sym, ◌∙◌, refl, subst}
use Rattle.std.proofs.lemmas.Bool.{false≢true}
use Rattle.bl_model.specs.Rows.{map_of}
use Rattle.bl_page.specs.declared.page.Page.{Page}
use Rattle.bl_page.specs.Machine.{Name}
use Rattle.bl_page.specs.Nodes.{node_of, roots_of}
use Rattle.bl_tree.specs.Trees.{is_live, IsLive}
use Rattle.bl_tree.specs.Trees.Status.{Gone, Anchored}
use Rattle.bl_tree.proofs.Statuses.{live_live, gone_dead}
use Rattle.bl_tree_worlds.specs.Worlds.{Know, World, nodes, IsSure, IsGood}
use Rattle.bl_tree_worlds.proofs.WorldLaws.{all_sound}
use Rattle.bl_proc_steps.specs.declared.lowering.Summit.{Summit}
use Rattle.bl_proc_steps.specs.declared.lowering.Lowering.TheVariants as lowering
use Rattle.bl_page.specs.Tops.{top_of}
use Rattle.bl_rearrange.specs.declared.families.Family.{Family}
use Rattle.bl_proc_compress.specs.declared.compression.Compression.TheVariants.{LatchingLeft, LatchingRight}
use Rattle.bl_proc_compress.proofs.Places.{listed_at}
use Rattle.bl_claims.specs.Squeezed.{AreBeside}
use Rattle.bl_proc_invariant.specs.Compressing.{know_compression}
use Rattle.bl_proc_invariant.specs.Lowering.{know_lowering}
use Rattle.bl_proc_invariant.specs.Knowing.{Run, know}

at_middle : (before after : List (ℕ × ℕ)) (a : ℕ × ℕ) → (length before < length (before ++ a ∷ after)) × (get_or (before ++ a ∷ after) (length before) (0, 0) ≡ a)
at_middle [] after a = (omega arith, refl)
at_middle (b ∷ before) after a = (let r = at_middle before after a in (omega (arith, r.0), r.1))

-- the left one of two children that stand side by side is listed
left_listed : (key : ℕ) (f : Family) → AreBeside key f.parent (Some f) → (low : ℕ) × (map_of f.parent.children.items low ≡ Some f.at.left)
left_listed key f b =
    let items = f.parent.children.items in
    let rest = (f.key, f.at.right) ∷ b.1 in
    let m = at_middle b.0 rest (b.2, f.at.left) in
    let within : length b.0 < length items = subst (λ z. length b.0 < length z) (sym b.3) m.0 in
    let here : get_or items (length b.0) (0, 0) ≡ (b.2, f.at.left) = ap (λ z. get_or z (length b.0) (0, 0)) b.3 ∙ m.1 in
    let at : map_of items (get_or items (length b.0) (0, 0)).0 ≡ Some (get_or items (length b.0) (0, 0)).1 = listed_at 0 (length b.0) items f.parent.order within in
    (b.2, subst (λ (z : ℕ × ℕ). map_of items z.0 ≡ Some z.1) here at)

pub live_not_gone : (w : World Run) (x : ℕ) → IsLive (w.status x) → w.status x ≡ Gone → ⊥
live_not_gone w x alive gone = false≢true (sym gone_dead ∙ (ap is_live (sym gone) ∙ alive))

module _ (w : World Run) (g : IsGood know w) (p : Name) where
  sure_of : (k : Know) → know (w.proc p) ≡ k → IsSure w p k
  sure_of k is = subst (λ (z : Know). IsSure w p z) is (g.sure p)

  -- a page that a parent lists
  listed_live : (x k c level : ℕ) → IsLive (w.status x) → (nodes w.now x).shape.level ≡ suc level → (nodes w.now x).look k ≡ Some c → IsLive (w.status c)
  listed_live x k c level alive level_is look =
      let covers = (all_sound know w g x alive).covered k c look in
      (g.tree.listed level k c (ap (λ l. w.map l k) (sym level_is) ∙ (sym (g.tree.agree x k alive covers) ∙ look))).alive

  pub left_live : (level key : ℕ) (got : ℕ → Page) (f : Family) → know (w.proc p) ≡ know_compression level key got (LatchingLeft f) → AreBeside key f.parent (Some f) → IsLive (w.status f.at.left)
  left_live level key got f is beside =
      let s : IsSure w p (know_compression level key got (LatchingLeft f)) = sure_of (know_compression level key got (LatchingLeft f)) is in
      let l = left_listed key f beside in
      let alive : IsLive (w.status f.at.parent) = rw s.holds.0.status live_live in
      let page = s.holds.0.page in
      let some = s.sound.1 in
      let at = s.sound.2 in
      let level_is : (nodes w.now f.at.parent).shape.level ≡ suc (level - 1) = ap (λ v. (node_of v).shape.level) page ∙ omega (arith, some, at) in
      listed_live f.at.parent l.0 f.at.left (level - 1) alive level_is (ap (λ v. (node_of v).look l.0) page ∙ l.1)

  pub right_live : (level key : ℕ) (got : ℕ → Page) (f : Family) (c : Page) → know (w.proc p) ≡ know_compression level key got (LatchingRight f c) → IsLive (w.status f.at.right)
  right_live level key got f c is =
      let s : IsSure w p (know_compression level key got (LatchingRight f c)) = sure_of (know_compression level key got (LatchingRight f c)) is in
      let alive : IsLive (w.status f.at.parent) = rw s.holds.0.status live_live in
      let page = s.holds.0.page in
      let some = s.sound.0.1 in
      let at = s.sound.0.2 in
      let level_is : (nodes w.now f.at.parent).shape.level ≡ suc (level - 1) = ap (λ v. (node_of v).shape.level) page ∙ omega (arith, some, at) in
      listed_live f.at.parent f.key f.at.right (level - 1) alive level_is (ap (λ v. (node_of v).look f.key) page ∙ f.lists)

  pub top_live : (got : ℕ → Page) (t : Summit) → know (w.proc p) ≡ know_lowering got (lowering.LatchingTop t) → IsLive (w.status t.top)
  top_live got t is =
      let s : IsSure w p (know_lowering got (lowering.LatchingTop t)) = sure_of (know_lowering got (lowering.LatchingTop t)) is in
      let some = g.tree.some_level in
      let top : t.top ≡ top_of (roots_of (w.now.contents 0)) = s.sound ∙ ap (λ v. top_of (roots_of v)) (sym s.holds.0.page) in
      let first : IsLive (w.status (top_of (roots_of (w.now.contents 0)))) = (g.tree.leftmost ((roots_of (w.now.contents 0)).levels - 1) (omega (arith, some))).alive in
      subst (λ z. IsLive (w.status z)) (sym top) first

  pub anchor_not_gone : (x : ℕ) → x ≡ 0 → w.status x ≡ Gone → ⊥
  anchor_not_gone x e gone = (let a = g.tree.anchored in let i : Gone ≡ Anchored = sym gone ∙ (ap w.status e ∙ a) in cc)
