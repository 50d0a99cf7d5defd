-- Every page of the tree covers the key that it is listed by, also in the middle of a compression.
use Rattle.std.proofs.Common.{ℕ, ◌≡◌, ◌≢◌, ◌<◌, Option, None, Some, arith, ap, sym, ◌∙◌, refl, subst, inl, inr}
use Rattle.bl_page.specs.declared.page.Page.{Page}
use Rattle.bl_page.specs.declared.page.Page.TheVariants.{Anchor, Leaf, Inner, Dead}
use Rattle.bl_page.specs.Nodes.{Covers, node_of}
use Rattle.bl_tree.specs.Trees.{Status, IsLive}
use Rattle.bl_tree.specs.Trees.Status.{Free, Fresh, Live, Left, Right, Uprooted, Gone, Anchored}
use Rattle.bl_tree_worlds.specs.Worlds.{Middle, World, nodes, HasMiddle, IsSure, IsGood}
use Rattle.bl_proc_steps.specs.declared.approach.Approach.TheVariants as way
use Rattle.bl_proc_compress.specs.declared.compression.Compression.TheVariants.{PuttingParent, PuttingLast}
use Rattle.bl_proc_compress.specs.declared.compress.CompressStage.{CompressStage}
use Rattle.bl_proc_compress.specs.declared.compress.CompressStage.TheVariants as compress
use Rattle.bl_proc_invariant.specs.Compressing.{right_now}
use Rattle.bl_proc_invariant.specs.Knowing.{Run, know_of, know_compress, know}
use Rattle.bl_proc_invariant.proofs.Plain.{of_middle}

-- a page that ends somewhere ends above its low
page_wide : (c : Page) → 0 < (node_of c).shape.end → (node_of c).shape.low < (node_of c).shape.end
page_wide (Anchor a) h = absurd (omega (arith, h))
page_wide (Leaf l) h = l.bounds
page_wide (Inner i) h = i.bounds
page_wide (Dead d) h = absurd (omega (arith, h))

abbrev part_of : (Middle → ℕ) → Option Middle → ℕ
part_of f None = 0
part_of f (Some m) = f m

module _ (w : World Run) (g : IsGood know w) where
  -- of the right page y of a compression, by what its process knows
  module _ (x y : ℕ) (m : HasMiddle know w x y) (alive : IsLive (w.status y)) where
    abbrev whole : Middle
    whole = record { parent = m.parent; left = x; right = y }

    wide : (nodes w.now y).shape.low < (nodes w.now y).shape.end
    wide = g.tree.side.wide y alive

    -- where the page is as it was got, and is listed by its low
    by_low : (c : Page) → w.now.contents y ≡ c → w.sep y ≡ (node_of c).shape.low → w.sep y < (nodes w.now y).shape.end
    by_low c is sep = (let low : (nodes w.now y).shape.low ≡ (node_of c).shape.low = ap (λ v. (node_of v).shape.low) is in omega (arith, wide, low, sep))

    -- where it is listed by the low of a page that ends where this one does
    by_end : (c : Page) → (node_of c).shape.end ≡ (nodes w.now y).shape.end → w.sep y ≡ (node_of c).shape.low → w.sep y < (nodes w.now y).shape.end
    by_end c is sep = (let far = page_wide c (omega (arith, wide, is)) in omega (arith, far, is, sep))

    by_stage : (level key : ℕ) (got : ℕ → Page) (stage : CompressStage) → (know_compress level key got stage).middle ≡ Some whole → IsSure w m.by (know_compress level key got stage) → w.sep y < (nodes w.now y).shape.end
    by_stage level key got (compress.Compressing (PuttingParent u)) e sure =
        let right : u.at.right ≡ y = ap (part_of (λ z. z.right)) e in
        let page : w.now.contents y ≡ right_now got u u.gains = ap w.now.contents (sym right) ∙ sure.holds.1.1.0.page in
        let sep : w.sep y ≡ (node_of (got u.at.right)).shape.low = ap w.sep (sym right) ∙ sure.holds.1.1.0.sep in
        elim sure.sound.0.does [
          | inl t ↦ by_low (got u.at.right) (page ∙ ap (right_now got u) t.gains) sep
          | inr v ↦ elim v [
            | inl t ↦ by_low (got u.at.right) (page ∙ ap (right_now got u) t.gains) sep
            | inr t ↦
                let is : w.now.contents y ≡ u.right = page ∙ ap (right_now got u) t.gains in
                by_end (got u.at.right) (sym t.gain.end ∙ ap (λ v. (node_of v).shape.end) (sym is)) sep
          ]
        ]
    by_stage level key got (compress.Compressing (PuttingLast u)) e sure =
        let right : u.at.right ≡ y = ap (part_of (λ z. z.right)) e in
        let page : w.now.contents y ≡ right_now got u u.gains = ap w.now.contents (sym right) ∙ sure.holds.1.1.0.page in
        let sep : w.sep y ≡ (node_of u.right).shape.low = ap w.sep (sym right) ∙ sure.holds.1.1.0.sep in
        elim sure.sound.0.does [
          | inl t ↦ by_low (got u.at.right) (page ∙ ap (right_now got u) t.gains) (sep ∙ t.same)
          | inr v ↦ elim v [
            | inl t ↦
                let is : w.now.contents y ≡ got u.at.right = page ∙ ap (right_now got u) t.gains in
                by_end u.right (t.loss.end ∙ ap (λ v. (node_of v).shape.end) (sym is)) sep
            | inr t ↦ by_low u.right (page ∙ ap (right_now got u) t.gains) sep
          ]
        ]
    by_stage level key got (compress.Coming way.Start) e sure = absurd (let f = e in cc)
    by_stage level key got (compress.Coming (way.Leaving z None)) e sure = absurd (let f = e in cc)
    by_stage level key got old e sure = absurd (let f = e in cc)

    below_end : w.sep y < (nodes w.now y).shape.end
    below_end =
        let r = w.proc m.by in
        elim (of_middle r.got r.child r.time r.state) [
          | inl none ↦ absurd (let i = m.is in let n : (know (w.proc m.by)).middle ≡ None = none in cc)
          | inr a ↦ by_stage a.0.level a.0.key r.got a.0.stage
              (subst (λ s. (know_of r.got r.child r.time s).middle ≡ Some whole) a.1 m.is)
              (subst (λ s. IsSure w m.by (know_of r.got r.child r.time s)) a.1 (g.sure m.by))
        ]

  -- a page that is not the right one of a compression is listed by its low
  by_own_low : (x : ℕ) → IsLive (w.status x) → ((y : ℕ) → w.status x ≢ Right y) → w.sep x < (nodes w.now x).shape.end
  by_own_low x alive other = (let wide = g.tree.side.wide x alive in let low = g.tree.side.sep_same x alive other in omega (arith, wide, low))

  pub sep_covered : (x : ℕ) → IsLive (w.status x) → Covers (nodes w.now x).shape (w.sep x)
  sep_covered x alive = (g.tree.side.sep_low x alive, by_status (w.status x) refl)
    where
      by_status : (s : Status) → w.status x ≡ s → w.sep x < (nodes w.now x).shape.end
      by_status (Right y) e = below_end y x (g.middles y x e) alive
      by_status Free e = by_own_low x alive (λ y f. (let i : Free ≡ Right y = sym e ∙ f in cc))
      by_status Fresh e = by_own_low x alive (λ y f. (let i : Fresh ≡ Right y = sym e ∙ f in cc))
      by_status Live e = by_own_low x alive (λ y f. (let i : Live ≡ Right y = sym e ∙ f in cc))
      by_status (Left z) e = by_own_low x alive (λ y f. (let i : Left z ≡ Right y = sym e ∙ f in cc))
      by_status Uprooted e = by_own_low x alive (λ y f. (let i : Uprooted ≡ Right y = sym e ∙ f in cc))
      by_status Gone e = by_own_low x alive (λ y f. (let i : Gone ≡ Right y = sym e ∙ f in cc))
      by_status Anchored e = by_own_low x alive (λ y f. (let i : Anchored ≡ Right y = sym e ∙ f in cc))
