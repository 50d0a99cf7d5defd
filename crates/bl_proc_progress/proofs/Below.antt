-- Whoever holds a page, and is to latch another one, latches one that stands below it.
use Rattle.std.proofs.Common.{ℕ, suc, ◌≡◌, ◌≢◌, ◌-◌, ◌<◌, ◌≤◌, [], arith, ap, sym, ◌∙◌, refl, inl, inr, subst}
use Rattle.std.proofs.lemmas.Bool.{cases_lt}
use Rattle.bl_page.specs.declared.page.Page.{Page}
use Rattle.bl_page.specs.declared.page.Page.TheVariants.{Anchor, Leaf, Inner, Dead}
use Rattle.bl_page.specs.Machine.{Name}
use Rattle.bl_page.specs.Machine.Owner.{Held}
use Rattle.bl_page.specs.Nodes.{unbounded, node_of, roots_of, IsTreePage}
use Rattle.bl_tree.specs.Trees.{IsLive}
use Rattle.bl_tree.proofs.Statuses.{live_live, not_anchor}
use Rattle.bl_rearrange.specs.Rearranged.{right_of}
use Rattle.bl_tree_worlds.specs.Worlds.{Know, World, nodes, HoldsPage, IsSure, IsGood}
use Rattle.bl_tree_worlds.proofs.WorldLaws.{tree_page}
use Rattle.bl_proc_steps.specs.declared.acts.Action.TheVariants as act
use Rattle.bl_proc_steps.specs.declared.lowering.Summit.{Summit}
use Rattle.bl_proc_steps.specs.declared.lowering.Lowering.{Lowering}
use Rattle.bl_proc_steps.specs.declared.lowering.Lowering.TheVariants.{LatchingAnchor, LatchingTop}
use Rattle.bl_proc_steps.specs.Lowerings.{lowering_next}
use Rattle.bl_page.specs.Tops.{top_of}
use Rattle.bl_rearrange.specs.declared.families.Family.{Family}
use Rattle.bl_rearrange.specs.declared.sides.Side.{Side}
use Rattle.bl_rearrange.specs.declared.sides.Side.TheVariants as side
use Rattle.bl_proc_compress.specs.declared.compression.Puts.{Puts}
use Rattle.bl_proc_compress.specs.declared.compression.Compression.{Compression}
use Rattle.bl_proc_compress.specs.declared.compression.Compression.TheVariants.{LatchingLeft, LatchingRight, PuttingFirst, PuttingLast}
use Rattle.bl_proc_compress.specs.declared.compress.CompressStage.{CompressStage}
use Rattle.bl_proc_compress.specs.declared.compress.CompressStage.TheVariants as compress
use Rattle.bl_proc_compress.specs.Compressions.{put_of, other, compression_next}
use Rattle.bl_proc_compress.specs.Compresses.{compress_next_in}
use Rattle.bl_proc.specs.declared.lowering.LowerStage.{LowerStage}
use Rattle.bl_proc.specs.declared.lowering.LowerStage.TheVariants as lower
use Rattle.bl_proc.specs.Lowers.{lower_next_in}
use Rattle.bl_proc.specs.declared.kinds.Proc.{Proc}
use Rattle.bl_proc.specs.declared.kinds.Proc.TheVariants as proc
use Rattle.bl_proc.specs.Processes.{next_of}
use Rattle.bl_proc_invariant.specs.Compressing.{know_compression}
use Rattle.bl_proc_invariant.specs.Lowering.{know_lowering}
use Rattle.bl_proc_invariant.specs.Knowing.{Run, know_compress, know_lower, know_of, know}
use Rattle.bl_proc_progress.specs.Order.{StandsBelow}
use Rattle.bl_proc_progress.proofs.Alone.{write_alone, post_alone, climb_alone, coming_alone, find_looks, part_looks, reclaim_looks}

-- It stands below, and if it is of the same level it ends where pages may end.
pub record LatchesBelow (w : World Run) (x y : ℕ) : Type 0 where
  pub stands : StandsBelow w.now x y
  pub end : ((nodes w.now y).shape.end < (nodes w.now x).shape.end) → (nodes w.now y).shape.level ≡ (nodes w.now x).shape.level → (nodes w.now x).shape.end ≤ unbounded

pub right_is : (c : Page) → IsTreePage c → (node_of c).shape.right ≡ right_of c
right_is (Anchor a) h = absurd h
right_is (Leaf l) h = refl
right_is (Inner i) h = refl
right_is (Dead d) h = absurd h

put_never : (sd : Side) (p : Puts) (x : ℕ) → put_of sd p ≢ act.Latch x
put_never side.Left p x e = cc
put_never side.Right p x e = cc

pub same_page : (x y : ℕ) → act.Latch x ≡ act.Latch y → x ≡ y
same_page x y e = cc

module _ (w : World Run) (g : IsGood know w) (p : Name) where
  -- a page that it may list as a child is not the anchor
  not_zero : (x : ℕ) → 0 < x → x ≢ 0
  not_zero x h e = omega (arith, h, e)

  module _ (y : ℕ) (held : w.now.owner y ≡ Held p) where
    holds_of : (k : Know) → know (w.proc p) ≡ k → HoldsPage k.holds y
    holds_of k is = subst (λ (z : Know). HoldsPage z.holds y) is (g.owned.held y p held)

    sure_of : (k : Know) → know (w.proc p) ≡ k → IsSure w p k
    sure_of k is = subst (λ (z : Know). IsSure w p z) is (g.sure p)

    holds_none : (k : Know) → know (w.proc p) ≡ k → k.holds ≡ [] → ⊥
    holds_none k is none = subst (λ hs. HoldsPage hs y) none (holds_of k is)

    -- a child is of a lower level than its parent
    lower_level : (x level parent_level child_level : ℕ) → 0 < x → 0 < level → (nodes w.now y).shape.level ≡ parent_level → parent_level ≡ level → (nodes w.now x).shape.level ≡ child_level → child_level ≤ level - 1 → LatchesBelow w x y
    lower_level x level parent_level child_level some above is_parent parent_is is_child child_is = record {
      stands = record { other = not_zero x some; below = inr (inl (omega (arith, above, is_parent, parent_is, is_child, child_is))) };
      end = λ later same. absurd (omega (arith, above, is_parent, parent_is, is_child, child_is, same));
    }

    at_left : (level key : ℕ) (got : ℕ → Page) (f : Family) → know (w.proc p) ≡ know_compression level key got (LatchingLeft f) → LatchesBelow w f.at.left y
    at_left level key got f is =
        let s : IsSure w p (know_compression level key got (LatchingLeft f)) = sure_of (know_compression level key got (LatchingLeft f)) is in
        elim (holds_of (know_compression level key got (LatchingLeft f)) is) [
          | inl i ↦
              let level_is : (nodes w.now y).shape.level ≡ f.parent.level = ap (λ z. (nodes w.now z).shape.level) (sym i) ∙ ap (λ v. (node_of v).shape.level) s.holds.0.page in
              lower_level f.at.left level f.parent.level (nodes w.now f.at.left).shape.level f.left_child.0 s.sound.1 level_is s.sound.2 refl s.goes.0.most
          | inr n ↦ absurd n
        ]

    at_right : (level key : ℕ) (got : ℕ → Page) (f : Family) (c : Page) → know (w.proc p) ≡ know_compression level key got (LatchingRight f c) → LatchesBelow w f.at.right y
    at_right level key got f c is =
        let s : IsSure w p (know_compression level key got (LatchingRight f c)) = sure_of (know_compression level key got (LatchingRight f c)) is in
        elim (holds_of (know_compression level key got (LatchingRight f c)) is) [
          | inl i ↦
              let level_is : (nodes w.now y).shape.level ≡ f.parent.level = ap (λ z. (nodes w.now z).shape.level) (sym i) ∙ ap (λ v. (node_of v).shape.level) s.holds.0.page in
              lower_level f.at.right level f.parent.level (nodes w.now f.at.right).shape.level f.right_child.0 s.sound.0.1 level_is s.sound.0.2 refl s.goes.0.most
          | inr n ↦ elim n [
            | inl i ↦
                let alive : IsLive (w.status f.at.left) = rw s.holds.1.0.status live_live in
                let tree = tree_page know w f.at.left g alive in
                let is_tree : IsTreePage c = subst IsTreePage s.holds.1.0.page tree in
                let linked : (nodes w.now f.at.left).shape.right ≡ f.at.right = ap (λ v. (node_of v).shape.right) s.holds.1.0.page ∙ (right_is c is_tree ∙ s.sound.2) in
                let within = g.tree.side.within f.at.left alive in
                let some = f.right_child.0 in
                elim (cases_lt (nodes w.now f.at.left).shape.end unbounded) [
                  | inr past ↦ absurd (let none : (nodes w.now f.at.left).shape.right ≡ 0 = g.tree.side.last f.at.left alive (omega (arith, past, within)) in omega (arith, none, linked, some))
                  | inl bound ↦
                      let rises : (nodes w.now f.at.left).shape.end < (nodes w.now f.at.right).shape.end = subst (λ z. (nodes w.now f.at.left).shape.end < (nodes w.now z).shape.end) linked (g.tree.side.link_rise f.at.left alive bound) in
                      let right_alive : IsLive (w.status f.at.right) = subst (λ z. IsLive (w.status z)) linked (g.tree.side.link_live f.at.left alive bound) in
                      let ends = g.tree.side.within f.at.right right_alive in
                      let left_level : suc (nodes w.now f.at.left).shape.level ≡ level = ap (λ v. suc (node_of v).shape.level) s.holds.1.0.page ∙ s.sound.3 in
                      let most = s.goes.0.most in
                      let least = s.goes.0.least in
                      subst (LatchesBelow w f.at.right) i (record {
                        stands = record { other = not_zero f.at.right some; below = inr (inr (omega (arith, left_level, most, least), rises)) };
                        end = λ later same. ends;
                      })
                ]
            | inr m ↦ absurd m
          ]
        ]

    at_top : (got : ℕ → Page) (t : Summit) → know (w.proc p) ≡ know_lowering got (LatchingTop t) → LatchesBelow w t.top y
    at_top got t is =
        let s : IsSure w p (know_lowering got (LatchingTop t)) = sure_of (know_lowering got (LatchingTop t)) is in
        elim (holds_of (know_lowering got (LatchingTop t)) is) [
          | inl i ↦
              let some = g.tree.some_level in
              let top : t.top ≡ top_of (roots_of (w.now.contents 0)) = s.sound ∙ ap (λ v. top_of (roots_of v)) (sym s.holds.0.page) in
              let first : IsLive (w.status (top_of (roots_of (w.now.contents 0)))) = (g.tree.leftmost ((roots_of (w.now.contents 0)).levels - 1) (omega (arith, some))).alive in
              let alive : IsLive (w.status t.top) = subst (λ z. IsLive (w.status z)) (sym top) first in
              record { stands = record { other = λ e. not_anchor w.status t.top alive g.tree.anchored (sym e); below = inl (sym i) }; end = λ later same. g.tree.side.within t.top alive }
          | inr n ↦ absurd n
        ]

    compression_below : (level key : ℕ) (got : ℕ → Page) (c : Compression) (x : ℕ) → know (w.proc p) ≡ know_compression level key got c → compression_next c ≡ act.Latch x → LatchesBelow w x y
    compression_below level key got (LatchingLeft f) x is e = subst (λ z. LatchesBelow w z y) (same_page f.at.left x e) (at_left level key got f is)
    compression_below level key got (LatchingRight f c) x is e = subst (λ z. LatchesBelow w z y) (same_page f.at.right x e) (at_right level key got f c is)
    compression_below level key got (PuttingFirst u) x is e = absurd (put_never u.gains u x e)
    compression_below level key got (PuttingLast u) x is e = absurd (put_never (other u.gains) u x e)
    compression_below level key got old x is e = absurd (cc e)

    compress_below : (level key : ℕ) (got : ℕ → Page) (a : CompressStage) (x : ℕ) → know (w.proc p) ≡ know_compress level key got a → compress_next_in a ≡ act.Latch x → LatchesBelow w x y
    compress_below level key got (compress.Coming a) x is e = absurd (holds_none (know_compress level key got (compress.Coming a)) is (coming_alone level key a x e))
    compress_below level key got (compress.Compressing c) x is e = compression_below level key got c x is e
    compress_below level key got old x is e = absurd (cc e)

    lowering_below : (got : ℕ → Page) (l : Lowering) (x : ℕ) → know (w.proc p) ≡ know_lowering got l → lowering_next l ≡ act.Latch x → LatchesBelow w x y
    lowering_below got LatchingAnchor x is e = absurd (holds_none (know_lowering got LatchingAnchor) is refl)
    lowering_below got (LatchingTop t) x is e = subst (λ z. LatchesBelow w z y) (same_page t.top x e) (at_top got t is)
    lowering_below got old x is e = absurd (cc e)

    lower_below : (got : ℕ → Page) (a : LowerStage) (x : ℕ) → know (w.proc p) ≡ know_lower got a → lower_next_in a ≡ act.Latch x → LatchesBelow w x y
    lower_below got (lower.Sinking l) x is e = lowering_below got l x is e
    lower_below got old x is e = absurd (cc e)

    state_below : (got : ℕ → Page) (child time : ℕ) (old : Proc) (x : ℕ) → know (w.proc p) ≡ know_of got child time old → next_of old ≡ act.Latch x → LatchesBelow w x y
    state_below got child time (proc.Find a) x is e = absurd (find_looks a.stage x e)
    state_below got child time (proc.Part a) x is e = absurd (part_looks a.stage x e)
    state_below got child time (proc.Reclaim a) x is e = absurd (reclaim_looks a.page a.stage x e)
    state_below got child time (proc.Write a) x is e = absurd (holds_none (know_of got child time (proc.Write a)) is (write_alone [] a.key a.write got a.stage x e))
    state_below got child time (proc.Post a) x is e = absurd (holds_none (know_of got child time (proc.Post a)) is (post_alone _ a.level a.key got child a.stage x e))
    state_below got child time (proc.InsertPost a) x is e = absurd (holds_none (know_of got child time (proc.InsertPost a)) is (climb_alone a.key a.placing a.path got child a.stage x e))
    state_below got child time (proc.Compress a) x is e = compress_below a.level a.key got a.stage x is e
    state_below got child time (proc.Lower a) x is e = lower_below got a.stage x is e

    pub latches_below : (x : ℕ) → next_of (w.proc p).state ≡ act.Latch x → LatchesBelow w x y
    latches_below x e = state_below (w.proc p).got (w.proc p).child (w.proc p).time (w.proc p).state x refl e
