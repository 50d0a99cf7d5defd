-- A compression that has got both children always knows what to do with them: they are neighbours, and where they are to be evened
-- out the parent can list the right one by its new low. So it never begins again for what it got.
use Rattle.std.proofs.Common.{ℕ, suc, ◌≡◌, ◌≢◌, ◌-◌, ◌<◌, ◌≤◌, ◌==◌, if◌then◌else◌, Option, None, Some, arith, ap, sym, ◌∙◌, refl, subst, inl, inr}
use Rattle.std.proofs.lemmas.Bool.{cases_lt, cases_eq}
use Rattle.bl_model.specs.Rows.{map_of}
use Rattle.bl_page.specs.declared.page.Page.{Page}
use Rattle.bl_page.specs.declared.page.Page.TheVariants.{Anchor, Leaf, Inner, Dead}
use Rattle.bl_page.specs.Machine.{Name}
use Rattle.bl_page.specs.Nodes.{Covers, unbounded, node_of, IsTreePage}
use Rattle.bl_page.specs.Pairs.{end_of}
use Rattle.bl_rearrange.specs.Neighbours.{AreNeighbours}
use Rattle.bl_rearrange.specs.Rearranged.{pairs_of}
use Rattle.bl_tree.specs.Trees.{IsLive, IsChild}
use Rattle.bl_tree.specs.Trees.Status.{Live, Left, Right}
use Rattle.bl_tree.proofs.Statuses.{live_live}
use Rattle.bl_tree_worlds.specs.Worlds.{Know, World, nodes, tree_of, IsSure, IsGood}
use Rattle.bl_tree_worlds.proofs.WorldLaws.{tree_page, all_sound}
use Rattle.bl_tree_worlds.proofs.Fitted.{end_is}
use Rattle.bl_tree_worlds.proofs.Neighbours.{shares}
use Rattle.bl_rearrange.specs.declared.families.Family.{Family}
use Rattle.bl_proc_compress.specs.declared.compression.Decision.TheVariants.{Lost}
use Rattle.bl_rearrange.specs.declared.families.Siblings.{Siblings}
use Rattle.bl_proc_compress.specs.declared.compression.Compression.TheVariants.{LatchedRight, OpeningRight}
use Rattle.bl_proc_compress.specs.Compressions.{Relists, Decides}
use Rattle.bl_proc_invariant.specs.Compressing.{know_compression}
use Rattle.bl_proc_compress.specs.declared.compress.Compress.{Compress as CompressIs}
use Rattle.bl_proc_compress.specs.declared.compress.CompressStage.TheVariants as compress
use Rattle.bl_proc.specs.declared.kinds.Proc.TheVariants as proc
use Rattle.bl_proc_invariant.specs.Knowing.{Run, know_of, know_compress, know}
use Rattle.bl_proc_progress.proofs.Below.{right_is}
use Rattle.bl_proc_progress.proofs.Separators.{sep_covered}

-- pages of one level, of which one ends where the other begins
bounded_high : (high : ℕ) → end_of high < unbounded → high ≢ 0
bounded_high high h e = (let f : end_of high ≡ unbounded = ap end_of e in omega (arith, h, f))

beside : (c d : Page) → IsTreePage c → IsTreePage d → (node_of d).shape.level ≡ (node_of c).shape.level → (node_of d).shape.low ≡ (node_of c).shape.end → (node_of c).shape.end < unbounded → AreNeighbours c d
beside (Leaf a) (Leaf b) s t level low bound = (let some = bounded_high a.high bound in (some, low ∙ end_is a.high (grind (arith, some))))
beside (Inner a) (Inner b) s t level low bound = (let some = bounded_high a.high bound in (level, some, low ∙ end_is a.high (grind (arith, some))))
beside (Leaf a) (Inner b) s t level low bound = absurd (let above = b.above_leaves in omega (arith, above, level))
beside (Inner a) (Leaf b) s t level low bound = absurd (let above = a.above_leaves in omega (arith, above, level))
beside (Anchor a) d s t level low bound = absurd s
beside (Dead a) d s t level low bound = absurd s
beside (Leaf a) (Anchor b) s t level low bound = absurd t
beside (Leaf a) (Dead b) s t level low bound = absurd t
beside (Inner a) (Anchor b) s t level low bound = absurd t
beside (Inner a) (Dead b) s t level low bound = absurd t

is_some : (o : Option ℕ) → o ≢ None → (v : ℕ) × (o ≡ Some v)
is_some None h = absurd (h refl)
is_some (Some v) h = (v, refl)

-- what is listed without a key was listed by another
without_cases : (old : Option ℕ) (s key v : ℕ) → (if s == key then None else old) ≡ Some v → (s ≢ key) × (old ≡ Some v)
without_cases old s key v e = elim (cases_eq s key) [
  | inl i ↦ absurd (let f : (if s == key then None else old) ≡ None = grind arith in let h : None ≡ Some v = sym f ∙ e in cc)
  | inr n ↦ (n, (let f : (if s == key then None else old) ≡ old = grind arith in sym f ∙ e))
]

module _ (w : World Run) (g : IsGood know w) (p : Name) (level key : ℕ) (got : ℕ → Page) (f : Family) (c : Page) (is : know (w.proc p) ≡ know_compression level key got (LatchedRight f c)) where
  sure : IsSure w p (know_compression level key got (LatchedRight f c))
  sure = subst (λ (z : Know). IsSure w p z) is (g.sure p)

  parent_is : w.now.contents f.at.parent ≡ Inner f.parent
  parent_is = sure.holds.0.page

  parent_alive : IsLive (w.status f.at.parent)
  parent_alive = rw sure.holds.0.status live_live

  left_alive : IsLive (w.status f.at.left)
  left_alive = rw sure.holds.1.0.status live_live

  right_alive : IsLive (w.status f.at.right)
  right_alive = rw sure.holds.1.1.0.status live_live

  -- a page of the tree that is in no compression is apart from all others of its level
  apart : (x y k : ℕ) → w.status x ≡ Live → IsLive (w.status y) → (nodes w.now x).shape.level ≡ (nodes w.now y).shape.level → Covers (nodes w.now x).shape k → Covers (nodes w.now y).shape k → x ≡ y
  apart x y k live alive same cx cy = g.tree.side.apart x y k (rw live live_live) alive same cx cy (λ e. (let i : Live ≡ Left y = sym live ∙ e in cc)) (λ e. (let i : Live ≡ Right y = sym live ∙ e in cc))

  listed_low : (x : ℕ) → w.status x ≡ Live → (nodes w.now x).shape.low ≡ w.sep x
  listed_low x live = g.tree.side.sep_same x (rw live live_live) (λ y e. (let i : Live ≡ Right y = sym live ∙ e in cc))

  some : 0 < level
  some = sure.sound.0.1

  parent_level : (nodes w.now f.at.parent).shape.level ≡ suc (level - 1)
  parent_level = ap (λ v. (node_of v).shape.level) parent_is ∙ (let e = sure.sound.0.2 in let s = some in omega (arith, e, s))

  left_level : (nodes w.now f.at.left).shape.level ≡ level - 1
  left_level = ap (λ v. (node_of v).shape.level) sure.holds.1.0.page ∙ (let e = sure.sound.3 in omega (arith, e))

  right_level : (nodes w.now f.at.right).shape.level ≡ level - 1
  right_level = (let least = sure.goes.0.least in let most = sure.goes.0.most in omega (arith, least, most))

  -- what a page of the parent's level lists
  child_of : (x k v : ℕ) → IsLive (w.status x) → (nodes w.now x).shape.level ≡ suc (level - 1) → Covers (nodes w.now x).shape k → (nodes w.now x).look k ≡ Some v → IsChild (tree_of w) (level - 1) k v
  child_of x k v alive level_is covers look = g.tree.listed (level - 1) k v (ap (λ l. w.map l k) (sym level_is) ∙ (sym (g.tree.agree x k alive covers) ∙ look))

  -- such a child covers the key, so it is any page of that level that covers the key and is in no compression
  child_is : (x k v : ℕ) → w.status x ≡ Live → (nodes w.now x).shape.level ≡ level - 1 → Covers (nodes w.now x).shape k → IsChild (tree_of w) (level - 1) k v → w.sep x ≡ k
  child_is x k v live level_is covers child =
      let here : Covers (nodes w.now v).shape k = subst (Covers (nodes w.now v).shape) child.sep_is (sep_covered w g v child.alive) in
      ap w.sep (apart x v k live child.alive (level_is ∙ sym child.level_is) covers here) ∙ child.sep_is

  -- the first child
  first_child : (x : ℕ) → IsLive (w.status x) → (nodes w.now x).shape.level ≡ suc (level - 1) → (v : ℕ) × IsChild (tree_of w) (level - 1) (nodes w.now x).shape.low v
  first_child x alive level_is =
      let sound = all_sound know w g x alive in
      let wide = g.tree.side.wide x alive in
      let first = sound.first (omega (arith, level_is)) in
      (first.0, child_of x (nodes w.now x).shape.low first.0 alive level_is (omega arith, wide) first.1)

  right_child : IsChild (tree_of w) (level - 1) f.key f.at.right
  right_child =
      let covers : Covers (nodes w.now f.at.parent).shape f.key = subst (λ v. Covers (node_of v).shape f.key) (sym parent_is) f.covers in
      child_of f.at.parent f.key f.at.right parent_alive parent_level covers (ap (λ v. (node_of v).look f.key) parent_is ∙ f.lists)

  right_sep : w.sep f.at.right ≡ f.key
  right_sep = right_child.sep_is

  right_low : (nodes w.now f.at.right).shape.low ≡ f.key
  right_low = listed_low f.at.right sure.holds.1.1.0.status ∙ right_sep

  linked : (nodes w.now f.at.left).shape.right ≡ f.at.right
  linked = ap (λ v. (node_of v).shape.right) sure.holds.1.0.page ∙ (right_is c (subst IsTreePage sure.holds.1.0.page (tree_page know w f.at.left g left_alive)) ∙ sure.sound.2)

  bound : (nodes w.now f.at.left).shape.end < unbounded
  bound = elim (cases_lt (nodes w.now f.at.left).shape.end unbounded) [
    | inl l ↦ l
    | inr past ↦ absurd (let within = g.tree.side.within f.at.left left_alive in let none : (nodes w.now f.at.left).shape.right ≡ 0 = g.tree.side.last f.at.left left_alive (omega (arith, past, within)) in let i = linked in let n = f.right_child.0 in omega (arith, none, i, n))
  ]

  meets : (nodes w.now f.at.right).shape.low ≡ (nodes w.now f.at.left).shape.end
  meets = subst (λ z. (nodes w.now z).shape.low ≡ (nodes w.now f.at.left).shape.end) linked (g.tree.side.link_same f.at.left left_alive bound (λ e. (let i : Live ≡ Left (nodes w.now f.at.left).shape.right = sym sure.holds.1.0.status ∙ e in cc)))

  are_neighbours : AreNeighbours c (w.now.contents f.at.right)
  are_neighbours =
      let left_is = sure.holds.1.0.page in
      beside c (w.now.contents f.at.right)
      (subst IsTreePage left_is (tree_page know w f.at.left g left_alive))
      (tree_page know w f.at.right g right_alive)
      (right_level ∙ (sym left_level ∙ ap (λ v. (node_of v).shape.level) left_is))
      (meets ∙ ap (λ v. (node_of v).shape.end) left_is)
      (subst (λ v. (node_of v).shape.end < unbounded) left_is bound)

  -- a key between the low of the left child and the end of the right one
  module _ (s : ℕ) (above : (nodes w.now f.at.left).shape.low < s) (below : s < (nodes w.now f.at.right).shape.end) where
    -- is not below the parent: its first child would be the left one
    from_low : f.parent.low ≤ s
    from_low = elim (cases_lt (nodes w.now f.at.left).shape.low f.parent.low) [
      | inr from ↦ omega (arith, from, above)
      | inl less ↦ absurd (
          let low : (nodes w.now f.at.parent).shape.low ≡ f.parent.low = ap (λ v. (node_of v).shape.low) parent_is in
          let first = first_child f.at.parent parent_alive parent_level in
          let key_above = f.above in
          let m = meets in
          let r = right_low in
          let covers : Covers (nodes w.now f.at.left).shape (nodes w.now f.at.parent).shape.low = (omega (arith, less, low), omega (arith, low, key_above, m, r)) in
          let sep = child_is f.at.left (nodes w.now f.at.parent).shape.low first.0 sure.holds.1.0.status left_level covers first.1 in
          let own = listed_low f.at.left sure.holds.1.0.status in
          omega (arith, sep, own, low, less)
          )
    ]

    -- and not beyond it: the first child of the next parent would be the right one
    to_end : s < end_of f.parent.high
    to_end = elim (cases_lt s (nodes w.now f.at.parent).shape.end) [
      | inl l ↦ (let end : (nodes w.now f.at.parent).shape.end ≡ end_of f.parent.high = ap (λ v. (node_of v).shape.end) parent_is in omega (arith, l, end))
      | inr past ↦ absurd (
          let within = g.tree.side.within f.at.right right_alive in
          let inner : (nodes w.now f.at.parent).shape.end < unbounded = omega (arith, past, below, within) in
          let next = (nodes w.now f.at.parent).shape.right in
          let alive = g.tree.side.link_live f.at.parent parent_alive inner in
          let same = g.tree.side.link_level f.at.parent parent_alive inner in
          let low = g.tree.side.link_same f.at.parent parent_alive inner (λ e. (let i : Live ≡ Left next = sym sure.holds.0.status ∙ e in cc)) in
          let first = first_child next alive (same ∙ parent_level) in
          let end : (nodes w.now f.at.parent).shape.end ≡ end_of f.parent.high = ap (λ v. (node_of v).shape.end) parent_is in
          let covered = f.covers.1 in
          let r = right_low in
          let covers : Covers (nodes w.now f.at.right).shape (nodes w.now next).shape.low = (omega (arith, r, low, end, covered), omega (arith, low, past, below)) in
          let sep = child_is f.at.right (nodes w.now next).shape.low first.0 sure.holds.1.1.0.status right_level covers first.1 in
          let own = right_sep in
          omega (arith, sep, own, low, end, covered)
          )
    ]

    -- and the parent lists it only as the low of the right child
    unlisted : (v : ℕ) → (nodes w.now f.at.parent).look s ≡ Some v → s ≡ f.key
    unlisted v look =
        let covers : Covers (nodes w.now f.at.parent).shape s = (let l = from_low in let e = to_end in let low : (nodes w.now f.at.parent).shape.low ≡ f.parent.low = ap (λ v. (node_of v).shape.low) parent_is in let end : (nodes w.now f.at.parent).shape.end ≡ end_of f.parent.high = ap (λ v. (node_of v).shape.end) parent_is in (omega (arith, l, low), omega (arith, e, end))) in
        let child = child_of f.at.parent s v parent_alive parent_level covers look in
        let m = meets in
        elim (cases_lt s (nodes w.now f.at.left).shape.end) [
          | inl l ↦ absurd (let sep = child_is f.at.left s v sure.holds.1.0.status left_level (omega (arith, above), l) child in let own = listed_low f.at.left sure.holds.1.0.status in omega (arith, sep, own, above))
          | inr from ↦ (let sep = child_is f.at.right s v sure.holds.1.1.0.status right_level (omega (arith, from, m), below) child in sym sep ∙ right_sep)
        ]

    relists : Relists f.parent f.key s f.at.right None → ⊥
    relists (inl out) = out (from_low, to_end)
    relists (inr r) =
        let v = is_some (map_of (pairs_of r.0) s) r.2 in
        let o = without_cases (map_of f.parent.children.items s) s f.key v.0 (sym (r.1.pairs s) ∙ v.1) in
        o.0 (unlisted v.0 (ap (λ u. (node_of u).look s) parent_is ∙ o.1))

  -- It never opens what it holds to begin again.
  pub never_lost : (at : Siblings) → Decides f c (w.now.contents f.at.right) (OpeningRight at Lost) → ⊥
  never_lost at h = elim h.1 [
    | inl apart ↦ apart are_neighbours
    | inr r ↦
        let sh = shares c (w.now.contents f.at.right) r.1.0 are_neighbours r.1.1 in
        let left_is = sure.holds.1.0.page in
        let above = sh.above in
        let low : (nodes w.now f.at.left).shape.low ≡ (node_of c).shape.low = ap (λ v. (node_of v).shape.low) left_is in
        relists r.1.0.separator (omega (arith, above, low)) sh.below r.1.2
  ]

-- the same of a process, by its state
pub never_lost_of : (w : World Run) (p : Name) (a : CompressIs) (f : Family) (c : Page) (at : Siblings) → IsGood know w → (w.proc p).state ≡ proc.Compress a → a.stage ≡ compress.Compressing (LatchedRight f c) → Decides f c (w.now.contents f.at.right) (OpeningRight at Lost) → ⊥
never_lost_of w p a f c at g state stage h =
    let r = w.proc p in
    let known : know r ≡ know_compress a.level a.key r.got a.stage = ap (know_of r.got r.child r.time) state in
    let is : know r ≡ know_compression a.level a.key r.got (LatchedRight f c) = known ∙ ap (know_compress a.level a.key r.got) stage in
    never_lost w g p a.level a.key r.got f c is at h
