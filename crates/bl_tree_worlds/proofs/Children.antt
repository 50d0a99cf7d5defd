-- The child of a post: a page read without a latch, under the latch of its parent.
use Rattle.std.proofs.Common.{ℕ, ◌≡◌, ◌≢◌, None, suc, ap, sym, ◌∙◌, inl, inr}
use Rattle.bl_page.specs.Machine.{Name}
use Rattle.bl_page.specs.Machine.Owner.{Held}
use Rattle.bl_page.specs.Nodes.{Covers, IsTreePage}
use Rattle.bl_tree.specs.Trees.Status.{Live}
use Rattle.bl_tree.proofs.Statuses.{live_live}
use Rattle.bl_tree.proofs.LawsHold.{right_of}
use Rattle.bl_tree_worlds.specs.Worlds.{Child, Know, World, nodes, MayGet, IsRelied, IsGood}
use Rattle.bl_tree_worlds.proofs.Descents.{is_live_page}

-- two live pages of one level that are in no compression and cover one key are one page
pub one_page : {P : Type 0} (know : P → Know) (w : World P) (x y k : ℕ) → IsGood know w → w.status x ≡ Live → w.status y ≡ Live → (nodes w.now x).shape.level ≡ (nodes w.now y).shape.level → Covers (nodes w.now x).shape k → Covers (nodes w.now y).shape k → x ≡ y
one_page know w x y k g sx sy level c d = g.tree.side.apart x y k (rw sx live_live) (rw sy live_live) level c d (λ e. cc) (λ e. cc)

-- A child that covers the key from its low on is the one to be listed by it: an evening of it would need the same parent.
pub child_found : {P : Type 0} (know : P → Know) (w : World P) (p : Name) (parent at key : ℕ) → IsGood know w → w.now.owner parent ≡ Held p → w.status parent ≡ Live → Covers (nodes w.now parent).shape key → (nodes w.now parent).shape.level ≡ suc (nodes w.now at).shape.level → (know (w.proc p)).middle ≡ None → MayGet w p at → IsTreePage (w.now.contents at) → (nodes w.now at).shape.low ≡ key → IsRelied w p (record { parent = parent; at = at; key = key })
child_found know w p parent at key g held live covers level none may kind low =
    let alive = is_live_page know w g p at may kind in
    record {
      owner = held;
      status = live;
      covers = covers;
      level = level;
      alive = alive;
      sep = elim (right_of (w.status at)) [
        | inl r ↦ absurd (
            let m = g.middles r.0 at r.1 in
            let there : Covers (nodes w.now m.parent).shape key = rw low at m.parent_covers in
            let same : m.parent ≡ parent = one_page know w m.parent parent key g m.parent_live live (m.parent_level ∙ sym level) there covers in
            let by : m.by ≡ p = (let e : w.now.owner parent ≡ Held m.by = rw same at m.parent_held in cc) in
            let f : (know (w.proc m.by)).middle ≡ None = rw by none in
            cc (m.is))
        | inr n ↦ sym (g.tree.side.sep_same at alive n) ∙ low
      ];
    }

-- A page that another process relies on as a child is not the one that p makes dead or lists by another key, since p holds
-- the parent of that page.
pub not_relied : {P : Type 0} (know : P → Know) (w : World P) (p q : Name) (parent y : ℕ) (c : Child) → IsGood know w → q ≢ p → w.now.owner parent ≡ Held p → w.status parent ≡ Live → (nodes w.now parent).shape.level ≡ suc (nodes w.now y).shape.level → Covers (nodes w.now parent).shape (w.sep y) → IsRelied w q c → c.at ≢ y
not_relied know w p q parent y c g n held live level covers h i =
    let key : c.key ≡ w.sep y = sym h.sep ∙ ap w.sep i in
    let there : Covers (nodes w.now c.parent).shape (w.sep y) = rw key at h.covers in
    let same : c.parent ≡ parent = one_page know w c.parent parent (w.sep y) g h.status live (h.level ∙ (ap (λ v. suc (nodes w.now v).shape.level) i ∙ sym level)) there covers in
    n (let e : w.now.owner parent ≡ Held q = rw same at h.owner in cc)
