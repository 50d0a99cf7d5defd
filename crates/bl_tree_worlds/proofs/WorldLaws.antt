-- A good world has the laws of the tree.
use Rattle.std.proofs.Common.{ℕ, ◌≡◌, ◌⊎◌, ◌<◌, List, [], ◌∷◌, arith, ap, sym, ◌∙◌, refl, inl, inr}
use Rattle.std.proofs.lemmas.Bool.{false≢true}
use Rattle.bl_page.specs.declared.page.Page.{Page}
use Rattle.bl_page.specs.declared.page.Page.TheVariants.{Anchor, Leaf, Inner, Dead}
use Rattle.bl_page.specs.Machine.{Name, Owner}
use Rattle.bl_page.specs.Machine.Owner.{Released, Held, Retired}
use Rattle.bl_tree.specs.Trees.{Status, is_live, IsLive}
use Rattle.bl_tree.specs.Trees.Status.{Free, Fresh, Live, Left, Right, Uprooted, Gone, Anchored}
use Rattle.bl_tree.proofs.Statuses.{live_live, left_live, right_live, uprooted_live, free_dead, gone_dead}
use Rattle.bl_page.specs.Nodes.{node_of, roots_of, IsTreePage}
use Rattle.bl_tree.specs.SoundNodes.{AllSound}
use Rattle.bl_claims.specs.Laws.{IsChain}
use Rattle.bl_claims.specs.Walks.{Each}
use Rattle.bl_tree.proofs.LawsHold.{live, snapshot, KnowsMiddles, agreement, overlap, has_chain, listing}
use Rattle.bl_tree.proofs.WalksEnd.{lone_walk}
use Rattle.bl_tree.proofs.SoundPages.{sound_node, wide_page}
use Rattle.bl_claims.specs.Moments.{IsLivePage, InMiddle, InEvening, snapshot_of, HasLaws}
use Rattle.bl_tree_worlds.specs.Worlds.{Know, World, tree_of, IsGood}
use Rattle.bl_tree_worlds.specs.Observed.{TellsMiddles}

-- a page that covers keys is a leaf or an inner page
pub tree_page : {P : Type 0} (know : P → Know) (w : World P) (x : ℕ) → IsGood know w → IsLive (w.status x) → IsTreePage (w.now.contents x)
tree_page know w x g h = wide_page (w.now.contents x) (g.tree.side.wide x h)

pub all_sound : {P : Type 0} (know : P → Know) (w : World P) → IsGood know w → AllSound (tree_of w)
all_sound know w g = λ x h. sound_node (w.now.contents x) (tree_page know w x g h)

pub wide_bound : (c : Page) → IsTreePage c → 0 < (node_of c).shape.end
wide_bound (Anchor a) h = absurd h
wide_bound (Leaf l) h = omega (arith, l.bounds)
wide_bound (Inner i) h = omega (arith, i.bounds)
wide_bound (Dead d) h = absurd h

-- page 0, which names levels, is no page of one
no_roots : (c : Page) → 0 < (roots_of c).levels → IsTreePage c → ⊥
no_roots (Anchor a) h k = k
no_roots (Leaf l) h k = absurd (omega arith)
no_roots (Inner i) h k = absurd (omega arith)
no_roots (Dead d) h k = k

-- a page is live by owners and trail exactly where its status says so
pub live_page : {P : Type 0} (know : P → Know) (w : World P) (x : ℕ) → IsGood know w → IsLive (w.status x) → IsLivePage w.now w.trail x
live_page know w x g h = record { owned = by_owner (w.now.owner x) refl; kind = tree_page know w x g h; named = g.names.named x h }
  where
    by_owner : (o : Owner) → w.now.owner x ≡ o → (w.now.owner x ≡ Owner.Open) ⊎ ((p : Name) × (w.now.owner x ≡ Held p))
    by_owner Released e = absurd (false≢true (sym free_dead ∙ (ap is_live (sym (g.owned.released x e)) ∙ h)))
    by_owner Owner.Open e = inl e
    by_owner (Held p) e = inr (p, e)
    by_owner (Retired t) e = absurd (false≢true (sym gone_dead ∙ (ap is_live (sym (g.owned.retired x t e).0) ∙ h)))

pub live_status : {P : Type 0} (know : P → Know) (w : World P) (x : ℕ) → IsGood know w → IsLivePage w.now w.trail x → IsLive (w.status x)
live_status know w x g h = by_status (w.status x) refl
  where
    by_status : (s : Status) → w.status x ≡ s → IsLive (w.status x)
    by_status Free e = let o = g.owned.free x e in elim h.owned [ inl i ↦ cc | inr i ↦ let k = i.1 in cc ]
    by_status Fresh e = absurd (h.named (g.names.fresh x e))
    by_status Live e = rw e live_live
    by_status (Left y) e = rw e (left_live y)
    by_status (Right y) e = rw e (right_live y)
    by_status Uprooted e = rw e uprooted_live
    by_status Gone e = absurd (let d = (g.gone x e).end in let b = wide_bound (w.now.contents x) h.kind in omega arith)
    by_status Anchored e = absurd (no_roots (w.now.contents 0) g.tree.some_level (rw (g.owned.one_anchor x e) at h.kind))

knows : {P : Type 0} (w : World P) → TellsMiddles w → KnowsMiddles (tree_of w) (InMiddle w.now w.trail) (InEvening w.now w.trail)
knows w t = record { middle = t.middle; evened = t.evening }

chain_live : {P : Type 0} (know : P → Know) (w : World P) (level x : ℕ) (rest : List ℕ) → IsGood know w → IsChain (snapshot (tree_of w) (InMiddle w.now w.trail) (InEvening w.now w.trail)) level x rest → IsChain (snapshot_of w.now w.trail) level x rest
chain_live know w level x [] g c = (live_page know w x g c.0, c.1, c.2, c.3)
chain_live know w level x (y ∷ rest) g c = (live_page know w x g c.0, c.1, record { right = c.2.right; meets = c.2.meets }, chain_live know w level y rest g c.3)

each_live : {P : Type 0} (know : P → Know) (w : World P) (pages : List ℕ) → IsGood know w → Each (live (tree_of w)) pages → Each (IsLivePage w.now w.trail) pages
each_live know w [] g h = tt
each_live know w (x ∷ xs) g h = (live_page know w x g h.0, each_live know w xs g h.1)

-- the laws, where whoever is in the middle of a compression has the trail say so
pub laws : {P : Type 0} (know : P → Know) (w : World P) → TellsMiddles w → IsGood know w → HasLaws (snapshot_of w.now w.trail) (w.map 0)
laws know w t g =
    let to : (x : ℕ) → IsLivePage w.now w.trail x → live (tree_of w) x = λ x h. live_status know w x g h in
    let from : (x : ℕ) → live (tree_of w) x → IsLivePage w.now w.trail x = λ x h. live_page know w x g h in
    let sound = all_sound know w g in
    record {
      agreement = λ x k h. agreement g.tree x k (to x h);
      overlap = λ x y k h i. overlap (knows w t) g.tree x y k (to x h) (to y i);
      chains = λ level h. let c = has_chain level (knows w t) g.tree h in record { begins = c.begins; rest = c.rest; chain = chain_live know w level _ c.rest g c.chain };
      listing = λ x k c h above look. let o = listing (knows w t) sound g.tree x k c (to x h) above look in record { alive = from c o.alive; lower = o.lower; low = o.low };
      walks = λ k h. let o = lone_walk k g.tree sound h in record { top_level = o.top_level; is_top = o.is_top; pages = o.pages; leaf = o.leaf; walk = o.walk; all_live = each_live know w o.pages g o.all_live; alive = from o.leaf o.alive; is_leaf = o.is_leaf; covers = o.covers; once = o.once };
    }
