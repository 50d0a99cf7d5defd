-- A leaf and an inner page are sound nodes, by the rules that their types keep.
use Rattle.std.proofs.Common.{ℕ, ◌≡◌, ◌<◌, ◌==◌, if◌then◌else◌, Some, List, [], ◌∷◌, arith, sym, ◌∙◌, inl, inr}
use Rattle.std.proofs.lemmas.Bool.{cases_eq}
use Rattle.bl_page.specs.declared.page.Page.{Page}
use Rattle.bl_page.specs.declared.page.Page.TheVariants.{Anchor, Leaf, Inner, Dead}
use Rattle.bl_page.specs.Pairs.{IsWithin, AllWithin, BeginsWith}
use Rattle.bl_model.specs.Rows.{map_of}
use Rattle.bl_page.specs.Nodes.{node_of, IsTreePage}
use Rattle.bl_tree.specs.SoundNodes.{IsSoundNode}

-- what is listed is within the bounds
pub listed_within : (low high : ℕ) (pairs : List (ℕ × ℕ)) (k v : ℕ) → AllWithin low high pairs → map_of pairs k ≡ Some v → IsWithin low high k
listed_within low high [] k v h e = cc
listed_within low high (pair ∷ pairs) k v h e = elim (cases_eq pair.0 k) [
  | inl i ↦ rw i at h.0
  | inr i ↦ listed_within low high pairs k v h.1 (let f : (if pair.0 == k then Some pair.1 else map_of pairs k) ≡ map_of pairs k = grind arith in sym f ∙ e)
]

first_listed : (low : ℕ) (pairs : List (ℕ × ℕ)) → BeginsWith low pairs → (c : ℕ) × (map_of pairs low ≡ Some c)
first_listed low [] h = absurd h
first_listed low (pair ∷ pairs) h = (pair.1, (let e : pair.0 ≡ low = h in grind arith))

pub sound_node : (p : Page) → IsTreePage p → IsSoundNode (node_of p)
sound_node (Anchor a) h = absurd h
sound_node (Leaf l) h = record { covered = λ k v e. listed_within l.low l.high l.rows.items k v l.cover e; first = λ e. absurd (omega arith) }
sound_node (Inner i) h = record { covered = λ k v e. listed_within i.low i.high i.children.items k v i.cover e; first = λ e. first_listed i.low i.children.items i.first }
sound_node (Dead d) h = absurd h

-- a page that covers keys is one of the tree
pub wide_page : (p : Page) → (node_of p).shape.low < (node_of p).shape.end → IsTreePage p
wide_page (Anchor a) h = absurd (omega arith)
wide_page (Leaf l) h = tt
wide_page (Inner i) h = tt
wide_page (Dead d) h = absurd (omega arith)
