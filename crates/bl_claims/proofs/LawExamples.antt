-- The laws on a small tree: an anchor, two leaves and their parent, with the keys 1 and 9 in the left leaf and the right.
use Rattle.std.proofs.Common.{ℕ, ◌≤◌, ◌==◌, zero, suc, if◌then◌else◌, Some, None, [], ◌∷◌, arith, refl, inl}
use Rattle.bl_model.specs.Map.{Map}
use Rattle.bl_page.specs.Nodes.{Node, unbounded}
use Rattle.bl_claims.specs.Snapshots.{Snapshot}
use Rattle.bl_claims.specs.Laws.{Agreement, Overlap, HasChain, IsListed}
use Rattle.bl_claims.specs.Walks.{IsWalk, NoneTwice}
use Rattle.bl_claims.specs.Walks.IsWalk.{Ends, Right, Down}

abbrev left_leaf : Node
left_leaf = record { shape = record { level = 0; low = 0; end = 9; right = 2 }; look = λ k. if k == 1 then Some 10 else None }

abbrev right_leaf : Node
right_leaf = record { shape = record { level = 0; low = 9; end = unbounded; right = 0 }; look = λ k. if k == 9 then Some 90 else None }

-- the parent lists both leaves; before the post it lists the left one alone
abbrev parent : Node
parent = record { shape = record { level = 1; low = 0; end = unbounded; right = 0 }; look = λ k. if k == 0 then Some 1 else if k == 9 then Some 2 else None }

abbrev young_parent : Node
young_parent = record { shape = record { level = 1; low = 0; end = unbounded; right = 0 }; look = λ k. if k == 0 then Some 1 else None }

abbrev pages : Node → ℕ → Node
pages top x = if x == 1 then left_leaf else if x == 2 then right_leaf else top

abbrev in_tree : ℕ → Type 0
in_tree x = (1 ≤ x) × (x ≤ 3)

abbrev small_tree : Snapshot
small_tree = record { live = in_tree; node = pages parent; roots = record { levels = 2; leftmost = λ l. if l == 0 then 1 else 3 }; middle = λ x y. ⊥; evened = λ c. ⊥ }

-- the leaves say what a map with the keys 1 and 9 says, each of the keys that it covers
abbrev two_rows : Map
two_rows k = if k == 1 then Some 10 else if k == 9 then Some 90 else None

leaves_agree : Agreement small_tree two_rows
leaves_agree zero k live leaf covers = absurd (omega (arith, live.0))
leaves_agree (suc zero) k live leaf covers = grind (arith, covers.1)
leaves_agree (suc (suc zero)) k live leaf covers = grind (arith, covers.0)
leaves_agree (suc (suc (suc zero))) k live leaf covers = absurd (omega (arith, leaf))
leaves_agree (suc (suc (suc (suc n)))) k live leaf covers = absurd (omega (arith, live.1))

-- no key is covered by both leaves
none_overlap : Overlap small_tree
none_overlap zero y k live other level covers also = absurd (omega (arith, live.0))
none_overlap (suc (suc (suc (suc n)))) y k live other level covers also = absurd (omega (arith, live.1))
none_overlap x zero k live other level covers also = absurd (omega (arith, other.0))
none_overlap x (suc (suc (suc (suc n)))) k live other level covers also = absurd (omega (arith, other.1))
none_overlap (suc zero) (suc zero) k live other level covers also = inl refl
none_overlap (suc (suc zero)) (suc (suc zero)) k live other level covers also = inl refl
none_overlap (suc (suc (suc zero))) (suc (suc (suc zero))) k live other level covers also = inl refl
none_overlap (suc zero) (suc (suc zero)) k live other level covers also = absurd (omega (arith, covers.1, also.0))
none_overlap (suc (suc zero)) (suc zero) k live other level covers also = absurd (omega (arith, also.1, covers.0))
none_overlap (suc zero) (suc (suc (suc zero))) k live other level covers also = absurd (omega (arith, level))
none_overlap (suc (suc zero)) (suc (suc (suc zero))) k live other level covers also = absurd (omega (arith, level))
none_overlap (suc (suc (suc zero))) (suc zero) k live other level covers also = absurd (omega (arith, level))
none_overlap (suc (suc (suc zero))) (suc (suc zero)) k live other level covers also = absurd (omega (arith, level))

-- the leaves' chain: page 1, then page 2
leaves_chain : HasChain small_tree 0
leaves_chain = record {
  begins = refl;
  rest = 2 ∷ [];
  chain = ((omega arith, omega arith), refl, record { right = refl; meets = inl refl }, ((omega arith, omega arith), refl, refl, refl));
}

-- the parent lists page 2 under its low
second_listed : IsListed small_tree 1 9 2
second_listed = record { alive = (omega arith, omega arith); lower = refl; low = inl refl }

-- The lone walk of 12 goes down to page 2. Before the post it goes down to page 1, and from there to the right.
walk_down : IsWalk (pages parent) 12 3 (3 ∷ 2 ∷ []) 2
walk_down = Down {c = 2} (omega arith) (omega arith, omega arith) (record { key = 9; listed = refl; reached = omega arith; greatest = λ j o f le. grind arith }) (Ends refl (omega arith, omega arith))

walk_across : IsWalk (pages young_parent) 12 3 (3 ∷ 1 ∷ 2 ∷ []) 2
walk_across = Down {c = 1} (omega arith) (omega arith, omega arith) (record { key = 0; listed = refl; reached = omega arith; greatest = λ j o f le. grind arith }) (Right (omega arith) (Ends refl (omega arith, omega arith)))

no_page_twice : NoneTwice (3 ∷ 1 ∷ 2 ∷ [])
no_page_twice = ((λ e. absurd (omega arith), (λ e. absurd (omega arith), tt)), ((λ e. absurd (omega arith), tt), (tt, tt)))
