-- Where the pairs name children, so does each listed word.
use Rattle.std.proofs.Common.{◌≡◌, ℕ, List, [], ◌∷◌, Some, arith}
use Rattle.bl_model.specs.Rows.{map_of}
use Rattle.bl_page.specs.Pairs.{NameChildren, IsChild}

pub listed-child : (key child : ℕ) (pairs : List (ℕ × ℕ)) → NameChildren pairs → map_of pairs key ≡ Some child → IsChild child
listed-child key child [] h listed = absurd cc
listed-child key child (pair ∷ pairs) h listed = grind (arith, h.0, listed-child key child pairs h.1)
