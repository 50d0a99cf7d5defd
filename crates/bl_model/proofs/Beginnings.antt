-- Beginnings of a text that is written in pieces.
use Rattle.std.proofs.Common.{ℕ, List, [], ◌++◌, ap, sym, ◌∙◌, append_assoc}
use Rattle.std.specs.Prelude.{Option}
use Rattle.std.proofs.lemmas.List.{append-nil}
use Rattle.std.proofs.KnownBytes.{Appends-trans, Appends-kept}
use Rattle.std.specs.Io.KnownBytes.{Appends, Keeps}
use Rattle.bl_model.specs.Stream.{StartsOut}

-- behind what is written a piece is begun
pub beginning_behind : (a b c : Option (List ℕ)) (done piece rest : List ℕ) → Appends a b done → StartsOut b c piece → StartsOut a c (done ++ (piece ++ rest))
beginning_behind a b c done piece rest h (out, left, is, k) = (
  done ++ out,
  left ++ rest,
  ap (λ t. done ++ (t ++ rest)) is ∙ ap (λ t. done ++ t) (append_assoc out left rest) ∙ sym (append_assoc done out (left ++ rest)),
  Appends-trans a b c done out h k,
)

pub beginning_first : (a b : Option (List ℕ)) (piece rest : List ℕ) → StartsOut a b piece → StartsOut a b (piece ++ rest)
beginning_first a b piece rest (out, left, is, k) = (out, left ++ rest, ap (λ t. t ++ rest) is ∙ append_assoc out left rest, k)

-- all of it is written, and then a call wrote nothing
pub beginning_whole : (a b c : Option (List ℕ)) (text : List ℕ) → Appends a b text → Keeps b c → StartsOut a c text
beginning_whole a b c text h k = (text, [], sym (append-nil text), Appends-kept a b c text h k)
