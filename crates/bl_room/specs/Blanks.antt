-- Pages that nobody uses.
use Rattle.std.specs.Prelude.{◌==◌, Bool, List, ℕ}
use Rattle.std.specs.List.{list_all}

-- whether a page has only zeros
abbrev pub is_blank : List ℕ → Bool
is_blank words = list_all (λ w. w == 0) words
