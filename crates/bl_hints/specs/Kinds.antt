-- The kinds of hints.
use Rattle.std.specs.Prelude.{◌≡◌, Bool, true, false}
use Rattle.bl_answers.specs.declared.answers.Hint.{Hint}
use Rattle.bl_answers.specs.declared.answers.Hint.TheVariants as hint

abbrev pub is_post : Hint → Bool
is_post (hint.Post level key) = true
is_post (hint.Thin level key) = false

-- it is to list a page
abbrev pub IsPost : Hint → Type 0
IsPost h = is_post h ≡ true

-- it is of a thin page
abbrev pub IsThin : Hint → Type 0
IsThin h = is_post h ≡ false
