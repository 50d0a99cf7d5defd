-- What a hint names, and which hint a split or a post leaves.
use Rattle.std.specs.Prelude.{ℕ, Option, None, Some}
use Rattle.bl_answers.specs.declared.answers.Hint.{Hint}
use Rattle.bl_answers.specs.declared.answers.Hint.TheVariants as hint
use Rattle.bl_answers.specs.declared.answers.Posted.{Posted}
use Rattle.bl_answers.specs.declared.answers.Posted.TheVariants as posted

-- the level of the parent that is to change
abbrev pub level_of : Hint → ℕ
level_of (hint.Post level key) = level
level_of (hint.Thin level key) = level

abbrev pub key_of : Hint → ℕ
key_of (hint.Post level key) = key
key_of (hint.Thin level key) = key

-- the hint to list a page one level above its own
abbrev pub post_hint : ℕ → Option ℕ → Option Hint
post_hint level None = None
post_hint level (Some separator) = Some (hint.Post level separator)

-- A post that met no room is left as a hint.
abbrev pub left_hint : ℕ → ℕ → Posted → Option Hint
left_hint level key posted.Done = None
left_hint level key posted.Already = None
left_hint level key posted.Stale = None
left_hint level key posted.NoRoom = Some (hint.Post level key)
left_hint level key posted.TooTall = None
