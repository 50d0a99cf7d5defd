-- What each answer of a post means.
use Rattle.std.specs.Prelude.{ℕ, ◌+◌, ◌≡◌, Option, None}
use Rattle.bl_claims.specs.Trails.{Trail}
use Rattle.bl_claims.specs.Meanings.{MeansDone, MeansAlready, MeansStale, MeansTooTall, MeansNoRoom}
use Rattle.bl_answers.specs.declared.answers.Hint.{Hint}
use Rattle.bl_answers.specs.declared.answers.Posted.{Posted}
use Rattle.bl_answers.specs.declared.answers.Posted.TheVariants as posted
use Rattle.bl_answers.specs.Hints.{post_hint}

-- of a post of that key to that level, with the hint beside it, by what its process has done. A parent that was split is itself to be
-- posted, by its separator and one level higher. No other answer has a hint.
abbrev pub MeansPosted : ℕ → ℕ → Posted → Option Hint → Trail → Type 0
MeansPosted level key posted.Done hint marks = (separator : Option ℕ) × MeansDone level key separator marks × (hint ≡ post_hint (level + 1) separator)
MeansPosted level key posted.Already hint marks = MeansAlready level key marks × (hint ≡ None)
MeansPosted level key posted.Stale hint marks = MeansStale level key marks × (hint ≡ None)
MeansPosted level key posted.NoRoom hint marks = MeansNoRoom level marks × (hint ≡ None)
MeansPosted level key posted.TooTall hint marks = MeansTooTall level marks × (hint ≡ None)
