use Rattle.std.proofs.Common.{◌≡◌, ◌≢◌, ◌-◌, ℕ, List, Option, Vec, Global, length, take, drop, slice_index_or, sym, ◌∙◌, subst}
use Rattle.std.specs.Prelude.{MatchOption}
use Rattle.bl_image.specs.Images.{word_bytes, Fits64}
use Rattle.bl_journal.proofs.Told.{two_and_others}
use Rattle.bl_journal.proofs.Bodies.{left_told}
use Rattle.bl_journal.proofs.reading.rows_in.Goals as goal

pub returns-in-len2-up-clause-left : goal.returns-in-len2-up-clause-left
returns-in-len2-up-clause-left c = λ m log.
    let l : List ℕ = c.as_slice.result.now in
    let read = subst (λ (found : Option (Vec ℕ Global)). MatchOption found ((words : List ℕ) → c.args.bytes.now ≢ word_bytes words)
    (λ words. (word_bytes words.items ≡ c.args.bytes.now) × Fits64 words.items)) c.in-Some.is c.in_ok-words.ensures.words in
    let told = c.in_ok-rows-in-len2-up.ensures.left in
    left_told c.args.bytes.now c.in-Some.words.items (take (length l - 2) (drop 2 l)) (slice_index_or l 0 0) (slice_index_or l 1 0) told.0 told.1 c.in_ok-rows-in-len2-up.rows.items m
    read.0 read.1 (sym c.as_slice.ensures.value ∙ two_and_others l c.in-len2-up.len_at_least) log told.2 told.3
