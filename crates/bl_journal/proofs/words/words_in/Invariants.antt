use Rattle.std.proofs.Common.{◌≡◌, ◌++◌, length}
use Rattle.bl_image.specs.Images.{word_bytes}
use Rattle.bl_journal.proofs.Spelling.{AreBytes}
use Rattle.bl_journal.proofs.words.words_in.Given as goal

abbrev pub invariant-loop-rest : goal.invariant-loop-rest
invariant-loop-rest l = record { spelled : word_bytes l.words.items ++ l.rest ≡ l.bytes; small : AreBytes l.rest }

abbrev pub decreases-loop-rest : goal.decreases-loop-rest
decreases-loop-rest l = length l.rest
