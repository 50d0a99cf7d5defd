use Rattle.std.proofs.Common.{◌≡◌, take}
use Rattle.bl_image.specs.Images.{word_bytes}
use Rattle.bl_journal.proofs.words.spell.Given as goal

abbrev pub invariant-loop-word : goal.invariant-loop-word
invariant-loop-word l = l.bytes.items ≡ word_bytes (take l.word-index l.words)
