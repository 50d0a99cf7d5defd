use Rattle.std.proofs.Common.{◌≡◌, length, take}
use Rattle.bl_page.specs.Words.{layout, head}
use Rattle.bl_page.proofs.spelling.anchor_words.Given as goal

abbrev pub invariant-loop-i : goal.invariant-loop-i
invariant-loop-i l = l.words ≡ layout (head 1 0 (length l.leftmost)) 0 0 0 (take l.i l.leftmost)
