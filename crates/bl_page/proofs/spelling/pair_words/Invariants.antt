use Rattle.std.proofs.Common.{◌≡◌, take}
use Rattle.bl_page.specs.Words.{layout, entries_of}
use Rattle.bl_page.proofs.spelling.pair_words.Given as goal

abbrev pub invariant-loop-i : goal.invariant-loop-i
invariant-loop-i l = l.words ≡ layout l.first l.low l.high l.right (entries_of (take l.i l.pairs))
