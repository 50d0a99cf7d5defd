use Rattle.std.proofs.Common.{◌≡◌, ◌++◌, take}
use Rattle.std.specs.Prelude.{flat_map}
use Rattle.bl_replay.specs.Pages.{number_text}
use Rattle.bl_replay.proofs.pages.push_leftmost.Given as goal

abbrev pub invariant-loop-first : goal.invariant-loop-first
invariant-loop-first l = l.out.items ≡ l.fn.out.items ++ flat_map number_text (take l.first-index l.leftmost)
