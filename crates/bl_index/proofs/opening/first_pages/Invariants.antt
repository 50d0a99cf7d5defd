use Rattle.bl_index.specs.Opened.{AreFirst}
use Rattle.bl_index.proofs.opening.first_pages.Given as goal

abbrev pub invariant-loop-page : goal.invariant-loop-page
invariant-loop-page l = AreFirst l.page l.first.items
