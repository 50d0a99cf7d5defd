use Rattle.bl_store.specs.Opening.{Laid}
use Rattle.bl_store.proofs.opening.lay.Given as goal

abbrev pub invariant-loop-page : goal.invariant-loop-page
invariant-loop-page g l = Laid l.layout (g.F.FirstWords.contents l.first) l.words l.page
