use Rattle.bl_store.proofs.Dealing.{Drafting}
use Rattle.bl_store.proofs.opening.lay_page.Given as goal

abbrev pub invariant-loop-place : goal.invariant-loop-place
invariant-loop-place g l = Drafting l.layout (g.F.FirstWords.contents l.first) l.words l.page l.place l.contents
