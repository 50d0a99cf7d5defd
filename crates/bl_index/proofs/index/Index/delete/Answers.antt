use Rattle.bl_index.proofs.Changes.{delete_lacks}
use Rattle.bl_index.proofs.index.Index.delete.Goals as goal

pub returns-clause-no_room : goal.returns-clause-no_room
returns-clause-no_room g c = λ none. let a = c.args in delete_lacks a.pass.now c.write.new.pass a.key (c.write.ensures.no_room none)
