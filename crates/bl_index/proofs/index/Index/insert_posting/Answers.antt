use Rattle.bl_index.proofs.Changes.{insert_lacks}
use Rattle.bl_index.proofs.index.Index.insert_posting.Goals as goal

pub returns-clause-no_room : goal.returns-clause-no_room
returns-clause-no_room g c = λ none. let a = c.args in insert_lacks a.pass.now c.write_posting.new.pass a.key a.value (c.write_posting.ensures.no_room none)
