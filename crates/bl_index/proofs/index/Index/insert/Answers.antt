use Rattle.bl_index.proofs.Changes.{inserts, insert_lacks}
use Rattle.bl_index.proofs.index.Index.insert.Goals as goal

pub returns-clause-no_room : goal.returns-clause-no_room
returns-clause-no_room g c = λ none. let a = c.args in insert_lacks a.pass.now c.write.new.pass a.key a.value (c.write.ensures.no_room none)

pub returns-clause-inserts : goal.returns-clause-inserts
returns-clause-inserts g c = inserts _ _ _ _ _ _ _ _ c.write.ensures.writes
