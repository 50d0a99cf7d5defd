use Rattle.bl_index.proofs.opening.first_words.Goals as goal

pub returns-in-0 : goal.returns-in-0
returns-in-0 c = rw c.in-0.is (c.first_anchor.result, c.first_anchor.ensures, c.to_words.ensures)

pub returns-in-1 : goal.returns-in-1
returns-in-1 c = rw c.in-1.is (c.first_leaf.result, c.first_leaf.ensures, c.to_words-in-1.ensures)
