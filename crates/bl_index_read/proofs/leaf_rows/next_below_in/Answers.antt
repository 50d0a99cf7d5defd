use Rattle.std.proofs.Common.{◌∙◌, subst}
use Rattle.bl_proc.specs.Parts.{GoesOnBelow}
use Rattle.bl_proc_routes.proofs.Spellings.{bounds_are}
use Rattle.bl_index_read.proofs.leaf_rows.next_below_in.Goals as goal

pub returns-clause-next : goal.returns-clause-next
returns-clause-next g c = λ page tree e. subst (λ low. GoesOnBelow low c.next_below.result) (c.word.ensures.word ∙ (bounds_are page _ tree e).0) c.next_below.ensures
