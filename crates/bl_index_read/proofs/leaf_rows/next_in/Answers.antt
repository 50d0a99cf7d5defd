use Rattle.std.proofs.Common.{◌∙◌, ap, subst}
use Rattle.bl_page.specs.Pairs.{end_of}
use Rattle.bl_proc.specs.Parts.{GoesOnAt}
use Rattle.bl_proc_routes.proofs.Spellings.{bounds_are}
use Rattle.bl_index_read.proofs.leaf_rows.next_in.Goals as goal

pub returns-clause-next : goal.returns-clause-next
returns-clause-next g c = λ page tree e. subst (λ end. GoesOnAt end c.next_after.result) (ap end_of c.word.ensures.word ∙ (bounds_are page _ tree e).1) c.next_after.ensures
