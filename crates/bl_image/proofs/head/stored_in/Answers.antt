use Rattle.std.proofs.Common.{◌∙◌, ◌-◌, ap, length, take, drop}
use Rattle.byteorder.specs.Endian.{little_number}
use Rattle.bl_image.proofs.Wholes.{kept_told}
use Rattle.bl_image.proofs.head.stored_in.Goals as goal

-- in version 2 it is read from the head
pub returns-then-count-gt-MOST_PAGES-clause-large : goal.returns-then-count-gt-MOST_PAGES-clause-large
returns-then-count-gt-MOST_PAGES-clause-large c large kept is small = c.read_u32.ensures ∙ ap (λ t. little_number 4 (take (length t - 16) (drop 16 t))) is ∙ kept_told c.args.count kept large small
