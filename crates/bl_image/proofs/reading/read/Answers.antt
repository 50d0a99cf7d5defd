use Rattle.std.proofs.Common.{length}
use Rattle.bl_image.specs.Images.{stored}
use Rattle.bl_image.proofs.Wholes.{image_same, read_fault, head_of_image}
use Rattle.bl_image.proofs.reading.read.Goals as goal

pub returns-in-None-clause-only : goal.returns-in-None-clause-only
returns-in-None-clause-only c pages image small = absurd (c.in-None.ensures (length pages) (stored pages) (head_of_image pages c.args.bytes.now image))

pub returns-in-Ok-clause-only : goal.returns-in-Ok-clause-only
returns-in-Ok-clause-only c pages image small = image_same c.in-Ok.pages.items pages c.args.bytes.now c.in-Ok.ensures.ok image

pub returns-in-Err-clause-only : goal.returns-in-Err-clause-only
returns-in-Err-clause-only c pages image small = read_fault c.in-Err.fault pages c.args.bytes.now c.in-Err.ensures.fault image small
