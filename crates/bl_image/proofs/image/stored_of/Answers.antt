use Rattle.std.proofs.Common.{arith}
use Rattle.bl_image.proofs.Stored.{stored_most}
use Rattle.bl_image.proofs.image.stored_of.Goals as goal

pub returns-clause-most : goal.returns-clause-most
returns-clause-most c = let most = stored_most c.args.pages.now c.requires.0 in omega (arith, most, c.used_to.ensures.same, c.least_stored.ensures)
