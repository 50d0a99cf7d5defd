use Rattle.std.proofs.Common.{arith}
use Rattle.bl_image.proofs.Chunks.{fits_64}
use Rattle.bl_image.proofs.words.bytes_of.Goals as goal

pub returns-clause-fits : goal.returns-clause-fits
returns-clause-fits c = fits_64 c.args.words.now (λ i. omega (arith, c.fits-words i))
