use Rattle.std.proofs.Common.{take}
use Rattle.std.specs.List.{AllByRecursion}
use Rattle.bl_image.specs.Images.{Fits64, page_words}
use Rattle.bl_image.proofs.image.are_of_64_bits.Given as goal

abbrev pub invariant-loop-page : goal.invariant-loop-page
invariant-loop-page l = AllByRecursion (λ page. Fits64 (page_words page)) (take l.page-index l.pages)
