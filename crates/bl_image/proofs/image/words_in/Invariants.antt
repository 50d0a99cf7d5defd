use Rattle.std.proofs.Common.{◌≡◌, map, take}
use Rattle.std.specs.List.{AllByRecursion}
use Rattle.bl_image.specs.Images.{Fits64, page_words}
use Rattle.bl_image.proofs.image.words_in.Given as goal

abbrev pub invariant-loop-page : goal.invariant-loop-page
invariant-loop-page l = record {
  spelled : l.words.items ≡ map page_words (take l.page-index l.pages);
  fits : AllByRecursion (λ page. Fits64 (page_words page)) (take l.page-index l.pages);
}
