use Rattle.std.proofs.Common.{◌≡◌, ◌≤◌, length, map, take, vec_capacity}
use Rattle.std.specs.List.{AllByRecursion}
use Rattle.bl_image.specs.Images.{Fits64, page_words}
use Rattle.bl_image.proofs.image.Image.from_words.Given as goal

abbrev pub invariant-loop-page : goal.invariant-loop-page
invariant-loop-page l = record {
  count : length l.pages.items ≡ l.page-index;
  room : length l.words ≤ vec_capacity l.pages;
  spelled : map page_words l.pages.items ≡ take l.page-index l.words;
  fits : AllByRecursion (λ page. Fits64 (page_words page)) l.pages.items;
}
