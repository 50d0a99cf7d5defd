use Rattle.std.proofs.Common.{◌≡◌, ◌*◌, length, take}
use Rattle.std.specs.Prelude.{flat_map}
use Rattle.std.specs.List.{AllByRecursion}
use Rattle.bl_image.specs.Images.{Fits64, page_words, page_bytes}
use Rattle.bl_image.proofs.in_array.spell_pages.Given as goal

abbrev pub invariant-loop-page : goal.invariant-loop-page
invariant-loop-page l = record {
  at : l.at ≡ 256 * l.page-index;
  long : length l.bytes ≡ length l.fn.bytes;
  spelled : take (256 * l.page-index) l.bytes ≡ flat_map page_bytes (take l.page-index l.pages);
  fits : AllByRecursion (λ page. Fits64 (page_words page)) (take l.page-index l.pages);
}
