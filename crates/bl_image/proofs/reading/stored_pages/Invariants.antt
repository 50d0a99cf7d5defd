use Rattle.std.proofs.Common.{◌≡◌, ℕ, ◌*◌, ◌<◌, length, take, drop}
use Rattle.std.specs.Prelude.{flat_map}
use Rattle.std.specs.List.{AllByRecursion}
use Rattle.bl_image.specs.Images.{page_words, page_bytes, Fits64, NamesBelow, ArePage, chunk}
use Rattle.bl_image.proofs.reading.stored_pages.Given as goal

abbrev pub invariant-loop-x : goal.invariant-loop-x
invariant-loop-x l = record {
  count : length l.pages.items ≡ l.x;
  words : AllByRecursion (λ page. Fits64 (page_words page)) l.pages.items;
  names : AllByRecursion (NamesBelow l.most) l.pages.items;
  bytes_are : flat_map page_bytes l.pages.items ≡ take (256 * l.x) (drop 32 l.bytes);
  each : (y : ℕ) → y < l.x → ArePage l.most (chunk l.bytes y);
}
