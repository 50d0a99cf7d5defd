use Rattle.std.specs.Prelude.{flat_map, take}
use Rattle.std.specs.List.{AllByRecursion}
use Rattle.std.specs.Io.KnownBytes.{Appends}
use Rattle.bl_image.specs.Images.{page_words, page_bytes, Fits64}
use Rattle.bl_image.proofs.writing.write_pages.Given as goal

abbrev pub invariant-loop-page : goal.invariant-loop-page
invariant-loop-page g l = record {
  written : Appends (g.W.Write.contents l.fn.writer.inner) (g.W.Write.contents l.writer.inner) (flat_map page_bytes (take l.page-index l.pages));
  fit : AllByRecursion (λ page. Fits64 (page_words page)) (take l.page-index l.pages);
}
