use Rattle.std.proofs.Common.{◌<◌, length, arith}
use Rattle.bl_model.proofs.Steps.{OnErr_any}
use Rattle.bl_image.proofs.Writes.{page_begun, page_written, page_fits}
use Rattle.bl_image.proofs.writing.write_pages.Goals as goal

pub returns-in_err-write_text-clause-err : goal.returns-in_err-write_text-clause-err
returns-in_err-write_text-clause-err g c = OnErr_any c.from_residual.result
    (page_begun _ _ _ c.args.pages.now c.loop-page.page-index c.page-item.result c.words_of.result c.bytes_of.result (omega arith) c.page-item.is
    c.words_of.ensures.words c.bytes_of.ensures.bytes c.loop-page.invariant.written c.in_err-write_text.ensures.err)

pub loop-page-preserved : goal.loop-page-preserved
loop-page-preserved g c = let lt : c.loop-page.page-index < length c.args.pages.now = omega arith in record {
  written = page_written _ _ _ c.args.pages.now c.loop-page.page-index c.page-item.result c.words_of.result c.bytes_of.result lt c.page-item.is
      c.words_of.ensures.words c.bytes_of.ensures.bytes c.loop-page.invariant.written c.in_ok-write_text.ensures.ok;
  fit = page_fits c.args.pages.now c.loop-page.page-index c.page-item.result c.words_of.result lt c.page-item.is c.words_of.ensures.words c.bytes_of.ensures.fits c.loop-page.invariant.fit;
}
