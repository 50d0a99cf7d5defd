use Rattle.std.proofs.Common.{length, take, ap, subst, ◌∙◌}
use Rattle.std.specs.Prelude.{flat_map}
use Rattle.std.specs.List.{AllByRecursion}
use Rattle.bl_model.proofs.Steps.{OnErr_any}
use Rattle.bl_model.proofs.Beginnings.{beginning_first}
use Rattle.bl_model.specs.Stream.{StartsOut}
use Rattle.std.specs.Io.KnownBytes.{Appends}
use Rattle.bl_image.specs.Images.{page_bytes, page_words, head_bytes, stored, Fits64}
use Rattle.bl_image.proofs.Stored.{all_fit}
use Rattle.bl_image.proofs.Writes.{pages_begun, all_written, all_begun}
use Rattle.bl_image.proofs.writing.write_image.Goals as goal

-- So many pages are stored as the code has counted, here and in all that follows.
pub returns-in_err-write_text-clause-err : goal.returns-in_err-write_text-clause-err
returns-in_err-write_text-clause-err g c =
    let pages = c.args.pages.now in let same = c.stored_of-stored.ensures.same in
    OnErr_any c.from_residual.result (beginning_first _ _ (head_bytes (length pages) (stored pages)) (flat_map page_bytes (take (stored pages) pages))
    (subst (StartsOut _ _) (c.head_of.ensures ∙ ap (head_bytes (length pages)) same) c.in_err-write_text.ensures.err))

pub returns-in_err-write_pages-clause-err : goal.returns-in_err-write_pages-clause-err
returns-in_err-write_pages-clause-err g c =
    let pages = c.args.pages.now in let same = c.stored_of-stored.ensures.same in
    OnErr_any c.from_residual-in_err-write_pages.result (pages_begun _ _ _ (head_bytes (length pages) (stored pages)) (flat_map page_bytes (take (stored pages) pages))
    (subst (Appends _ _) (c.head_of.ensures ∙ ap (head_bytes (length pages)) same) c.in_ok-write_text.ensures.ok)
    (subst (StartsOut _ _) (ap (λ n. flat_map page_bytes (take n pages)) same) c.in_err-write_pages.ensures.err))

pub returns-in-Ok-clause-ok : goal.returns-in-Ok-clause-ok
returns-in-Ok-clause-ok g c =
    let pages = c.args.pages.now in let same = c.stored_of-stored.ensures.same in
    all_written _ _ _ _ (head_bytes (length pages) (stored pages)) (flat_map page_bytes (take (stored pages) pages))
    (subst (Appends _ _) (c.head_of.ensures ∙ ap (head_bytes (length pages)) same) c.in_ok-write_text.ensures.ok)
    (subst (Appends _ _) (ap (λ n. flat_map page_bytes (take n pages)) same) c.in_ok-write_pages.ensures.ok) c.in-Ok.ensures.bytes

-- the pages that are not stored are not in use, and fit too
pub returns-in-Ok-clause-fit : goal.returns-in-Ok-clause-fit
returns-in-Ok-clause-fit g c = all_fit c.args.pages.now
    (subst (AllByRecursion (λ page. Fits64 (page_words page))) (ap (λ n. take n c.args.pages.now) c.stored_of-stored.ensures.same) c.in_ok-write_pages.ensures.fit)

pub returns-in-Err-clause-err : goal.returns-in-Err-clause-err
returns-in-Err-clause-err g c =
    let pages = c.args.pages.now in let same = c.stored_of-stored.ensures.same in
    all_begun _ _ _ _ (head_bytes (length pages) (stored pages)) (flat_map page_bytes (take (stored pages) pages))
    (subst (Appends _ _) (c.head_of.ensures ∙ ap (head_bytes (length pages)) same) c.in_ok-write_text.ensures.ok)
    (subst (Appends _ _) (ap (λ n. flat_map page_bytes (take n pages)) same) c.in_ok-write_pages.ensures.ok) c.in-Err.ensures.bytes
