-- An index that is opened from a sound image.
use Rattle.std.proofs.Common.{ℕ, ◌≡◌, ◌-◌, List, [], Option, length, map, refl, sym, subst}
use Rattle.bl_page.specs.declared.page.Page.{Page}
use Rattle.bl_image.specs.Images.{IsImage, image_bytes, page_words}
use Rattle.bl_image.specs.declared.image.Image.{Image}
use Rattle.bl_check.specs.Rules.{AreSound}
use Rattle.bl_check_laws.proofs.Beginnings.{AllFit}
use Rattle.bl_check_laws.proofs.Opened.{one_list}
use Rattle.bl_store.specs.Opening.{first_pages, padded}
use Rattle.bl_claims.specs.Seeing.{IsSeen}
use Rattle.bl_index_rule.specs.Simulation.{beginner, Simulates}
use Rattle.bl_index_rule.proofs.Reopened.{rows_map, reopens, beginner_seen, more_words}
use Rattle.bl_index.specs.declared.index.Index.{Index}
use Rattle.bl_index.specs.declared.index.Pass.{Pass}
use Rattle.bl_index.specs.Opened.{IsBegun, IsReopenedIn}

pub is_image : (image : Image) → AllFit image.pages.items → IsImage image.pages.items (image_bytes image.pages.items)
is_image image fits = record { count = (image.some, image.limit); words = fits; bytes_are = refl }

-- the rule holds of an image's words, and of pages of zeros behind them; and so of a beginning that is the image's
pub rule_of : (image : Image) (first : List (Option Page)) (size among : ℕ) → AllFit image.pages.items → AreSound image.pages.items → first ≡ image.pages.items
    → Simulates (first_pages (padded size (map page_words image.pages.items)) among (beginner first))
rule_of image first size among fits sound same =
    let pages = image.pages.items in
    let more : ℕ = size - length (map page_words pages) in
    subst (λ (z : List (List ℕ) × List (Option Page)). Simulates (first_pages z.0 among (beginner z.1))) (λ i. (sym (more_words pages more) i, sym same i))
    (reopens pages (image_bytes pages) (is_image image fits) sound more among)

pub seen_of : (image : Image) (first : List (Option Page)) → AllFit image.pages.items → AreSound image.pages.items → first ≡ image.pages.items → IsSeen first []
seen_of image first fits sound same = subst (λ (z : List (Option Page)). IsSeen z []) (sym same) (beginner_seen image.pages.items (image_bytes image.pages.items) (is_image image fits) sound 0)

pub is_reopened : (image : Image) (size among : ℕ) (index : Index) (passes : List Pass) → AllFit image.pages.items → AreSound image.pages.items → IsBegun image.pages.items size among index passes → IsReopenedIn image.pages.items size among index passes
is_reopened image size among index passes fits sound begun =
    let pages = image.pages.items in
    let list = one_list pages (image_bytes pages) (is_image image fits) sound in
    record {
      begun = begun;
      rows = list.rows;
      are_rows = list.are_rows;
      map = rows_map pages (image_bytes pages) (is_image image fits) sound list.rows list.are_rows;
    }
