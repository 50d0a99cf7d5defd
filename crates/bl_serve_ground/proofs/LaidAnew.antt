-- An index whose rows are laid out anew begins with the map that the old one ended with.
use Rattle.std.proofs.Common.{◌≡◌, ◌∙◌, ℕ, List, Option, refl, sym, ap, subst}
use Rattle.bl_model.specs.Rows.{map_of}
use Rattle.bl_page.specs.declared.page.Page.{Page}
use Rattle.bl_check.specs.Rows.{AreRowsOf}
use Rattle.bl_check.specs.Spans.{leftmost}
use Rattle.bl_check_laws.proofs.RowsFound.{rows_same}
use Rattle.bl_claims.specs.Seeing.{first_map}
use Rattle.bl_index.specs.declared.index.Index.{Index}
use Rattle.bl_index.specs.declared.index.Pass.{Pass}
use Rattle.bl_index.specs.Calls.{passes_of}
use Rattle.bl_index.specs.Closed.{Closes}
use Rattle.bl_index.specs.Opened.{IsReopened}
use Rattle.bl_serve_ground.specs.Growing.{LaysOut, Shrinks}

-- an image has one list of rows
one_list : (image : List (Option Page)) (xs ys : List (ℕ × ℕ)) → AreRowsOf image xs → AreRowsOf image ys → xs ≡ ys
one_list image xs ys are are' = rows_same image (leftmost image 0) xs ys are are'

pub shrinks : (old : Index) (olds : List Pass) (image laid : List (Option Page)) (pages among : ℕ) (new : Index) (news : List Pass) → among ≡ passes_of old → Closes old olds image → LaysOut image pages laid → IsReopened laid among new news → Shrinks old olds pages new news
shrinks old olds image laid pages among new news count closed lays opened =
    let held : opened.rows ≡ lays.rows = one_list laid opened.rows lays.rows opened.are_rows lays.held.are_rows in
    let first : lays.rows ≡ closed.rows = one_list image lays.rows closed.rows lays.are_rows closed.are_rows in record {
      image = image;
      closes = closed;
      laid = laid;
      lays = lays;
      reopens = subst (λ (z : ℕ). IsReopened laid z new news) count opened;
      map = λ key. ap (λ (z : List (Option Page)). first_map z key) opened.begun.first ∙ (sym (opened.map key)
          ∙ (ap (λ (z : List (ℕ × ℕ)). map_of z key) (held ∙ first) ∙ closed.map key));
    }
