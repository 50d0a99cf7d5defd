-- A map whose rows are laid out anew begins with the map that the old one ended with.
use Rattle.std.proofs.Common.{◌≡◌, ◌∙◌, ◌++◌, ℕ, List, [], ◌∷◌, Option, refl, sym, ap, subst}
use Rattle.bl_model.specs.Map.{Map as PlainMap}
use Rattle.bl_model.specs.Rows.{map_of}
use Rattle.bl_page.specs.declared.page.Page.{Page}
use Rattle.bl_check.specs.Rows.{AreRowsOf}
use Rattle.bl_check.specs.Spans.{leftmost}
use Rattle.bl_check_laws.proofs.RowsFound.{rows_same}
use Rattle.bl_claims.specs.Seeing.{first_map}
use Rattle.bl_index.specs.Calls.{passes_of}
use Rattle.bl_index.specs.Closed.{Closes}
use Rattle.bl_index.specs.Lives.{Life, life_of, last_map, map_after_lives}
use Rattle.bl_index.specs.declared.index.Pass.{Pass}
use Rattle.bl_index.proofs.Resized.{seen_life}
use Rattle.bl_map.specs.Maps.{IsLoaded}
use Rattle.bl_map.specs.Shrunk.{IsMapShrunk, ShrinkingAddsALife}
use Rattle.bl_map.specs.declared.map.Map.{Map}

-- an image has one list of rows
one_list : (image : List (Option Page)) (xs ys : List (ℕ × ℕ)) → AreRowsOf image xs → AreRowsOf image ys → xs ≡ ys
one_list image xs ys are are' = rows_same image (leftmost image 0) xs ys are are'

pub shrinks : (old : Map) (seats : List Pass) (image : List (Option Page)) (rows : List (ℕ × ℕ)) (pages among : ℕ) (new : Map) (news : List Pass) → among ≡ passes_of old.index
    → Closes old.index seats image → AreRowsOf image rows → IsLoaded rows pages 12 among new news → IsMapShrunk old seats pages new news
shrinks old seats image rows pages among new news count closed are loaded =
    let held : loaded.opened.rows ≡ rows = one_list loaded.quiet.image.pages.items loaded.opened.rows rows loaded.opened.are_rows loaded.held.are_rows in
    let first : rows ≡ closed.rows = one_list image rows closed.rows are closed.are_rows in record {
      image = image;
      closes = closed;
      rows = rows;
      are_rows = are;
      loaded = subst (λ (z : ℕ). IsLoaded rows pages 12 z new news) count loaded;
      map = λ key. ap (λ (z : List (Option Page)). first_map z key) loaded.opened.begun.first ∙ (sym (loaded.opened.map key)
          ∙ (ap (λ (z : List (ℕ × ℕ)). map_of z key) (held ∙ first) ∙ closed.map key));
    }

ends_with : (m : PlainMap) (lives : List Life) (life : Life) → map_after_lives m (lives ++ life ∷ []) ≡ last_map life
ends_with m [] life = refl
ends_with m (a ∷ lives) life = ends_with (last_map a) lives life

pub one_life_more : ShrinkingAddsALife
one_life_more m lives old seats pages new news s on = record {
  are_lives = seen_life m lives old.index s.closes.whole on s.closes.seen;
  begins = λ key. s.map key ∙ sym (ap (λ (z : PlainMap). z key) (ends_with m lives (life_of old.index s.closes.whole)));
}
