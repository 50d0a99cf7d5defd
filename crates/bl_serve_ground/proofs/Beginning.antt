-- The passes of a new index are together, and what they serve is served from the rows that it began with.
use Rattle.std.proofs.Common.{◌≡◌, ℕ, suc, ◌+◌, ◌≤◌, List, [], ◌∷◌, Option, length, refl, sym, ap, ◌∙◌, subst, arith}
use mathlib.Core.Option.{some}
use lib.ListN.{get_elem?}
use Rattle.bl_model.specs.Map.{Map}
use Rattle.bl_model.specs.Rows.{map_of}
use Rattle.bl_check.specs.declared.quiet.Quiet.{Quiet}
use Rattle.bl_check.specs.Spans.{leftmost}
use Rattle.bl_check_laws.proofs.RowsFound.{rows_same}
use Rattle.bl_page.specs.declared.page.Page.{Page}
use Rattle.bl_claims.specs.Trails.{Trail}
use Rattle.bl_claims.specs.Seeing.{first_map}
use Rattle.bl_index.specs.declared.index.Index.{Index}
use Rattle.bl_index.specs.declared.index.Pass.{Pass}
use Rattle.bl_index.specs.Calls.{first_of, pages_of, IsPassOf, number_of, trail, map_after}
use Rattle.bl_index.specs.Opened.{IsBegun, IsReopened}
use Rattle.bl_serve_ground.specs.declared.origin.Origin.{Origin}
use Rattle.bl_serve_ground.specs.declared.origin.Origin.TheVariants.{Empty, Image}
use Rattle.bl_serve_ground.specs.Begun.{IsBegunFrom}
use Rattle.bl_serve_ground.specs.Origins.{HasPages, HasRows, size_of}
use Rattle.bl_serve_ground.specs.Together.{AreFrom, AreTogether, seen_by}

-- ---- they are together

begun_from : (index : Index) (from : ℕ) (passes : List Pass) → ((n : ℕ) (pass : Pass) → get_elem? passes n ≡ some pass → IsPassOf index pass × (number_of pass ≡ from + n) × (trail pass ≡ [])) → AreFrom index [] from passes
begun_from index from [] each = tt
begun_from index from (p ∷ ps) each = let h = each 0 p refl in (
  h.0,
  (let e = h.1 in omega arith),
  h.2,
  begun_from index (suc from) ps (λ n q at. let r = each (suc n) q at in (r.0, (let e = r.1 in omega arith), r.2)),
)

none_seen : (passes : List Pass) → ((n : ℕ) (pass : Pass) → get_elem? passes n ≡ some pass → trail pass ≡ []) → seen_by passes ≡ []
none_seen [] each = refl
none_seen (p ∷ ps) each = each 0 p refl

module _ (image : List (Option Page)) (size among : ℕ) (index : Index) (passes : List Pass) (b : IsBegun image size among index passes) where
  pub unseen : seen_by passes ≡ []
  unseen = none_seen passes (λ n pass at. (b.each n pass at).2)

  pub together : AreTogether index (seen_by passes) passes
  together = subst (λ (z : Trail). AreTogether index z passes) (sym unseen) (record {
    count = b.count ∙ sym b.passes_are;
    each = begun_from index 0 passes (λ n pass at. let r = b.each n pass at in (r.0, (let e = r.1 in omega arith), r.2));
    may_be = b.seen.linear;
  })

-- ---- an index without rows, and one with those of an image

pub empty_begins : (pages among : ℕ) (index : Index) (passes : List Pass) → IsBegun [] pages among index passes → IsBegunFrom (Empty pages) among index passes
empty_begins pages among index passes b = record {
  pages = b.pages;
  rows = [];
  are_rows = refl;
  map = ap first_map b.first;
  many = b.count;
  unseen = unseen [] pages among index passes b;
  together = together [] pages among index passes b;
}

pub image_begins : (quiet : Quiet) (among : ℕ) (index : Index) (passes : List Pass) → IsReopened quiet.image.pages.items among index passes → IsBegunFrom (Image quiet) among index passes
image_begins quiet among index passes r = let image = quiet.image.pages.items in record {
  pages = r.begun.pages;
  rows = r.rows;
  are_rows = r.are_rows;
  map = ap first_map r.begun.first ∙ (λ i key. sym (r.map key) i);
  many = r.begun.count;
  unseen = unseen image (length image) among index passes r.begun;
  together = together image (length image) among index passes r.begun;
}

-- ---- the rows

-- it begins with no others
pub same_rows : (origin : Origin) (rows other : List (ℕ × ℕ)) → HasRows origin rows → HasRows origin other → rows ≡ other
same_rows (Empty pages) rows other a b = a ∙ sym b
same_rows (Image quiet) rows other a b = rows_same quiet.image.pages.items (leftmost quiet.image.pages.items 0) rows other a b

-- ---- the pages

pub some_pages : (origin : Origin) → HasPages origin → 4 ≤ size_of origin
some_pages (Empty pages) has = has.0
some_pages (Image quiet) has = quiet.image.some
