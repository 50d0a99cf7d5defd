-- The pages and owners of the opening index.
use Rattle.std.proofs.Common.{ℕ, ◌≡◌, ◌≤◌, Some, List, [], ◌∷◌, length, slice_set, arith, ap, ◌∙◌, refl}
use Rattle.std.proofs.lemmas.List.{length-set}
use Rattle.bl_page.specs.declared.page.Page.{Page}
use Rattle.bl_page.specs.Tops.{IsAnchor}
use Rattle.bl_world.specs.declared.owners.Owner.{Owner}
use Rattle.bl_world.specs.declared.owners.Owner.TheVariants as own
use Rattle.bl_world.specs.WorldSteps.{AreEmptyLeaves, AreReleased, IsOpening}
use Rattle.bl_world.proofs.Arms.{set_here, set_other, stands}

pub laid : (size : ℕ) (pages : List Page) (owners : List Owner) (c : Page) → 4 ≤ size → AreEmptyLeaves size pages → AreReleased size owners → IsAnchor (1 ∷ []) c → IsOpening size (record { pages = slice_set pages 0 c; owners = slice_set (slice_set owners 0 own.Open) 1 own.Open; processes = []; events = [] })
laid size pages owners c least leaves released anchor =
    let count = leaves.0 in
    let many = released.0 in
    let other = stands pages 1 (omega (arith, count, least)) in
    let one : length (slice_set owners 0 own.Open) ≡ size = length-set owners 0 own.Open ∙ many in
    record {
      count = length-set pages 0 c ∙ count;
      owners = length-set (slice_set owners 0 own.Open) 1 own.Open ∙ one;
      anchor = (c, set_here pages 0 c (omega (arith, count, least)), anchor);
      leaf = (other.0, set_other pages 0 1 c (omega arith) ∙ other.1, leaves.1 1 other.0 other.1);
      anchor_open = set_other (slice_set owners 0 own.Open) 1 0 own.Open (omega arith) ∙ set_here owners 0 own.Open (omega (arith, many, least));
      leaf_open = set_here (slice_set owners 0 own.Open) 1 own.Open (omega (arith, one, least));
      others = λ x far within.
          let o = stands owners x (omega (arith, many, within)) in
          set_other (slice_set owners 0 own.Open) 1 x own.Open (omega (arith, far)) ∙ (set_other owners 0 x own.Open (omega (arith, far)) ∙ (o.1 ∙ ap Some (released.1 x o.0 o.1)));
      processes = refl;
      events = refl;
    }
