-- Where a server stands at its beginning, and behind a resize.
use Rattle.std.proofs.Common.{◌≡◌, ℕ, ◌<◌, ◌≤◌, List, Option, length, refl, sym, ap, ◌∙◌, subst, arith}
use Rattle.bl_model.specs.Map.{Map, SameMap}
use Rattle.bl_model.specs.History.{final_map}
use Rattle.bl_page.specs.declared.page.Page.{Page}
use Rattle.bl_claims.specs.Trails.{Trail, history_of}
use Rattle.bl_claims.specs.Seeing.{first_map}
use Rattle.bl_index.specs.declared.index.Index.{Index}
use Rattle.bl_index.specs.declared.index.Pass.{Pass}
use Rattle.bl_index.specs.Calls.{first_of, pages_of, passes_of, map_after}
use Rattle.bl_index.specs.Closed.{Closes}
use Rattle.bl_index.specs.Opened.{IsBegun}
use Rattle.bl_serve_ground.specs.declared.ground.Ground.{Ground}
use Rattle.bl_serve_ground.specs.declared.ground.Ground.TheVariants.{Lent, Own}
use Rattle.bl_serve_ground.specs.declared.ground.Limits.{Limits}
use Rattle.bl_serve_ground.specs.Growing.{GoesOnWith, GoesOnWithin, IsDoubled}
use Rattle.bl_serve_ground.specs.Growing.GoesOnWith.{Stays, Returns, Opens, Lays}
use Rattle.bl_serve_ground.specs.Standing.{IsAtRest, IsStill, Resettles, StandsAt, index_in, map_in, sizes_in}
use Rattle.bl_serve_ground.specs.Together.{AreTogether, seen_by}
use Rattle.bl_serve_ground.proofs.Beginning.{together, unseen}
use Rattle.bl_serve_ground.proofs.Doubling.{no_fewer, no_more, not_at_all}
use Rattle.bl_serve_ground.proofs.Leaving.{history_kept}

-- ---- at the beginning

still_first : (ground : Ground) (passes : List Pass) → IsStill ground (seen_by passes) ground passes
still_first (Lent index) passes = (refl, refl)
still_first (Own index limits) passes = tt

-- it has come from itself
pub stands_first : (ground : Ground) (passes : List Pass) → IsAtRest ground passes → StandsAt ground (sizes_in ground) (seen_by passes) ground passes
stands_first ground passes r = record { rests = r; legal = r.together.may_be.legal; map = refl; still = still_first ground passes; sizes = refl }

-- ---- how many pages there are

-- no fewer than at least, and no more than at most
pub some_at_least : (ground : Ground) (passes : List Pass) → IsAtRest ground passes → (sizes_in ground).0 ≤ pages_of (index_in ground)
some_at_least ground passes r = no_fewer (sizes_in ground).0 (sizes_in ground).1 (pages_of (index_in ground)) r.within r.sizes

pub some_at_most : (ground : Ground) (passes : List Pass) → IsAtRest ground passes → pages_of (index_in ground) ≤ (sizes_in ground).1
some_at_most ground passes r = no_more (sizes_in ground).0 (sizes_in ground).1 (pages_of (index_in ground)) r.within r.sizes

-- as many pages as there are at least are no more than at most
pub some_between : (from : Ground) (pages : ℕ × ℕ) (seen : Trail) (ground : Ground) (passes : List Pass) → StandsAt from pages seen ground passes → pages.0 ≤ pages.1
some_between from pages seen ground passes t = subst (λ (z : ℕ × ℕ). z.0 ≤ z.1) t.sizes t.rests.within

-- ---- behind a resize

still_other : (from : Ground) (seen : Trail) (old new : Index) (limits : Limits) (olds news : List Pass) → IsStill from seen (Own old limits) olds → IsStill from seen (Own new limits) news
still_other (Lent index) seen old new limits olds news s = absurd s
still_other (Own index its) seen old new limits olds news s = tt

-- the new index, of so many pages, begins with the map of the old one
record BeginsAs (old : Index) (olds : List Pass) (size : ℕ) (new : Index) (news : List Pass) : Type 0 where
  image : List (Option Page)
  laid : List (Option Page)
  closes : Closes old olds image
  begun : IsBegun laid size (passes_of old) new news
  map : SameMap (map_after (first_of old) closes.whole) (first_map (first_of new))

module _ (old : Index) (olds : List Pass) (limits : Limits) (size : ℕ) (new : Index) (news : List Pass) (fits : IsDoubled limits.least limits.most size) (b : BeginsAs old olds size new news) where
  -- the map is that of before
  same_map : 0 < length olds → AreTogether old (seen_by olds) olds → map_after (first_of new) (seen_by news) ≡ map_after (first_of old) (seen_by olds)
  same_map some t =
      ap (map_after (first_of new)) (unseen b.laid size (passes_of old) new news b.begun)
      ∙ ((λ i key. b.map key i) ∙ ap (final_map (first_map (first_of old))) (history_kept old (seen_by olds) olds b.image some t b.closes))

  resettles : Resettles (Own old limits) olds (Own new limits) news
  resettles from pages seen t = record {
    rests = record {
      some = (let a = b.begun.count in let b = t.rests.together.count in let some = t.rests.some in omega (arith, a, b, some));
      together = together b.laid size (passes_of old) new news b.begun;
      least = t.rests.least;
      within = t.rests.within;
      sizes = subst (IsDoubled limits.least limits.most) (sym b.begun.pages) fits;
    };
    legal = t.legal;
    map = same_map t.rests.some t.rests.together ∙ t.map;
    still = still_other from seen old new limits olds news t.still;
    sizes = t.sizes;
  }

-- however it went
goes : (old : Index) (olds : List Pass) (limits : Limits) (size : ℕ) (new : Index) (news : List Pass) → IsDoubled limits.least limits.most size → GoesOnWith old olds size new news → Resettles (Own old limits) olds (Own new limits) news
goes old olds limits size new news d (Stays same they) from pages seen t = subst (λ (z : Index × List Pass). StandsAt from pages seen (Own z.0 limits) z.1) (λ i. (sym same i, sym they i)) t
goes old olds limits size new news d (Returns r) from pages seen t = resettles old olds limits (pages_of old) new news t.rests.sizes (record { image = r.image; laid = r.image; closes = r.closes; begun = r.reopens.begun; map = r.map }) from pages seen t
goes old olds limits size new news d (Opens r) from pages seen t = resettles old olds limits size new news d (record { image = r.image; laid = r.image; closes = r.closes; begun = r.reopens.begun; map = r.map }) from pages seen t
goes old olds limits size new news d (Lays s) from pages seen t =
    let begun : IsBegun s.laid size (passes_of old) new news = subst (λ (z : ℕ). IsBegun s.laid z (passes_of old) new news) s.lays.count s.reopens.begun in
    resettles old olds limits size new news d (record { image = s.image; laid = s.laid; closes = s.closes; begun = begun; map = s.map }) from pages seen t

pub goes_within : (limits : Limits) (old : Index) (olds : List Pass) (new : Index) (news : List Pass) → GoesOnWithin limits old olds new news → Resettles (Own old limits) olds (Own new limits) news
goes_within limits old olds new news g = goes old olds limits g.size new news g.fits g.goes

-- as many passes came back
back : (old : Index) (olds : List Pass) (size : ℕ) (new : Index) (news : List Pass) → length olds ≡ passes_of old → GoesOnWith old olds size new news → length news ≡ length olds
back old olds size new news count (Stays same they) = ap length they
back old olds size new news count (Returns r) = r.reopens.begun.count ∙ sym count
back old olds size new news count (Opens r) = r.reopens.begun.count ∙ sym count
back old olds size new news count (Lays s) = s.reopens.begun.count ∙ sym count

pub as_many : (limits : Limits) (old : Index) (olds : List Pass) (new : Index) (news : List Pass) → length olds ≡ passes_of old → GoesOnWithin limits old olds new news → length news ≡ length olds
as_many limits old olds new news count g = back old olds g.size new news count g.goes

-- a resize has left the map
pub map_kept : (old : Ground) (olds : List Pass) (new : Ground) (news : List Pass) → IsAtRest old olds → Resettles old olds new news → map_in new news ≡ map_in old olds
map_kept old olds new news r s = (s old (sizes_in old) (seen_by olds) (stands_first old olds r)).map

-- and all is at rest
pub rests_on : (old : Ground) (olds : List Pass) (new : Ground) (news : List Pass) → IsAtRest old olds → Resettles old olds new news → IsAtRest new news
rests_on old olds new news r s = (s old (sizes_in old) (seen_by olds) (stands_first old olds r)).rests
