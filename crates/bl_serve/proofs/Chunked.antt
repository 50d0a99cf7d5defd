-- A chunk that was answered behind a resize: where it has brought the server, and what was noted on the way.
use Rattle.std.proofs.Common.{◌≡◌, ℕ, ◌<◌, ◌≤◌, List, ◌++◌, Option, length, refl, sym, ap, ◌∙◌, subst, arith}
use Rattle.bl_journal.specs.Rows.{Leads}
use Rattle.bl_changes.specs.declared.changes.Changes.{Changes}
use Rattle.bl_model.specs.Map.{Map}
use Rattle.bl_serve_lines.specs.declared.request.Request.{Request}
use Rattle.bl_index.specs.declared.index.Index.{Index}
use Rattle.bl_index.specs.declared.index.Pass.{Pass}
use Rattle.bl_index.specs.Calls.{pages_of}
use Rattle.bl_serve_ground.specs.declared.ground.Ground.{Ground}
use Rattle.bl_serve.specs.Holding.{HoldsChunk, HoldsSection}
use Rattle.bl_serve.specs.Noting.{NoteMore, StillLead}
use Rattle.bl_serve_ground.specs.Together.{seen_by}
use Rattle.bl_serve_ground.specs.Standing.{IsAtRest, Resettles, StandsAt, index_in, map_in, sizes_in}
use Rattle.bl_serve_ground.proofs.Gathered.{together_by_first}
use Rattle.bl_serve.proofs.Led.{HistoriesLead, leads, leads_more}
use Rattle.bl_serve_ground.proofs.Rests.{map_kept, some_at_least, some_at_most, stands_first}
use Rattle.bl_serve.proofs.Standing.{chunk_goes}
use Rattle.bl_serve.proofs.Wider.{wider_held}

module _ (old : Ground) (olds : List Pass) (mid : Ground) (mids : List Pass) (new : Ground) (news : List Pass) (done : ℕ) (asked : List (Option Request)) (text : List ℕ) (rest : IsAtRest old olds) (some : 0 < length mids) (settles : Resettles old olds mid mids) (same : new ≡ mid) (h : HoldsChunk (index_in mid) done asked text mids news) where
  at : StandsAt old (sizes_in old) (seen_by olds) mid mids
  at = settles old (sizes_in old) (seen_by olds) (stands_first old olds rest)

  -- as many pages as there are in the middle are within what there may be
  low : (sizes_in old).0 ≤ pages_of (index_in mid)
  low = subst (λ (z : ℕ × ℕ). z.0 ≤ pages_of (index_in mid)) at.sizes (some_at_least mid mids at.rests)

  high : pages_of (index_in mid) ≤ (sizes_in old).1
  high = subst (λ (z : ℕ × ℕ). pages_of (index_in mid) ≤ z.1) at.sizes (some_at_most mid mids at.rests)

  pub holds_behind : HoldsSection (sizes_in old) old done asked text olds new news
  holds_behind = subst (λ (z : Ground). HoldsSection (sizes_in old) old done asked text olds z news) (sym same) (record {
    more = h.more;
    held = wider_held (sizes_in old) (pages_of (index_in mid), pages_of (index_in mid)) low high done asked text h.more h.held;
    goes = λ from its seen t. chunk_goes mid done asked text mids news some h from its seen (settles from its seen t);
  })

  -- all passes are there still
  pub some_left : 0 < length news
  some_left = let a = h.together.count in let b = at.rests.together.count in omega (arith, a, b, some)

  pub leads_behind : HistoriesLead → (noted between more : Changes) → between ≡ noted → NoteMore mids between news more → StillLead noted (map_in old olds) more (map_in new news)
  leads_behind law noted between more kept n =
      let one : Leads n.came n.went (map_in mid mids) (map_in mid news) = leads law (index_in mid) (seen_by mids) (seen_by news) mids news n.came n.went some some_left at.rests.together (together_by_first (index_in mid) (seen_by mids ++ h.more) news some_left h.together) n.have in
      subst (λ (z : Changes × Map × Ground). StillLead z.0 z.1 more (map_in z.2 news)) (λ i. (kept i, map_kept old olds mid mids rest settles i, sym same i))
      (leads_more between more n.came n.went (map_in mid mids) (map_in mid news) n.came_is n.went_is one)
