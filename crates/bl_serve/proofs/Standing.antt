-- Where a server stands behind a chunk.
use Rattle.std.proofs.Common.{◌≡◌, ℕ, ◌+◌, ◌<◌, ◌≤◌, List, [], ◌++◌, Option, length, refl, sym, ap, ◌∙◌, subst, arith}
use Rattle.bl_model.specs.declared.operation.Entry.{Entry}
use Rattle.bl_model.specs.Map.{Map}
use Rattle.bl_model.specs.History.{IsLegalFrom, final_map}
use Rattle.bl_model.proofs.Histories.{final_map-append, legal_append, legal_rest}
use Rattle.bl_serve_lines.specs.declared.request.Request.{Request}
use Rattle.bl_page.specs.declared.page.Page.{Page}
use Rattle.bl_claims.specs.Trails.{Trail, history_of}
use Rattle.bl_claims.specs.Seeing.{first_map}
use Rattle.bl_index.specs.declared.index.Index.{Index}
use Rattle.bl_index.specs.declared.index.Pass.{Pass}
use Rattle.bl_index.specs.Calls.{first_of, map_after}
use Rattle.bl_serve_ground.specs.declared.ground.Ground.{Ground}
use Rattle.bl_serve_ground.specs.declared.ground.Ground.TheVariants.{Lent, Own}
use Rattle.bl_serve.specs.Holding.{HoldsChunk}
use Rattle.bl_serve_ground.specs.Together.{AreTogether, seen_by}
use Rattle.bl_serve_ground.specs.Standing.{GoesOn, IsStill, StandsAt, index_in, map_in}
use Rattle.bl_serve_worker.proofs.Lines.{history_append}
use Rattle.bl_serve_ground.proofs.Gathered.{first_seen, together_by_first}

-- ---- behind a chunk

pub map_append : (first : List (Option Page)) (old more : Trail) → map_after first (old ++ more) ≡ final_map (map_after first old) (history_of more)
map_append first old more = ap (final_map (first_map first)) (history_append old more) ∙ final_map-append (first_map first) (history_of old) (history_of more)

still_more : (from : Ground) (seen more : Trail) (ground : Ground) (olds news : List Pass) → IsStill from seen ground olds → seen_by news ≡ seen_by olds ++ more → IsStill from (seen ++ more) ground news
still_more (Lent index) seen more (Lent now) olds news s is = (s.0, is ∙ ap (λ (z : Trail). z ++ more) s.1)
still_more (Lent index) seen more (Own now its) olds news s is = absurd s
still_more (Own index limits) seen more (Lent now) olds news s is = absurd s
still_more (Own index limits) seen more (Own now its) olds news s is = tt

pub chunk_goes : (ground : Ground) (done : ℕ) (asked : List (Option Request)) (text : List ℕ) (olds news : List Pass) → 0 < length olds → (h : HoldsChunk (index_in ground) done asked text olds news) → GoesOn ground olds h.more ground news
chunk_goes ground done asked text olds news some h from pages seen t =
    let index : Index = index_in ground in
    let first : List (Option Page) = first_of (index_in from) in
    let more : Trail = h.more in
    let any : 0 < length news = (let a = h.together.count in let b = t.rests.together.count in omega (arith, a, b, some)) in
    let now : seen_by news ≡ seen_by olds ++ more = first_seen index (seen_by olds ++ more) news any h.together in
    let later : IsLegalFrom (map_in ground olds) (history_of more) = legal_rest (first_map (first_of index)) (history_of (seen_by olds)) (history_of more)
    (subst (IsLegalFrom (first_map (first_of index))) (history_append (seen_by olds) more) h.together.may_be.legal) in record {
      rests = record { some = any; together = together_by_first index (seen_by olds ++ more) news any h.together; least = t.rests.least; within = t.rests.within; sizes = t.rests.sizes };
      legal = subst (IsLegalFrom (first_map first)) (sym (history_append seen more)) (legal_append (first_map first) (history_of seen) (history_of more) t.legal (subst (λ (z : Map). IsLegalFrom z (history_of more)) t.map later));
      map = ap (map_after (first_of index)) now ∙ (map_append (first_of index) (seen_by olds) more ∙ (ap (λ (z : Map). final_map z (history_of more)) t.map ∙ sym (map_append first seen more)));
      still = still_more from seen more ground olds news t.still now;
      sizes = t.sizes;
    }
