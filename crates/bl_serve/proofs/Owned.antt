-- What a server serves on an index of its own is served from the rows that it began with, and its image is that of what was served.
use Rattle.std.proofs.Common.{◌≡◌, ℕ, ◌<◌, ◌≤◌, List, [], ◌++◌, length, refl, sym, ap, ◌∙◌, subst, arith}
use Rattle.std.specs.Prelude.{max, Result, IfOk}
use Rattle.std.specs.declared.alloc.AllocError.{AllocError}
use Rattle.bl_index.proofs.Firsts.{if_ok}
use Rattle.bl_model.specs.declared.operation.Entry.{Entry}
use Rattle.bl_model.specs.Map.{Map, SameMap}
use Rattle.bl_model.specs.Rows.{map_of}
use Rattle.bl_model.specs.History.{final_map}
use Rattle.bl_check.specs.declared.quiet.Quiet.{Quiet}
use Rattle.bl_serve_lines.specs.declared.serving.Sectioning.{Sectioning}
use Rattle.bl_serve_lines.specs.declared.serving.ServeFault.{ServeFault}
use Rattle.bl_serve_lines.specs.declared.serving.Totals.{Totals}
use Rattle.bl_serve_lines.specs.Served.{Served, Stops, whole_history}
use Rattle.bl_claims.specs.Trails.{Trail, history_of}
use Rattle.bl_claims.specs.Seeing.{first_map}
use Rattle.bl_index.specs.declared.index.Index.{Index}
use Rattle.bl_index.specs.declared.index.Pass.{Pass}
use Rattle.bl_index.specs.Calls.{first_of, pages_of, map_after}
use Rattle.bl_serve_ground.specs.declared.ground.Ground.{Ground}
use Rattle.bl_serve_ground.specs.declared.ground.Ground.TheVariants.{Own}
use Rattle.bl_serve_ground.specs.declared.origin.Origin.{Origin}
use Rattle.bl_serve_ground.specs.Begun.{IsBegunFrom, IsOwn}
use Rattle.bl_serve_ground.specs.Leaving.{HoldMapAfter}
use Rattle.bl_serve.specs.Dumps.{DumpedFrom}
use Rattle.bl_serve_ground.specs.Growing.{IsDoubled}
use Rattle.bl_serve.specs.Holding.{ServesOn}
use Rattle.bl_serve_ground.specs.Origins.{HasPages, HasRows, size_of, sizes_of}
use Rattle.bl_serve.specs.Origins.{ServedFrom, StopsFrom, Stopped}
use Rattle.bl_serve_ground.specs.Together.{seen_by}
use Rattle.bl_serve_ground.specs.Standing.{IsAtRest, index_in, map_in, sizes_in}
use Rattle.bl_serve_ground.proofs.Beginning.{same_rows, some_pages}
use Rattle.bl_serve_ground.proofs.Doubling.{not_at_all}
use Rattle.bl_serve_ground.proofs.Rests.{some_at_least, some_at_most}
use Rattle.bl_serve.proofs.Standing.{map_append}

-- an image with the map after the history, where there was memory for one
abbrev pub Leaves : Map → List Entry → ℕ × ℕ → Result Quiet AllocError → Type 0
Leaves map history sizes closed = IfOk closed (λ quiet. HoldMapAfter map history sizes quiet.image.pages.items)

module _ (how : Sectioning) (origin : Origin) (most among : ℕ) (index : Index) (ground : Ground) (olds : List Pass) (b : IsBegunFrom origin among index olds) (own : IsOwn index most ground) where
  -- it has as many pages, and may have as many
  own_sizes : sizes_in ground ≡ sizes_of origin most
  own_sizes = ap sizes_in own.own ∙ (λ i. ((own.least ∙ b.pages) i, (own.bound ∙ ap (λ (n : ℕ). max n most) b.pages) i))

  -- the map after what its passes have seen is that of the rows
  own_map : map_in ground olds ≡ map_of b.rows
  own_map = ap (λ (z : Ground). map_in z olds) own.own ∙ (ap (map_after (first_of index)) b.unseen ∙ b.map)

  pub rests_first : HasPages origin → 0 < length olds → IsAtRest ground olds
  rests_first has some = subst (λ (z : Ground). IsAtRest z olds) (sym own.own) (record {
    some = some;
    together = b.together;
    least = (let a = own.least in let d = b.pages in let e = some_pages origin has in omega (arith, a, d, e));
    within = (let least = own.least in let bound = own.bound in omega (arith, least, bound));
    sizes = subst (λ (n : ℕ). IsDoubled n own.limits.most (pages_of index)) (sym own.least) (not_at_all (pages_of index) own.limits.most);
  })

  pub served_from : (new : Ground) (news : List Pass) (totals : Totals) (input output : List ℕ) → ServesOn how ground olds new news totals input output → ServedFrom how origin most totals input output
  served_from new news totals input output s = record { rows = b.rows; are_rows = b.are_rows; served = subst (λ (z : (ℕ × ℕ) × Map). Served how z.0 z.1 input output totals) (λ i. (own_sizes i, own_map i)) s.served.served }

  pub stops_from : (input output : List ℕ) (fault : ServeFault) (reader_failed writer_failed : Type 0) → Stops how (sizes_in ground) (map_in ground olds) input output fault reader_failed writer_failed → StopsFrom how origin most input output fault reader_failed writer_failed
  stops_from input output fault reader_failed writer_failed s = Stopped b.rows b.are_rows (subst (λ (z : (ℕ × ℕ) × Map). Stops how z.0 z.1 input output fault reader_failed writer_failed) (λ i. (own_sizes i, own_map i)) s)

  -- the outside has the log of their map
  pub log_seen : (holds : Map → Type 0) → (rows : List (ℕ × ℕ)) × HasRows origin rows × holds (map_of rows) → holds (map_in ground olds)
  log_seen holds (rows, are, held) = subst holds (ap map_of (same_rows origin rows b.rows are b.are_rows) ∙ sym own_map) held

  -- what is said of that map is said of the one of the rows
  pub said_of_rows : (P : ℕ × ℕ → Map → Type 0) (rows : List (ℕ × ℕ)) → HasRows origin rows → P (sizes_in ground) (map_in ground olds) → P (sizes_of origin most) (map_of rows)
  said_of_rows P rows are h = subst (λ (z : (ℕ × ℕ) × Map). P z.0 z.1) (λ i. (own_sizes i, (own_map ∙ ap map_of (same_rows origin b.rows rows b.are_rows are)) i)) h

  -- it was closed behind that
  pub served_image : (new : Ground) (news : List Pass) (totals : Totals) (closed : Result Quiet AllocError) (input output : List ℕ)
      → ServesOn how ground olds new news totals input output → Leaves (first_map (first_of (index_in new))) (history_of (seen_by news)) (pages_of (index_in new), pages_of (index_in new)) closed → DumpedFrom how origin most totals closed input output
  served_image new news totals closed input output s left =
      let t = s.served in
      let now_sizes : sizes_in new ≡ sizes_of origin most = s.stands.sizes ∙ own_sizes in
      let is = subst (λ (z : (ℕ × ℕ) × Map). (served : Served how z.0 z.1 input output totals) × (history_of t.more ≡ whole_history served)) (λ i. (own_sizes i, own_map i)) (t.served, t.history) in
      let ends : map_in new news ≡ final_map (map_of b.rows) (whole_history is.0) = s.stands.map
      ∙ (ap (map_after (first_of (index_in ground))) t.begins ∙ (map_append (first_of (index_in ground)) (seen_by olds) t.more ∙ (λ i. final_map (own_map i) (is.1 i)))) in
      let held : (quiet : Quiet) → HoldMapAfter (first_map (first_of (index_in new))) (history_of (seen_by news)) (pages_of (index_in new), pages_of (index_in new)) quiet.image.pages.items → HoldMapAfter (map_of b.rows) (whole_history is.0) (sizes_of origin most) quiet.image.pages.items = λ quiet h. record {
        least = (let a = h.least in let d = subst (λ (z : ℕ × ℕ). z.0 ≤ pages_of (index_in new)) now_sizes (some_at_least new news s.stands.rests) in omega (arith, a, d));
        most = (let a = h.most in let d = subst (λ (z : ℕ × ℕ). pages_of (index_in new) ≤ z.1) now_sizes (some_at_most new news s.stands.rests) in omega (arith, a, d));
        rows = h.rows;
        are_rows = h.are_rows;
        same = subst (λ (z : Map). SameMap z (map_of h.rows)) ends h.same;
      } in
      let sized : (quiet : Quiet) → HoldMapAfter (first_map (first_of (index_in new))) (history_of (seen_by news)) (pages_of (index_in new), pages_of (index_in new)) quiet.image.pages.items → IsDoubled (size_of origin) (sizes_of origin most).1 (length quiet.image.pages.items) = λ quiet h.
      let same : pages_of (index_in new) ≡ length quiet.image.pages.items = (let a = h.least in let d = h.most in omega (arith, a, d)) in
      subst (λ (z : (ℕ × ℕ) × ℕ). IsDoubled z.0.0 z.0.1 z.1) (λ i. (now_sizes i, same i)) s.stands.rests.sizes in record {
        from = record { rows = b.rows; are_rows = b.are_rows; served = is.0 };
        sizes = if_ok (λ (quiet : Quiet). HoldMapAfter (first_map (first_of (index_in new))) (history_of (seen_by news)) (pages_of (index_in new), pages_of (index_in new)) quiet.image.pages.items) _ closed sized left;
        holds = if_ok _ _ closed held left;
      }
