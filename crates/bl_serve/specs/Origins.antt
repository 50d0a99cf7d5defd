-- What a server begins with, and serving from there on.
use Rattle.std.specs.Prelude.{◌≡◌, ◌≤◌, ◌+◌, ◌^◌, ℕ, List, []}
use Rattle.bl_model.specs.Rows.{map_of}
use Rattle.bl_serve_lines.specs.declared.serving.Sectioning.{Sectioning}
use Rattle.bl_serve_lines.specs.declared.serving.Totals.{Totals}
use Rattle.bl_serve_lines.specs.declared.serving.ServeFault.{ServeFault}
use Rattle.bl_serve_lines.specs.declared.serving.ServeFault.TheVariants.{Memory}
use Rattle.bl_serve_lines.specs.Served.{Served, Stops}
use Rattle.bl_serve.specs.declared.session.ServePlan.{ServePlan}
use Rattle.bl_serve_ground.specs.declared.origin.Origin.{Origin}
use Rattle.bl_serve_ground.specs.Origins.{HasRows, sizes_of}

-- it has a worker, and 64 threads at most, and grows to no more pages than an index may have
abbrev pub MayServe : ServePlan → Type 0
MayServe plan = (1 ≤ plan.workers) × (plan.workers + plan.compressors ≤ 64) × (plan.most ≤ 2 ^ 28)

-- The input is served from the map of those rows on, by an index that begins with as many pages, and has so many at least and at most.
pub record ServedFrom (how : Sectioning) (origin : Origin) (most : ℕ) (totals : Totals) (input output : List ℕ) : Type 0 where
  pub rows : List (ℕ × ℕ)
  pub are_rows : HasRows origin rows
  pub served : Served how (sizes_of origin most) (map_of rows) input output totals

-- Serving stopped: there was no memory for the index, and nothing was read or written; or it stopped as it served from the map
-- of those rows on.
pub data StopsFrom (how : Sectioning) (origin : Origin) (most : ℕ) (input output : List ℕ) (fault : ServeFault) (reader_failed writer_failed : Type 0) : Type 0 where
  Unopened : input ≡ [] → output ≡ [] → fault ≡ Memory → StopsFrom how origin most input output fault reader_failed writer_failed
  Stopped : (rows : List (ℕ × ℕ)) → HasRows origin rows → Stops how (sizes_of origin most) (map_of rows) input output fault reader_failed writer_failed
      → StopsFrom how origin most input output fault reader_failed writer_failed
