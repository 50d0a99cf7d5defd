use Rattle.std.proofs.Common.{◌≡◌, ℕ, ◌<◌, List, [], ◌++◌, refl, subst, true, arith}
use Rattle.std.proofs.lemmas.Result.{err_from_is_err_and}
use Rattle.bl_serve_lines.proofs.Known.{consumes_start, appends_start}
use Rattle.bl_model.specs.Rows.{map_of}
use Rattle.bl_outside.specs.Crashes.{FindsOnly}
use Rattle.bl_outside.proofs.Finding.{finds_first}
use Rattle.bl_serve_ground.specs.Origins.{sizes_of}
use Rattle.bl_serve.specs.Origins.{Unopened}
use Rattle.bl_serve.specs.Surviving.{Survives}
use Rattle.bl_serve.proofs.Surviving.{survives_nothing}
use Rattle.bl_serve_ground.proofs.Beginning.{same_rows}
use Rattle.bl_serve.proofs.Owned.{log_seen, rests_first, said_of_rows, served_from, stops_from}
use Rattle.bl_serve.proofs.starting.serve_by_plan.Goals as goal

-- no memory for the index
pub returns-in_err-index-clause-serves : goal.returns-in_err-index-clause-serves
returns-in_err-index-clause-serves g c = let p = err_from_is_err_and c.from_residual.result c.from_residual.ensures.1 in
    rw (p.1, p.2) (record { input = []; ahead = []; output = []; consumed = consumes_start _; wrote = appends_start _; ok = tt; fault = Unopened refl refl refl })

pub serve_with-requires-clause-rests : goal.serve_with-requires-clause-rests
serve_with-requires-clause-rests g c κs within = rests_first c.args.plan.sections c.args.origin c.args.plan.most _ c.in_ok-index.index c.ground_of-ground.result c.in_ok-index.passes.items c.in_ok-index.ensures c.ground_of-ground.ensures c.requires.pages (let a = c.in_ok-index.ensures.many in let d = c.requires.passes.0 in omega (arith, a, d))

pub returns-in-Ok-clause-serves : goal.returns-in-Ok-clause-serves
returns-in-Ok-clause-serves g c =
    let h = rw c.plan_of-threads.ensures at c.serve_with.ensures.serves in
    let s = rw c.in-Ok.is at h.ok in record {
      input = h.input;
      ahead = h.ahead;
      output = h.output;
      consumed = h.consumed;
      wrote = h.wrote;
      ok = (served_from c.args.plan.sections c.args.origin c.args.plan.most _ c.in_ok-index.index c.ground_of-ground.result c.in_ok-index.passes.items c.in_ok-index.ensures c.ground_of-ground.ensures c.in-Ok._ground c.in-Ok._passes.items c.in-Ok.summary.totals h.input h.output s.0, s.1);
      fault = tt;
    }

pub returns-in-Err-clause-serves : goal.returns-in-Err-clause-serves
returns-in-Err-clause-serves g c =
    let h = rw c.plan_of-threads.ensures at c.serve_with.ensures.serves in
    let s = rw c.in-Err.is at h.fault in record {
      input = h.input;
      ahead = h.ahead;
      output = h.output;
      consumed = h.consumed;
      wrote = h.wrote;
      ok = tt;
      fault = stops_from c.args.plan.sections c.args.origin c.args.plan.most _ c.in_ok-index.index c.ground_of-ground.result c.in_ok-index.passes.items c.in_ok-index.ensures c.ground_of-ground.ensures (h.input ++ h.ahead) h.output c.in-Err.fault (c.serve_with.new.reader.failed ≡ true) (g.O.Outside.has_failed c.serve_with.new.outside) s;
    }

-- ---- after a crash

pub serve_with-requires-clause-log : goal.serve_with-requires-clause-log
serve_with-requires-clause-log g c κs within = λ modelled.
    log_seen c.args.plan.sections c.args.origin c.args.plan.most _ c.in_ok-index.index c.ground_of-ground.result c.in_ok-index.passes.items c.in_ok-index.ensures c.ground_of-ground.ensures (g.O.Outside.holds c.args.outside.now) (c.requires.log modelled)

pub returns-in_err-index-clause-any_moment : goal.returns-in_err-index-clause-any_moment
returns-in_err-index-clause-any_moment g c = λ modelled rows are. (
  [],
  consumes_start _,
  finds_first g.O.Outside.moment g.O.Outside.finds c.args.outside.now (Survives c.args.plan.sections (sizes_of c.args.origin c.args.plan.most) (map_of rows) [] (g.O.Outside.printed c.args.outside.now))
      (λ told left found. survives_nothing c.args.plan.sections (sizes_of c.args.origin c.args.plan.most) (map_of rows) (g.O.Outside.printed c.args.outside.now) told left
      (let log = c.requires.log modelled in g.O.Outside.finds_now c.args.outside.now (map_of rows) told left modelled (subst (λ (z : List (ℕ × ℕ)). g.O.Outside.holds c.args.outside.now (map_of z)) (same_rows c.args.origin log.0 rows log.1 are) log.2) found)),
)

pub returns-in-Ok-clause-any_moment : goal.returns-in-Ok-clause-any_moment
returns-in-Ok-clause-any_moment g c = λ modelled rows are.
    let h = rw c.plan_of-threads.ensures at (c.serve_with.ensures.any_moment modelled) in (
      h.0,
      h.1,
      said_of_rows c.args.plan.sections c.args.origin c.args.plan.most _ c.in_ok-index.index c.ground_of-ground.result c.in_ok-index.passes.items c.in_ok-index.ensures c.ground_of-ground.ensures
          (λ pages start. FindsOnly g.O.Outside.moment g.O.Outside.finds c.args.outside.now c.serve_with.new.outside (Survives c.args.plan.sections pages start h.0 (g.O.Outside.printed c.args.outside.now))) rows are h.2,
    )

pub returns-in-Err-clause-any_moment : goal.returns-in-Err-clause-any_moment
returns-in-Err-clause-any_moment g c = λ modelled rows are.
    let h = rw c.plan_of-threads.ensures at (c.serve_with.ensures.any_moment modelled) in (
      h.0,
      h.1,
      said_of_rows c.args.plan.sections c.args.origin c.args.plan.most _ c.in_ok-index.index c.ground_of-ground.result c.in_ok-index.passes.items c.in_ok-index.ensures c.ground_of-ground.ensures
          (λ pages start. FindsOnly g.O.Outside.moment g.O.Outside.finds c.args.outside.now c.serve_with.new.outside (Survives c.args.plan.sections pages start h.0 (g.O.Outside.printed c.args.outside.now))) rows are h.2,
    )
