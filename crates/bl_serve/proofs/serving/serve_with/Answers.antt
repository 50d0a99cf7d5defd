use Rattle.std.proofs.Common.{◌≡◌, ◌++◌, ℕ, List, [], refl, sym, subst, true}
use Rattle.std.proofs.lemmas.Result.{err_from_is_err_and}
use Rattle.bl_serve_lines.specs.declared.serving.ServeFault.TheVariants.{Memory}
use Rattle.bl_serve_lines.specs.declared.serving.Totals.{Totals}
use Rattle.bl_serve_lines.specs.Served.{Stops}
use Rattle.bl_serve_lines.proofs.Known.{consumes_start, appends_start}
use Rattle.bl_index.specs.declared.index.Pass.{Pass}
use Rattle.bl_index.specs.Calls.{first_of}
use Rattle.bl_outside.specs.Crashes.{FindsOnly}
use Rattle.bl_outside.proofs.Finding.{finds_first}
use Rattle.bl_serve_ground.specs.declared.ground.Ground.{Ground}
use Rattle.bl_serve.specs.Holding.{ServesOn}
use Rattle.bl_serve_ground.specs.Together.{seen_by}
use Rattle.bl_serve_ground.specs.Standing.{IsAtRest, index_in, map_in, sizes_in}
use Rattle.bl_serve.specs.Surviving.{Survives}
use Rattle.bl_serve.proofs.Surviving.{survives_first}
use Rattle.bl_serve.proofs.Advance.{no_progress, stops_inside}
use Rattle.bl_serve.proofs.serving.serve_with.Goals as goal

-- no memory at the start
pub returns-in_err-hints-clause-serves : goal.returns-in_err-hints-clause-serves
returns-in_err-hints-clause-serves g c = let p = err_from_is_err_and c.from_residual.result c.from_residual.ensures.1 in
    rw (p.1, p.2) (record { input = []; ahead = []; output = []; consumed = consumes_start _; wrote = appends_start _; ok = tt; fault = stops_inside c.args.plan.sections (sizes_in c.args.ground) (first_of (index_in c.args.ground)) (seen_by c.args.passes.items) (seen_by c.args.passes.items) _ [] [] [] Memory (c.args.reader.now.failed ≡ true) (g.O.Outside.has_failed c.args.outside.now) (no_progress c.args.plan.sections (sizes_in c.args.ground) (seen_by c.args.passes.items) (record { requests = 0; malformed = 0; sections = 0 }) (refl, refl, refl)) c.requires.rests.together.may_be.legal refl tt })

pub returns-in_err-fresh-clause-serves : goal.returns-in_err-fresh-clause-serves
returns-in_err-fresh-clause-serves g c = let p = err_from_is_err_and c.from_residual-in_err-fresh.result c.from_residual-in_err-fresh.ensures.1 in
    rw (p.1, p.2) (record { input = []; ahead = []; output = []; consumed = consumes_start _; wrote = appends_start _; ok = tt; fault = stops_inside c.args.plan.sections (sizes_in c.args.ground) (first_of (index_in c.args.ground)) (seen_by c.args.passes.items) (seen_by c.args.passes.items) _ [] [] [] Memory (c.args.reader.now.failed ≡ true) (g.O.Outside.has_failed c.args.outside.now) (no_progress c.args.plan.sections (sizes_in c.args.ground) (seen_by c.args.passes.items) (record { requests = 0; malformed = 0; sections = 0 }) (refl, refl, refl)) c.requires.rests.together.may_be.legal refl tt })

pub serve_sections-requires-clause-rests : goal.serve_sections-requires-clause-rests
serve_sections-requires-clause-rests g c κs within = subst (λ (z : Ground × List Pass). IsAtRest z.0 z.1) (λ i. (sym c.in_ok-fresh.ensures.ground i, sym c.in_ok-fresh.ensures.passes i)) c.requires.rests

pub returns-in_err-session-clause-serves : goal.returns-in_err-session-clause-serves
returns-in_err-session-clause-serves g c = let p = err_from_is_err_and c.from_residual-in_err-session.result c.from_residual-in_err-session.ensures.1 in
    let h = c.in_err-session.ensures.serves in
    rw (p.1, p.2) (record {
      input = h.input;
      ahead = h.ahead;
      output = h.output;
      consumed = h.consumed;
      wrote = h.wrote;
      ok = tt;
      fault = subst (λ (z : Ground × List Pass). Stops c.args.plan.sections (sizes_in z.0) (map_in z.0 z.1) (h.input ++ h.ahead) h.output c.in_err-session.field-0.0 (c.serve_sections.new.reader.failed ≡ true) (g.O.Outside.has_failed c.serve_sections.new.outside))
          (λ i. (c.in_ok-fresh.ensures.ground i, c.in_ok-fresh.ensures.passes i)) h.fault;
    })

pub returns-clause-serves : goal.returns-clause-serves
returns-clause-serves g c =
    let h = c.in_ok-session.ensures.serves in record {
      input = h.input;
      ahead = h.ahead;
      output = h.output;
      consumed = h.consumed;
      wrote = h.wrote;
      ok = (
        subst (λ (z : Ground × List Pass × Totals). ServesOn c.args.plan.sections z.0 z.1 c.in_ok-session.session.ground c.in_ok-session.session.passes.items z.2 h.input h.output)
            (λ i. (c.in_ok-fresh.ensures.ground i, c.in_ok-fresh.ensures.passes i, sym c.summed_up-summary.ensures i)) h.ok.0,
        h.ok.1,
      );
      fault = tt;
    }

-- ---- after a crash

pub returns-in_err-hints-clause-any_moment : goal.returns-in_err-hints-clause-any_moment
returns-in_err-hints-clause-any_moment g c = λ modelled. (
  [],
  consumes_start _,
  finds_first g.O.Outside.moment g.O.Outside.finds c.args.outside.now (Survives c.args.plan.sections (sizes_in c.args.ground) (map_in c.args.ground c.args.passes.items) [] (g.O.Outside.printed c.args.outside.now))
      (λ told left found. survives_first c.args.plan.sections (sizes_in c.args.ground) (first_of (index_in c.args.ground)) (seen_by c.args.passes.items) (record { requests = 0; malformed = 0; sections = 0 }) (g.O.Outside.printed c.args.outside.now) told left (refl, refl, refl) c.requires.rests.together.may_be.legal
      (g.O.Outside.finds_now c.args.outside.now (map_in c.args.ground c.args.passes.items) told left modelled (c.requires.log modelled) found)),
)

pub returns-in_err-fresh-clause-any_moment : goal.returns-in_err-fresh-clause-any_moment
returns-in_err-fresh-clause-any_moment g c = λ modelled. (
  [],
  consumes_start _,
  finds_first g.O.Outside.moment g.O.Outside.finds c.args.outside.now (Survives c.args.plan.sections (sizes_in c.args.ground) (map_in c.args.ground c.args.passes.items) [] (g.O.Outside.printed c.args.outside.now))
      (λ told left found. survives_first c.args.plan.sections (sizes_in c.args.ground) (first_of (index_in c.args.ground)) (seen_by c.args.passes.items) (record { requests = 0; malformed = 0; sections = 0 }) (g.O.Outside.printed c.args.outside.now) told left (refl, refl, refl) c.requires.rests.together.may_be.legal
      (g.O.Outside.finds_now c.args.outside.now (map_in c.args.ground c.args.passes.items) told left modelled (c.requires.log modelled) found)),
)

pub serve_sections-requires-clause-log : goal.serve_sections-requires-clause-log
serve_sections-requires-clause-log g c κs within = λ modelled.
    (c.keeps.ensures modelled, subst (λ (z : Ground × List Pass). g.O.Outside.holds c.args.outside.now (map_in z.0 z.1)) (λ i. (sym c.in_ok-fresh.ensures.ground i, sym c.in_ok-fresh.ensures.passes i)) (c.requires.log modelled))

pub returns-in_err-session-clause-any_moment : goal.returns-in_err-session-clause-any_moment
returns-in_err-session-clause-any_moment g c = λ modelled.
    let h = c.serve_sections.ensures.any_moment modelled in (
      h.0,
      h.1,
      subst (λ (z : Ground × List Pass). FindsOnly g.O.Outside.moment g.O.Outside.finds c.args.outside.now c.serve_sections.new.outside (Survives c.args.plan.sections (sizes_in z.0) (map_in z.0 z.1) h.0 (g.O.Outside.printed c.args.outside.now)))
          (λ i. (c.in_ok-fresh.ensures.ground i, c.in_ok-fresh.ensures.passes i)) h.2,
    )

pub returns-clause-any_moment : goal.returns-clause-any_moment
returns-clause-any_moment g c = λ modelled.
    let h = c.serve_sections.ensures.any_moment modelled in (
      h.0,
      h.1,
      subst (λ (z : Ground × List Pass). FindsOnly g.O.Outside.moment g.O.Outside.finds c.args.outside.now c.serve_sections.new.outside (Survives c.args.plan.sections (sizes_in z.0) (map_in z.0 z.1) h.0 (g.O.Outside.printed c.args.outside.now)))
          (λ i. (c.in_ok-fresh.ensures.ground i, c.in_ok-fresh.ensures.passes i)) h.2,
    )
