use Rattle.std.proofs.Common.{◌≡◌, ◌≢◌, ◌-◌, ◌++◌, [], List, ℕ, refl, ap, ◌∙◌, sym, subst, arith, append-nil, append_assoc, rules, true}
use Rattle.std.specs.Io.KnownBytes.{Consumes, Appends, IsAtEnd}
use Rattle.std.proofs.lemmas.Result.{err_from_is_err_and}
use Rattle.bl_serve_lines.specs.declared.serving.ServeFault.TheVariants.{Memory}
use Rattle.bl_serve_lines.proofs.Known.{consumes_start, consumes_next, consumes_rest, appends_start, appends_more, appends_text}
use Rattle.bl_index.specs.Calls.{first_of, map_after}
use Rattle.bl_outside.specs.Crashes.{FindsOnly}
use Rattle.bl_outside.proofs.Finding.{finds_first}
use Rattle.bl_serve_reading.specs.declared.section_reader.SectionEnd.TheVariants as section_end
use Rattle.bl_serve_ground.specs.Together.{seen_by}
use Rattle.bl_serve_ground.specs.Standing.{index_in, map_in, sizes_in}
use Rattle.bl_serve.specs.Surviving.{Survives}
use Rattle.bl_serve.proofs.Advance.{no_progress, stops_inside}
use Rattle.bl_serve.proofs.Faults.{room, stops_at_section, now_seen, stands_now, stops_at_write, goes_on_behind_end, serves_at_end, serves_no_more}
use Rattle.bl_serve.proofs.Surviving.{survives_first, leads_on, lives_on, lives_reading}
use Rattle.bl_serve_ground.proofs.Rests.{some_between, stands_first}
use Rattle.bl_serve.proofs.Wider.{as_at_start}
use Rattle.bl_serve.proofs.serving.serve_sections.Goals as goal

-- no memory at the start
pub returns-in_err-ahead-clause-serves : goal.returns-in_err-ahead-clause-serves
returns-in_err-ahead-clause-serves g c = let p = err_from_is_err_and c.from_residual.result c.from_residual.ensures.1 in
    rw (p.1, p.2) (record { input = []; ahead = []; output = []; consumed = consumes_start _; wrote = appends_start _; ok = tt; fault = stops_inside c.args.service.now.sections (sizes_in c.args.session.ground) (first_of (index_in c.args.session.ground)) (seen_by c.args.session.passes.items) (seen_by c.args.session.passes.items) _ [] [] [] Memory (c.args.reader.now.failed ≡ true) (g.O.Outside.has_failed c.args.outside.now) (no_progress c.args.service.now.sections (sizes_in c.args.session.ground) (seen_by c.args.session.passes.items) c.args.session.totals c.requires.first) c.requires.rests.together.may_be.legal refl tt })

pub returns-in_err-ahead-clause-any_moment : goal.returns-in_err-ahead-clause-any_moment
returns-in_err-ahead-clause-any_moment g c = λ modelled. ([], consumes_start _, finds_first g.O.Outside.moment g.O.Outside.finds c.args.outside.now (Survives c.args.service.now.sections (sizes_in c.args.session.ground) (map_in c.args.session.ground c.args.session.passes.items) [] (g.O.Outside.printed c.args.outside.now)) (λ told left found. survives_first c.args.service.now.sections (sizes_in c.args.session.ground) (first_of (index_in c.args.session.ground)) (seen_by c.args.session.passes.items) c.args.session.totals (g.O.Outside.printed c.args.outside.now) told left c.requires.first c.requires.rests.together.may_be.legal (g.O.Outside.finds_now c.args.outside.now (map_in c.args.session.ground c.args.session.passes.items) told left modelled (c.requires.log modelled).1 found)))

pub loop-section-init : goal.loop-section-init
loop-section-init g c = record {
  input = [];
  output = [];
  seen = seen_by c.args.session.passes.items;
  consumed = subst (λ t. Consumes (g.R.Read.remaining c.args.reader.now.inner) (g.R.Read.remaining c.args.reader.now.inner) t) (sym c.in_ok-ahead.ensures.0) (consumes_start _);
  wrote = appends_start _;
  progress = no_progress c.args.service.now.sections (sizes_in c.args.session.ground) _ _ c.requires.first;
  stands = stands_first c.args.session.ground c.args.session.passes.items c.requires.rests;
  room = (let a = c.requires.first.0 in omega (arith, a));
  number = omega arith;
  modelled = (λ m. m, λ m. m);
  holds = λ modelled. (c.requires.log modelled).1;
  survives = λ modelled. subst (λ (z : List ℕ). FindsOnly g.O.Outside.moment g.O.Outside.finds c.args.outside.now c.args.outside.now (Survives c.args.service.now.sections (sizes_in c.args.session.ground) (map_in c.args.session.ground c.args.session.passes.items) z (g.O.Outside.printed c.args.outside.now))) (sym c.in_ok-ahead.ensures.0)
      (finds_first g.O.Outside.moment g.O.Outside.finds c.args.outside.now (Survives c.args.service.now.sections (sizes_in c.args.session.ground) (map_in c.args.session.ground c.args.session.passes.items) [] (g.O.Outside.printed c.args.outside.now)) (λ told left found. survives_first c.args.service.now.sections (sizes_in c.args.session.ground) (first_of (index_in c.args.session.ground)) (seen_by c.args.session.passes.items) c.args.session.totals (g.O.Outside.printed c.args.outside.now) told left c.requires.first c.requires.rests.together.may_be.legal (g.O.Outside.finds_now c.args.outside.now (map_in c.args.session.ground c.args.session.passes.items) told left modelled (c.requires.log modelled).1 found)));
  flushed = λ some. absurd (let no : ⊥ = omega (arith, some) in no);
}

-- the section could not be read whole, or not be answered
pub returns-in_err-back-clause-serves : goal.returns-in_err-back-clause-serves
returns-in_err-back-clause-serves g c = let i = c.loop-section.invariant in let e = c.in_err-back.ensures.serves in let p = err_from_is_err_and c.from_residual-in_err-back.result c.from_residual-in_err-back.ensures.1 in
    rw (p.1, p.2) (record {
      input = i.input;
      ahead = c.loop-section.ahead.source ++ e.2;
      output = i.output;
      consumed = consumes_next _ _ _ i.input c.loop-section.ahead.source e.2 _ i.consumed e.3 refl;
      wrote = i.wrote;
      ok = tt;
      fault = stops_at_section c.args.service.now.sections (sizes_in c.args.session.ground) (first_of (index_in c.args.session.ground)) c.in_err-back.field-0.0 (seen_by c.args.session.passes.items) i.seen c.loop-section.session.totals i.input i.output (c.loop-section.ahead.source ++ e.2) e.4.0 e.1 e.0 (18446744073709551615 - c.loop-section.session.totals.requests)
          (IsAtEnd (g.R.Read.remaining c.serve_section.new.reader.inner)) (c.serve_section.new.reader.failed ≡ true) (g.O.Outside.has_failed c.loop-section.outside) (some_between c.args.session.ground (sizes_in c.args.session.ground) i.seen c.loop-section.session.ground c.loop-section.session.passes.items i.stands) i.progress i.stands.legal e.4.1;
    })

pub serve_section-requires-clause-rests : goal.serve_section-requires-clause-rests
serve_section-requires-clause-rests g c κs within = c.loop-section.invariant.stands.rests

-- its output was not written whole
pub returns-in-Err-clause-serves : goal.returns-in-Err-clause-serves
returns-in-Err-clause-serves g c = let i = c.loop-section.invariant in let e = c.in_ok-back.ensures.serves in let ends = e.4.0 in let counts = e.4.1 in let s = as_at_start c.args.session.ground (sizes_in c.args.session.ground) i.seen c.loop-section.session.ground c.loop-section.session.totals.requests e.0 c.in_ok-back.end c.in_ok-back.back.text.items c.loop-section.session.passes.items c.in_ok-back.back.ground c.in_ok-back.back.passes.items i.stands e.4.2 in
    let w = c.in-Err.ensures.err in record {
      input = i.input;
      ahead = c.loop-section.ahead.source ++ e.2;
      output = i.output ++ w.0;
      consumed = consumes_next _ _ _ i.input c.loop-section.ahead.source e.2 _ i.consumed e.3 refl;
      wrote = appends_more _ _ _ _ _ i.wrote w.3;
      ok = tt;
      fault = stops_at_write c.args.service.now.sections c.args.session.ground (sizes_in c.args.session.ground) i.seen c.loop-section.session.totals e.0 c.in_ok-back.end c.in_ok-back.back.text.items c.loop-section.session.ground c.loop-section.session.passes.items c.in_ok-back.back.ground c.in_ok-back.back.passes.items i.stands s (seen_by c.args.session.passes.items) i.input i.output (c.loop-section.ahead.source ++ e.2) c.serve_section.new.ahead.source e.1 w.0 w.1 (18446744073709551615 - c.loop-section.session.totals.requests)
          (IsAtEnd (g.R.Read.remaining c.serve_section.new.reader.inner)) (c.serve_section.new.reader.failed ≡ true) (g.O.Outside.has_failed c.keep_and_print.new.outside) i.progress ends (sym c.as_slice-text.ensures.value ∙ w.2) c.in-Err.ensures.failed;
    }

pub returns-then-ne-clause-serves : goal.returns-then-ne-clause-serves
returns-then-ne-clause-serves g c = let i = c.loop-section.invariant in let e = c.in_ok-back.ensures.serves in let ends = e.4.0 in let counts = e.4.1 in let s = as_at_start c.args.session.ground (sizes_in c.args.session.ground) i.seen c.loop-section.session.ground c.loop-section.session.totals.requests e.0 c.in_ok-back.end c.in_ok-back.back.text.items c.loop-section.session.passes.items c.in_ok-back.back.ground c.in_ok-back.back.passes.items i.stands e.4.2 in
    let other : c.in_ok-back.end ≢ section_end.ByLine = search rules in
    let v = serves_at_end c.args.service.now.sections c.args.session.ground (sizes_in c.args.session.ground) i.seen c.loop-section.session.totals e.0 c.in_ok-back.end c.in_ok-back.back.text.items c.loop-section.session.ground c.loop-section.session.passes.items c.in_ok-back.back.ground c.in_ok-back.back.passes.items i.stands s (seen_by c.args.session.passes.items) c.in_ok-back.back.totals i.input i.output (c.loop-section.ahead.source ++ e.2) c.serve_section.new.ahead.source e.1
    (IsAtEnd (g.R.Read.remaining c.serve_section.new.reader.inner)) (c.serve_section.new.reader.failed ≡ true) other i.progress ends i.room counts in record {
      input = i.input ++ v.consumed;
      ahead = c.serve_section.new.ahead.source;
      output = i.output ++ c.in_ok-back.back.text.items;
      consumed = consumes_rest _ _ _ i.input _ _ v.consumed _ i.consumed e.3 v.read;
      wrote = appends_text _ _ _ _ _ _ i.wrote c.in-Ok.ensures.ok c.as_slice-text.ensures.value;
      ok = (record { now = now_seen c.args.service.now.sections c.args.session.ground (sizes_in c.args.session.ground) i.seen c.loop-section.session.totals e.0 c.in_ok-back.end c.in_ok-back.back.text.items c.loop-section.session.ground c.loop-section.session.passes.items c.in_ok-back.back.ground c.in_ok-back.back.passes.items i.stands s; served = v.served; stands = stands_now c.args.service.now.sections c.args.session.ground (sizes_in c.args.session.ground) i.seen c.loop-section.session.totals e.0 c.in_ok-back.end c.in_ok-back.back.text.items c.loop-section.session.ground c.loop-section.session.passes.items c.in_ok-back.back.ground c.in_ok-back.back.passes.items i.stands s }, v.ends);
      fault = tt;
    }

pub loop-section-preserved : goal.loop-section-preserved
loop-section-preserved g c = let i = c.loop-section.invariant in let e = c.in_ok-back.ensures.serves in let ends = e.4.0 in let counts = e.4.1 in let s = as_at_start c.args.session.ground (sizes_in c.args.session.ground) i.seen c.loop-section.session.ground c.loop-section.session.totals.requests e.0 c.in_ok-back.end c.in_ok-back.back.text.items c.loop-section.session.passes.items c.in_ok-back.back.ground c.in_ok-back.back.passes.items i.stands e.4.2 in
    let is : c.in_ok-back.end ≡ section_end.ByLine = search rules in
    let v = goes_on_behind_end c.args.service.now.sections c.args.session.ground (sizes_in c.args.session.ground) i.seen c.loop-section.session.totals e.0 c.in_ok-back.end c.in_ok-back.back.text.items c.loop-section.session.ground c.loop-section.session.passes.items c.in_ok-back.back.ground c.in_ok-back.back.passes.items i.stands s (seen_by c.args.session.passes.items) c.in_ok-back.back.totals i.input i.output (c.loop-section.ahead.source ++ e.2) c.serve_section.new.ahead.source e.1 (18446744073709551615 - c.loop-section.session.totals.requests)
    (IsAtEnd (g.R.Read.remaining c.serve_section.new.reader.inner)) (c.serve_section.new.reader.failed ≡ true) is i.progress ends counts in record {
      input = i.input ++ v.consumed;
      output = i.output ++ c.in_ok-back.back.text.items;
      seen = now_seen c.args.service.now.sections c.args.session.ground (sizes_in c.args.session.ground) i.seen c.loop-section.session.totals e.0 c.in_ok-back.end c.in_ok-back.back.text.items c.loop-section.session.ground c.loop-section.session.passes.items c.in_ok-back.back.ground c.in_ok-back.back.passes.items i.stands s;
      consumed = consumes_rest _ _ _ i.input _ _ v.consumed _ i.consumed e.3 v.read;
      wrote = appends_text _ _ _ _ _ _ i.wrote c.in-Ok.ensures.ok c.as_slice-text.ensures.value;
      progress = v.progress;
      stands = stands_now c.args.service.now.sections c.args.session.ground (sizes_in c.args.session.ground) i.seen c.loop-section.session.totals e.0 c.in_ok-back.end c.in_ok-back.back.text.items c.loop-section.session.ground c.loop-section.session.passes.items c.in_ok-back.back.ground c.in_ok-back.back.passes.items i.stands s;
      room = (let a = counts.requests in let b = room c.args.service.now.sections c.in_ok-back.end c.loop-section.session.totals e.0 e.1 (c.loop-section.ahead.source ++ e.2) c.serve_section.new.ahead.source (IsAtEnd (g.R.Read.remaining c.serve_section.new.reader.inner)) (c.serve_section.new.reader.failed ≡ true) ends i.room in omega (arith, a, b));
      number = (let a = v.requests in let b = i.number in omega (arith, a, b));
      modelled = (λ m. c.keep_and_print.ensures.modelled.0 (i.modelled.0 m), λ m. i.modelled.1 (c.keep_and_print.ensures.modelled.1 m));
      holds = λ modelled. c.in-Ok.ensures.kept (i.modelled.0 modelled) _ _ (i.holds modelled) (leads_on c.args.service.now.sections c.args.session.ground (sizes_in c.args.session.ground) i.seen c.loop-section.session.totals e.0 c.in_ok-back.end c.in_ok-back.back.text.items c.loop-section.session.ground c.loop-section.session.passes.items c.in_ok-back.back.ground c.in_ok-back.back.passes.items i.stands s c.in_ok-back.back.changes.came.items c.in_ok-back.back.changes.went.items (c.in_ok-back.ensures.leads (c.requires.log modelled).0));
      survives = λ modelled. subst (λ (z : List ℕ). FindsOnly g.O.Outside.moment g.O.Outside.finds c.args.outside.now c.keep_and_print.new.outside (Survives c.args.service.now.sections (sizes_in c.args.session.ground) (map_in c.args.session.ground c.args.session.passes.items) z (g.O.Outside.printed c.args.outside.now))) (ap (λ (z : List ℕ). i.input ++ z) v.read ∙ sym (append_assoc i.input v.consumed c.serve_section.new.ahead.source))
          (lives_on c.args.service.now.sections c.args.session.ground (sizes_in c.args.session.ground) i.seen c.loop-section.session.totals e.0 c.in_ok-back.end c.in_ok-back.back.text.items c.loop-section.session.ground c.loop-section.session.passes.items c.in_ok-back.back.ground c.in_ok-back.back.passes.items i.stands s g.O.Outside.moment g.O.Outside.finds c.args.outside.now c.loop-section.outside c.keep_and_print.new.outside (seen_by c.args.session.passes.items) i.input i.output c.loop-section.ahead.source e.2 c.serve_section.new.ahead.source e.1 c.as_slice-text.result.now (18446744073709551615 - c.loop-section.session.totals.requests) (IsAtEnd (g.R.Read.remaining c.serve_section.new.reader.inner)) (c.serve_section.new.reader.failed ≡ true) i.progress e.4.0 (g.O.Outside.printed c.args.outside.now) (g.O.Outside.printed c.loop-section.outside) i.wrote c.as_slice-text.ensures.value (i.survives modelled)
          (c.keep_and_print.ensures.any_moment (i.modelled.0 modelled) _ _ (i.holds modelled) (leads_on c.args.service.now.sections c.args.session.ground (sizes_in c.args.session.ground) i.seen c.loop-section.session.totals e.0 c.in_ok-back.end c.in_ok-back.back.text.items c.loop-section.session.ground c.loop-section.session.passes.items c.in_ok-back.back.ground c.in_ok-back.back.passes.items i.stands s c.in_ok-back.back.changes.came.items c.in_ok-back.back.changes.went.items (c.in_ok-back.ensures.leads (c.requires.log modelled).0))));
      flushed = λ some. c.in-Ok.ensures.flushed;
    }

-- as many sections as there are numbers
pub returns-clause-serves : goal.returns-clause-serves
returns-clause-serves g c = let i = c.loop-section.invariant in
    let v = serves_no_more c.args.service.now.sections (sizes_in c.args.session.ground) (first_of (index_in c.args.session.ground)) (seen_by c.args.session.passes.items) i.seen c.loop-section.session.totals i.input i.output c.loop-section.ahead.source (IsAtEnd (g.R.Read.remaining c.loop-section.reader.inner)) i.progress i.stands.legal (let a = i.number in let b = c.loop-section-test.false in omega (arith, a, b)) in record {
      input = i.input ++ v.consumed;
      ahead = c.loop-section.ahead.source;
      output = i.output ++ [];
      consumed = subst (λ (t : List ℕ). Consumes (g.R.Read.remaining c.args.reader.now.inner) (g.R.Read.remaining c.loop-section.reader.inner) t) (ap (λ (t : List ℕ). i.input ++ t) v.read ∙ sym (append_assoc i.input v.consumed c.loop-section.ahead.source)) i.consumed;
      wrote = subst (λ (t : List ℕ). Appends (g.O.Outside.printed c.args.outside.now) (g.O.Outside.printed c.loop-section.outside) t) (sym (append-nil i.output)) i.wrote;
      ok = (record { now = i.seen; served = v.served; stands = i.stands }, v.ends);
      fault = tt;
    }

pub returns-clause-flushed : goal.returns-clause-flushed
returns-clause-flushed g c = let i = c.loop-section.invariant in i.flushed (let b = c.loop-section-test.false in omega (arith, b))

-- ---- after a crash

pub keep_and_print-requires : goal.keep_and_print-requires
keep_and_print-requires g c = record { log = λ modelled. let i = c.loop-section.invariant in (map_after (first_of (index_in c.args.session.ground)) i.seen, i.holds (i.modelled.1 modelled)) }

pub returns-in_err-back-clause-any_moment : goal.returns-in_err-back-clause-any_moment
returns-in_err-back-clause-any_moment g c = λ modelled. let i = c.loop-section.invariant in let e = c.in_err-back.ensures.serves in (
  i.input ++ (c.loop-section.ahead.source ++ e.2),
  consumes_next _ _ _ i.input c.loop-section.ahead.source e.2 _ i.consumed e.3 refl,
  lives_reading g.O.Outside.moment g.O.Outside.finds c.args.outside.now c.loop-section.outside c.args.service.now.sections (sizes_in c.args.session.ground) (map_in c.args.session.ground c.args.session.passes.items) i.input c.loop-section.ahead.source e.2 (g.O.Outside.printed c.args.outside.now) (i.survives modelled),
)

pub returns-in-Err-clause-any_moment : goal.returns-in-Err-clause-any_moment
returns-in-Err-clause-any_moment g c = λ modelled. let i = c.loop-section.invariant in let e = c.in_ok-back.ensures.serves in let s = as_at_start c.args.session.ground (sizes_in c.args.session.ground) i.seen c.loop-section.session.ground c.loop-section.session.totals.requests e.0 c.in_ok-back.end c.in_ok-back.back.text.items c.loop-section.session.passes.items c.in_ok-back.back.ground c.in_ok-back.back.passes.items i.stands e.4.2 in (
  i.input ++ (c.loop-section.ahead.source ++ e.2),
  consumes_next _ _ _ i.input c.loop-section.ahead.source e.2 _ i.consumed e.3 refl,
  lives_on c.args.service.now.sections c.args.session.ground (sizes_in c.args.session.ground) i.seen c.loop-section.session.totals e.0 c.in_ok-back.end c.in_ok-back.back.text.items c.loop-section.session.ground c.loop-section.session.passes.items c.in_ok-back.back.ground c.in_ok-back.back.passes.items i.stands s g.O.Outside.moment g.O.Outside.finds c.args.outside.now c.loop-section.outside c.keep_and_print.new.outside (seen_by c.args.session.passes.items) i.input i.output c.loop-section.ahead.source e.2 c.serve_section.new.ahead.source e.1 c.as_slice-text.result.now (18446744073709551615 - c.loop-section.session.totals.requests) (IsAtEnd (g.R.Read.remaining c.serve_section.new.reader.inner)) (c.serve_section.new.reader.failed ≡ true) i.progress e.4.0 (g.O.Outside.printed c.args.outside.now) (g.O.Outside.printed c.loop-section.outside) i.wrote c.as_slice-text.ensures.value (i.survives modelled)
      (c.keep_and_print.ensures.any_moment (i.modelled.0 modelled) _ _ (i.holds modelled) (leads_on c.args.service.now.sections c.args.session.ground (sizes_in c.args.session.ground) i.seen c.loop-section.session.totals e.0 c.in_ok-back.end c.in_ok-back.back.text.items c.loop-section.session.ground c.loop-section.session.passes.items c.in_ok-back.back.ground c.in_ok-back.back.passes.items i.stands s c.in_ok-back.back.changes.came.items c.in_ok-back.back.changes.went.items (c.in_ok-back.ensures.leads (c.requires.log modelled).0))),
)

pub returns-then-ne-clause-any_moment : goal.returns-then-ne-clause-any_moment
returns-then-ne-clause-any_moment g c = λ modelled. let i = c.loop-section.invariant in let e = c.in_ok-back.ensures.serves in let s = as_at_start c.args.session.ground (sizes_in c.args.session.ground) i.seen c.loop-section.session.ground c.loop-section.session.totals.requests e.0 c.in_ok-back.end c.in_ok-back.back.text.items c.loop-section.session.passes.items c.in_ok-back.back.ground c.in_ok-back.back.passes.items i.stands e.4.2 in (
  i.input ++ (c.loop-section.ahead.source ++ e.2),
  consumes_next _ _ _ i.input c.loop-section.ahead.source e.2 _ i.consumed e.3 refl,
  lives_on c.args.service.now.sections c.args.session.ground (sizes_in c.args.session.ground) i.seen c.loop-section.session.totals e.0 c.in_ok-back.end c.in_ok-back.back.text.items c.loop-section.session.ground c.loop-section.session.passes.items c.in_ok-back.back.ground c.in_ok-back.back.passes.items i.stands s g.O.Outside.moment g.O.Outside.finds c.args.outside.now c.loop-section.outside c.keep_and_print.new.outside (seen_by c.args.session.passes.items) i.input i.output c.loop-section.ahead.source e.2 c.serve_section.new.ahead.source e.1 c.as_slice-text.result.now (18446744073709551615 - c.loop-section.session.totals.requests) (IsAtEnd (g.R.Read.remaining c.serve_section.new.reader.inner)) (c.serve_section.new.reader.failed ≡ true) i.progress e.4.0 (g.O.Outside.printed c.args.outside.now) (g.O.Outside.printed c.loop-section.outside) i.wrote c.as_slice-text.ensures.value (i.survives modelled)
      (c.keep_and_print.ensures.any_moment (i.modelled.0 modelled) _ _ (i.holds modelled) (leads_on c.args.service.now.sections c.args.session.ground (sizes_in c.args.session.ground) i.seen c.loop-section.session.totals e.0 c.in_ok-back.end c.in_ok-back.back.text.items c.loop-section.session.ground c.loop-section.session.passes.items c.in_ok-back.back.ground c.in_ok-back.back.passes.items i.stands s c.in_ok-back.back.changes.came.items c.in_ok-back.back.changes.went.items (c.in_ok-back.ensures.leads (c.requires.log modelled).0))),
)

pub returns-clause-any_moment : goal.returns-clause-any_moment
returns-clause-any_moment g c = λ modelled. let i = c.loop-section.invariant in (i.input ++ c.loop-section.ahead.source, i.consumed, i.survives modelled)
