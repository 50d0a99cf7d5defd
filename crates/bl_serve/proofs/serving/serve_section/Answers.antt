use Rattle.std.proofs.Common.{rules, ◌≡◌, ◌-◌, ◌++◌, ℕ, List, [], length, sym, ap, ◌∙◌, ◌<◌, ◌+◌, ◌≤◌, subst, arith, append_assoc, length-append, true, inl, inr}
use Rattle.std.specs.Prelude.{Option, Ok, Err, min}
use Rattle.std.specs.Io.KnownBytes.{Consumes, IsAtEnd}
use Rattle.std.proofs.lemmas.Bool.{cases_lt}
use Rattle.std.proofs.lemmas.Result.{err_from_is_err_and}
use Rattle.bl_serve_lines.specs.declared.request.Request.{Request}
use Rattle.bl_serve_lines.specs.declared.serving.Sectioning.{Sectioning}
use Rattle.bl_serve_lines.specs.declared.serving.Totals.{Totals}
use Rattle.bl_serve_lines.specs.Served.{after_lines}
use Rattle.bl_serve_lines.proofs.Sections.{behind_none, behind_both}
use Rattle.bl_serve_lines.proofs.Known.{consumes_more}
use Rattle.bl_index.specs.declared.index.Pass.{Pass}
use Rattle.bl_journal.specs.Rows.{Leads}
use Rattle.bl_serve_reading.specs.declared.section_reader.SectionEnd.TheVariants as section_end
use Rattle.bl_serve_ground.specs.declared.ground.Ground.{Ground}
use Rattle.bl_serve.specs.Holding.{ServesSection}
use Rattle.bl_serve_ground.specs.Standing.{map_in, sizes_in}
use Rattle.bl_serve_reading.specs.Reading.{EndsReading}
use Rattle.bl_serve.specs.Serving.{FailsSection}
use Rattle.bl_serve.proofs.Led.{leads_nowhere}
use Rattle.bl_serve.proofs.Continuing.{HasServed, served_nothing, any_failed, ends_section, counts_all, serves_all, fails_answering, goes_on, finished_by, finished_none, rests_here}
use Rattle.bl_serve.proofs.serving.serve_section.Goals as goal
use Rattle.bl_serve.proofs.serving.serve_section.Goals.{then-open, else-open}

pub loop-init : goal.loop-init
loop-init g c = let r = c.read_on.ensures in record {
  asked = [];
  rest = r.rest;
  more = r.more;
  mid = c.args.ahead.now.source ++ r.more;
  consumed = r.consumed;
  served = subst (λ (z : Ground × List Pass × Totals). HasServed c.args.service.now.sections c.args.session.ground c.args.session.passes.items z.0 z.1 c.args.session.totals z.2 (c.args.ahead.now.source ++ r.more) (c.args.ahead.now.source ++ r.more) [] c.emptied-session.result.text.items)
      (λ i. (sym c.emptied-session.ensures.ground i, sym c.emptied-session.ensures.passes i, sym c.emptied-session.ensures.totals i))
      (served_nothing c.args.service.now.sections c.args.session.ground c.args.session.passes.items c.args.session.totals (c.args.ahead.now.source ++ r.more) c.emptied-session.result.text.items c.emptied-session.ensures.text c.requires.rests c.requires.requests);
  sections = r.same ∙ sym (behind_none c.args.service.now.sections);
  reads = subst (λ (n : Sectioning × ℕ). EndsReading n.0 c.read_on.new.ahead.end n.1 c.read_on.new.ahead.lines r.rest (c.args.ahead.now.source ++ r.more) c.read_on.new.ahead.source (IsAtEnd (g.R.Read.remaining c.read_on.new.reader.inner)) (c.read_on.new.reader.failed ≡ true)) (λ i. (sym (behind_none c.args.service.now.sections) i, c.most_behind-ahead.ensures i)) r.reads;
  leads = λ keeps. subst (λ (z : Ground × List Pass). Leads c.emptied-session.result.changes.came.items c.emptied-session.result.changes.went.items (map_in c.args.session.ground c.args.session.passes.items) (map_in z.0 z.1))
      (λ i. (sym c.emptied-session.ensures.ground i, sym c.emptied-session.ensures.passes i))
      (leads_nowhere c.emptied-session.result.changes.came.items c.emptied-session.result.changes.went.items (map_in c.args.session.ground c.args.session.passes.items) c.emptied-session.ensures.came c.emptied-session.ensures.went);
}

-- the section could not be read whole
pub returns-in_err-end-clause-serves : goal.returns-in_err-end-clause-serves
returns-in_err-end-clause-serves g c = let i = c.loop.invariant in let p = err_from_is_err_and c.from_residual.result c.from_residual.ensures.1 in
    let was : c.loop.ahead.end ≡ Err c.in_err-end.field-0.0 = search rules in
    rw (p.1, p.2) (
      i.asked ++ c.loop.ahead.lines,
      i.rest,
      i.more,
      i.consumed,
      (
        c.loop.ahead.source,
        inl (ends_section c.args.service.now.sections c.args.session.ground c.args.session.passes.items c.loop.session.ground c.loop.session.passes.items c.args.session.totals c.loop.session.totals (c.args.ahead.now.source ++ i.more) i.mid i.asked c.loop.session.text.items i.served (Err c.in_err-end.field-0.0) c.loop.chunk c.loop.ahead.lines i.rest c.loop.ahead.source
            (IsAtEnd (g.R.Read.remaining c.loop.reader.inner)) (c.loop.reader.failed ≡ true) (λ is. absurd (let no : ⊥ = cc in no)) (rw was at i.reads)),
      ),
    )

pub serve_chunk-requires-clause-rests : goal.serve_chunk-requires-clause-rests
serve_chunk-requires-clause-rests g c κs within = let i = c.loop.invariant in
    rests_here c.args.service.now.sections c.args.session.ground c.args.session.passes.items c.loop.session.ground c.loop.session.passes.items c.args.session.totals c.loop.session.totals (c.args.ahead.now.source ++ i.more) i.mid i.asked c.loop.session.text.items i.served

-- its next lines could not be answered
pub returns-in_err-back-clause-serves : goal.returns-in_err-back-clause-serves
returns-in_err-back-clause-serves g c = let i = c.loop.invariant in let p = err_from_is_err_and c.from_residual-in_err-back.result c.from_residual-in_err-back.ensures.1 in let m = c.in_err-back.ensures.consumes in
    let was : c.loop.ahead.end ≡ Ok c.in_ok-end.end = search rules in
    let lines : c.loop.ahead.lines ≡ c.swap.new.x = search rules in
    let e : EndsReading (after_lines c.args.service.now.sections (length i.asked)) (Ok c.in_ok-end.end) (min c.loop.chunk (18446744073709551615 - c.loop.session.totals.requests)) c.swap.new.x i.rest i.mid c.loop.ahead.source (IsAtEnd (g.R.Read.remaining c.loop.reader.inner)) (c.loop.reader.failed ≡ true)
    = subst (λ (z : List (Option Request)). EndsReading (after_lines c.args.service.now.sections (length i.asked)) (Ok c.in_ok-end.end) (min c.loop.chunk (18446744073709551615 - c.loop.session.totals.requests)) z i.rest i.mid c.loop.ahead.source (IsAtEnd (g.R.Read.remaining c.loop.reader.inner)) (c.loop.reader.failed ≡ true)) lines (rw was at i.reads) in
    rw (p.1, p.2) (
      i.asked ++ c.swap.new.x,
      i.rest,
      i.more ++ m.0,
      consumes_more _ _ _ _ _ i.consumed m.1,
      (
        c.loop.ahead.source ++ m.0,
        subst (λ (z : List ℕ). FailsSection c.args.service.now.sections c.in_err-back.field-0.0 c.args.session.totals.requests (18446744073709551615 - c.args.session.totals.requests) (i.asked ++ c.swap.new.x) i.rest z (c.loop.ahead.source ++ m.0) (IsAtEnd (g.R.Read.remaining c.serve_chunk.new.reader.inner)) (c.serve_chunk.new.reader.failed ≡ true))
            (append_assoc c.args.ahead.now.source i.more m.0)
            (fails_answering c.args.service.now.sections c.args.session.ground c.args.session.passes.items c.loop.session.ground c.loop.session.passes.items c.args.session.totals c.loop.session.totals (c.args.ahead.now.source ++ i.more) i.mid i.asked c.loop.session.text.items i.served c.in_err-back.field-0.0 c.in_ok-end.end (min c.loop.chunk (18446744073709551615 - c.loop.session.totals.requests)) (18446744073709551615 - c.args.session.totals.requests) c.swap.new.x i.rest c.loop.ahead.source m.0
            (IsAtEnd (g.R.Read.remaining c.loop.reader.inner)) (c.loop.reader.failed ≡ true) (IsAtEnd (g.R.Read.remaining c.serve_chunk.new.reader.inner)) (c.serve_chunk.new.reader.failed ≡ true) e c.in_err-back.ensures.fault),
      ),
    )

-- its last lines were answered
pub returns-then-not-open-clause-serves : goal.returns-then-not-open-clause-serves
returns-then-not-open-clause-serves g c = let i = c.loop.invariant in let r = c.in_ok-back.ensures.reads in
    let was : c.loop.ahead.end ≡ Ok c.in_ok-end.end = search rules in
    let lines : c.loop.ahead.lines ≡ c.swap.new.x = search rules in
    let e : EndsReading (after_lines c.args.service.now.sections (length i.asked)) (Ok c.in_ok-end.end) (min c.loop.chunk (18446744073709551615 - c.loop.session.totals.requests)) c.swap.new.x i.rest i.mid c.loop.ahead.source (IsAtEnd (g.R.Read.remaining c.loop.reader.inner)) (c.loop.reader.failed ≡ true)
    = subst (λ (z : List (Option Request)). EndsReading (after_lines c.args.service.now.sections (length i.asked)) (Ok c.in_ok-end.end) (min c.loop.chunk (18446744073709551615 - c.loop.session.totals.requests)) z i.rest i.mid c.loop.ahead.source (IsAtEnd (g.R.Read.remaining c.loop.reader.inner)) (c.loop.reader.failed ≡ true)) lines (rw was at i.reads) in
    let none : c.if-open.ahead ≡ 0 = elim c.if-open.branch [ then-open w ↦ search rules | else-open w ↦ w.ahead-is ] in
    let last : Ok c.in_ok-end.end ≡ Ok section_end.Finished → length c.swap.new.x < c.loop.chunk = λ is. elim (cases_lt (length c.swap.new.x) c.loop.chunk) [
      | inl low ↦ low
      | inr high ↦ let same = finished_by c.in_ok-end.end is in let enough : c.loop.chunk ≤ c.len.result = search rules in let opened = c.goes_on-open.ensures.1 (same, enough) in absurd (let no : ⊥ = search rules in no)
    ] in
    let idle = r.idle none in
    let grown : c.in_ok-back.back.text.items ≡ c.loop.session.text.items ++ c.in_ok-back.ensures.serves.0 = c.in_ok-back.ensures.serves.1 in
    let all = ends_section c.args.service.now.sections c.args.session.ground c.args.session.passes.items c.loop.session.ground c.loop.session.passes.items c.args.session.totals c.loop.session.totals (c.args.ahead.now.source ++ i.more) i.mid i.asked c.loop.session.text.items i.served (Ok c.in_ok-end.end) c.loop.chunk c.swap.new.x i.rest c.loop.ahead.source
    (IsAtEnd (g.R.Read.remaining c.loop.reader.inner)) (c.loop.reader.failed ≡ true) last e in (
      i.asked ++ c.swap.new.x,
      i.rest,
      i.more,
      subst (λ z. Consumes (g.R.Read.remaining c.args.reader.now.inner) z i.more) (sym idle.0) i.consumed,
      (
        any_failed c.args.service.now.sections c.in_ok-end.end (18446744073709551615 - c.args.session.totals.requests) (i.asked ++ c.swap.new.x) i.rest (c.args.ahead.now.source ++ i.more) c.serve_chunk.new.ahead.source (IsAtEnd (g.R.Read.remaining c.serve_chunk.new.reader.inner)) (c.loop.reader.failed ≡ true) (c.serve_chunk.new.reader.failed ≡ true)
            (subst (λ (z : List ℕ). EndsReading c.args.service.now.sections (Ok c.in_ok-end.end) (18446744073709551615 - c.args.session.totals.requests) (i.asked ++ c.swap.new.x) i.rest (c.args.ahead.now.source ++ i.more) z (IsAtEnd (g.R.Read.remaining c.serve_chunk.new.reader.inner)) (c.loop.reader.failed ≡ true)) (sym idle.1)
            (subst (λ (z : Option (List ℕ)). EndsReading c.args.service.now.sections (Ok c.in_ok-end.end) (18446744073709551615 - c.args.session.totals.requests) (i.asked ++ c.swap.new.x) i.rest (c.args.ahead.now.source ++ i.more) c.loop.ahead.source (IsAtEnd z) (c.loop.reader.failed ≡ true)) (sym idle.0) all)),
        counts_all c.args.service.now.sections c.args.session.ground c.args.session.passes.items c.loop.session.ground c.loop.session.passes.items c.args.session.totals c.loop.session.totals (c.args.ahead.now.source ++ i.more) i.mid i.asked c.loop.session.text.items i.served c.in_ok-back.back.totals c.swap.new.x c.in_ok-end.end c.in_ok-back.ensures.counts,
        subst (λ (z : List ℕ). ServesSection (sizes_in c.args.session.ground) c.args.session.ground c.args.session.totals.requests (i.asked ++ c.swap.new.x) c.in_ok-end.end z c.args.session.passes.items c.in_ok-back.back.ground c.in_ok-back.back.passes.items) (sym grown) (serves_all c.args.service.now.sections c.args.session.ground c.args.session.passes.items c.loop.session.ground c.loop.session.passes.items c.args.session.totals c.loop.session.totals (c.args.ahead.now.source ++ i.more) i.mid i.asked c.loop.session.text.items i.served c.swap.new.x c.in_ok-end.end c.in_ok-back.ensures.serves.0 c.in_ok-back.back.ground c.in_ok-back.back.passes.items c.in_ok-back.ensures.serves.2),
      ),
    )

-- what was noted leads from map to map
pub returns-then-not-open-clause-leads : goal.returns-then-not-open-clause-leads
returns-then-not-open-clause-leads g c keeps = c.in_ok-back.ensures.leads keeps (map_in c.args.session.ground c.args.session.passes.items) (c.loop.invariant.leads keeps)

-- they were answered, and it goes on
pub loop-preserved : goal.loop-preserved
loop-preserved g c = let i = c.loop.invariant in let r = c.in_ok-back.ensures.reads in
    let was : c.loop.ahead.end ≡ Ok c.in_ok-end.end = search rules in
    let lines : c.loop.ahead.lines ≡ c.swap.new.x = search rules in
    let e : EndsReading (after_lines c.args.service.now.sections (length i.asked)) (Ok c.in_ok-end.end) (min c.loop.chunk (18446744073709551615 - c.loop.session.totals.requests)) c.swap.new.x i.rest i.mid c.loop.ahead.source (IsAtEnd (g.R.Read.remaining c.loop.reader.inner)) (c.loop.reader.failed ≡ true)
    = subst (λ (z : List (Option Request)). EndsReading (after_lines c.args.service.now.sections (length i.asked)) (Ok c.in_ok-end.end) (min c.loop.chunk (18446744073709551615 - c.loop.session.totals.requests)) z i.rest i.mid c.loop.ahead.source (IsAtEnd (g.R.Read.remaining c.loop.reader.inner)) (c.loop.reader.failed ≡ true)) lines (rw was at i.reads) in
    let is : c.in_ok-end.end ≡ section_end.Finished = (c.goes_on-open.ensures.0 (search rules)).0 in
    let few : c.if-open.ahead ≡ min c.chunk_behind-chunk.result (18446744073709551615 - c.in_ok-back.back.totals.requests) = elim c.if-open.branch [
      | then-open w ↦ w.ahead-is ∙ (w.most_behind-ahead-then-open.ensures ∙ (let a = c.in_ok-back.ensures.counts.requests in let b = finished_none c.in_ok-end.end is in let long : w.len-then-open.result ≡ length c.swap.new.x = search rules in ap (λ (n : ℕ). min c.chunk_behind-chunk.result (18446744073709551615 - n)) (let same : c.loop.session.totals.requests + w.len-then-open.result ≡ c.in_ok-back.back.totals.requests = omega (arith, a, b, long) in same)))
      | else-open w ↦ search rules
    ] in
    let left : c.behind-ahead.result ≡ after_lines c.args.service.now.sections (length (i.asked ++ c.swap.new.x))
    = (let is : c.behind-ahead.result ≡ after_lines c.loop.ahead.sections (length c.swap.new.x) = search rules in is) ∙ (ap (λ (z : Sectioning). after_lines z (length c.swap.new.x)) i.sections
    ∙ (behind_both c.args.service.now.sections (length i.asked) (length c.swap.new.x) ∙ ap (after_lines c.args.service.now.sections) (sym (length-append i.asked c.swap.new.x)))) in
    let grown : c.in_ok-back.back.text.items ≡ c.loop.session.text.items ++ c.in_ok-back.ensures.serves.0 = c.in_ok-back.ensures.serves.1 in record {
      asked = i.asked ++ c.swap.new.x;
      rest = r.rest;
      more = i.more ++ r.more;
      mid = c.loop.ahead.source ++ r.more;
      consumed = consumes_more _ _ _ _ _ i.consumed r.consumed;
      served = subst (λ (z : List ℕ × List ℕ). HasServed c.args.service.now.sections c.args.session.ground c.args.session.passes.items c.in_ok-back.back.ground c.in_ok-back.back.passes.items c.args.session.totals c.in_ok-back.back.totals z.0 (c.loop.ahead.source ++ r.more) (i.asked ++ c.swap.new.x) z.1)
          (λ j. (append_assoc c.args.ahead.now.source i.more r.more j, sym grown j))
          (goes_on c.args.service.now.sections c.args.session.ground c.args.session.passes.items c.loop.session.ground c.loop.session.passes.items c.args.session.totals c.loop.session.totals (c.args.ahead.now.source ++ i.more) i.mid i.asked c.loop.session.text.items i.served c.in_ok-back.back.totals c.in_ok-end.end (min c.loop.chunk (18446744073709551615 - c.loop.session.totals.requests)) c.swap.new.x i.rest c.loop.ahead.source r.more c.in_ok-back.ensures.serves.0 c.in_ok-back.back.ground c.in_ok-back.back.passes.items (IsAtEnd (g.R.Read.remaining c.loop.reader.inner)) (c.loop.reader.failed ≡ true) is e (omega arith)
          c.in_ok-back.ensures.counts c.in_ok-back.ensures.serves.2);
      sections = r.same ∙ left;
      reads = subst (λ (n : Sectioning × ℕ). EndsReading n.0 c.serve_chunk.new.ahead.end n.1 c.serve_chunk.new.ahead.lines r.rest (c.loop.ahead.source ++ r.more) c.serve_chunk.new.ahead.source (IsAtEnd (g.R.Read.remaining c.serve_chunk.new.reader.inner)) (c.serve_chunk.new.reader.failed ≡ true)) (λ j. (left j, few j)) r.reads;
      leads = λ keeps. c.in_ok-back.ensures.leads keeps (map_in c.args.session.ground c.args.session.passes.items) (i.leads keeps);
    }
