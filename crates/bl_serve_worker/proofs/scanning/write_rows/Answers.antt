use Rattle.std.proofs.Common.{rules, sym, ap, ◌∙◌}
use Rattle.bl_serve_lines.specs.Scans.{less}
use Rattle.bl_serve_worker.proofs.OneByOne.{none_listed, one_listed, all_listed}
use Rattle.bl_serve_worker.proofs.scanning.write_rows.Goals as goal

pub loop-init : goal.loop-init
loop-init g c = record { same = search rules; listed = none_listed c.args.handle.now c.args.scan c.args.text.now.items }

pub loop-preserved : goal.loop-preserved
loop-preserved g c = record {
  same = search rules;
  listed = one_listed c.args.handle.now c.loop.handle c.part-reply.new.handle c.args.scan c.loop.left _ c.in-Some-place.from c.part-reply.result c.args.text.now.items c.loop.text.items c.push_part.new.out.items
      c.loop.invariant.same c.loop.invariant.listed (sym c.place.ensures ∙ c.in-Some-place.is) c.part-reply.ensures.called c.in_ok-met.ensures.pushes
      (λ i. record { from = c.end_of.ensures i; until = c.loop.left.until; tells = (c.behind.ensures ∙ ap (less c.loop.left.tells) c.in_ok-met.ensures.counts) i });
}

pub returns-in_default-clause-writes : goal.returns-in_default-clause-writes
returns-in_default-clause-writes g c = all_listed c.args.handle.now c.loop.handle c.args.scan c.loop.left c.args.text.now.items c.loop.text.items c.loop.invariant.listed (sym c.place.ensures ∙ c.in_default.is)
