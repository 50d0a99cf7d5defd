use Rattle.std.proofs.Common.{rules, sym, ◌∙◌}
use Rattle.bl_serve_worker.proofs.Noting.{read_notes, then_notes}
use Rattle.bl_serve_worker.proofs.OneByOne.{found_sum, other_sum, last_sum}
use Rattle.bl_serve_worker.proofs.adding.sum_up.Goals as goal

pub loop-init : goal.loop-init
loop-init g c = record {
  same = c.find-found.ensures.same;
  summed = found_sum c.args.handle.now c.find-found.new.self c.args.key c.args.added c.in-Some.value _ c.find-found.ensures.called (sym c.in-Some.is ∙ c.value_in.ensures);
  noted = read_notes c.args.handle.now c.find-found.new.self c.args.aside.now _ _ tt c.find-found.ensures.same c.find-found.ensures.called;
}

pub loop-preserved : goal.loop-preserved
loop-preserved g c = let i = c.loop.invariant in record {
  same = search rules;
  summed = other_sum c.args.handle.now c.loop.handle c.write-reply.new.handle c.args.key c.args.added c.loop.value c.in-Some-value_in.other _ i.same i.summed c.write-reply.ensures.called (sym c.in-Some-value_in.is ∙ c.value_in-in-loop.ensures);
  noted = then_notes c.args.handle.now c.loop.handle c.write-reply.new.handle c.args.aside.now c.loop.aside c.write-reply.new.aside i.noted c.write-reply.ensures.noted;
}

pub returns-in-None-value_in-clause-adds : goal.returns-in-None-value_in-clause-adds
returns-in-None-value_in-clause-adds g c = let i = c.loop.invariant in
    last_sum c.args.handle.now c.loop.handle c.write-reply.new.handle c.args.key c.args.added c.loop.value _ _ i.same i.summed c.write-reply.ensures.called (sym c.in-None-value_in.is ∙ c.value_in-in-loop.ensures) c.sum_told.ensures
