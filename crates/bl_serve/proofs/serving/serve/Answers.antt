use Rattle.std.proofs.Common.{arith}
use Rattle.bl_serve_lines.specs.declared.serving.Sectioning.TheVariants.{BySync}
use Rattle.bl_serve_ground.proofs.Doubling.{not_at_all}
use Rattle.bl_serve.proofs.Lent.{serves_lent}
use Rattle.bl_serve.proofs.serving.serve.Goals as goal

pub serve_with-requires-clause-rests : goal.serve_with-requires-clause-rests
serve_with-requires-clause-rests g c κs within = record { some = (let a = c.requires.workers.0 in let b = c.requires.workers.1 in let d = c.args.passes.ok in omega (arith, a, b, d)); together = c.requires.together; least = tt; within = omega arith; sizes = not_at_all _ _ }

pub returns-in-Ok-clause-serves : goal.returns-in-Ok-clause-serves
returns-in-Ok-clause-serves g c = let h = c.serve_with.ensures.serves in let s = rw c.in-Ok.is at h.ok in record {
  input = h.input;
  ahead = h.ahead;
  output = h.output;
  consumed = h.consumed;
  wrote = h.wrote;
  ok = (serves_lent BySync _ c.args.passes.items _ _ _ h.input h.output tt s.0, s.1);
  fault = tt;
}

pub returns-in-Err-clause-serves : goal.returns-in-Err-clause-serves
returns-in-Err-clause-serves g c = let h = c.serve_with.ensures.serves in
    record { input = h.input; ahead = h.ahead; output = h.output; consumed = h.consumed; wrote = h.wrote; ok = tt; fault = rw c.in-Err.is at h.fault }
