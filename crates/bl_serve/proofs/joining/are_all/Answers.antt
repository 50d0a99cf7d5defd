use Rattle.std.proofs.Common.{ap, ◌∙◌, arith}
use Rattle.bl_serve_worker.specs.declared.chunk.ShareOutput.{ShareOutput}
use Rattle.bl_serve.proofs.Merging.{in_order_more}
use Rattle.bl_serve.proofs.joining.are_all.Goals as goal

pub loop-place-preserved : goal.loop-place-preserved
loop-place-preserved c = let is = c.index-outputs-place.is in
    in_order_more c.args.outputs.now c.loop-place.place c.index-outputs-place.result (let low = c.loop-place-test.true in let many = c.if-outputs-shares.false in omega (arith, low, many)) is (ap (λ (w : ShareOutput). w.share) is ∙ c.if-outputs-place.false) c.loop-place.invariant
