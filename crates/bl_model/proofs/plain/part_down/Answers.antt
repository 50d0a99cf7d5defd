use Rattle.std.proofs.Common.{◌≡◌, length, reverse, ap, ◌∙◌, arith}
use Rattle.std.proofs.lemmas.Grind.{common_steps}
use Rattle.std.proofs.lemmas.List.{get_or-reverse, length-reverse, length-take-le}
use Rattle.bl_model.proofs.plain.part_down.Goals as goal

pub loop-i-preserved : goal.loop-i-preserved
loop-i-preserved c =
    let long : length (reverse c.args.rows.now) ≡ length c.args.rows.now = length-reverse c.args.rows.now in
    let read : length c.loop-i.part.items ≡ c.loop-i.i = ap length c.loop-i.invariant.taken ∙ length-take-le c.loop-i.i (reverse c.args.rows.now) (omega (arith, long, c.loop-i-test.true)) in
    record {
      taken = grind (arith, common_steps, c.push.ensures.items, c.loop-i.invariant.taken, get_or-reverse);
      few = grind (arith, read, c.if-is_full.false, c.is_full.ensures.value, c.loop-i.part, c.is_full.type_inv, c.loop-i.invariant.few);
    }
