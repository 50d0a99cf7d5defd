use Rattle.std.proofs.Common.{◌≡◌, take, reverse, refl, ◌∙◌, arith}
use Rattle.std.proofs.lemmas.Grind.{common_steps}
use Rattle.bl_model.proofs.Falling.{lists_down}
use Rattle.bl_proc.proofs.Rising.{rising_keys, taken_back}
use Rattle.bl_proc.proofs.parts.rows_down.Goals as goal

pub loop-i-preserved : goal.loop-i-preserved
loop-i-preserved c = c.push.ensures.items ∙ taken_back c.args.rows.now c.loop-i.part.items c.count_to-count.result c.loop-i.i _ (omega arith) c.count_to-count.ensures.in_range refl c.loop-i.invariant

pub returns : goal.returns
returns c =
    let rest : c.loop-i.part.items ≡ reverse (take c.count_to-count.result c.args.rows.now) = grind (arith, common_steps, c.loop-i.invariant, c.count_to-count.ensures.in_range) in
    lists_down _ (rising_keys 0 _ c.requires.rising) _ _ c.count_to-count.ensures _ rest
