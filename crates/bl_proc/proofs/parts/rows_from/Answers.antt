use Rattle.std.proofs.Common.{◌≡◌, drop, arith}
use Rattle.std.proofs.lemmas.Grind.{common_steps}
use Rattle.bl_proc.proofs.Rising.{lists_from}
use Rattle.bl_proc.proofs.parts.rows_from.Goals as goal

pub returns : goal.returns
returns c =
    let rest : c.loop-row.part.items ≡ drop c.place_from.result c.args.rows.now = grind (arith, common_steps, c.loop-row.invariant, c.loop-row-test.false) in
    lists_from _ _ _ _ c.requires.rising c.place_from.ensures rest
