use Rattle.std.proofs.Common.{◌≤◌, ◌^◌, length, ap, arith}
use Rattle.bl_load.proofs.Ordering.{rises, roots_named}
use Rattle.bl_load.proofs.building.build.Goals as goal

pub add_levels-requires-clause-ready : goal.add_levels-requires-clause-ready
add_levels-requires-clause-ready c =
    let one = ap length c.in_ok-tree.ensures.pages in
    record { rising = rises 0 c.args.rows.now c.requires.rising (λ some. omega arith); begins = λ up. absurd (omega arith); room = omega (arith, one, c.in_ok-tree.ensures.most, c.requires.room) }

pub into_image-requires-clause-roots : goal.into_image-requires-clause-roots
into_image-requires-clause-roots c =
    let t = c.in_ok-add_levels.ensures.tree in
    let few : length c.add_levels.new.self.pages.items ≤ 2 ^ 32 = omega (arith, c.in_ok-add_levels.ensures.few, c.in_ok-tree.tree.limit) in
    roots_named c.args.fill t.levels c.add_levels.new.self.pages.items c.add_levels.new.self.leftmost.items t.forest few
