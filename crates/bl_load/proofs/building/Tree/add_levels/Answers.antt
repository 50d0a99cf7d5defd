use Rattle.std.proofs.Common.{◌≡◌, ℕ, List, ◌+◌, ◌-◌, ◌<◌, length, get_or, subst, sym, ap, ◌∙◌, arith}
use Rattle.bl_page.specs.Pairs.{RisesFrom, BeginsWith}
use Rattle.bl_load.specs.Sizes.{pages_for}
use Rattle.bl_load.specs.Trees.{AreEntries, HasRoomAbove, IsUnlinked, fan_for}
use Rattle.bl_load.proofs.Levels.{level_room, last_alone}
use Rattle.bl_load.proofs.Ordering.{begins_some}
use Rattle.bl_load.proofs.Stepping.{rows_next}
use Rattle.bl_load.proofs.building.Tree.add_levels.Goals as goal

pub loop-level-preserved : goal.loop-level-preserved
loop-level-preserved c =
    let i = c.loop-level.invariant in
    let l = c.in_ok-entries-2.ensures.built in
    let n = c.in_ok-entries-2.ensures.counted in
    let level : c.loop-level.level ≡ c.loop-level.level + 1 - 1 = omega arith in
    let some : 0 < length c.loop-level.self.leftmost.items = omega (arith, i.forest.count, c.loop-level.auto.level) in
    let many = begins_some 0 c.loop-level.entries.items i.begins in
    let more : 1 < length c.loop-level.entries.items = omega (arith, many) in
    let fan = fan_for c.args.fill c.loop-level.level in
    let same : length c.as_slice.result.now ≡ length c.loop-level.entries.items = ap length c.as_slice.ensures.value in
    let next = level_room c.args.fill c.loop-level.level (length c.loop-level.self.pages.items) c.args.self.now.most (length c.loop-level.entries.items) i.room c.loop-level.auto.level c.loop-level-test.true more in
    let count : length c.in_ok-entries-2.entries.items ≡ pages_for fan (length c.loop-level.entries.items) = n.count ∙ ap (pages_for fan) same in
    let size : length c.add_level-in-loop-level.new.self.pages.items ≡ length c.loop-level.self.pages.items + pages_for fan (length c.loop-level.entries.items) = n.size ∙ ap (λ k. length c.loop-level.self.pages.items + pages_for fan k) same in
    record {
      forest = l.forest;
      entries = subst (λ n. AreEntries c.add_level-in-loop-level.new.self.pages.items n c.in_ok-entries-2.entries.items) level l.built;
      rows = rows_next c.args.fill c.loop-level.level c.loop-level.self.pages.items c.loop-level.self.leftmost.items c.args.rows.now c.as_slice.result.now c.add_level-in-loop-level.new.self.pages.items
          c.add_level-in-loop-level.new.self.leftmost.items c.in_ok-entries-2.entries.items some i.rows l;
      rising = n.rising;
      begins = n.begins;
      room = subst (λ built. HasRoomAbove (fan_for c.args.fill 1) (12 - (c.loop-level.level + 1)) built c.args.self.now.most (length c.in_ok-entries-2.entries.items)) (sym size)
          (subst (HasRoomAbove (fan_for c.args.fill 1) (12 - (c.loop-level.level + 1)) (length c.loop-level.self.pages.items + pages_for fan (length c.loop-level.entries.items)) c.args.self.now.most) (sym count) next.1);
      alone = λ one. subst (λ n. IsUnlinked c.add_level-in-loop-level.new.self.pages.items (get_or c.add_level-in-loop-level.new.self.leftmost.items n 0)) level (c.in_ok-entries-2.ensures.alone one);
      most = c.in_ok-entries-2.ensures.most ∙ i.most;
    }

pub returns-then-len-eq1-clause-tree : goal.returns-then-len-eq1-clause-tree
returns-then-len-eq1-clause-tree c =
    let i = c.loop-level.invariant in
    record { levels = c.loop-level.level; some = omega (arith, c.loop-level.auto.level); forest = i.forest; rows_are = i.rows; top = i.alone (omega (arith, c.if-len-eq1.true, c.len.ensures)) }

pub returns-clause-tree : goal.returns-clause-tree
returns-clause-tree c =
    let i = c.loop-level.invariant in
    let many = begins_some 0 c.loop-level.entries.items i.begins in
    let few = last_alone c.args.fill c.loop-level.level (length c.loop-level.self.pages.items) c.args.self.now.most (length c.loop-level.entries.items) i.room (omega arith) in
    record { levels = c.loop-level.level; some = omega (arith, c.loop-level.auto.level); forest = i.forest; rows_are = i.rows; top = i.alone (omega (arith, many, few)) }

pub add_level-requires-in-loop-level-clause-ready : goal.add_level-requires-in-loop-level-clause-ready
add_level-requires-in-loop-level-clause-ready c =
    let i = c.loop-level.invariant in
    let fan = fan_for c.args.fill c.loop-level.level in
    let many = begins_some 0 c.loop-level.entries.items i.begins in
    let more : 1 < length c.loop-level.entries.items = omega (arith, many) in
    let value = c.as_slice.ensures.value in
    let same = ap (λ (e : List (ℕ × ℕ)). pages_for fan (length e)) value in
    let next = level_room c.args.fill c.loop-level.level (length c.loop-level.self.pages.items) c.args.self.now.most (length c.loop-level.entries.items) i.room c.loop-level.auto.level c.loop-level-test.true more in
    record {
      rising = subst (RisesFrom 0) (sym value) i.rising;
      begins = λ up. subst (BeginsWith 0) (sym value) i.begins;
      room = omega (arith, next.0, same, i.most);
    }
