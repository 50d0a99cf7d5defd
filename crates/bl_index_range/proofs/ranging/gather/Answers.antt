use Rattle.std.proofs.Common.{rules, ◌<◌, Bool, true, false, Ok, Err, refl, sym, subst}
use Rattle.bl_store.specs.Hands.{known}
use Rattle.bl_index_range.proofs.RangeSteps.{IsUnderWay, left_while, gathers_none, under_way, gathers_on, by_part}
use Rattle.bl_index_range.proofs.ranging.gather.Goals as goal

pub loop-goes_on-init : goal.loop-goes_on-init
loop-goes_on-init c = record {
  same = search rules;
  under_way = gathers_none c.args.tree.now c.set_off-gathering.new.hand c.args.hand.now.number c.args.limits c.args.to c.args.gathering.now.rows.items (known c.args.hand.now.seat) _ c.set_off-gathering.ensures.set_off c.requires.begins.0 c.requires.begins.1 refl (search rules) c.requires.below;
}

pub gather_part-requires : goal.gather_part-requires
gather_part-requires c =
    let inv = c.loop-goes_on.invariant in
    record {
      gathers = (
        c.args.gathering.now.at,
        c.args.gathering.now.rows.items,
        known c.args.hand.now.seat,
        gathers_on c.args.tree.now c.args.hand.now c.loop-goes_on.hand inv.same.0 c.args.limits c.args.gathering.now.at c.args.to c.args.gathering.now.rows.items (known c.args.hand.now.seat) c.loop-goes_on.gathering c.loop-goes_on.goes_on c.loop-goes_on-test.true inv.under_way,
      );
    }

pub loop-goes_on-preserved : goal.loop-goes_on-preserved
loop-goes_on-preserved c =
    let inv = c.loop-goes_on.invariant in
    let went = by_part c.args.tree.now c.args.hand.now c.loop-goes_on.hand inv.same.0 c.args.limits c.args.gathering.now.at c.args.to c.args.gathering.now.rows.items (known c.args.hand.now.seat) c.loop-goes_on.gathering c.loop-goes_on.goes_on c.loop-goes_on-test.true inv.under_way
    c.gather_part.new.hand c.gather_part.new.gathering (Ok c.in-Ok.on) c.in-Ok.ensures.goes in
    record {
      same = search rules;
      under_way = (under_way c.args.tree.now c.gather_part.new.hand c.args.hand.now.number c.args.limits c.args.gathering.now.at c.args.to c.args.gathering.now.rows.items (known c.args.hand.now.seat) c.loop-goes_on.gathering c.gather_part.new.gathering c.in-Ok.on went).0;
    }

pub loop-goes_on-smaller : goal.loop-goes_on-smaller
loop-goes_on-smaller c =
    let inv = c.loop-goes_on.invariant in
    let went = by_part c.args.tree.now c.args.hand.now c.loop-goes_on.hand inv.same.0 c.args.limits c.args.gathering.now.at c.args.to c.args.gathering.now.rows.items (known c.args.hand.now.seat) c.loop-goes_on.gathering c.loop-goes_on.goes_on c.loop-goes_on-test.true inv.under_way
    c.gather_part.new.hand c.gather_part.new.gathering (Ok c.in-Ok.on) c.in-Ok.ensures.goes in
    subst (λ (z : Bool). left_while c.args.limits.rounds c.gather_part.new.gathering c.in-Ok.on < left_while c.args.limits.rounds c.loop-goes_on.gathering z) (sym c.loop-goes_on-test.true)
    (under_way c.args.tree.now c.gather_part.new.hand c.args.hand.now.number c.args.limits c.args.gathering.now.at c.args.to c.args.gathering.now.rows.items (known c.args.hand.now.seat) c.loop-goes_on.gathering c.gather_part.new.gathering c.in-Ok.on went).1

pub returns-in-Err-clause-rests : goal.returns-in-Err-clause-rests
returns-in-Err-clause-rests c =
    let inv = c.loop-goes_on.invariant in
    (by_part c.args.tree.now c.args.hand.now c.loop-goes_on.hand inv.same.0 c.args.limits c.args.gathering.now.at c.args.to c.args.gathering.now.rows.items (known c.args.hand.now.seat) c.loop-goes_on.gathering c.loop-goes_on.goes_on c.loop-goes_on-test.true inv.under_way
    c.gather_part.new.hand c.gather_part.new.gathering (Err c.in-Err.fault) c.in-Err.ensures.goes).rests

pub returns-in-Err-clause-first : goal.returns-in-Err-clause-first
returns-in-Err-clause-first c =
    let inv = c.loop-goes_on.invariant in
    (by_part c.args.tree.now c.args.hand.now c.loop-goes_on.hand inv.same.0 c.args.limits c.args.gathering.now.at c.args.to c.args.gathering.now.rows.items (known c.args.hand.now.seat) c.loop-goes_on.gathering c.loop-goes_on.goes_on c.loop-goes_on-test.true inv.under_way
    c.gather_part.new.hand c.gather_part.new.gathering (Err c.in-Err.fault) c.in-Err.ensures.goes).first

pub returns-in-Err-clause-seen : goal.returns-in-Err-clause-seen
returns-in-Err-clause-seen c =
    let inv = c.loop-goes_on.invariant in
    (by_part c.args.tree.now c.args.hand.now c.loop-goes_on.hand inv.same.0 c.args.limits c.args.gathering.now.at c.args.to c.args.gathering.now.rows.items (known c.args.hand.now.seat) c.loop-goes_on.gathering c.loop-goes_on.goes_on c.loop-goes_on-test.true inv.under_way
    c.gather_part.new.hand c.gather_part.new.gathering (Err c.in-Err.fault) c.in-Err.ensures.goes).seen

pub returns-in-Err-clause-gathered : goal.returns-in-Err-clause-gathered
returns-in-Err-clause-gathered c =
    let inv = c.loop-goes_on.invariant in
    (by_part c.args.tree.now c.args.hand.now c.loop-goes_on.hand inv.same.0 c.args.limits c.args.gathering.now.at c.args.to c.args.gathering.now.rows.items (known c.args.hand.now.seat) c.loop-goes_on.gathering c.loop-goes_on.goes_on c.loop-goes_on-test.true inv.under_way
    c.gather_part.new.hand c.gather_part.new.gathering (Err c.in-Err.fault) c.in-Err.ensures.goes).does

pub returns-clause-rests : goal.returns-clause-rests
returns-clause-rests c = (rw c.loop-goes_on-test.false at c.loop-goes_on.invariant.under_way).rests

pub returns-clause-first : goal.returns-clause-first
returns-clause-first c = (rw c.loop-goes_on-test.false at c.loop-goes_on.invariant.under_way).first

pub returns-clause-seen : goal.returns-clause-seen
returns-clause-seen c = (rw c.loop-goes_on-test.false at c.loop-goes_on.invariant.under_way).seen

pub returns-clause-gathered : goal.returns-clause-gathered
returns-clause-gathered c = (rw c.loop-goes_on-test.false at c.loop-goes_on.invariant.under_way).does
