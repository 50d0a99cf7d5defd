use Rattle.std.proofs.Common.{arith}
use Rattle.bl_serve.proofs.Merging.{at_place, one_left, end_within, joins_more, text_more}
use Rattle.bl_serve.proofs.joining.merge.Goals as goal

pub index-requires-in-loop-place : goal.index-requires-in-loop-place
index-requires-in-loop-place c = let at = at_place c.loop-place.invariant.joins c.loop-place-test.true c.requires.all c.requires.whole c.requires.low c.index-outputs-share.is c.index.ensures in
    let left = one_left _ _ _ _ _ _ at in let v = c.index-outputs-share.result.lengths.ok in omega (arith, left, v)

pub overflow_add-end : goal.overflow_add-end
overflow_add-end c = let at = at_place c.loop-place.invariant.joins c.loop-place-test.true c.requires.all c.requires.whole c.requires.low c.index-outputs-share.is c.index.ensures in
    let within = end_within _ _ _ _ _ _ at c.index-in-loop-place.result.now c.index-in-loop-place.ensures in let v = c.index-outputs-share.result.text.ok in omega (arith, within, v)

pub overflow_add-replies : goal.overflow_add-replies
overflow_add-replies c = let at = at_place c.loop-place.invariant.joins c.loop-place-test.true c.requires.all c.requires.whole c.requires.low c.index-outputs-share.is c.index.ensures in
    let left = one_left _ _ _ _ _ _ at in let v = c.index-outputs-share.result.lengths.ok in omega (arith, left, v)

pub slice_bounds-extend_from_slice-end : goal.slice_bounds-extend_from_slice-end
slice_bounds-extend_from_slice-end c = let at = at_place c.loop-place.invariant.joins c.loop-place-test.true c.requires.all c.requires.whole c.requires.low c.index-outputs-share.is c.index.ensures in
    let within = end_within _ _ _ _ _ _ at c.index-in-loop-place.result.now c.index-in-loop-place.ensures in let v = c.index-outputs-share.result.text.ok in omega (arith, within, v)

pub loop-place-preserved : goal.loop-place-preserved
loop-place-preserved c = let at = at_place c.loop-place.invariant.joins c.loop-place-test.true c.requires.all c.requires.whole c.requires.low c.index-outputs-share.is c.index.ensures in record {
  joins = joins_more _ _ _ _ _ _ at c.index-in-loop-place.result.now c.index-in-loop-place.ensures;
  text = text_more _ _ _ _ _ _ at c.index-in-loop-place.result.now c.index-in-loop-place.ensures _ _ _ _ c.deref.ensures.value c.in_ok-extend_from_slice.ensures.items c.loop-place.invariant.text;
}
