use Rattle.std.proofs.Common.{rules, ◌≡◌, ◌<◌, List, All, ◌++◌, [], ◌∷◌, length, sym, ap, ◌∙◌, subst, arith}
use Rattle.std.specs.Arc.{arc_value}
use Rattle.std.proofs.lemmas.List.{length_push}
use Rattle.bl_store.specs.declared.store.Hand.{Hand}
use Rattle.bl_index_rule.specs.declared.known.PassState.{PassState}
use Rattle.bl_index.specs.Calls.{IsPassOf}
use Rattle.bl_index.specs.Closed.{ClosesHands}
use Rattle.bl_index.specs.declared.index.Index.{Index}
use Rattle.bl_ffi_seats.specs.Closed.{values, hand_of, IsAtIndex, AreAll}
use Rattle.bl_ffi_seats.specs.declared.seat.Seat.{Seat}
use Rattle.bl_ffi_seats.proofs.Closings.{one_given, first_at, all_given, each_hand}
use Rattle.bl_ffi_seats.proofs.Made.{first_taken}
use Rattle.bl_ffi_seats.proofs.closing.shut.Goals as goal

pub loop-seats-preserved : goal.loop-seats-preserved
loop-seats-preserved c =
    let inv = c.loop-seats.invariant in let index = arc_value c.args.prepared.index in let boxes = c.loop-seats.seats.items in let left = c.remove.new.self.items in
    let box = c.remove.result in let hands = c.loop-seats.hands.items in let now = c.push_reserved.new.self.items in
    let l = c.loop-seats.seats.ok in
    let some_left : 0 < length boxes = search rules in
    let next = first_taken boxes left box some_left c.remove.ensures.value c.remove.ensures.by_index.2 in
    let inner : c.into_inner-pass.result ≡ box.value = c.into_inner-pass.ensures in
    let hand_is = c.into_hand.ensures ∙ ap hand_of inner in
    let pushed = c.push_reserved.ensures.items ∙ ap (λ (z : Hand PassState). hands ++ z ∷ []) hand_is in
    let seat = box.value in
    let own : IsPassOf index seat.pass = subst (λ (z : Index). IsPassOf z seat.pass) (first_at index (values c.args.seats.items) boxes left box hands next inv.given) seat.own in
    record {
      given = one_given index (values c.args.seats.items) boxes left box hands now next inv.given pushed ((own.0, own.1), seat.pass.idle);
      fits = (let a = ap length next in let b = ap length pushed ∙ length_push hands (hand_of box.value) in let cap = c.push_reserved.ensures.capacity in let fits = inv.fits in omega (arith, a, b, cap, fits));
    }

pub close_hands-requires-clause-all : goal.close_hands-requires-clause-all
close_hands-requires-clause-all c =
    let none : length c.loop-seats.seats.items ≡ 0 = search rules in
    let is = all_given (arc_value c.args.prepared.index) (values c.args.seats.items) c.loop-seats.seats.items c.loop-seats.hands.items none c.loop-seats.invariant.given in
    each_hand c.in-Ok.index (values c.args.seats.items) c.loop-seats.hands.items is (subst (λ (z : Index). AreAll z (values c.args.seats.items)) (sym c.in-Ok.ensures.ok) c.requires.all)

pub returns-in-Ok-clause-ok : goal.returns-in-Ok-clause-ok
returns-in-Ok-clause-ok c =
    let none : length c.loop-seats.seats.items ≡ 0 = search rules in
    let is = all_given (arc_value c.args.prepared.index) (values c.args.seats.items) c.loop-seats.seats.items c.loop-seats.hands.items none c.loop-seats.invariant.given in
    record {
      index = c.in-Ok.index;
      at = subst (λ (z : Index). All (IsAtIndex z) (values c.args.seats.items)) (sym c.in-Ok.ensures.ok) c.requires.at;
      closes = subst (λ (z : List (Hand PassState)). ClosesHands c.in-Ok.index z c.close_hands.result.image.pages.items) is c.close_hands.ensures;
    }
