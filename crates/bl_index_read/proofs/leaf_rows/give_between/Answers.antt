use Rattle.std.proofs.Common.{ℕ, ◌≡◌, ◌+◌, ◌-◌, ◌*◌, ◌<◌, get_or, take, drop, refl, sym, subst, ap, ◌∙◌, arith}
use Rattle.bl_page.specs.Faults.{pairs_of, count_in}
use Rattle.bl_index_read.proofs.Picked.{count_is}
use Rattle.bl_index_read.proofs.Given.{given_more}
use Rattle.bl_index_read.proofs.leaf_rows.give_between.Goals as goal

pub loop-pair-init : goal.loop-pair-init
loop-pair-init g c =
    let none : c.args.first + 2 * 0 - c.args.first ≡ 0 = omega arith in
    let all : c.args.last - c.args.first ≡ c.args.last - c.args.first - 2 * 0 = omega arith in
    let held = g.K.Sink.held c.args.state.now in
    record {
      same = refl;
      ready = c.requires.ready;
      room = subst (g.K.Sink.HasRoom c.args.state.now) all c.requires.room;
      given = subst (λ (n : ℕ). g.K.Sink.Takes held (take n (drop c.args.first (pairs_of (g.W.Words.shown c.args.source.now c.args.hand.now)))) held) (sym none) (g.met.K.Sink.nothing held);
    }

pub row_at-row-requires-clause-place : goal.row_at-row-requires-clause-place
row_at-row-requires-clause-place g c =
    let shown = g.W.Words.shown c.args.source.now in
    let n = count_is (shown c.args.hand.now) (g.W.Words.long _ _ c.requires.sees) c.requires.pairs in
    let lt : c.args.first + 2 * c.loop-pair.pair < count_in (shown c.args.hand.now) = omega (arith, n, c.requires.within, c.requires.order, c.loop-pair-test.true) in
    subst (λ hand. c.args.first + 2 * c.loop-pair.pair < count_in (shown hand)) (sym c.loop-pair.invariant.same) lt

pub row_at-next-requires-clause-place : goal.row_at-next-requires-clause-place
row_at-next-requires-clause-place g c =
    let shown = g.W.Words.shown c.args.source.now in
    let n = count_is (shown c.args.hand.now) (g.W.Words.long _ _ c.requires.sees) c.requires.pairs in
    let lt : c.args.first + 2 * c.loop-pair.pair + 1 < count_in (shown c.args.hand.now) = omega (arith, n, c.requires.within, c.requires.order, c.loop-pair-test.true) in
    subst (λ hand. c.args.first + 2 * c.loop-pair.pair + 1 < count_in (shown hand)) (sym (c.row_at-row.ensures.same ∙ c.loop-pair.invariant.same)) lt

pub accept-requires-clause-room : goal.accept-requires-clause-room
accept-requires-clause-room g c =
    let left : ℕ = c.args.last - c.args.first - 2 * c.loop-pair.pair in
    let one : left ≡ left - 1 + 1 = omega (arith, c.loop-pair-test.true) in
    (left - 1, subst (g.K.Sink.HasRoom c.loop-pair.state) one c.loop-pair.invariant.room)

pub accept-requires-in-loop-pair-clause-room : goal.accept-requires-in-loop-pair-clause-room
accept-requires-in-loop-pair-clause-room g c =
    let left : ℕ = c.args.last - c.args.first - 2 * c.loop-pair.pair in
    let one : left ≡ left - 1 + 1 = omega (arith, c.loop-pair-test.true) in
    let two : left - 1 ≡ left - 2 + 1 = omega (arith, c.loop-pair-test.true) in
    (left - 2, subst (g.K.Sink.HasRoom c.accept.new.state) two (c.accept.ensures.room (left - 1) (subst (g.K.Sink.HasRoom c.loop-pair.state) one c.loop-pair.invariant.room)))

pub loop-pair-preserved : goal.loop-pair-preserved
loop-pair-preserved g c =
    let shown = g.W.Words.shown c.args.source.now in
    let rows = pairs_of (shown c.args.hand.now) in
    let inv = c.loop-pair.invariant in
    let first : ℕ = c.args.first in
    let i : ℕ = first + 2 * c.loop-pair.pair in
    let left : ℕ = c.args.last - first - 2 * c.loop-pair.pair in
    let n = count_is (shown c.args.hand.now) (g.W.Words.long _ _ c.requires.sees) c.requires.pairs in
    let row : c.row_at-row.result ≡ get_or rows i (0, 0) = c.row_at-row.ensures.row ∙ ap (λ hand. get_or (pairs_of (shown hand)) i (0, 0)) inv.same in
    let next : c.row_at-next.result ≡ get_or rows (i + 1) (0, 0) = c.row_at-next.ensures.row ∙ ap (λ hand. get_or (pairs_of (shown hand)) (i + 1) (0, 0)) (c.row_at-row.ensures.same ∙ inv.same) in
    let one = given_more g.K.Sink.Takes g.met.K.Sink.more rows first i c.row_at-row.result _ _ _ (omega arith) (omega (arith, c.requires.within, c.requires.order, c.loop-pair-test.true)) row inv.given c.accept.ensures.takes in
    let two = given_more g.K.Sink.Takes g.met.K.Sink.more rows first (i + 1) c.row_at-next.result _ _ _ (omega arith) (omega (arith, c.requires.within, c.requires.order, c.loop-pair-test.true)) next one c.accept-in-loop-pair.ensures.takes in
    let last : i + 1 + 1 ≡ first + 2 * (c.loop-pair.pair + 1) = omega arith in
    let room_one : left ≡ left - 1 + 1 = omega (arith, c.loop-pair-test.true) in
    let room_two : left - 1 ≡ left - 2 + 1 = omega (arith, c.loop-pair-test.true) in
    let room_last : left - 2 ≡ c.args.last - first - 2 * (c.loop-pair.pair + 1) = omega (arith, c.loop-pair-test.true) in
    let room : g.K.Sink.HasRoom c.accept.new.state (left - 1) = c.accept.ensures.room (left - 1) (subst (g.K.Sink.HasRoom c.loop-pair.state) room_one inv.room) in
    record {
      same = c.row_at-next.ensures.same ∙ (c.row_at-row.ensures.same ∙ inv.same);
      ready = c.accept-in-loop-pair.ensures.ready;
      room = subst (g.K.Sink.HasRoom c.accept-in-loop-pair.new.state) room_last (c.accept-in-loop-pair.ensures.room (left - 2) (subst (g.K.Sink.HasRoom c.accept.new.state) room_two room));
      given = subst (λ (z : ℕ). g.K.Sink.Takes (g.K.Sink.held c.args.state.now) (take (z - first) (drop first rows)) (g.K.Sink.held c.accept-in-loop-pair.new.state)) last two;
    }

pub row_at-row-requires-then-many-eq1-clause-place : goal.row_at-row-requires-then-many-eq1-clause-place
row_at-row-requires-then-many-eq1-clause-place g c =
    let shown = g.W.Words.shown c.args.source.now in
    let n = count_is (shown c.args.hand.now) (g.W.Words.long _ _ c.requires.sees) c.requires.pairs in
    let lt : c.args.last - 1 < count_in (shown c.args.hand.now) = omega (arith, n, c.requires.within, c.requires.order, c.if-many-eq1.true) in
    subst (λ hand. c.args.last - 1 < count_in (shown hand)) (sym c.loop-pair.invariant.same) lt

pub accept-requires-then-many-eq1-clause-room : goal.accept-requires-then-many-eq1-clause-room
accept-requires-then-many-eq1-clause-room g c =
    let left : ℕ = c.args.last - c.args.first - 2 * c.loop-pair.pair in
    let one : left ≡ 0 + 1 = omega (arith, c.requires.order, c.loop-pair-test.false, c.loop-pair.auto.pair-end, c.if-many-eq1.true) in
    (0, subst (g.K.Sink.HasRoom c.loop-pair.state) one c.loop-pair.invariant.room)

pub returns-then-many-eq1-clause-takes : goal.returns-then-many-eq1-clause-takes
returns-then-many-eq1-clause-takes g c =
    let shown = g.W.Words.shown c.args.source.now in
    let rows = pairs_of (shown c.args.hand.now) in
    let inv = c.loop-pair.invariant in
    let first : ℕ = c.args.first in
    let i : ℕ = c.args.last - 1 in
    let held = g.K.Sink.held c.args.state.now in
    let at : first + 2 * c.loop-pair.pair ≡ i = omega (arith, c.requires.order, c.loop-pair-test.false, c.loop-pair.auto.pair-end, c.if-many-eq1.true) in
    let row : c.row_at-row-then-many-eq1.result ≡ get_or rows i (0, 0) = c.row_at-row-then-many-eq1.ensures.row ∙ ap (λ hand. get_or (pairs_of (shown hand)) i (0, 0)) inv.same in
    let given = subst (λ (z : ℕ). g.K.Sink.Takes held (take (z - first) (drop first rows)) (g.K.Sink.held c.loop-pair.state)) at inv.given in
    let last : i + 1 ≡ c.args.last = omega (arith, c.requires.order, c.if-many-eq1.true) in
    let more = given_more g.K.Sink.Takes g.met.K.Sink.more rows first i c.row_at-row-then-many-eq1.result _ _ _ (omega (arith, at)) (omega (arith, c.requires.within, c.requires.order, c.if-many-eq1.true)) row given c.accept-then-many-eq1.ensures.takes in
    subst (λ (z : ℕ). g.K.Sink.Takes held (take (z - first) (drop first rows)) (g.K.Sink.held c.accept-then-many-eq1.new.state)) last more

pub returns-else-many-eq1-clause-takes : goal.returns-else-many-eq1-clause-takes
returns-else-many-eq1-clause-takes g c =
    let all : c.args.first + 2 * c.loop-pair.pair - c.args.first ≡ c.args.last - c.args.first = omega (arith, c.requires.order, c.loop-pair-test.false, c.loop-pair.auto.pair-end, c.if-many-eq1.false) in
    rw all at c.loop-pair.invariant.given
