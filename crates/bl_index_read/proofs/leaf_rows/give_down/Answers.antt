use Rattle.std.proofs.Common.{ℕ, ◌≡◌, ◌+◌, ◌-◌, ◌<◌, ◌≤◌, List, get_or, refl, sym, subst, ap, ◌∙◌, arith}
use Rattle.bl_page.specs.Faults.{pairs_of, count_in}
use Rattle.bl_index_read.proofs.Picked.{count_is}
use Rattle.bl_index_read.proofs.Given.{given_back, all_back}
use Rattle.bl_index_read.proofs.leaf_rows.give_down.Goals as goal

pub loop-gone-init : goal.loop-gone-init
loop-gone-init g c =
    let all : c.args.last - c.args.first ≡ c.args.last - c.args.first - 0 = omega arith in
    record {
      same = refl;
      ready = c.requires.ready;
      room = subst (g.K.Sink.HasRoom c.args.state.now) all c.requires.room;
      given = g.met.K.Sink.nothing (g.K.Sink.held c.args.state.now);
    }

pub row_at-row-requires-clause-place : goal.row_at-row-requires-clause-place
row_at-row-requires-clause-place g c =
    let shown = g.W.Words.shown c.args.source.now in
    let n = count_is (shown c.args.hand.now) (g.W.Words.long _ _ c.requires.sees) c.requires.pairs in
    let lt : c.args.last - 1 - c.loop-gone.gone < count_in (shown c.args.hand.now) = omega (arith, n, c.requires.within, c.requires.order, c.loop-gone-test.true) in
    subst (λ hand. c.args.last - 1 - c.loop-gone.gone < count_in (shown hand)) (sym c.loop-gone.invariant.same) lt

pub accept-requires-clause-room : goal.accept-requires-clause-room
accept-requires-clause-room g c =
    let left : ℕ = c.args.last - c.args.first - c.loop-gone.gone in
    let one : left ≡ left - 1 + 1 = omega (arith, c.loop-gone-test.true) in
    (left - 1, subst (g.K.Sink.HasRoom c.loop-gone.state) one c.loop-gone.invariant.room)

pub loop-gone-preserved : goal.loop-gone-preserved
loop-gone-preserved g c =
    let shown = g.W.Words.shown c.args.source.now in
    let rows = pairs_of (shown c.args.hand.now) in
    let inv = c.loop-gone.invariant in
    let first : ℕ = c.args.first in
    let last : ℕ = c.args.last in
    let i : ℕ = c.loop-gone.gone in
    let left : ℕ = last - first - i in
    let row : c.row_at-row.result ≡ get_or rows (last - 1 - i) (0, 0) = c.row_at-row.ensures.row ∙ ap (λ hand. get_or (pairs_of (shown hand)) (last - 1 - i) (0, 0)) inv.same in
    let one : left ≡ left - 1 + 1 = omega (arith, c.loop-gone-test.true) in
    let less : left - 1 ≡ last - first - (i + 1) = omega (arith, c.loop-gone-test.true) in
    record {
      same = c.row_at-row.ensures.same ∙ inv.same;
      ready = c.accept.ensures.ready;
      room = subst (g.K.Sink.HasRoom c.accept.new.state) less (c.accept.ensures.room (left - 1) (subst (g.K.Sink.HasRoom c.loop-gone.state) one inv.room));
      given = given_back g.K.Sink.Takes g.met.K.Sink.more rows first last i c.row_at-row.result _ _ _ c.requires.within (omega (arith, c.loop-gone-test.true)) row inv.given c.accept.ensures.takes;
    }

pub returns-clause-takes : goal.returns-clause-takes
returns-clause-takes g c =
    let rows = pairs_of (g.W.Words.shown c.args.source.now c.args.hand.now) in
    let over : c.args.last - c.args.first ≤ c.loop-gone.gone = omega (arith, c.loop-gone-test.false) in
    subst (λ (z : List (ℕ × ℕ)). g.K.Sink.Takes (g.K.Sink.held c.args.state.now) z (g.K.Sink.held c.loop-gone.state)) (all_back rows c.args.first c.args.last c.loop-gone.gone c.requires.within over) c.loop-gone.invariant.given
