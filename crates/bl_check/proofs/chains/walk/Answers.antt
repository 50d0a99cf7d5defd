use Rattle.std.proofs.Common.{length, subst, sym, ◌<◌, inl, inr, arith}
use Rattle.bl_check.specs.Spans.{StandsAt}
use Rattle.bl_check.specs.Rules.Reaches.{Here}
use Rattle.bl_check.proofs.Reaching.{live_below, reach_next, rest_next, met_end, next_fits, stops_right, stops_wrong, only_met, mark_more, stands_live}
use Rattle.bl_check.proofs.chains.walk.Goals as goal

pub chain-init : goal.chain-init
chain-init c = record { live = c.requires.live; reached = Here; rest = λ y r. inr r; kept = λ y h. h; only = λ y h. inl h }

pub chain-preserved : goal.chain-preserved
chain-preserved c =
    let i = c.chain.invariant in let pages = c.args.pages.now in let at = sym c.in-Some.ensures.span in
    let lt : c.chain.x < length c.chain.marks = let below = live_below pages c.chain.x c.in-Some.span at in omega (arith, below, c.requires.count, c.chain.auto.marks) in
    let goes = c.in-To.ensures in record {
      live = stands_live pages c.in-To.next c.in-Some.span.level c.in-Some.span.high (subst (λ z. StandsAt pages z c.in-Some.span.level c.in-Some.span.high) (sym goes.0) goes.1.1);
      reached = reach_next pages c.args.first c.chain.x c.in-To.next c.in-Some.span i.reached at goes.1 goes.0;
      rest = rest_next pages c.chain.marks c.args.first c.chain.x c.in-To.next c.in-Some.span at lt goes i.rest;
      kept = λ y h. mark_more c.chain.marks c.chain.x y (i.kept y h);
      only = only_met pages c.args.marks.now c.chain.marks c.args.first c.chain.x i.reached i.only;
    }

pub returns-in-End-clause-stops : goal.returns-in-End-clause-stops
returns-in-End-clause-stops c = stops_right c.args.pages.now c.chain.marks c.args.first c.chain.x c.in-Some.span (sym c.in-Some.ensures.span) c.in-End.ensures c.chain.invariant.rest

pub returns-in-End-clause-met : goal.returns-in-End-clause-met
returns-in-End-clause-met c =
    let pages = c.args.pages.now in let at = sym c.in-Some.ensures.span in
    let lt : c.chain.x < length c.chain.marks = let below = live_below pages c.chain.x c.in-Some.span at in omega (arith, below, c.requires.count, c.chain.auto.marks) in
    met_end pages c.chain.marks c.args.first c.chain.x c.in-Some.span at lt (λ next. next.0 c.in-End.ensures.0) c.chain.invariant.rest

pub returns-in-Wrong-clause-stops : goal.returns-in-Wrong-clause-stops
returns-in-Wrong-clause-stops c = stops_wrong c.args.pages.now c.chain.marks c.args.first c.chain.x c.in-Some.span (sym c.in-Some.ensures.span) c.in-Wrong.ensures c.chain.invariant.reached c.chain.invariant.rest

pub returns-in-Wrong-clause-met : goal.returns-in-Wrong-clause-met
returns-in-Wrong-clause-met c =
    let pages = c.args.pages.now in let at = sym c.in-Some.ensures.span in
    let lt : c.chain.x < length c.chain.marks = let below = live_below pages c.chain.x c.in-Some.span at in omega (arith, below, c.requires.count, c.chain.auto.marks) in
    met_end pages c.chain.marks c.args.first c.chain.x c.in-Some.span at lt (λ next. c.in-Wrong.ensures (next_fits pages c.in-Some.span next)) c.chain.invariant.rest
