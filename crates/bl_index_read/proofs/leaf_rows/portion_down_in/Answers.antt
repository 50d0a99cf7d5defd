use Rattle.std.proofs.Common.{ℕ, ◌≡◌, ◌+◌, ◌≤◌, Some, get_or, sym, subst, ap, ◌∙◌, arith}
use Rattle.bl_model.proofs.Parts.{IsPlaceOf}
use Rattle.bl_model.proofs.Falling.{IsCountTo}
use Rattle.bl_page.specs.Faults.{pairs_of}
use Rattle.bl_page.specs.Nodes.{node_of}
use Rattle.bl_proc.specs.Parts.{GoesOnBelow}
use Rattle.bl_proc_routes.proofs.Spellings.{bounds_are}
use Rattle.bl_index_read.proofs.Orders.{above_less, above_first}
use Rattle.bl_index_read.proofs.Picked.{ends_at}
use Rattle.bl_index_read.proofs.leaf_rows.portion_down_in.Goals as goal

pub least_above-least-requires : goal.least_above-least-requires
least_above-least-requires g c = above_less c.args.to c.args.from c.ranges.from.fits c.requires.above

pub returns-clause-first : goal.returns-clause-first
returns-clause-first g c =
    let shown = g.W.Words.shown c.args.source.now in
    let place = subst (λ hand. IsPlaceOf (pairs_of (shown hand)) c.least_above-least.result c.place_from-first.result) c.word.ensures.same c.place_from-first.ensures.place in
    subst (λ (z : ℕ). IsPlaceOf (pairs_of (shown c.args.hand.now)) z c.place_from-first.result) c.least_above-least.ensures place

pub returns-clause-last : goal.returns-clause-last
returns-clause-last g c =
    let shown = g.W.Words.shown c.args.source.now in
    let place = subst (λ hand. IsPlaceOf (pairs_of (shown hand)) c.least_above-least.result c.place_from-first.result) c.word.ensures.same c.place_from-first.ensures.place in
    let count = subst (λ hand. IsCountTo (pairs_of (shown hand)) c.args.from c.count_to-end.result) (c.place_from-first.ensures.same ∙ c.word.ensures.same) c.count_to-end.ensures.count in
    let low : c.least_above-least.result ≤ c.args.from = omega (arith, c.least_above-least.ensures, above_first c.args.to c.args.from c.requires.above) in
    ends_at (pairs_of (shown c.args.hand.now)) c.least_above-least.result c.args.from c.place_from-first.result c.count_to-end.result place count low

pub returns-clause-behind : goal.returns-clause-behind
returns-clause-behind g c = λ page next tree e goes.
    let shown = g.W.Words.shown c.args.source.now in
    let same = c.count_to-end.ensures.same ∙ (c.place_from-first.ensures.same ∙ c.word.ensures.same) in
    let low : c.word-low.result ≡ (node_of page).shape.low = c.word-low.ensures.word ∙ (ap (λ hand. get_or (shown hand) 1 0) same ∙ (bounds_are page (shown c.args.hand.now) tree e).0) in
    c.behind_down-behind.ensures c.args.to next c.least_above-least.ensures (subst (λ (z : ℕ). GoesOnBelow z next) (sym low) goes)
