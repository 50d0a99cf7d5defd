use Rattle.std.proofs.Common.{◌+◌, ap, sym, ◌∙◌, arith}
use Rattle.bl_page.specs.Pairs.{place}
use Rattle.bl_page.specs.Faults.{count_in, pairs_of}
use Rattle.bl_page.proofs.Lookups.{place-le}
use Rattle.bl_page.proofs.Halving.{place_of_third, is_reached, pairs-length}
use Rattle.bl_page.proofs.seeking.place_in.Goals as goal

pub returns-clause-place : goal.returns-clause-place
returns-clause-place g c =
    let p = place c.args.key (pairs_of (g.W.Words.shown c.args.source.now c.args.hand.now)) in
    let before = c.third_in-before.result in
    let h3 = c.third_in-before.ensures.same in
    let h4 = c.reached_within-first.ensures.same ∙ h3 in
    let h5 = c.reached-second.ensures.same ∙ h4 in
    let first = is_reached (before + 1) p _ c.reached_within-first.result (sym (ap (λ hand. place c.args.key (pairs_of (g.W.Words.shown c.args.source.now hand))) h3)) c.reached_within-first.ensures.one c.reached_within-first.ensures.none in
    let second = is_reached (before + 2) p _ c.reached-second.result (sym (ap (λ hand. place c.args.key (pairs_of (g.W.Words.shown c.args.source.now hand))) h4)) c.reached-second.ensures.one c.reached-second.ensures.none in
    let third = is_reached (before + 3) p _ c.reached-third.result (sym (ap (λ hand. place c.args.key (pairs_of (g.W.Words.shown c.args.source.now hand))) h5)) c.reached-third.ensures.one c.reached-third.ensures.none in
    place_of_third p before c.reached_within-first.result c.reached-second.result c.reached-third.result c.third_in-before.ensures.low c.third_in-before.ensures.high first second third

pub returns-clause-within : goal.returns-clause-within
returns-clause-within g c =
    let words = g.W.Words.shown c.args.source.now c.args.hand.now in
    let is = returns-clause-place g c in
    let size = pairs-length (count_in words) words (g.W.Words.long _ _ c.requires.sees) c.requires.pairs.few in
    omega (arith, is, place-le c.args.key (pairs_of words), size, c.requires.count)
