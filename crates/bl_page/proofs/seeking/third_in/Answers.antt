use Rattle.std.proofs.Common.{◌≤◌, refl, ap, sym, ◌∙◌, arith}
use Rattle.bl_page.specs.Pairs.{place}
use Rattle.bl_page.specs.Faults.{count_in, pairs_of}
use Rattle.bl_page.proofs.Lookups.{place-le}
use Rattle.bl_page.proofs.Halving.{third_of, is_reached, pairs-length}
use Rattle.bl_page.proofs.seeking.third_in.Goals as goal

pub returns-clause-low : goal.returns-clause-low
returns-clause-low g c =
    let words = g.W.Words.shown c.args.source.now c.args.hand.now in
    let p = place c.args.key (pairs_of words) in
    let most : p ≤ 14 = omega (arith, place-le c.args.key (pairs_of words), pairs-length (count_in words) words (g.W.Words.long _ _ c.requires.sees) c.requires.pairs.few, c.requires.pairs.few) in
    let h1 = c.reached-fourth.ensures.same in
    let h2 = c.reached-eighth.ensures.same ∙ h1 in
    let fourth = is_reached 4 p p c.reached-fourth.result refl c.reached-fourth.ensures.one c.reached-fourth.ensures.none in
    let eighth = is_reached 8 p _ c.reached-eighth.result (sym (ap (λ hand. place c.args.key (pairs_of (g.W.Words.shown c.args.source.now hand))) h1)) c.reached-eighth.ensures.one c.reached-eighth.ensures.none in
    let eleventh = is_reached 11 p _ c.reached-eleventh.result (sym (ap (λ hand. place c.args.key (pairs_of (g.W.Words.shown c.args.source.now hand))) h2)) c.reached-eleventh.ensures.one c.reached-eleventh.ensures.none in
    (third_of p c.reached-fourth.result c.reached-eighth.result c.reached-eleventh.result most fourth eighth eleventh).0

pub returns-clause-high : goal.returns-clause-high
returns-clause-high g c =
    let words = g.W.Words.shown c.args.source.now c.args.hand.now in
    let p = place c.args.key (pairs_of words) in
    let most : p ≤ 14 = omega (arith, place-le c.args.key (pairs_of words), pairs-length (count_in words) words (g.W.Words.long _ _ c.requires.sees) c.requires.pairs.few, c.requires.pairs.few) in
    let h1 = c.reached-fourth.ensures.same in
    let h2 = c.reached-eighth.ensures.same ∙ h1 in
    let fourth = is_reached 4 p p c.reached-fourth.result refl c.reached-fourth.ensures.one c.reached-fourth.ensures.none in
    let eighth = is_reached 8 p _ c.reached-eighth.result (sym (ap (λ hand. place c.args.key (pairs_of (g.W.Words.shown c.args.source.now hand))) h1)) c.reached-eighth.ensures.one c.reached-eighth.ensures.none in
    let eleventh = is_reached 11 p _ c.reached-eleventh.result (sym (ap (λ hand. place c.args.key (pairs_of (g.W.Words.shown c.args.source.now hand))) h2)) c.reached-eleventh.ensures.one c.reached-eleventh.ensures.none in
    (third_of p c.reached-fourth.result c.reached-eighth.result c.reached-eleventh.result most fourth eighth eleventh).1
