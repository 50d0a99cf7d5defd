use Rattle.std.proofs.Common.{◌≡◌, ℕ, ◌+◌, ◌≤◌, ◌<◌, ap, sym, ◌∙◌, arith}
use Rattle.bl_page.specs.Pairs.{place}
use Rattle.bl_page.specs.Faults.{pairs_of}
use Rattle.bl_page.proofs.Halving.{IsReached, place_of_third, is_reached}
use Rattle.bl_page.proofs.seeking.only_place_in.Goals as goal

-- the first key of a part is reached where a key is
is_reached_behind : (before place other number : ℕ) → 0 < place → place ≡ other → (before + 1 ≤ other → number ≡ 1) → (2 ≤ before + 1 → other < before + 1 → number ≡ 0) → IsReached (before + 1) place number
is_reached_behind before place other number some same one none = ((λ h. one (omega (arith, h, same))), λ h. none (omega (arith, h, some)) (omega (arith, h, same)))

pub returns-clause-place : goal.returns-clause-place
returns-clause-place g c = λ some.
    let p = place c.args.key (pairs_of (g.W.Words.shown c.args.source.now c.args.hand.now)) in
    let before = c.third_in-before.result in
    let h3 = c.third_in-before.ensures.same in
    let h4 = c.reached_behind-first.ensures.same ∙ h3 in
    let h5 = c.reached-second.ensures.same ∙ h4 in
    let first = is_reached_behind before p _ c.reached_behind-first.result some (sym (ap (λ hand. place c.args.key (pairs_of (g.W.Words.shown c.args.source.now hand))) h3)) c.reached_behind-first.ensures.one c.reached_behind-first.ensures.none in
    let second = is_reached (before + 2) p _ c.reached-second.result (sym (ap (λ hand. place c.args.key (pairs_of (g.W.Words.shown c.args.source.now hand))) h4)) c.reached-second.ensures.one c.reached-second.ensures.none in
    let third = is_reached (before + 3) p _ c.reached-third.result (sym (ap (λ hand. place c.args.key (pairs_of (g.W.Words.shown c.args.source.now hand))) h5)) c.reached-third.ensures.one c.reached-third.ensures.none in
    place_of_third p before c.reached_behind-first.result c.reached-second.result c.reached-third.result c.third_in-before.ensures.low c.third_in-before.ensures.high first second third
