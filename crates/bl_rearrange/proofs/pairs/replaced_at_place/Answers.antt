use Rattle.std.proofs.Common.{◌≡◌, ℕ, List, length, set, ap, refl, ◌∙◌, ◌-◌, arith, length-set}
use Rattle.std.specs.List.{refill}
use Rattle.std.proofs.lemmas.Grind.{common_steps}
use Rattle.bl_model.specs.Rows.{map_of}
use Rattle.bl_page.specs.Pairs.{place}
use Rattle.bl_page.proofs.Halving.{listed-before}
use Rattle.bl_rearrange.proofs.EnteredLemmas.{set-place}
use Rattle.bl_rearrange.proofs.Parts.{some_value}
use Rattle.bl_rearrange.proofs.pairs.replaced_at_place.Goals as goal

filled : (xs ws : List (ℕ × ℕ)) → length ws ≡ length xs → refill (length xs) xs ws ≡ ws
filled xs ws same = grind (arith, common_steps, same)

pub overflow_sub-place : goal.overflow_sub-place
overflow_sub-place c =
    let some = some_value (map_of c.args.pairs.items c.args.key) c.requires.listed in
    let before = listed-before 0 c.args.key some.0 c.args.pairs.items c.requires.rising some.1 in
    omega (arith, c.place_of-place.ensures.place, ap (place c.args.key) c.as_slice.ensures.value, before.0)

pub returns : goal.returns
returns c =
    let some = some_value (map_of c.args.pairs.items c.args.key) c.requires.listed in
    let at : c.place_of-place.result ≡ place c.args.key c.args.pairs.items = c.place_of-place.ensures.place ∙ ap (place c.args.key) c.as_slice.ensures.value in
    let done : set c.as_mut_slice.result.now (c.place_of-place.result - 1) (c.args.key, c.args.word) ≡ set c.args.pairs.items (place c.args.key c.args.pairs.items - 1) (c.args.key, c.args.word) =
    rw (c.as_mut_slice.ensures.value, at) refl in
    filled c.args.pairs.items (set c.as_mut_slice.result.now (c.place_of-place.result - 1) (c.args.key, c.args.word)) (length-set c.as_mut_slice.result.now (c.place_of-place.result - 1) (c.args.key, c.args.word) ∙ ap length c.as_mut_slice.ensures.value)
    ∙ (done ∙ set-place c.args.key c.args.word some.0 0 c.args.pairs.items c.requires.rising some.1)
