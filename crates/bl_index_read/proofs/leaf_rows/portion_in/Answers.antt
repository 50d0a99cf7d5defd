use Rattle.std.proofs.Common.{ℕ, ◌≡◌, ◌≤◌, ◌%◌, get_or, sym, subst, ap, ◌∙◌, arith}
use Rattle.bl_model.proofs.Parts.{IsPlaceOf}
use Rattle.bl_page.specs.Faults.{pairs_of, count_in, HasPairs}
use Rattle.bl_proc_routes.proofs.Spellings.{tree_pairs}
use Rattle.bl_index_read.proofs.Picked.{count_is}
use Rattle.bl_index_read.proofs.Portions.{ends_with}
use Rattle.bl_index_read.proofs.leaf_rows.portion_in.Goals as goal

pub first_from-first-requires-clause-leaf : goal.first_from-first-requires-clause-leaf
first_from-first-requires-clause-leaf g c = let leaf = c.requires.leaf in (leaf.0, leaf.1, ap (λ hand. g.W.Words.shown c.args.source.now hand) c.word.ensures.same ∙ leaf.2)

pub place_before-requires-clause-pairs : goal.place_before-requires-clause-pairs
place_before-requires-clause-pairs g c =
    let leaf = c.requires.leaf in
    subst (λ hand. HasPairs (g.W.Words.shown c.args.source.now hand)) (sym (c.word-high.ensures.same ∙ (c.first_from-first.ensures.same ∙ c.word.ensures.same))) (tree_pairs leaf.0 _ leaf.1 leaf.2)

pub place_before-requires-clause-first : goal.place_before-requires-clause-first
place_before-requires-clause-first g c =
    let shown = g.W.Words.shown c.args.source.now in
    let leaf = c.requires.leaf in
    let place = subst (λ hand. IsPlaceOf (pairs_of (shown hand)) c.args.from c.first_from-first.result) c.word.ensures.same c.first_from-first.ensures.place in
    let n = count_is (shown c.args.hand.now) (g.W.Words.long _ _ c.requires.sees) (tree_pairs leaf.0 _ leaf.1 leaf.2) in
    omega (arith, place.in_range, n, c.word.ensures.word)

pub returns-then-high-last_below-clause-last : goal.returns-then-high-last_below-clause-last
returns-then-high-last_below-clause-last g c =
    let shown = g.W.Words.shown c.args.source.now in
    let words = shown c.args.hand.now in
    let leaf = c.requires.leaf in
    let place = subst (λ hand. IsPlaceOf (pairs_of (shown hand)) c.args.from c.first_from-first.result) c.word.ensures.same c.first_from-first.ensures.place in
    let long = g.W.Words.long _ _ c.requires.sees in
    let n = count_is words long (tree_pairs leaf.0 words leaf.1 leaf.2) in
    let high : c.word-high.result ≡ get_or words 2 0 = c.word-high.ensures.word ∙ ap (λ hand. get_or (shown hand) 2 0) (c.first_from-first.ensures.same ∙ c.word.ensures.same) in
    let count : c.word.result % 65536 ≡ count_in words = ap (λ (z : ℕ). z % 65536) c.word.ensures.word in
    let within : c.first_from-first.result ≤ c.word.result % 65536 = omega (arith, place.in_range, n, count) in
    ends_with leaf.0 words leaf.1 leaf.2 long c.args.to _ _ c.last_below.result c.word-high.result c.last_below.ensures high (omega (arith, c.if-high-last_below.true, c.word-high.type_inv, c.last_below.type_inv)) (omega (arith, c.if-high-last_below.true, c.word-high.type_inv, c.last_below.type_inv)) within count
