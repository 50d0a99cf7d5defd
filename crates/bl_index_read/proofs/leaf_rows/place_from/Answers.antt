use Rattle.std.proofs.Common.{◌≡◌, ◌+◌, ◌*◌, get_or, ap, ◌∙◌, arith}
use Rattle.bl_index_read.proofs.Picked.{below_more, place_here, place_end}
use Rattle.bl_index_read.proofs.leaf_rows.place_from.Goals as goal

pub loop-place-preserved : goal.loop-place-preserved
loop-place-preserved g c =
    let words = g.W.Words.shown c.args.source.now c.args.hand.now in
    let inv = c.loop-place.invariant in
    let key : c.word.result ≡ get_or words (4 + 2 * c.loop-place.place) 0 = c.word.ensures.word ∙ ap (λ hand. get_or (g.W.Words.shown c.args.source.now hand) (4 + 2 * c.loop-place.place) 0) inv.same in
    record {
      same = c.word.ensures.same ∙ inv.same;
      below = below_more words (g.W.Words.long _ _ c.requires.sees) c.requires.pairs c.args.from c.loop-place.place (omega arith) inv.below (omega (arith, key, c.if-from-word.false));
    }

pub returns-then-from-word-clause-place : goal.returns-then-from-word-clause-place
returns-then-from-word-clause-place g c =
    let words = g.W.Words.shown c.args.source.now c.args.hand.now in
    let inv = c.loop-place.invariant in
    let key : c.word.result ≡ get_or words (4 + 2 * c.loop-place.place) 0 = c.word.ensures.word ∙ ap (λ hand. get_or (g.W.Words.shown c.args.source.now hand) (4 + 2 * c.loop-place.place) 0) inv.same in
    place_here words (g.W.Words.long _ _ c.requires.sees) c.requires.pairs c.args.from c.loop-place.place (omega arith) inv.below (omega (arith, key, c.if-from-word.true))

pub returns-clause-place : goal.returns-clause-place
returns-clause-place g c =
    let words = g.W.Words.shown c.args.source.now c.args.hand.now in
    let all : c.loop-place.place ≡ c.args.count = omega arith in
    place_end words (g.W.Words.long _ _ c.requires.sees) c.requires.pairs c.args.from c.args.count c.requires.count (rw all at c.loop-place.invariant.below)
