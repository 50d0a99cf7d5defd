use Rattle.std.proofs.Common.{ℕ, ◌≡◌, ◌+◌, ◌-◌, ◌*◌, get_or, refl, ap, ◌∙◌, arith}
use Rattle.bl_index_read.proofs.Picked.{none_more, ends_here, ends_first}
use Rattle.bl_index_read.proofs.leaf_rows.place_below.Goals as goal

pub loop-behind-init : goal.loop-behind-init
loop-behind-init g c = record { same = refl; none = λ j low lt. absurd (let n = c.requires.count in omega arith) }

pub loop-behind-preserved : goal.loop-behind-preserved
loop-behind-preserved g c =
    let words = g.W.Words.shown c.args.source.now c.args.hand.now in
    let inv = c.loop-behind.invariant in
    let last : ℕ = c.args.count - c.loop-behind.behind in
    let key : c.word.result ≡ get_or words (2 + 2 * last) 0 = c.word.ensures.word ∙ ap (λ hand. get_or (g.W.Words.shown c.args.source.now hand) (2 + 2 * last) 0) inv.same in
    record {
      same = c.word.ensures.same ∙ inv.same;
      none = λ j low lt. none_more words (g.W.Words.long _ _ c.requires.sees) c.requires.pairs c.args.end last (omega arith) (omega (arith, c.requires.count)) inv.none (omega (arith, key, c.if-word-end.false)) j (omega arith) lt;
    }

pub returns-then-word-end-clause-ends : goal.returns-then-word-end-clause-ends
returns-then-word-end-clause-ends g c =
    let words = g.W.Words.shown c.args.source.now c.args.hand.now in
    let inv = c.loop-behind.invariant in
    let last : ℕ = c.args.count - c.loop-behind.behind in
    let key : c.word.result ≡ get_or words (2 + 2 * last) 0 = c.word.ensures.word ∙ ap (λ hand. get_or (g.W.Words.shown c.args.source.now hand) (2 + 2 * last) 0) inv.same in
    (ends_here words (g.W.Words.long _ _ c.requires.sees) c.requires.pairs c.args.end c.args.first last (omega arith) (omega (arith, c.requires.count)) inv.none (omega (arith, key, c.if-word-end.true)))

pub returns-clause-ends : goal.returns-clause-ends
returns-clause-ends g c =
    let words = g.W.Words.shown c.args.source.now c.args.hand.now in
    let all : c.args.count - c.loop-behind.behind ≡ c.args.first = let h = c.requires.first in omega arith in
    ends_first words (g.W.Words.long _ _ c.requires.sees) c.requires.pairs c.args.end c.args.first (omega (arith, c.requires.count, c.requires.first)) (rw all at c.loop-behind.invariant.none)
