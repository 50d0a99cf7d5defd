use Rattle.std.proofs.Common.{ℕ, ◌≡◌, ◌+◌, ◌-◌, ◌*◌, get_or, refl, ap, ◌∙◌, arith}
use Rattle.bl_index_read.proofs.Picked.{none_more, count_here, count_none}
use Rattle.bl_index_read.proofs.leaf_rows.count_to.Goals as goal

pub loop-behind-init : goal.loop-behind-init
loop-behind-init g c = record { same = refl; none = λ j low lt. absurd (let n = c.requires.count in omega arith) }

pub loop-behind-preserved : goal.loop-behind-preserved
loop-behind-preserved g c =
    let words = g.W.Words.shown c.args.source.now c.args.hand.now in
    let inv = c.loop-behind.invariant in
    let last : ℕ = c.args.count - c.loop-behind.behind in
    let key : c.word.result ≡ get_or words (2 + 2 * last) 0 = c.word.ensures.word ∙ ap (λ hand. get_or (g.W.Words.shown c.args.source.now hand) (2 + 2 * last) 0) inv.same in
    record {
      same = c.word.ensures.same ∙ inv.same;
      none = λ j low lt. none_more words (g.W.Words.long _ _ c.requires.sees) c.requires.pairs (c.args.from + 1) last (omega arith) (omega (arith, c.requires.count)) inv.none (omega (arith, key, c.if-word-from.false)) j (omega arith) lt;
    }

pub returns-then-word-from-clause-count : goal.returns-then-word-from-clause-count
returns-then-word-from-clause-count g c =
    let words = g.W.Words.shown c.args.source.now c.args.hand.now in
    let inv = c.loop-behind.invariant in
    let last : ℕ = c.args.count - c.loop-behind.behind in
    let key : c.word.result ≡ get_or words (2 + 2 * last) 0 = c.word.ensures.word ∙ ap (λ hand. get_or (g.W.Words.shown c.args.source.now hand) (2 + 2 * last) 0) inv.same in
    count_here words (g.W.Words.long _ _ c.requires.sees) c.requires.pairs c.args.from last (omega arith) (omega (arith, c.requires.count)) inv.none (omega (arith, key, c.if-word-from.true))

pub returns-clause-count : goal.returns-clause-count
returns-clause-count g c =
    let words = g.W.Words.shown c.args.source.now c.args.hand.now in
    let all : c.args.count - c.loop-behind.behind ≡ 0 = omega arith in
    count_none words (g.W.Words.long _ _ c.requires.sees) c.requires.pairs c.args.from (rw all at c.loop-behind.invariant.none)
