use Rattle.std.proofs.Common.{◌+◌, ◌*◌, take, set, get_or, ap, ◌∙◌, sym, arith}
use Rattle.std.proofs.lemmas.List.{take_more, length-take-le}
use Rattle.bl_page.specs.Words.{layout, entries_of}
use Rattle.bl_page.proofs.Writing.{layout_pair}
use Rattle.bl_page.proofs.spelling.pair_words.Goals as goal

pub loop-i-preserved : goal.loop-i-preserved
loop-i-preserved c =
    let pairs = c.args.pairs.now in
    let i = c.loop-i.i in
    let pair = get_or pairs i (0, 0) in
    let long = length-take-le i pairs c.loop-i.auto.i-end in
    ap (λ t. set (set t (4 + 2 * i) pair.0) (5 + 2 * i) pair.1) c.loop-i.invariant
    ∙ layout_pair c.args.first c.args.low c.args.high c.args.right (take i pairs) i (4 + 2 * i) (5 + 2 * i) (sym long) (omega arith) (omega arith) (omega arith) pair
    ∙ ap (λ t. layout c.args.first c.args.low c.args.high c.args.right (entries_of t)) (sym (take_more pairs i (0, 0) c.loop-i-test.true))
