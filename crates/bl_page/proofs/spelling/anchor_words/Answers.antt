use Rattle.std.proofs.Common.{[], ◌∷◌, ◌++◌, length, take, set, ap, ◌∙◌, sym, arith, ◌+◌}
use Rattle.std.proofs.lemmas.List.{take_more, length-take-le}
use Rattle.bl_page.specs.Words.{layout, head}
use Rattle.bl_page.proofs.Writing.{layout_more}
use Rattle.bl_page.proofs.spelling.anchor_words.Goals as goal

pub loop-i-preserved : goal.loop-i-preserved
loop-i-preserved c =
    let pages = c.args.leftmost.now in
    let first = head 1 0 (length pages) in
    let long = length-take-le c.loop-i.i pages c.loop-i.auto.i-end in
    ap (λ t. set t (4 + c.loop-i.i) c.from.result) c.loop-i.invariant
    ∙ layout_more first 0 0 0 (take c.loop-i.i pages) (4 + c.loop-i.i) c.loop-i.i c.from.result (sym long) (omega arith) (omega arith)
    ∙ ap (layout first 0 0 0) (ap (λ v. take c.loop-i.i pages ++ v ∷ []) c.from.ensures ∙ sym (take_more pages c.loop-i.i 0 c.loop-i-test.true))
