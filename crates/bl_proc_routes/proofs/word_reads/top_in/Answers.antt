use Rattle.std.proofs.Common.{◌≡◌, ◌+◌, ◌%◌, ◌^◌, get_or, ap, ◌∙◌, arith}
use Rattle.bl_page.specs.Faults.{kind_in, count_in}
use Rattle.bl_proc_routes.proofs.Spellings.{top_is}
use Rattle.bl_proc_routes.proofs.word_reads.top_in.Goals as goal

pub overflow_cast-result : goal.overflow_cast-result
overflow_cast-result g c =
    let words = g.W.Words.shown c.args.source.now c.args.hand.now in
    let one : kind_in words ≡ 1 = omega (arith, c.word-head.ensures.word, c.if-head-eq1.true) in
    let top = top_is c.requires.page.0 words c.requires.page.1 one in
    let read : c.word.result ≡ get_or words (3 + count_in words) 0 = c.word.ensures.word ∙ ap (λ hand. get_or (g.W.Words.shown c.args.source.now hand) (3 + c.word-head.result % 2 ^ 16) 0) c.word-head.ensures.same ∙ ap (λ w. get_or words (3 + w % 2 ^ 16) 0) c.word-head.ensures.word in
    record { fits = omega (arith, top.1, read) }

pub returns-then-head-eq1-clause-top : goal.returns-then-head-eq1-clause-top
returns-then-head-eq1-clause-top g c = λ p e.
    let words = g.W.Words.shown c.args.source.now c.args.hand.now in
    let one : kind_in words ≡ 1 = omega (arith, c.word-head.ensures.word, c.if-head-eq1.true) in
    let read : c.word.result ≡ get_or words (3 + count_in words) 0 = c.word.ensures.word ∙ ap (λ hand. get_or (g.W.Words.shown c.args.source.now hand) (3 + c.word-head.result % 2 ^ 16) 0) c.word-head.ensures.same ∙ ap (λ w. get_or words (3 + w % 2 ^ 16) 0) c.word-head.ensures.word in
    read ∙ (top_is p words e one).0
