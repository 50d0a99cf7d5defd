use Rattle.std.proofs.Common.{◌≡◌, ◌<◌, get_or, refl, ap, sym, subst, ◌∙◌, arith}
use Rattle.bl_page.specs.Pairs.{end_of, IsWithin, IsChildFor}
use Rattle.bl_page.specs.Faults.{level_in, pairs_of, HasPairs}
use Rattle.bl_page.specs.Nodes.{node_of}
use Rattle.bl_proc_routes.proofs.Spellings.{tree_pairs, tree_lists, inner_names, level_is, bounds_are}
use Rattle.bl_proc_routes.proofs.word_reads.step_within.Goals as goal

pub child_in-requires-clause-pairs : goal.child_in-requires-clause-pairs
child_in-requires-clause-pairs g c =
    let words = g.W.Words.shown c.args.source.now c.args.hand.now in
    subst (λ hand. HasPairs (g.W.Words.shown c.args.source.now hand)) (sym (c.word-high.ensures.same ∙ c.word-low.ensures.same)) (tree_pairs c.requires.page.0 words c.requires.page.1 c.requires.page.2)

pub child_in-requires-clause-pages : goal.child_in-requires-clause-pages
child_in-requires-clause-pages g c =
    let words = g.W.Words.shown c.args.source.now c.word-high.new.hand in
    let same = c.word-high.ensures.same ∙ c.word-low.ensures.same in
    let first = ap (λ hand. get_or (g.W.Words.shown c.args.source.now hand) 0 0) same in
    let some : 0 < level_in words = omega (arith, c.if-level-own.true, c.requires.head, first) in
    inner_names c.requires.page.0 words c.requires.page.1 (ap (λ hand. g.W.Words.shown c.args.source.now hand) same ∙ c.requires.page.2) some

pub returns-then-level-own-clause-leads : goal.returns-then-level-own-clause-leads
returns-then-level-own-clause-leads g c = λ p tree e.
    let words = g.W.Words.shown c.args.source.now c.args.hand.now in
    let level = level_is p words tree e in
    let within = bounds_are p words tree e in
    let low : c.word-low.result ≡ (node_of p).shape.low = c.word-low.ensures.word ∙ within.0 in
    let high : end_of c.word-high.result ≡ (node_of p).shape.end = ap end_of (c.word-high.ensures.word ∙ ap (λ hand. get_or (g.W.Words.shown c.args.source.now hand) 2 0) c.word-low.ensures.same) ∙ within.1 in
    let child = subst (λ hand. IsChildFor (pairs_of (g.W.Words.shown c.args.source.now hand)) c.args.key c.child_in.result) (c.word-high.ensures.same ∙ c.word-low.ensures.same) c.child_in.ensures.child in
    let inside : IsWithin c.word-low.result c.word-high.result c.args.key = (c.is_within.ensures).0 (rw c.if-not-is_within.false refl) in
    let look = tree_lists p words tree e in (
      tree,
      (omega (arith, inside.0, low), omega (arith, inside.1, high)),
      omega (arith, c.if-level-own.true, level, c.requires.head),
      record { key = child.key; listed = ap (λ look. look child.key) (sym look) ∙ child.listed; reached = child.reached; greatest = λ j other is. child.greatest j other (ap (λ look. look j) look ∙ is) },
    )
