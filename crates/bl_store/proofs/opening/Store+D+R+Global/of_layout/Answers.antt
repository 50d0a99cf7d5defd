use Rattle.std.proofs.Common.{arith, ◌≡◌, ℕ, List, [], ◌∷◌, ◌++◌, length, replicate, take_all, ap, sym, subst, ◌∙◌}
use Rattle.std.proofs.lemmas.List.{take-append-le, replicate_more}
use Rattle.atomic_table.specs.Table.{opening}
use Rattle.bl_layout.specs.Cells.{cell_count}
use Rattle.bl_store_rule.specs.Frames.{Kept, starting}
use Rattle.bl_store.specs.Opening.{padded}
use Rattle.bl_store.proofs.Dealing.{opens_with, laid_padded, padded_long}
use Rattle.bl_store.proofs.opening.Store+D+R+Global.of_layout.Goals as goal

pub of_words-requires : goal.of_words-requires
of_words-requires g c = let ws : List ℕ = c.lay.new.words in let size : length ws ≡ c.loop.words.len = c.lay.auto.words ∙ c.as_mut_slice.ensures.len in
    let is : c.as_slice.result.now ≡ ws = c.as_slice.ensures.value ∙ (take-append-le c.loop.words.len ws _ (omega arith) ∙ take_all _ _ (omega arith)) in
    let holds = g.R.PageRule.holds in let known : c.of.result.value ≡ c.args.known.now = c.of.ensures in
    subst (λ (z : List ℕ × g.row.D.Denot). Kept {S = Unit {0}} c.args.layout z.1 holds (opening z.0 [] (starting c.args.layout z.1))) (λ i. (sym is i, sym known i)) (opens_with c.args.layout (padded c.args.layout.pages (g.F.FirstWords.contents c.args.first)) c.args.known.now holds ws (padded_long c.args.layout.pages (g.F.FirstWords.contents c.args.first) c.requires.pages) (laid_padded c.args.layout (g.F.FirstWords.contents c.args.first) ws c.requires.pages c.lay.ensures) c.requires.rule)

pub loop-init : goal.loop-init
loop-init g c = c.in_ok-words.ensures.items

pub loop-preserved : goal.loop-preserved
loop-preserved g c = c.in_ok-push.ensures.items ∙ (ap (λ (xs : List ℕ). xs ++ 0 ∷ []) c.loop.invariant ∙ replicate_more c.loop.counter 0)

pub lay-requires-clause-pages : goal.lay-requires-clause-pages
lay-requires-clause-pages g c = c.requires.pages

pub lay-requires-clause-words : goal.lay-requires-clause-words
lay-requires-clause-words g c = let auto = c.loop.auto in let over = c.loop-test.false in let all : c.loop.counter ≡ cell_count c.args.layout = omega (arith, c.cells-end.ensures) in
    c.as_mut_slice.ensures.value ∙ (c.loop.invariant ∙ ap (λ (n : ℕ). replicate n 0) all)
