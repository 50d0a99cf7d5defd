use Rattle.std.proofs.Common.{rules, arith, ◌≡◌, ◌∷◌, length, ap, ◌∙◌, ext_get_or}
use Rattle.bl_store.specs.Drafts.{draft_words, other_drafts, behind_first}
use Rattle.bl_store_rule.specs.Observed.{draft}
use Rattle.bl_store.proofs.store.Store.write.Goals as goal

pub returns-clause-stock : goal.returns-clause-stock
returns-clause-stock g c = λ ds has.
    let inv = c.loop-pair.invariant in
    let size : length c.args.words.now ≡ 32 = search rules in
    let words : draft_words c.loop-pair.hand.seat ≡ c.args.words.now = ext_get_or 0 _ _ (omega (arith, inv.draft.1, size)) (λ k low. inv.written k (omega (arith, inv.draft.1, low))) in
    let others : other_drafts c.loop-pair.hand.seat ≡ ds = inv.others ∙ ap behind_first has in
    inv.draft.0 ∙ (ap (λ xs. draft c.args.frame xs ∷ other_drafts c.loop-pair.hand.seat) words ∙ ap (λ rest. draft c.args.frame c.args.words.now ∷ rest) others)
