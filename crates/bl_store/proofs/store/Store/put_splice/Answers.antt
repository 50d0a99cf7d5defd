use Rattle.std.proofs.Common.{arith, ◌≡◌, ℕ, ◌-◌, List, [], get_or, ap, sym, subst, refl, ◌∙◌}
use Rattle.bl_store.specs.Drafts.{draft_words, behind_first}
use Rattle.bl_store_rule.specs.Pages.{Held, Puts}
use Rattle.bl_store.specs.Hands.{drafts}
use Rattle.bl_store.proofs.Written.{drafts_pop, has_draft, stock_after, splice_one}
use Rattle.bl_store.proofs.store.Store.put_splice.Goals as goal

pub write_splice-requires-clause-draft : goal.write_splice-requires-clause-draft
write_splice-requires-clause-draft g c = let fs : List ℕ = c.args.stock.now.frames in let n : ℕ = c.args.stock.now.count in let some_frame = c.requires.stock.1 in
    has_draft c.args.hand.now.seat.me.0.stock (get_or fs (n - 1) 0) 0 [] (drafts fs (n - 1)) (c.requires.stock.0.frames ∙ drafts_pop fs n (omega arith)) refl

pub name_frame-requires-clause-rule : goal.name_frame-requires-clause-rule
name_frame-requires-clause-rule g c = let quiet = c.write_splice.ensures.same in let rule = c.requires.rule in
    let number : c.args.hand.now.number ≡ c.write_splice.new.hand.number = c.args.hand.now.own.0 ∙ (sym quiet.2 ∙ sym c.write_splice.new.hand.own.0) in
    let words : rule.0 ≡ draft_words c.write_splice.new.hand.seat = splice_one c.args.change _ _ _ c.requires.at.1 rule.1 c.write_splice.ensures.words in
    subst (λ (z : ℕ × g.row.D.Denot × List ℕ). Puts g.R.PageRule.holds c.args.self.now.layout z.0 z.1 c.args.page z.2 g.M.PagePlay.then) (λ i. (number i, sym quiet.4 i, words i)) rule.2

pub returns-clause-stock : goal.returns-clause-stock
returns-clause-stock g c = let fs : List ℕ = c.args.stock.now.frames in let n : ℕ = c.args.stock.now.count in let some_frame = c.requires.stock.1 in let quiet = c.write_splice.ensures.same in let puts = quiet.5 in let r = c.name_frame.ensures in let ticks = r.stock.1 in
    let left = r.stock.0 ∙ (c.write_splice.ensures.draft.1 ∙ ap behind_first (c.requires.stock.0.frames ∙ drafts_pop fs n (omega arith))) in
    (stock_after c.args.hand.now.seat _ c.args.stock.now _ c.requires.stock.0 refl (omega arith) left (omega arith) (r.same.0.1 ∙ quiet.1), omega arith, refl)

pub returns-clause-observed : goal.returns-clause-observed
returns-clause-observed g c = let quiet = c.write_splice.ensures.same in let t = c.name_frame.ensures.observed in
    let number : c.write_splice.new.hand.number ≡ c.args.hand.now.number = c.write_splice.new.hand.own.0 ∙ (quiet.2 ∙ sym c.args.hand.now.own.0) in
    (t.0, subst (λ (z : g.row.D.Denot × ℕ). g.M.PagePlay.then z.0 c.args.page (Held z.1) t.0 c.name_frame.new.hand.seat.me.0.known) (λ i. (quiet.4 i, number i)) t.1)
