use Rattle.std.proofs.Common.{rules, arith, List, get_or, ap, ◌∙◌}
use Rattle.bl_layout.specs.declared.layout.Layout.{Layout}
use Rattle.bl_store.specs.Drafts.{draft_words, other_drafts, first_words, behind_first}
use Rattle.bl_store_rule.specs.declared.view.Draft.{Draft}
use Rattle.bl_store_rule.proofs.Reserving.{confirms}
use Rattle.bl_store.proofs.Living.{live_hand}
use Rattle.bl_store.proofs.Written.{has_draft, next_draft, next_others, next_kept, next_there}
use Rattle.bl_store.proofs.store.Store.write_blank.Goals as goal

pub load-requires : goal.load-requires
load-requires g c = let st = c.args.self.now in let wide = st.wide in let passes = ap (λ (z : Layout). z.passes) st.key in let spare_of = ap (λ (z : Layout). z.spare) st.key in let pages = ap (λ (z : Layout). z.pages) st.key in let low = c.requires.draft.0 in let first = c.requires.frame.1 in
    let own = c.requires.own.1 in
    (search rules, omega arith, confirms _ _ _ _ _ _ c.args.frame c.args.at _ _ (other_drafts c.args.hand.now.seat) (omega arith) c.requires.draft.1.0 c.requires.draft.1.1 low (live_hand c.args.hand.now))

pub write_next-requires-clause-draft : goal.write_next-requires-clause-draft
write_next-requires-clause-draft g c = let has = c.requires.draft.1 in let is = (c.load.ensures.2.4 _ _ (other_drafts c.args.hand.now.seat) has.0).1 c.if-load-ne0.true in
    (c.requires.draft.0, has_draft _ _ _ (draft_words c.args.hand.now.seat) (other_drafts c.args.hand.now.seat) is has.1)

pub returns-then-load-ne0-clause-draft : goal.returns-then-load-ne0-clause-draft
returns-then-load-ne0-clause-draft g c = let has = c.requires.draft.1 in let is = (c.load.ensures.2.4 _ _ (other_drafts c.args.hand.now.seat) has.0).1 c.if-load-ne0.true in let next = c.write_next.ensures.draft in
    (next.0, next.1 ∙ ap behind_first is)

pub returns-then-load-ne0-clause-kept : goal.returns-then-load-ne0-clause-kept
returns-then-load-ne0-clause-kept g c = let has = c.requires.draft.1 in let is = (c.load.ensures.2.4 _ _ (other_drafts c.args.hand.now.seat) has.0).1 c.if-load-ne0.true in
    λ k low. c.write_next.ensures.kept k low ∙ ap (λ (z : List Draft). get_or (first_words z) k 0) is

pub returns-else-load-ne0-clause-draft : goal.returns-else-load-ne0-clause-draft
returns-else-load-ne0-clause-draft g c = let has = c.requires.draft.1 in let is = (c.load.ensures.2.4 _ _ (other_drafts c.args.hand.now.seat) has.0).0 c.if-load-ne0.false in
    (next_draft _ _ _ _ _ has.0 has.1 is, next_others _ _ _ _ _ has.0 has.1 is)

pub returns-else-load-ne0-clause-kept : goal.returns-else-load-ne0-clause-kept
returns-else-load-ne0-clause-kept g c = let has = c.requires.draft.1 in next_kept _ _ _ _ _ has.0 has.1 ((c.load.ensures.2.4 _ _ (other_drafts c.args.hand.now.seat) has.0).0 c.if-load-ne0.false)

pub returns-else-load-ne0-clause-there : goal.returns-else-load-ne0-clause-there
returns-else-load-ne0-clause-there g c = let has = c.requires.draft.1 in next_there _ _ _ _ _ has.0 has.1 ((c.load.ensures.2.4 _ _ (other_drafts c.args.hand.now.seat) has.0).0 c.if-load-ne0.false)
