use Rattle.std.proofs.Common.{rules, arith, ap}
use Rattle.bl_layout.specs.declared.layout.Layout.{Layout}
use Rattle.bl_store.specs.Drafts.{other_drafts}
use Rattle.bl_store_rule.proofs.Reserving.{writes}
use Rattle.bl_store.proofs.Living.{live_hand}
use Rattle.bl_store.proofs.Written.{next_draft, next_others, next_kept, next_there}
use Rattle.bl_store.proofs.store.Store.write_next.Goals as goal

pub store-requires : goal.store-requires
store-requires g c = let st = c.args.self.now in let wide = st.wide in let passes = ap (λ (z : Layout). z.passes) st.key in let spare_of = ap (λ (z : Layout). z.spare) st.key in let pages = ap (λ (z : Layout). z.pages) st.key in let low = c.requires.draft.0 in let first = c.requires.frame.1 in
    let own = c.requires.own.1 in
    (search rules, omega arith, writes _ _ _ _ _ _ _ c.args.frame c.args.at _ _ (other_drafts c.args.hand.now.seat) (omega arith) c.requires.draft.1.0 c.requires.draft.1.1 low (live_hand c.args.hand.now))

pub returns-clause-draft : goal.returns-clause-draft
returns-clause-draft g c = let has = c.requires.draft.1 in let is = c.store.ensures.2.4 _ _ (other_drafts c.args.hand.now.seat) has.0 in
    (next_draft _ _ _ _ _ has.0 has.1 is, next_others _ _ _ _ _ has.0 has.1 is)

pub returns-clause-kept : goal.returns-clause-kept
returns-clause-kept g c = let has = c.requires.draft.1 in next_kept _ _ _ _ _ has.0 has.1 (c.store.ensures.2.4 _ _ (other_drafts c.args.hand.now.seat) has.0)

pub returns-clause-there : goal.returns-clause-there
returns-clause-there g c = let has = c.requires.draft.1 in next_there _ _ _ _ _ has.0 has.1 (c.store.ensures.2.4 _ _ (other_drafts c.args.hand.now.seat) has.0)
