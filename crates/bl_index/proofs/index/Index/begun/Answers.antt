use Rattle.std.proofs.Common.{ℕ, refl, sym, ap, subst, ◌∙◌}
use Rattle.bl_layout.specs.declared.layout.Layout.{Layout}
use Rattle.bl_layout.specs.Words.{frame_count, HasFrames}
use Rattle.bl_store.specs.Opening.{first_pages, padded}
use Rattle.bl_index_rule.specs.declared.known.PassState.{PassState}
use Rattle.bl_index_rule.specs.Simulation.{beginner, Simulates}
use Rattle.bl_index.specs.Opened.{AreNew}
use Rattle.bl_index.proofs.Firsts.{new_hands, is_begun}
use Rattle.bl_index.proofs.index.Index.begun.Goals as goal

pub of_layout-requires-clause-rule : goal.of_layout-requires-clause-rule
of_layout-requires-clause-rule g c = let sizes = c.of-layout.ensures.sizes in let knew = sym (c.beginner-known.ensures ∙ ap beginner c.requires.same) in
    subst (λ (z : ℕ × ℕ × PassState). Simulates (first_pages (padded z.0 (g.F.FirstWords.contents c.args.words)) z.1 z.2)) (λ i. (sym sizes.0 i, sym sizes.1 i, knew i)) c.requires.rule

pub passes_of-requires-clause-hands : goal.passes_of-requires-clause-hands
passes_of-requires-clause-hands g c = subst (λ (z : Layout). AreNew c.in_ok-store.store.table.shared.table_id z c.args.first 0 c.in_ok-store.hands.items) (sym c.in_ok-store.ensures.layout)
    (new_hands _ _ _ _ _ _ (c.beginner-known.ensures ∙ ap beginner c.requires.same) c.in_ok-store.ensures.hands)

pub passes_of-requires-clause-seen : goal.passes_of-requires-clause-seen
passes_of-requires-clause-seen g c = c.requires.seen

pub returns : goal.returns
returns g c = let sizes = c.of-layout.ensures.sizes in let laid = c.in_ok-store.ensures.layout in
    is_begun c.args.first c.args.first _ _ _ _ _ (ap (λ (z : Layout). z.pages) laid ∙ sizes.0) (ap (λ (z : Layout). z.passes) laid ∙ sizes.1) (subst (λ (z : Layout). HasFrames c.args.config.pages c.args.config.passes (frame_count z)) (sym laid) c.of-layout.ensures.frames) (c.in_ok-store.ensures.hands.count ∙ sizes.1) c.in_ok-made.ensures (ap (λ (z : PassState). z.first) (c.in_ok-store.ensures.known ∙ c.beginner-known.ensures) ∙ c.requires.same) refl c.requires.seen
