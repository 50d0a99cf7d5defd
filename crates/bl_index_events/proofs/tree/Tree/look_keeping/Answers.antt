use Rattle.std.proofs.Common.{ℕ, ◌∷◌, refl, sym, ap, ◌∙◌}
use Rattle.bl_store_rule.specs.Observed.{look}
use Rattle.bl_store.specs.Hands.{known}
use Rattle.bl_index_rule.proofs.Pages.{gets_kept_page}
use Rattle.bl_index_events.proofs.tree.Tree.look_keeping.Goals as goal

pub glance_keeping-requires-clause-rule : goal.glance_keeping-requires-clause-rule
glance_keeping-requires-clause-rule c = gets_kept_page _ _ (known c.args.hand.now.seat) c.requires.runs.on.runs _ c.requires.next c.requires.course

pub returns-clause-goes : goal.returns-clause-goes
returns-clause-goes c = let observed = c.in-Some.ensures.observed in let page = observed.4.0 in (page.0, sym observed.3.1 ∙ page.1, page.2)

pub returns-clause-firm : goal.returns-clause-firm
returns-clause-firm c = c.in-Some.ensures.observed.4.2

pub returns-clause-keeps : goal.returns-clause-keeps
returns-clause-keeps c =
    let observed = c.in-Some.ensures.observed in
    let keeps = observed.5 _ refl in
    (keeps.0, keeps.1 ∙ ap (λ (version : ℕ). look c.args.page keeps.0 version ∷ c.args.hand.now.seat.me.0.kept) observed.4.1, keeps.2)
