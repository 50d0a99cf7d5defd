use Rattle.std.proofs.Common.{refl, sym, subst, ◌∙◌, List, Option, [], arith}
use Rattle.bl_page.specs.declared.page.Page.{Page}
use Rattle.bl_store.specs.Opening.{first_pages, padded}
use Rattle.bl_claims.specs.Seeing.{IsSeen}
use Rattle.bl_index_rule.specs.Simulation.{beginner, Simulates}
use Rattle.bl_index_rule.proofs.Starts.{newcomer_seen}
use Rattle.bl_index.proofs.Firsts.{opens, pads, if_ok, begun_as}
use Rattle.bl_index.proofs.index.Index.made.Goals as goal

pub begun-requires-clause-words : goal.begun-requires-clause-words
begun-requires-clause-words c = (let count = c.in_ok-words.ensures.count in let few = c.requires.pages in omega arith)

pub begun-requires-clause-same : goal.begun-requires-clause-same
begun-requires-clause-same c = c.of-observed.ensures ∙ sym c.of-first.ensures

pub begun-requires-clause-rule : goal.begun-requires-clause-rule
begun-requires-clause-rule c = let few = c.requires.pages.0 in subst (λ (z : List (Option Page)). Simulates (first_pages (padded c.args.config.pages c.in_ok-words.words.items) c.args.config.passes (beginner z))) (sym (c.of-first.ensures ∙ c.no_pages-image.ensures))
    (opens c.args.config.pages (padded c.args.config.pages c.in_ok-words.words.items) c.requires.pages.0 (pads c.args.config.pages c.in_ok-words.words.items (omega (arith, few)) c.in_ok-words.ensures) c.args.config.passes)

pub begun-requires-clause-seen : goal.begun-requires-clause-seen
begun-requires-clause-seen c = subst (λ (z : List (Option Page)). IsSeen z []) (sym (c.of-first.ensures ∙ c.no_pages-image.ensures)) newcomer_seen

pub returns : goal.returns
returns c = if_ok _ _ c.begun.result (λ t begun. begun_as _ _ _ _ _ t.0 t.1.items (c.of-first.ensures ∙ c.no_pages-image.ensures) refl begun) c.begun.ensures
