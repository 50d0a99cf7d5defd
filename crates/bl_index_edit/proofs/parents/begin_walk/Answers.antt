use Rattle.std.proofs.Common.{ℕ, ◌-◌, ◌<◌, sym, ap, subst, ◌∙◌}
use Rattle.bl_page.specs.Nodes.{node_of}
use Rattle.bl_proc_routes.specs.declared.routes.Step.TheVariants.{Here, Down}
use Rattle.bl_proc_routes.specs.Routes.{Leads}
use Rattle.bl_store.specs.Hands.{read_words}
use Rattle.bl_store.specs.declared.store.Hand.{Hand}
use Rattle.bl_index_rule.specs.declared.known.PassState.{PassState}
use Rattle.bl_index_events.proofs.Standing.{none_of}
use Rattle.bl_index_edit.proofs.Walked.{stands_already, stands_walking}
use Rattle.bl_index_edit.proofs.parents.begin_walk.Goals as goal

pub returns-in-Some-clause-begins : goal.returns-in-Some-clause-begins
returns-in-Some-clause-begins g c =
    let p = c.args.poster.now in let there = c.requires.there in
    let row = c.row_in.ensures.row there.page there.is ∙ ap (λ z. (node_of there.page).look z) c.key-key.ensures in
    stands_already (g.P.Poster.level_of p) (g.P.Poster.key_of p) (g.P.Poster.staged p) (g.P.Poster.opened p) (g.P.Poster.posts p) c.args.at there.page _ there.takes there.leads c.in-Some._child (sym c.in-Some.is ∙ row)

pub first_child-requires-clause-least : goal.first_child-requires-clause-least
first_child-requires-clause-least g c = subst (λ (z : ℕ). 0 < z) (sym c.level.ensures) (g.P.Poster.posts c.args.poster.now).least

pub first_child-requires-clause-page : goal.first_child-requires-clause-page
first_child-requires-clause-page g c =
    let there = c.requires.there in
    (there.page, c.words_from.ensures.words ∙ (ap (λ (h : Hand PassState). read_words h.seat) c.row_in.ensures.same ∙ there.is), subst (λ (z : ℕ × ℕ). Leads there.page z.0 z.1 Here) (λ i. (sym c.key-key.ensures i, sym c.level.ensures i)) there.leads)

pub returns-clause-begins : goal.returns-clause-begins
returns-clause-begins g c =
    let p = c.args.poster.now in let level = g.P.Poster.level_of p in let key = g.P.Poster.key_of p in let staged = g.P.Poster.staged p in let there = c.requires.there in
    let is = c.words_from.ensures.words ∙ (ap (λ (h : Hand PassState). read_words h.seat) c.row_in.ensures.same ∙ there.is) in
    let none = sym (none_of c.row_in.result c.in_default.not-Some) ∙ (c.row_in.ensures.row there.page there.is ∙ ap (λ z. (node_of there.page).look z) c.key-key.ensures) in
    let down = subst (λ (z : ℕ × ℕ). Leads there.page z.0 (z.1 - 1) (Down c.first_child.result)) (λ i. (c.key-key.ensures i, c.level.ensures i)) (c.first_child.ensures there.page is) in
    stands_walking level key staged (g.P.Poster.opened p) (g.P.Poster.posts p) c.args.at c.first_child.result there.page c.words_from.result _ there.takes is there.leads none down
