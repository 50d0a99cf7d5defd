use Rattle.std.proofs.Common.{ℕ, ◌-◌, sym, ap, subst, ◌∙◌}
use Rattle.bl_proc_steps.specs.declared.acts.Seen.TheVariants as seen
use Rattle.bl_proc_routes.specs.declared.routes.Step.TheVariants.{Again, Right, Down, Here}
use Rattle.bl_proc_routes.specs.Routes.{Leads}
use Rattle.bl_proc_writes.specs.declared.post.PostStage.TheVariants as post
use Rattle.bl_store.specs.Hands.{known, read_words}
use Rattle.bl_store.specs.declared.store.Hand.{Hand}
use Rattle.bl_index_rule.specs.declared.known.PassState.{PassState}
use Rattle.bl_index_edit.specs.declared.parents.Walked.TheVariants.{On, Found, Stale, Lost}
use Rattle.bl_index_events.specs.Runs.{IsSameProcess}
use Rattle.bl_index_edit.specs.Events.{HasWalked}
use Rattle.bl_index_events.proofs.Standing.{on_as, on_after, goes_takes, same_goes, course_at}
use Rattle.bl_index_edit.proofs.Walked.{walked_on, walked_found, walked_stale, walked_lost}
use Rattle.bl_index_edit.proofs.parents.walk_on.Goals as goal

pub look-glance-requires-clause-course : goal.look-glance-requires-clause-course
look-glance-requires-clause-course g c = λ page.
    let p = c.args.poster.now in let w = c.requires.walking in
    course_at (seen.Words page) _ _ w.is ((g.P.Poster.posts p).courses (post.Walking w.walk) w.below tt (seen.Words page) tt tt)

pub returns-then-low_in-key-clause-walked : goal.returns-then-low_in-key-clause-walked
returns-then-low_in-key-clause-walked g c =
    let p = c.args.poster.now in let level = g.P.Poster.level_of p in let key = g.P.Poster.key_of p in let staged = g.P.Poster.staged p in let layout = c.args.tree.now.store.layout in let w = c.requires.walking in
    let went = c.look-glance.ensures.goes in
    let takes = goes_takes _ _ _ went.2 in
    let leads = subst (λ (z : ℕ × ℕ). Leads went.0 z.0 (z.1 - 1) Here) (λ i. (c.key-key.ensures i, c.level-level.ensures i)) (c.in-Here.ensures.leads went.0 went.1) in
    let low = c.low_in.ensures.low went.0 leads.0 (ap (λ (h : Hand PassState). read_words h.seat) c.in-Here.ensures.same ∙ went.1) in
    let found = walked_found level key staged (g.P.Poster.opened p) (g.P.Poster.posts p) c.args.at c.args.child c.args.parent.now _ _ went.0 w takes leads (sym low ∙ (c.if-low_in-key.true ∙ c.key-key.ensures)) in
    subst (λ (h : Hand PassState). HasWalked level key staged layout c.args.at c.args.parent.now c.args.child (known h.seat) Found) (sym (c.low_in.ensures.same ∙ c.in-Here.ensures.same)) (w.below, found.0, found.1, on_as _ _ _ (on_after layout _ _ _ _ c.requires.runs.on went.2) found.2)

pub returns-then-low_in-key-clause-since : goal.returns-then-low_in-key-clause-since
returns-then-low_in-key-clause-since g c = subst (λ (h : Hand PassState). IsSameProcess (known c.args.hand.now.seat) (known h.seat)) (sym (c.low_in.ensures.same ∙ c.in-Here.ensures.same)) (same_goes _ _ _ c.look-glance.ensures.goes.2)

pub returns-else-low_in-key-clause-walked : goal.returns-else-low_in-key-clause-walked
returns-else-low_in-key-clause-walked g c =
    let p = c.args.poster.now in let level = g.P.Poster.level_of p in let key = g.P.Poster.key_of p in let staged = g.P.Poster.staged p in let layout = c.args.tree.now.store.layout in let w = c.requires.walking in
    let went = c.look-glance.ensures.goes in
    let takes = goes_takes _ _ _ went.2 in
    let leads = subst (λ (z : ℕ × ℕ). Leads went.0 z.0 (z.1 - 1) Here) (λ i. (c.key-key.ensures i, c.level-level.ensures i)) (c.in-Here.ensures.leads went.0 went.1) in
    let low = c.low_in.ensures.low went.0 leads.0 (ap (λ (h : Hand PassState). read_words h.seat) c.in-Here.ensures.same ∙ went.1) in
    let it = on_as _ _ _ (on_after layout _ _ _ _ c.requires.runs.on went.2) (walked_stale level key staged (g.P.Poster.opened p) (g.P.Poster.posts p) c.args.at c.args.child c.args.parent.now _ _ went.0 w takes leads (λ e. c.if-low_in-key.false (low ∙ (e ∙ sym c.key-key.ensures)))) in
    subst (λ (h : Hand PassState). HasWalked level key staged layout c.args.at c.args.parent.now c.args.child (known h.seat) Stale) (sym (c.low_in.ensures.same ∙ c.in-Here.ensures.same)) it

pub returns-else-low_in-key-clause-since : goal.returns-else-low_in-key-clause-since
returns-else-low_in-key-clause-since g c = subst (λ (h : Hand PassState). IsSameProcess (known c.args.hand.now.seat) (known h.seat)) (sym (c.low_in.ensures.same ∙ c.in-Here.ensures.same)) (same_goes _ _ _ c.look-glance.ensures.goes.2)

pub returns-then-next-eq0-clause-walked : goal.returns-then-next-eq0-clause-walked
returns-then-next-eq0-clause-walked g c =
    let p = c.args.poster.now in let level = g.P.Poster.level_of p in let key = g.P.Poster.key_of p in let staged = g.P.Poster.staged p in let layout = c.args.tree.now.store.layout in let w = c.requires.walking in
    let went = c.look-glance.ensures.goes in
    let takes = goes_takes _ _ _ went.2 in
    let leads = subst (λ (z : ℕ × ℕ). Leads went.0 z.0 (z.1 - 1) (Right c.in-Right.next)) (λ i. (c.key-key.ensures i, c.level-level.ensures i)) (c.in-Right.ensures.leads went.0 went.1) in
    let it = on_as _ _ _ (on_after layout _ _ _ _ c.requires.runs.on went.2) (walked_lost level key staged (g.P.Poster.opened p) (g.P.Poster.posts p) c.args.at c.args.child c.args.parent.now _ _ went.0 w takes (Right c.in-Right.next) leads c.if-next-eq0.true) in
    subst (λ (h : Hand PassState). HasWalked level key staged layout c.args.at c.args.parent.now c.args.child (known h.seat) Lost) (sym (c.in-Right.ensures.same)) it

pub returns-then-next-eq0-clause-since : goal.returns-then-next-eq0-clause-since
returns-then-next-eq0-clause-since g c = subst (λ (h : Hand PassState). IsSameProcess (known c.args.hand.now.seat) (known h.seat)) (sym (c.in-Right.ensures.same)) (same_goes _ _ _ c.look-glance.ensures.goes.2)

pub returns-else-next-eq0-clause-walked : goal.returns-else-next-eq0-clause-walked
returns-else-next-eq0-clause-walked g c =
    let p = c.args.poster.now in let level = g.P.Poster.level_of p in let key = g.P.Poster.key_of p in let staged = g.P.Poster.staged p in let layout = c.args.tree.now.store.layout in let w = c.requires.walking in
    let went = c.look-glance.ensures.goes in
    let takes = goes_takes _ _ _ went.2 in
    let leads = subst (λ (z : ℕ × ℕ). Leads went.0 z.0 (z.1 - 1) (Right c.in-Right.next)) (λ i. (c.key-key.ensures i, c.level-level.ensures i)) (c.in-Right.ensures.leads went.0 went.1) in
    subst (λ (h : Hand PassState). HasWalked level key staged layout c.args.at c.args.parent.now c.args.child (known h.seat) (On c.in-Right.next)) (sym (c.in-Right.ensures.same)) (on_after layout _ _ _ _ c.requires.runs.on went.2, walked_on level key staged (g.P.Poster.opened p) (g.P.Poster.posts p) c.args.at c.args.child c.args.parent.now _ _ went.0 w takes c.in-Right.next c.if-next-eq0.false leads)

pub returns-else-next-eq0-clause-since : goal.returns-else-next-eq0-clause-since
returns-else-next-eq0-clause-since g c = subst (λ (h : Hand PassState). IsSameProcess (known c.args.hand.now.seat) (known h.seat)) (sym (c.in-Right.ensures.same)) (same_goes _ _ _ c.look-glance.ensures.goes.2)

pub returns-in-Again-clause-walked : goal.returns-in-Again-clause-walked
returns-in-Again-clause-walked g c =
    let p = c.args.poster.now in let level = g.P.Poster.level_of p in let key = g.P.Poster.key_of p in let staged = g.P.Poster.staged p in let layout = c.args.tree.now.store.layout in let w = c.requires.walking in
    let went = c.look-glance.ensures.goes in
    let takes = goes_takes _ _ _ went.2 in
    let leads = subst (λ (z : ℕ × ℕ). Leads went.0 z.0 (z.1 - 1) Again) (λ i. (c.key-key.ensures i, c.level-level.ensures i)) (c.in-Again.ensures.leads went.0 went.1) in
    let it = on_as _ _ _ (on_after layout _ _ _ _ c.requires.runs.on went.2) (walked_lost level key staged (g.P.Poster.opened p) (g.P.Poster.posts p) c.args.at c.args.child c.args.parent.now _ _ went.0 w takes Again leads tt) in
    subst (λ (h : Hand PassState). HasWalked level key staged layout c.args.at c.args.parent.now c.args.child (known h.seat) Lost) (sym (c.in-Again.ensures.same)) it

pub returns-in-Again-clause-since : goal.returns-in-Again-clause-since
returns-in-Again-clause-since g c = subst (λ (h : Hand PassState). IsSameProcess (known c.args.hand.now.seat) (known h.seat)) (sym (c.in-Again.ensures.same)) (same_goes _ _ _ c.look-glance.ensures.goes.2)

pub returns-in-Down-clause-walked : goal.returns-in-Down-clause-walked
returns-in-Down-clause-walked g c =
    let p = c.args.poster.now in let level = g.P.Poster.level_of p in let key = g.P.Poster.key_of p in let staged = g.P.Poster.staged p in let layout = c.args.tree.now.store.layout in let w = c.requires.walking in
    let went = c.look-glance.ensures.goes in
    let takes = goes_takes _ _ _ went.2 in
    let leads = subst (λ (z : ℕ × ℕ). Leads went.0 z.0 (z.1 - 1) (Down c.in-Down._child)) (λ i. (c.key-key.ensures i, c.level-level.ensures i)) (c.in-Down.ensures.leads went.0 went.1) in
    let it = on_as _ _ _ (on_after layout _ _ _ _ c.requires.runs.on went.2) (walked_lost level key staged (g.P.Poster.opened p) (g.P.Poster.posts p) c.args.at c.args.child c.args.parent.now _ _ went.0 w takes (Down c.in-Down._child) leads tt) in
    subst (λ (h : Hand PassState). HasWalked level key staged layout c.args.at c.args.parent.now c.args.child (known h.seat) Lost) (sym (c.in-Down.ensures.same)) it

pub returns-in-Down-clause-since : goal.returns-in-Down-clause-since
returns-in-Down-clause-since g c = subst (λ (h : Hand PassState). IsSameProcess (known c.args.hand.now.seat) (known h.seat)) (sym (c.in-Down.ensures.same)) (same_goes _ _ _ c.look-glance.ensures.goes.2)
