use Rattle.std.proofs.Common.{rules, refl, sym, subst, ◌∙◌}
use Rattle.bl_proc_steps.specs.declared.acts.Seen.TheVariants as seen
use Rattle.bl_proc_steps.specs.declared.approach.Approach.TheVariants as approach
use Rattle.bl_proc_writes.specs.declared.post.PostStage.TheVariants as post
use Rattle.bl_proc.specs.declared.kinds.Proc.TheVariants as proc
use Rattle.bl_store.specs.Hands.{known, IsRunning, HasNoStock}
use Rattle.bl_store.specs.declared.store.Hand.{Hand}
use Rattle.bl_index_rule.specs.declared.known.PassState.{PassState}
use Rattle.bl_proc_deterministic.proofs.Posts.{post_goes}
use Rattle.bl_index_events.specs.Runs.{IsOn}
use Rattle.bl_index_events.proofs.Standing.{on_as}
use Rattle.bl_index_write.proofs.Underway.{underway_looked}
use Rattle.bl_index_write.proofs.posting.looked_up.Goals as goal

pub returns-clause-underway : goal.returns-clause-underway
returns-clause-underway c =
    let j = c.args.target in let anchor = c.requires.anchor in
    let takes = c.took_words.ensures.takes anchor.page anchor.is in
    let course = post_goes (record { level = j.level; key = j.key; stage = post.Coming approach.Start; least = j.least; most = j.most; below = tt }) (seen.Words anchor.page) refl tt in
    let stands = course.only _ anchor.takes ∙ sym (course.only (proc.Post c.took_words.new.self) takes) in
    let on = subst (λ (h : Hand PassState). IsOn c.args.tree.now.store.layout (known h.seat) (proc.Post c.took_words.new.self)) (sym c.took_words.ensures.same) (on_as _ _ _ c.requires.runs.on stands) in
    let running = subst (λ (h : Hand PassState). IsRunning h.seat) (sym c.took_words.ensures.same) (search rules) in
    let empty = subst (λ (h : Hand PassState). HasNoStock h.seat) (sym c.took_words.ensures.same) c.requires.empty in
    underway_looked c.args.tree.now c.took_words.new.hand j c.took_words.new.self empty anchor.page takes (record { own = search rules; running = running; on = on })
