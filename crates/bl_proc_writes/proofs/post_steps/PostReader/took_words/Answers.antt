use Rattle.std.proofs.Common.{refl, sym, ap, subst, ◌∙◌}
use Rattle.bl_proc_steps.specs.declared.acts.Seen.TheVariants as seen
use Rattle.bl_proc_steps.specs.declared.approach.Approach.TheVariants.{At}
use Rattle.bl_proc_steps.specs.declared.approach.Approached.TheVariants as came
use Rattle.bl_proc_steps.specs.declared.approach.Came.TheVariants as come
use Rattle.bl_proc_steps.specs.Approaches.{Approaches}
use Rattle.bl_proc_writes.specs.declared.post.PostStage.TheVariants.{Coming}
use Rattle.bl_proc_writes.specs.Posts.{PostGoes}
use Rattle.bl_proc_writes.proofs.post_steps.PostReader.took_words.Goals as goal

pub returns-in-At-clause-takes : goal.returns-in-At-clause-takes
returns-in-At-clause-takes g c = λ page shown.
    let p = c.args.self.now in
    let a = At c.in-At.field-0 in
    let b = c.took_words.result in
    let way : Approaches p.level p.key a (seen.Words page) (came.On b) = subst (λ z. Approaches p.level p.key z (seen.Words page) (came.On b)) c.in-At.is (c.took_words.ensures.goes page shown) in
    let goes : PostGoes p.level p.key (Coming a) (seen.Words page) (Coming b) = (come.On b, (tt, way), refl) in
    (refl, refl, subst (λ stage. PostGoes p.level p.key stage (seen.Words page) (Coming b)) (sym (c.in-Coming.is ∙ ap Coming c.in-At.is)) goes)
