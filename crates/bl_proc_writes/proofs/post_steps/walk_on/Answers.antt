use Rattle.std.proofs.Common.{refl, sym, subst}
use Rattle.bl_proc_routes.specs.declared.routes.Step.TheVariants.{Right}
use Rattle.bl_proc_writes.specs.Posts.{PostWalks}
use Rattle.bl_proc_writes.proofs.post_steps.walk_on.Goals as goal

pub returns-then-next-eq0 : goal.returns-then-next-eq0
returns-then-next-eq0 c = subst (PostWalks c.args.level c.args.walk c.args.page.now) (sym c.again.ensures) (refl, (Right c.args.next, c.requires, c.if-next-eq0.true))
