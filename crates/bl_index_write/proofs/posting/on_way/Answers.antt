use Rattle.bl_proc_writes.specs.declared.post.PostStage.TheVariants as post
use Rattle.bl_index_write.proofs.Underway.{post_is}
use Rattle.bl_index_write.proofs.posting.on_way.Goals as goal

pub returns : goal.returns
returns c = post_is c.args.target (post.Coming c.args.way) _ _ _ tt
