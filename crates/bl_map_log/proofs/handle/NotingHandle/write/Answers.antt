use Rattle.std.proofs.Common.{ℕ, List, ◌++◌, ◌∙◌, ap}
use Rattle.bl_model.specs.Replies.{reply_of}
use Rattle.bl_model.specs.Writes.{write_op}
use Rattle.bl_changes.specs.Changes.{came_of, went_of}
use Rattle.bl_map_log.proofs.Noted.{keeps_reply}
use Rattle.bl_map_log.proofs.handle.NotingHandle.write.Goals as goal

pub returns-clause-keeps : goal.returns-clause-keeps
returns-clause-keeps g c = let op = write_op c.args.key c.args.does in let reply = reply_of c.write-reply.result in
    keeps_reply op reply _ _ c.write-reply.ensures.same c.write-reply.ensures.called (record {
      came = c.note.ensures.came ∙ ap (λ (z : List (ℕ × ℕ)). z ++ came_of op reply) c.reserve.ensures.items;
      went = c.note.ensures.went ∙ ap (λ (z : List (ℕ × ℕ)). z ++ went_of op reply) c.reserve-2.ensures.items;
    })
