use Rattle.std.proofs.Common.{refl}
use Rattle.std.proofs.lemmas.Result.{on_ok_weaker}
use Rattle.bl_serve_worker.proofs.Lines.{stated_line}
use Rattle.bl_serve_worker.proofs.answering.state.Goals as goal

pub returns : goal.returns
returns c = on_ok_weaker c.push_line.result (λ is. stated_line _ _ _ _ _ _ _ _ _ _ _ refl c.room-room.ensures.pages is) c.push_line.ensures
