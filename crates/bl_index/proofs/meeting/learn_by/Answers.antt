use Rattle.std.proofs.Common.{ℕ, subst}
use Rattle.bl_store.specs.Hands.{known}
use Rattle.bl_store_rule.specs.Pages.{Meets}
use Rattle.bl_index_rule.specs.Simulation.{Simulates}
use Rattle.bl_index.specs.Meetings.{learned}
use Rattle.bl_index.proofs.Learning.{learns_all}
use Rattle.bl_index.proofs.meeting.learn_by.Goals as goal

pub meet-requires-clause-rule : goal.meet-requires-clause-rule
meet-requires-clause-rule g c = let l = c.args.tree.now.store.layout in let n = c.args.hand.now.number in let m = c.args.other.now.number in let d = known c.args.hand.now.seat in let e = known c.args.other.now.seat in
    subst (λ (z : ℕ × ℕ × ℕ). Meets Simulates l n d m e (learned z.0 z.1 z.2)) (λ i. (c.requires.names.0 i, c.requires.names.1 i, c.requires.names.2 i)) (learns_all l n m d e)
