use Rattle.std.proofs.Common.{◌≡◌, ◌≢◌, ◌≤◌, None}
use Rattle.bl_proc_steps.specs.declared.acts.Action.TheVariants as act
use Rattle.bl_store.specs.Hands.{known, IsRunning, IsSameHand}
use Rattle.bl_proc_deterministic.specs.Frames.{op_of, work_of}
use Rattle.bl_index_events.specs.Runs.{IsOn, HasReserved, IsSameProcess}
use Rattle.bl_index_events.proofs.Rooms.{KeepsRoom}
use Rattle.bl_index_write.proofs.carrying.carry_briefly.Given as goal

abbrev pub invariant-loop-event : goal.invariant-loop-event
invariant-loop-event g l = record {
  same : IsSameHand l.fn.hand.seat l.hand.seat;
  running : IsRunning l.hand.seat;
  process : IsOn l.tree.store.layout (known l.hand.seat) (g.P.Kind.proc_of l.process);
  since : IsSameProcess (known l.fn.hand.seat) (known l.hand.seat);
  going : (g.P.Process.answer_of l.process ≡ None) × (g.P.Process.next_of l.process ≢ act.Begin);
  op : op_of (g.P.Kind.proc_of l.process) ≡ op_of (g.P.Kind.proc_of l.fn.process);
  work : work_of (g.P.Kind.proc_of l.process) ≡ work_of (g.P.Kind.proc_of l.fn.process);
  reserved : HasReserved l.hand.seat l.held (g.P.Kind.proc_of l.process);
  room : KeepsRoom l.hand.seat (g.P.Kind.proc_of l.process);
  near : g.P.Brief.IsNear l.process l.event;
  few : l.event ≤ 24;
}
