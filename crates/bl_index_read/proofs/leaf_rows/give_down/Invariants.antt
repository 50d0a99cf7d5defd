use Rattle.std.proofs.Common.{◌≡◌, ◌-◌, take, drop, reverse}
use Rattle.bl_page.specs.Faults.{pairs_of}
use Rattle.bl_index_read.proofs.leaf_rows.give_down.Given as goal

abbrev pub invariant-loop-gone : goal.invariant-loop-gone
invariant-loop-gone g l = record {
  same : l.hand ≡ l.fn.hand;
  ready : g.K.Sink.IsReady l.state;
  room : g.K.Sink.HasRoom l.state (l.last - l.first - l.gone);
  given : g.K.Sink.Takes (g.K.Sink.held l.fn.state) (take l.gone (reverse (take (l.last - l.first) (drop l.first (pairs_of (g.W.Words.shown l.source l.fn.hand)))))) (g.K.Sink.held l.state);
}
