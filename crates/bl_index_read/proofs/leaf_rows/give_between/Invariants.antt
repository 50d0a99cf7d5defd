use Rattle.std.proofs.Common.{◌≡◌, ◌+◌, ◌-◌, ◌*◌, take, drop}
use Rattle.bl_page.specs.Faults.{pairs_of}
use Rattle.bl_index_read.proofs.leaf_rows.give_between.Given as goal

abbrev pub invariant-loop-pair : goal.invariant-loop-pair
invariant-loop-pair g l = record {
  same : l.hand ≡ l.fn.hand;
  ready : g.K.Sink.IsReady l.state;
  room : g.K.Sink.HasRoom l.state (l.last - l.first - 2 * l.pair);
  given : g.K.Sink.Takes (g.K.Sink.held l.fn.state) (take (l.first + 2 * l.pair - l.first) (drop l.first (pairs_of (g.W.Words.shown l.source l.fn.hand)))) (g.K.Sink.held l.state);
}
