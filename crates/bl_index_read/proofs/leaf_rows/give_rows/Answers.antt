use Rattle.std.proofs.Common.{◌-◌, subst, take, drop}
use Rattle.bl_page.specs.Faults.{pairs_of}
use Rattle.bl_index_read.specs.LeafRows.{toward}
use Rattle.bl_index_read.proofs.leaf_rows.give_rows.Goals as goal

pub returns-in-Ok-clause-takes : goal.returns-in-Ok-clause-takes
returns-in-Ok-clause-takes g c =
    subst (λ (p : g.K.Sink.Held). g.K.Sink.Takes p (toward c.args.direction (take (c.args.last - c.args.first) (drop c.args.first (pairs_of (g.W.Words.shown c.args.source.now c.args.hand.now))))) (g.K.Sink.held c.give_toward.new.state))
    c.make_room.ensures.kept c.give_toward.ensures.takes
