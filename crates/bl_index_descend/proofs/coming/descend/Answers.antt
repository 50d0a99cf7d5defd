use Rattle.std.proofs.Common.{ℕ, Option, subst, rules}
use Rattle.bl_store.specs.declared.store.Glance.{Glance}
use Rattle.bl_index_descend.specs.Events.{HasCome}
use Rattle.bl_index_events.proofs.Standing.{same_all, none_of}
use Rattle.bl_index_descend.proofs.coming.descend.Goals as goal

pub returns-in-Some-come_from-clause-since : goal.returns-in-Some-come_from-clause-since
returns-in-Some-come_from-clause-since g c = same_all _ _ _ (same_all _ _ _ c.loop.invariant.since c.read_anchor-from.ensures.since) c.come_from.ensures.since

pub loop-preserved : goal.loop-preserved
loop-preserved g c =
    let j = c.args.target.now in
    record {
      same = search rules;
      process = subst (λ (z : Option (ℕ × Glance)). HasCome (g.J.Target.level_of j) (g.J.Target.key_of j) (g.J.Target.at j c.come_from.new.path) c.args.tree.now.store.layout c.come_from.new.hand.seat z) (none_of c.come_from.result c.in_default.not-Some) c.come_from.ensures.came;
      since = same_all _ _ _ (same_all _ _ _ c.loop.invariant.since c.read_anchor-from.ensures.since) c.come_from.ensures.since;
    }
