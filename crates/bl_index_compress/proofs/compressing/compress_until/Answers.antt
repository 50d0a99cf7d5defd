use Rattle.std.proofs.Common.{rules, ◌≡◌, refl, sym, ap, subst, ◌∙◌}
use Rattle.bl_proc_compress.specs.declared.compress.CompressReply.TheVariants as reply
use Rattle.bl_store.specs.Hands.{known, IsRunning}
use Rattle.bl_store.specs.declared.store.Hand.{Hand}
use Rattle.bl_index_rule.specs.declared.known.PassState.{PassState}
use Rattle.bl_index_events.specs.Runs.{IsSameProcess}
use Rattle.bl_index_events.proofs.Standing.{none_of, same_all}
use Rattle.bl_index_compress.proofs.CompressionCourses.{leaves_again, leaves_answered, over_since, refused_said, same_hands}
use Rattle.bl_index_compress.proofs.compressing.compress_until.Goals as goal

pub end_compression-requires-clause-process : goal.end_compression-requires-clause-process
end_compression-requires-clause-process g c = leaves_answered _ _ _ _ _ _ c.compress_there.ensures c.in-Some-compress_there.is

pub end_compression-requires-clause-no_room : goal.end_compression-requires-clause-no_room
end_compression-requires-clause-no_room g c = λ none. c.compress_there.ensures.no_room _ (refused_said c.compress_there.result c.in-Some-compress_there.answer c.in-Some-compress_there.is none)

pub returns-in-Some-compress_there-clause-over : goal.returns-in-Some-compress_there-clause-over
returns-in-Some-compress_there-clause-over g c = over_since c.args.target (known c.args.hand.now.seat) (known c.compress_there.new.hand.seat) c.end_compression.new.hand.seat _ _ (same_all _ _ _ c.loop.invariant.since (same_all _ _ _ c.reach.ensures.since c.compress_there.ensures.since)) c.end_compression.ensures.over

pub loop-preserved-in-Parent : goal.loop-preserved-in-Parent
loop-preserved-in-Parent g c =
    let left = c.compress_there.ensures in
    record {
      same = same_hands c.args.hand.now.seat c.reach.new.hand.seat c.compress_there.new.hand.seat (same_hands c.args.hand.now.seat c.loop.hand.seat c.reach.new.hand.seat c.loop.invariant.same c.reach.ensures.same.0) left.same;
      empty = left.empty;
      free = tt;
      runs = leaves_again _ _ _ _ _ left (none_of c.compress_there.result c.in_default.not-Some);
      since = same_all _ _ _ c.loop.invariant.since (same_all _ _ _ c.reach.ensures.since left.since);
    }

pub loop-preserved-in-Again : goal.loop-preserved-in-Again
loop-preserved-in-Again g c = record {
  same = same_hands c.args.hand.now.seat c.loop.hand.seat c.reach.new.hand.seat c.loop.invariant.same c.reach.ensures.same.0;
  empty = c.reach.ensures.same.2.0 ∙ c.loop.invariant.empty;
  free = tt;
  runs = record { own = search rules; running = search rules; on = c.in-Again.ensures.reached };
  since = same_all _ _ _ c.loop.invariant.since c.reach.ensures.since;
}

pub loop-preserved : goal.loop-preserved
loop-preserved g c = record {
  same = subst (λ (h : Hand PassState). h.seat.table_id ≡ c.args.hand.now.seat.table_id × (h.seat.me.0.layout ≡ c.args.hand.now.seat.me.0.layout) × (h.seat.me.0.number ≡ c.args.hand.now.seat.me.0.number)) (sym c.way_from_anchor.ensures.same) (same_hands c.args.hand.now.seat c.loop.hand.seat c.reach.new.hand.seat c.loop.invariant.same c.reach.ensures.same.0);
  empty = ap (λ (h : Hand PassState). h.seat.me.0.stock) c.way_from_anchor.ensures.same ∙ (c.reach.ensures.same.2.0 ∙ c.loop.invariant.empty);
  free = c.in-Some-way_from_anchor.ensures.on.0;
  runs = record { own = search rules; running = subst (λ (h : Hand PassState). IsRunning h.seat) (sym c.way_from_anchor.ensures.same) (search rules); on = c.in-Some-way_from_anchor.ensures.on.1 };
  since = subst (λ (h : Hand PassState). IsSameProcess (known c.args.hand.now.seat) (known h.seat)) (sym c.way_from_anchor.ensures.same) (same_all _ _ _ c.loop.invariant.since c.reach.ensures.since);
}

pub end_compression-requires-in-None-way_from_anchor-clause-process : goal.end_compression-requires-in-None-way_from_anchor-clause-process
end_compression-requires-in-None-way_from_anchor-clause-process g c = (reply.Alone, refl, record { own = search rules; running = subst (λ (h : Hand PassState). IsRunning h.seat) (sym c.way_from_anchor.ensures.same) (search rules); on = c.in-None-way_from_anchor.ensures.none })

pub returns-in-None-way_from_anchor-clause-over : goal.returns-in-None-way_from_anchor-clause-over
returns-in-None-way_from_anchor-clause-over g c =
    over_since c.args.target (known c.args.hand.now.seat) (known c.way_from_anchor.new.hand.seat) c.end_compression-in-None-way_from_anchor.new.hand.seat _ _
    (subst (λ (h : Hand PassState). IsSameProcess (known c.args.hand.now.seat) (known h.seat)) (sym c.way_from_anchor.ensures.same) (same_all _ _ _ c.loop.invariant.since c.reach.ensures.since)) c.end_compression-in-None-way_from_anchor.ensures.over
