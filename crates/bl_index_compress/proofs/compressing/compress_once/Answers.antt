use Rattle.std.proofs.Common.{rules, refl, sym, ap, subst, ◌∙◌}
use Rattle.bl_proc_steps.specs.declared.approach.Approach.TheVariants.{Start}
use Rattle.bl_proc_compress.specs.declared.compress.CompressReply.TheVariants as reply
use Rattle.bl_store.specs.Hands.{known, IsRunning, IsSameHand}
use Rattle.bl_store.specs.declared.store.Hand.{Hand}
use Rattle.bl_index_rule.specs.declared.known.PassState.{PassState}
use Rattle.bl_index_events.specs.Runs.{IsSameProcess}
use Rattle.bl_index_events.proofs.Standing.{same_all}
use Rattle.bl_index_compress.proofs.CompressionCourses.{leaves_again, leaves_answered, over_since, refused_said, same_hands}
use Rattle.bl_index_compress.proofs.compressing.compress_once.Goals as goal

pub reach_within-requires-clause-led : goal.reach_within-requires-clause-led
reach_within-requires-clause-led c = λ page below. below

pub end_compression-requires-clause-process : goal.end_compression-requires-clause-process
end_compression-requires-clause-process c = leaves_answered _ _ _ _ _ _ c.compress_there_within.ensures c.in-Some.is

pub end_compression-requires-clause-no_room : goal.end_compression-requires-clause-no_room
end_compression-requires-clause-no_room c = λ none. c.compress_there_within.ensures.no_room _ (refused_said c.compress_there_within.result c.in-Some.answer c.in-Some.is none)

pub returns-in-Some-clause-same : goal.returns-in-Some-clause-same
returns-in-Some-clause-same c =
    same_hands c.args.hand.now.seat c.compress_there_within.new.hand.seat c.end_compression.new.hand.seat
    (same_hands c.args.hand.now.seat c.reach_within.new.hand.seat c.compress_there_within.new.hand.seat c.reach_within.ensures.same.0 c.compress_there_within.ensures.same) c.end_compression.ensures.same

pub returns-in-Some-clause-over : goal.returns-in-Some-clause-over
returns-in-Some-clause-over c =
    over_since c.args.target (known c.args.hand.now.seat) (known c.compress_there_within.new.hand.seat) c.end_compression.new.hand.seat _ _
    (same_all _ _ _ c.reach_within.ensures.since c.compress_there_within.ensures.since) c.end_compression.ensures.over

pub returns-in-None-clause-same : goal.returns-in-None-clause-same
returns-in-None-clause-same c = same_hands c.args.hand.now.seat c.reach_within.new.hand.seat c.compress_there_within.new.hand.seat c.reach_within.ensures.same.0 c.compress_there_within.ensures.same

pub returns-in-None-clause-back : goal.returns-in-None-clause-back
returns-in-None-clause-back c =
    let left = c.compress_there_within.ensures in
    record {
      way = Start;
      free = tt;
      runs = leaves_again _ _ _ _ _ left c.in-None.is;
      empty = left.empty;
      since = same_all _ _ _ c.reach_within.ensures.since left.since;
    }

pub returns-in-Underway-clause-back : goal.returns-in-Underway-clause-back
returns-in-Underway-clause-back c =
    let came = c.in-Underway.ensures.neared in
    record {
      way = c.in-Underway._way;
      free = came.0;
      runs = record { own = search rules; running = search rules; on = came.1 };
      empty = c.reach_within.ensures.same.2.0 ∙ c.requires.empty;
      since = c.reach_within.ensures.since;
    }

pub returns-in-Some-way_from_anchor-clause-same : goal.returns-in-Some-way_from_anchor-clause-same
returns-in-Some-way_from_anchor-clause-same c = subst (λ (h : Hand PassState). IsSameHand c.args.hand.now.seat h.seat) (sym c.way_from_anchor.ensures.same) c.reach_within.ensures.same.0

pub returns-in-Some-way_from_anchor-clause-back : goal.returns-in-Some-way_from_anchor-clause-back
returns-in-Some-way_from_anchor-clause-back c =
    let still = c.way_from_anchor.ensures.same in let on = c.in-Some-way_from_anchor.ensures.on in
    record {
      way = c.in-Some-way_from_anchor._way;
      free = on.0;
      runs = record { own = search rules; running = subst (λ (h : Hand PassState). IsRunning h.seat) (sym still) (search rules); on = on.1 };
      empty = ap (λ (h : Hand PassState). h.seat.me.0.stock) still ∙ (c.reach_within.ensures.same.2.0 ∙ c.requires.empty);
      since = subst (λ (h : Hand PassState). IsSameProcess (known c.args.hand.now.seat) (known h.seat)) (sym still) c.reach_within.ensures.since;
    }

pub end_compression-requires-in-None-way_from_anchor-clause-process : goal.end_compression-requires-in-None-way_from_anchor-clause-process
end_compression-requires-in-None-way_from_anchor-clause-process c = (reply.Alone, refl, record { own = search rules; running = subst (λ (h : Hand PassState). IsRunning h.seat) (sym c.way_from_anchor.ensures.same) (search rules); on = c.in-None-way_from_anchor.ensures.none })

pub returns-in-None-way_from_anchor-clause-over : goal.returns-in-None-way_from_anchor-clause-over
returns-in-None-way_from_anchor-clause-over c =
    over_since c.args.target (known c.args.hand.now.seat) (known c.way_from_anchor.new.hand.seat) c.end_compression-in-None-way_from_anchor.new.hand.seat _ _
    (subst (λ (h : Hand PassState). IsSameProcess (known c.args.hand.now.seat) (known h.seat)) (sym c.way_from_anchor.ensures.same) c.reach_within.ensures.since) c.end_compression-in-None-way_from_anchor.ensures.over
