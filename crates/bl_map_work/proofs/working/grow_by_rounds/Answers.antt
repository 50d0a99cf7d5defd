use Rattle.std.proofs.Common.{◌≡◌, ◌≤◌, ◌<◌, ◌↔◌, IsTrue, inl, sym, subst, subst₂}
use Rattle.bl_index.specs.Closed.{AreOf}
use Rattle.bl_map_work.specs.Rounds.{AreDone, GrowsByRounds, IsWorkFault, LeavesWork, larger}
use Rattle.bl_map_work.specs.Rounds.ComesToLast.{AtMost}
use Rattle.bl_map_work.specs.Rounds.GrowsByRounds.{NotYet}
use Rattle.bl_map_work.specs.Rounds.IsWorked.{Done}
use Rattle.bl_map_work.proofs.Growth.{closed_once, grown_once, not_done, refused_once}
use Rattle.bl_map_work.proofs.working.grow_by_rounds.Goals as goal

pub loop-round-init : goal.loop-round-init
loop-round-init g c = record { own = c.requires; so_far = NotYet }

pub returns-then-most-pages-clause-grown : goal.returns-then-most-pages-clause-grown
returns-then-most-pages-clause-grown g c = AtMost c.loop-round.invariant.so_far (subst (λ z. c.args.most ≤ z) c.pages-pages.ensures c.if-most-pages.true)

pub returns-then-are_done-clause-grown : goal.returns-then-are_done-clause-grown
returns-then-are_done-clause-grown g c =
    Done c.loop-round.seats.items c.loop-round.tasks.items c.loop-round.invariant.so_far c.in_default.ensures.round
    (subst (λ tasks. AreDone tasks) c.as_slice.ensures.value (c.are_done.ensures.0 c.if-are_done.true))

-- no round was made: seats and tasks are as they were
pub returns-in-Err-clause-fault : goal.returns-in-Err-clause-fault
returns-in-Err-clause-fault g c =
    let kept = c.in-Err.ensures.kept in (
      inl (subst₂ (λ seats tasks. GrowsByRounds g.J.Job.Does c.args.most c.args.map c.args.seats.items c.args.tasks.items c.loop-round.map seats tasks) (sym kept.0) (sym kept.1) c.loop-round.invariant.so_far),
      subst₂ (λ seats tasks. IsWorkFault seats tasks c.in-Err.why) (sym kept.0) (sym kept.1) c.in-Err.ensures.fault,
    )

pub loop-round-preserved : goal.loop-round-preserved
loop-round-preserved g c =
    let both = subst (λ tasks. IsTrue c.are_done.result ↔ AreDone tasks) c.as_slice.ensures.value c.are_done.ensures in
    let leaves : LeavesWork g.J.Job.Does c.args.most c.loop-round.map c.loop-round.seats.items c.loop-round.tasks.items c.make_round.new.seats.items c.make_round.new.tasks.items = record {
      may_grow = subst (λ z. z < c.args.most) c.pages-pages.ensures c.if-most-pages.false;
      round = c.in_default.ensures.round;
      undone = not_done c.are_done.result c.if-are_done.false both;
    } in
    record {
      own = c.in-Ok.ensures.seats;
      so_far = grown_once g.J.Job.Does c.args.most c.args.map c.args.seats.items c.args.tasks.items c.loop-round.map c.loop-round.seats.items c.make_round.new.seats.items c.loop-round.tasks.items c.make_round.new.tasks.items c.larger.result
          c.loop-round.invariant.so_far leaves (subst (λ z. c.larger.result ≡ larger z c.args.most) c.pages-pages.ensures c.larger.ensures) c.in-Ok.grown c.in-Ok.anew.items c.in-Ok.ensures.ok;
    }

pub returns-in-Err-Kept-clause-own : goal.returns-in-Err-Kept-clause-own
returns-in-Err-Kept-clause-own g c =
    let kept = rw c.in-Err-Kept.field-0-is at c.in-Err-Kept.ensures.fault in
    rw c.in-Err-Kept.field-0-is (subst₂ (λ index seats. AreOf index seats) (sym kept.0) (sym kept.1) c.make_round.ensures.own)

pub returns-in-Err-Kept-clause-grown : goal.returns-in-Err-Kept-clause-grown
returns-in-Err-Kept-clause-grown g c =
    let both = subst (λ tasks. IsTrue c.are_done.result ↔ AreDone tasks) c.as_slice.ensures.value c.are_done.ensures in
    let leaves : LeavesWork g.J.Job.Does c.args.most c.loop-round.map c.loop-round.seats.items c.loop-round.tasks.items c.make_round.new.seats.items c.make_round.new.tasks.items = record {
      may_grow = subst (λ z. z < c.args.most) c.pages-pages.ensures c.if-most-pages.false;
      round = c.in_default.ensures.round;
      undone = not_done c.are_done.result c.if-are_done.false both;
    } in
    let kept = rw c.in-Err-Kept.field-0-is at c.in-Err-Kept.ensures.fault in
    rw c.in-Err-Kept.field-0-is (refused_once g.J.Job.Does c.args.most c.args.map c.args.seats.items c.args.tasks.items c.loop-round.map c.loop-round.seats.items c.make_round.new.seats.items c.loop-round.tasks.items c.make_round.new.tasks.items c.larger.result
    c.loop-round.invariant.so_far leaves (subst (λ z. c.larger.result ≡ larger z c.args.most) c.pages-pages.ensures c.larger.ensures) c.in-Err-Kept.back c.in-Err-Kept.seats_back.items c.in-Err-Kept.field-0-2 kept.0 kept.1 kept.2)

pub returns-in-Err-Closed-clause-fault : goal.returns-in-Err-Closed-clause-fault
returns-in-Err-Closed-clause-fault g c =
    let both = subst (λ tasks. IsTrue c.are_done.result ↔ AreDone tasks) c.as_slice.ensures.value c.are_done.ensures in
    let leaves : LeavesWork g.J.Job.Does c.args.most c.loop-round.map c.loop-round.seats.items c.loop-round.tasks.items c.make_round.new.seats.items c.make_round.new.tasks.items = record {
      may_grow = subst (λ z. z < c.args.most) c.pages-pages.ensures c.if-most-pages.false;
      round = c.in_default.ensures.round;
      undone = not_done c.are_done.result c.if-are_done.false both;
    } in
    let closed = rw c.in-Err-Closed.field-0-is at c.in-Err-Closed.ensures.fault in
    rw c.in-Err-Closed.field-0-is (closed_once g.J.Job.Does c.args.most c.args.map c.args.seats.items c.args.tasks.items c.loop-round.map c.loop-round.seats.items c.make_round.new.seats.items c.loop-round.tasks.items c.make_round.new.tasks.items c.larger.result
    c.loop-round.invariant.so_far leaves (subst (λ z. c.larger.result ≡ larger z c.args.most) c.pages-pages.ensures c.larger.ensures) c.in-Err-Closed.image closed)
