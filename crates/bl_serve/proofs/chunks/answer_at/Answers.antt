use Rattle.std.proofs.Common.{◌≡◌, ◌∙◌, ◌++◌, ℕ, List, length, ap, sym, subst, arith}
use Rattle.std.specs.Prelude.{All}
use Rattle.bl_index.specs.declared.index.Index.{Index}
use Rattle.bl_index.specs.declared.index.Pass.{Pass}
use Rattle.bl_index.specs.Calls.{IsPassOf, passes_of}
use Rattle.bl_map.specs.Handles.{seats_of}
use Rattle.bl_map.proofs.Handed.{their_seats}
use Rattle.bl_serve.specs.Holding.{HoldsChunk}
use Rattle.bl_serve.specs.Noting.{NoteMore}
use Rattle.bl_serve_ground.specs.Together.{AreTogether, seen_by}
use Rattle.bl_serve_ground.specs.Standing.{index_in}
use Rattle.bl_serve_ground.proofs.Gathered.{own_together}
use Rattle.bl_serve.proofs.Together.{seats_long}
use Rattle.bl_serve.proofs.chunks.answer_at.Goals as goal

pub handles_over-requires : goal.handles_over-requires
handles_over-requires g c = subst (λ (z : Index). All (IsPassOf z) c.args.session.passes.items) (sym c.index-index.ensures) (own_together (index_in c.args.session.ground) (seen_by c.args.session.passes.items) c.args.session.passes.items c.requires.rests.together)

-- a handle for each pass
pub invariant_of-crew : goal.invariant_of-crew
invariant_of-crew g c =
    let same = ap length (their_seats c.index-index.result.now c.args.session.passes.items c.in_ok-handles.handles.items c.in_ok-handles.ensures.over) in
    let long = seats_long c.in_ok-handles.handles.items in
    let a = c.args.session.some in let b = c.args.session.paired in let d = c.args.session.passes.ok in let e = c.in_ok-handles.handles.ok in
    record { some = omega (arith, same, long, a, d, e); paired = omega (arith, same, long, b, d, e); counted = c.args.session.counted; synced = c.args.session.synced }

pub work_chunk-requires-clause-met : goal.work_chunk-requires-clause-met
work_chunk-requires-clause-met g c κs within =
    let seats = their_seats c.index-index.result.now c.args.session.passes.items c.in_ok-handles.handles.items c.in_ok-handles.ensures.over in
    subst (λ (z : Index × List Pass). AreTogether z.0 (seen_by z.1) z.1) (λ i. (sym c.index-index.ensures i, sym seats i)) c.requires.rests.together

pub seats_back-passes-requires-clause-room : goal.seats_back-passes-requires-clause-room
seats_back-passes-requires-clause-room g c =
    let now = c.in_ok-plan.ensures.held.2.together.count in let before = c.requires.rests.together.count in let same = ap passes_of c.index-index.ensures in
    let long = seats_long c.in_ok-plan.field-0.handles.items in
    let none = ap length c.in_ok-handles.ensures.taken in let room = c.in_ok-handles.ensures.room in
    let a = c.args.session.passes.ok in let b = c.in_ok-plan.field-0.handles.ok in let d = c.handles_over.new.seats.ok in
    omega (arith, now, before, same, long, none, room, a, b, d)

pub returns-clause-held : goal.returns-clause-held
returns-clause-held g c =
    let h = c.in_ok-plan.ensures.held in
    let seats = their_seats c.index-index.result.now c.args.session.passes.items c.in_ok-handles.handles.items c.in_ok-handles.ensures.over in
    let back = c.seats_back-passes.ensures in
    (h.0, h.1, subst (λ (z : Index × List Pass × List Pass). HoldsChunk z.0 c.args.session.totals.requests c.args.lines.now h.0 z.1 z.2) (λ i. (c.index-index.ensures i, seats i, sym back i)) h.2)

pub returns-clause-noted : goal.returns-clause-noted
returns-clause-noted g c keeps =
    let seats = their_seats c.index-index.result.now c.args.session.passes.items c.in_ok-handles.handles.items c.in_ok-handles.ensures.over in
    let back = c.seats_back-passes.ensures in
    subst (λ (z : List Pass × List Pass). NoteMore z.0 c.args.session.changes z.1 c.in_ok-plan.field-0.changes) (λ i. (seats i, sym back i)) (c.in_ok-plan.ensures.noted keeps)

-- a pass for each handle
pub invariant_of-result : goal.invariant_of-result
invariant_of-result g c =
    let back = ap length c.seats_back-passes.ensures in
    let long = seats_long c.in_ok-plan.field-0.handles.items in
    let a = c.in_ok-plan.ensures.paired in let d = c.in_ok-plan.field-0.handles.ok in let e = c.seats_back-passes.result.ok in let few = a.0 in let both = a.1 in
    record { some = omega (arith, back, long, few, d, e); paired = omega (arith, back, long, both, d, e); counted = c.in_ok-plan.field-0.counted; synced = c.in_ok-plan.field-0.synced }
