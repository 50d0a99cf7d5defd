use Rattle.std.proofs.Common.{◌∙◌, arith}
use Rattle.bl_index.specs.Calls.{first_of}
use Rattle.bl_map.specs.Handles.{seats_of}
use Rattle.bl_serve_ground.proofs.Gathered.{own_together}
use Rattle.bl_serve.proofs.Holding.{holds}
use Rattle.bl_serve.proofs.Noting.{notes_met}
use Rattle.bl_serve.proofs.Shares.{chunk_own}
use Rattle.bl_serve.proofs.Together.{all_seated, seats_long}
use Rattle.bl_serve.proofs.chunks.work_chunk.Goals as goal

pub met-requires : goal.met-requires
met-requires g c = all_seated c.args.index.now c.in_ok-session.session.handles.items
    (chunk_own (first_of c.args.index.now) c.args.index.now _ _ _ _ (seats_of c.args.session.handles.items) (seats_of c.in_ok-session.session.handles.items) (own_together _ _ _ c.requires.met) c.in_ok-session.ensures.chunk.2)

pub returns-clause-held : goal.returns-clause-held
returns-clause-held g c = let some = c.args.session.some in let d = c.args.session.handles.ok in let e = seats_long c.args.session.handles.items in
    let chunk = c.in_ok-session.ensures.chunk in let m = c.in_ok-met.ensures in (
      chunk.0,
      m.2 ∙ chunk.1,
      holds c.args.index.now c.args.session.totals.requests c.args.lines.now chunk.0 (seats_of c.args.session.handles.items) (seats_of c.in_ok-session.session.handles.items) _ (omega (arith, some, d, e)) c.requires.met chunk.2 m.3,
    )

pub returns-clause-noted : goal.returns-clause-noted
returns-clause-noted g c keeps = let m = c.in_ok-met.ensures in
    rw m.1 (notes_met (first_of c.args.index.now) (seats_of c.args.session.handles.items) (seats_of c.in_ok-session.session.handles.items) _ c.args.session.changes c.in_ok-session.session.changes m.3 (c.in_ok-session.ensures.noted keeps))
