use Rattle.std.proofs.Common.{◌++◌}
use Rattle.bl_model.proofs.Steps.{OnErr_any}
use Rattle.bl_row_lines.proofs.More.{parts_join, piece_split, piece_begun, piece_written}
use Rattle.bl_row_lines.proofs.writing.write_rows.Goals as goal

pub returns-in_err-write_piece-clause-begun : goal.returns-in_err-write_piece-clause-begun
returns-in_err-write_piece-clause-begun g c = let i = c.pieces.invariant in let s = c.split_at.ensures in
    let rest = c.pieces.rest.now in let more = c.split_at.result.1.now in
    let joined = parts_join c.min.result c.split_at.result.0.now more rest s.front s.back in
    OnErr_any c.from_residual.result (piece_begun _ _ _ c.args.rows.now i.done c.split_at.result.0.now more rest i.split joined i.written c.in_err-write_piece.ensures.begun)

pub pieces-preserved : goal.pieces-preserved
pieces-preserved g c = let i = c.pieces.invariant in let s = c.split_at.ensures in
    let rest = c.pieces.rest.now in let more = c.split_at.result.1.now in
    let joined = parts_join c.min.result c.split_at.result.0.now more rest s.front s.back in
    record {
      done = i.done ++ c.split_at.result.0.now;
      split = piece_split c.args.rows.now i.done c.split_at.result.0.now more rest i.split joined;
      written = piece_written _ _ _ i.done c.split_at.result.0.now i.written c.in_ok-write_piece.ensures.ok;
    }
