use Rattle.bl_serve_lines.proofs.Cuts.{keep_is, ok_of}
use Rattle.bl_serve_lines.proofs.source.keep.Goals as goal

pub returns : goal.returns
returns c = keep_is _ c.args.piece.now _ _ _ c.remaining_capacity.ensures c.min-kept.ensures (ok_of _ _ c.unwrap.ensures c.try_extend_from_slice.ensures.ok)
