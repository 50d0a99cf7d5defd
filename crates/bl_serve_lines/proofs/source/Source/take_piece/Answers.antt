use Rattle.bl_serve_lines.proofs.Cuts.{piece_to_lf, piece_whole}
use Rattle.bl_serve_lines.proofs.source.Source.take_piece.Goals as goal

pub returns-in-Some : goal.returns-in-Some
returns-in-Some c = let is = c.deref.ensures.value in
    piece_to_lf c.self.inside.bytes.items _ _ _ c.self.inside.from c.self.inside.upto c.in-Some.place c.self.invariant.0 c.self.invariant.1 c.self.view_is (rw is at c.in-Some.ensures) (rw is at c.keep.ensures)

pub returns-in-None : goal.returns-in-None
returns-in-None c = let is = c.deref.ensures.value in
    piece_whole c.self.inside.bytes.items _ _ _ c.self.inside.from c.self.inside.upto c.self.view_is (rw is at c.in-None.ensures) (rw is at c.keep-in-None.ensures)
