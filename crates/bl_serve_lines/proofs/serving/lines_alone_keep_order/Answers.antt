use Rattle.bl_serve_lines.proofs.LineOrder.{in_line_order}
use Rattle.bl_serve_lines.proofs.serving.lines_alone_keep_order.Goals as goal

pub returns : goal.returns
returns c = in_line_order
