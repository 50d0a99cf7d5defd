use Rattle.std.proofs.Common.{[], refl, ap, sym, subst, length, arith, inr}
use Rattle.bl_serve_lines.proofs.Known.{consumes_start}
use Rattle.bl_serve_reading.specs.Reading.{AskNoEnd}
use Rattle.bl_serve_reading.proofs.Cutting.{asks_none, reads_none}
use Rattle.bl_serve_reading.proofs.section_reader.read_on.Goals as goal

-- nothing is read
pub returns-else-ahead-gt0 : goal.returns-else-ahead-gt0
returns-else-ahead-gt0 g c = let none = c.clear.ensures in let empty = ap length none in record {
  rest = [];
  more = [];
  consumed = consumes_start _;
  reads = (reads_none c.args.ahead.now.source c.clear.new.self none, omega (arith, empty), refl, subst (AskNoEnd c.args.ahead.now.sections) (sym none) (asks_none c.args.ahead.now.sections), inr (let few = c.if-ahead-gt0.false in omega (arith, empty, few)));
  same = refl;
  idle = λ _. (refl, refl);
}
