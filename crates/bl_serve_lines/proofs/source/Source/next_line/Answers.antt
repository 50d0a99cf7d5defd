use Rattle.std.proofs.Common.{[], ◌++◌, append-nil, length, ap, arith, inl}
use Rattle.std.proofs.lemmas.Bool.Decides.{nat_tests}
use Rattle.bl_serve_lines.proofs.Known.{consumes_more, consumes_start}
use Rattle.bl_serve_lines.proofs.Cuts.{no_lf_nil, no_lf_more, kept_more, short_line, long_line_cut, some_byte, line_ends, line_goes_on, line_stops, count_on}
use Rattle.bl_serve_lines.proofs.source.Source.next_line.Goals as goal

pub loop-init : goal.loop-init
loop-init g c = record {
  bytes = [];
  more = [];
  read = consumes_start _;
  cut = no_lf_nil;
  whole = append-nil _;
  front = c.clear.ensures;
  count = omega arith;
}

-- the reader is at its end behind some bytes
pub returns-else-is_empty : goal.returns-else-is_empty
returns-else-is_empty g c = let i = c.loop.invariant in let e = rw c.if-not-branch.true at c.in_ok-is_ready.ensures in (
  i.bytes,
  i.more ++ e.0,
  consumes_more _ _ _ _ _ i.read e.1,
  i.front,
  (
    i.cut,
    some_byte i.bytes c.loop.line.items i.front (λ none. grind (arith, nat_tests, none, c.is_empty.ensures, c.if-is_empty.false)),
    line_stops _ _ i.bytes _ _ _ i.whole e.2.0 e.2.1 e.2.2,
    inl (e.2.2, e.2.3),
  ),
)

pub returns-then-len-le-LINE_LIMIT : goal.returns-then-len-le-LINE_LIMIT
returns-then-len-le-LINE_LIMIT g c = let i = c.loop.invariant in let e = rw c.if-not-branch.false at c.in_ok-is_ready.ensures in let p = c.if-take_piece.ensures in
    let front = kept_more i.bytes c.loop.line.items c.take_piece.new.line.items p.0 i.front p.2 in (
      i.bytes ++ p.0,
      i.more ++ e.0,
      consumes_more _ _ _ _ _ i.read e.1,
      front,
      (no_lf_more i.bytes p.0 i.cut p.1, short_line (i.bytes ++ p.0) c.take_piece.new.line.items front (omega (arith, c.len.ensures.value, c.if-len-le-LINE_LIMIT.true)), line_ends _ _ i.bytes _ _ _ p.0 _ i.whole e.2.0 p.3),
    )

pub returns-else-len-le-LINE_LIMIT : goal.returns-else-len-le-LINE_LIMIT
returns-else-len-le-LINE_LIMIT g c = let i = c.loop.invariant in let e = rw c.if-not-branch.false at c.in_ok-is_ready.ensures in let p = c.if-take_piece.ensures in
    let front = kept_more i.bytes c.loop.line.items c.take_piece.new.line.items p.0 i.front p.2 in (
      i.bytes ++ p.0,
      i.more ++ e.0,
      consumes_more _ _ _ _ _ i.read e.1,
      front,
      (no_lf_more i.bytes p.0 i.cut p.1, long_line_cut (i.bytes ++ p.0) c.take_piece.new.line.items front (omega (arith, c.len.ensures.value, c.if-len-le-LINE_LIMIT.false)), line_ends _ _ i.bytes _ _ _ p.0 _ i.whole e.2.0 p.3),
    )

pub loop-preserved : goal.loop-preserved
loop-preserved g c = let i = c.loop.invariant in let e = rw c.if-not-branch.false at c.in_ok-is_ready.ensures in let p = c.if-take_piece.ensures in record {
  bytes = i.bytes ++ p.0;
  more = i.more ++ e.0;
  read = consumes_more _ _ _ _ _ i.read e.1;
  cut = no_lf_more i.bytes p.0 i.cut p.1;
  whole = line_goes_on _ _ i.bytes _ _ _ p.0 _ i.whole e.2.0 p.3.0 p.3.1;
  front = kept_more i.bytes c.loop.line.items c.take_piece.new.line.items p.0 i.front p.2;
  count = count_on i.bytes p.0 _ i.count (omega (arith, e.2.1, ap length p.3.0));
}
