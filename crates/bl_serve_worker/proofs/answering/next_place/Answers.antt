use Rattle.std.proofs.Common.{arith}
use Rattle.bl_serve_worker.proofs.Dealt.{next_some, next_none}
use Rattle.bl_serve_worker.proofs.answering.next_place.Goals as goal

pub returns-in-Some : goal.returns-in-Some
returns-in-Some c = next_some c.args.share c.args.from c.in-Some.step c.args.deals.now (omega (arith, c.if-deals-from.false)) c.in-Some.ensures

pub returns-in-None : goal.returns-in-None
returns-in-None c = next_none c.args.share c.args.from c.args.deals.now (omega (arith, c.if-deals-from.false)) c.in-None.ensures
