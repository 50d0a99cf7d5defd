use Rattle.std.proofs.Common.{sym, ap, subst, ◌∙◌}
use Rattle.bl_store.specs.Hands.{known}
use Rattle.bl_store.specs.declared.store.Hand.{Hand}
use Rattle.bl_index_rule.specs.declared.known.PassState.{PassState}
use Rattle.bl_index_events.specs.Runs.{Runs}
use Rattle.bl_index_compress.specs.CompressStands.{LeavesParent}
use Rattle.bl_index_compress.proofs.families.compress_there.Goals as goal

pub compress_two-requires-clause-runs : goal.compress_two-requires-clause-runs
compress_two-requires-clause-runs g c = subst (λ (h : Hand PassState). Runs c.args.tree.now h (known h.seat).state) (sym c.in-Some.ensures.met.0) c.requires.runs

pub compress_two-requires-clause-empty : goal.compress_two-requires-clause-empty
compress_two-requires-clause-empty g c = ap (λ (h : Hand PassState). h.seat.me.0.stock) c.in-Some.ensures.met.0 ∙ c.requires.empty

pub compress_two-requires-clause-process : goal.compress_two-requires-clause-process
compress_two-requires-clause-process g c =
    let met = c.in-Some.ensures.met in
    (met.1.0, met.1.1, ap (λ (h : Hand PassState). (known h.seat).state) met.0 ∙ met.1.2)

pub returns-in-Some : goal.returns-in-Some
returns-in-Some g c = subst (λ (h : Hand PassState). LeavesParent c.args.tree.now h.seat c.compress_two.new.hand c.args.target c.compress_two.result) c.in-Some.ensures.met.0 c.compress_two.ensures

pub returns-in-None : goal.returns-in-None
returns-in-None g c = c.in-None.ensures.alone
