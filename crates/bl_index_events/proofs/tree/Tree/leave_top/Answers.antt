use Rattle.std.proofs.Common.{ℕ, ◌<◌, subst, arith}
use Rattle.bl_proc.specs.declared.kinds.Proc.{Proc}
use Rattle.bl_proc.specs.Processes.{next_of}
use Rattle.bl_store.specs.Hands.{known}
use Rattle.bl_index_rule.specs.Observed.{IsNear}
use Rattle.bl_index_rule.proofs.OffTop.{leaves_top_page}
use Rattle.bl_index_events.proofs.tree.Tree.leave_top.Goals as goal

pub open-requires-clause-own : goal.open-requires-clause-own
open-requires-clause-own c = c.requires.runs.own

pub open-requires-clause-page : goal.open-requires-clause-page
open-requires-clause-page c =
    let on = c.requires.runs.on in let top = c.requires.top in
    let near : top.0.top < c.args.self.now.store.layout.pages = subst (λ (pages : ℕ). top.0.top < pages) on.pages (subst (λ (z : Proc). IsNear (known c.args.hand.now.seat).pages (next_of z)) top.1 on.near) in
    omega (arith, near)

pub open-requires-clause-rule : goal.open-requires-clause-rule
open-requires-clause-rule c = leaves_top_page _ _ (known c.args.hand.now.seat) c.requires.runs.on.runs c.requires.top

pub returns-clause-left : goal.returns-clause-left
returns-clause-left c = c.open.ensures.observed.1
