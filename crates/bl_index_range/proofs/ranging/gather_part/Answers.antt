use Rattle.std.proofs.Common.{ℕ, refl}
use Rattle.bl_proc.specs.declared.parts.Direction.TheVariants.{Up}
use Rattle.bl_index_read.specs.declared.sought.Sought.TheVariants.{Rows}
use Rattle.bl_index_range.specs.declared.ranging.Gathering.{Gathering}
use Rattle.bl_index_range.proofs.Looks.{looks_near}
use Rattle.bl_index_range.proofs.RangeSteps.{stops_before, behind_leaf, at_end}
use Rattle.bl_index_range.proofs.ranging.gather_part.Goals as goal

pub read_leaf-requires-clause-off : goal.read_leaf-requires-clause-off
read_leaf-requires-clause-off c = let inv = c.requires.gathers.3 in (inv.mid, c.args.hand.now.number, inv.off)

pub read_leaf-requires-clause-below : goal.read_leaf-requires-clause-below
read_leaf-requires-clause-below c = c.requires.gathers.3.below

pub returns-in-Err-clause-goes : goal.returns-in-Err-clause-goes
returns-in-Err-clause-goes c = λ from before old inv.
    let stopped = c.in-Err.ensures.reads inv.mid inv.off in
    stops_before c.args.tree.now c.args.hand.now c.read_leaf.new.hand c.args.limits from c.args.to before old c.args.gathering.now (record c.args.gathering.now { rows = c.read_leaf.new.rows }) inv c.in-Err.fault stopped.0 stopped.1

pub go_on_behind-requires-clause-runs : goal.go_on_behind-requires-clause-runs
go_on_behind-requires-clause-runs c = let inv = c.requires.gathers.3 in (c.in-Ok.ensures.reads inv.mid inv.off).runs

pub go_on_behind-requires-clause-leaf : goal.go_on_behind-requires-clause-leaf
go_on_behind-requires-clause-leaf c = let inv = c.requires.gathers.3 in (Rows Up, c.args.gathering.now.at, _, (c.in-Ok.ensures.reads inv.mid inv.off).has.leaf)

pub end_round-requires-clause-runs : goal.end_round-requires-clause-runs
end_round-requires-clause-runs c = let inv = c.requires.gathers.3 in (c.in-Ok.ensures.reads inv.mid inv.off).runs

pub end_round-requires-clause-leaf : goal.end_round-requires-clause-leaf
end_round-requires-clause-leaf c = let inv = c.requires.gathers.3 in (Rows Up, c.args.gathering.now.at, _, (c.in-Ok.ensures.reads inv.mid inv.off).has.leaf)

pub end_round-requires-clause-near : goal.end_round-requires-clause-near
end_round-requires-clause-near c = let inv = c.requires.gathers.3 in looks_near c.args.hand.now.seat c.args.tree.now.store.layout.pages c.args.to _ _ _ c.args.gathering.now.kept.items inv.rows inv.looks

pub returns-in-Part-clause-goes : goal.returns-in-Part-clause-goes
returns-in-Part-clause-goes c = λ from before old inv.
    let r = c.in-Ok.ensures.reads inv.mid inv.off in
    let g' : Gathering = record c.args.gathering.now { rows = c.read_leaf.new.rows } in
    behind_leaf c.args.tree.now c.args.hand.now c.read_leaf.new.hand c.args.limits from c.args.to before old c.args.gathering.now g' c.in-Ok.leaf inv r c.go_on_behind.new.hand c.read_leaf.ensures.same.0 c.go_on_behind.new.gathering refl refl
    c.go_on_behind.result c.in-Part.next c.in-Part.link c.in-Part.is c.go_on_behind.ensures.goes

pub returns-in-Nothing-clause-goes : goal.returns-in-Nothing-clause-goes
returns-in-Nothing-clause-goes c = λ from before old inv.
    let r = c.in-Ok.ensures.reads inv.mid inv.off in
    let g' : Gathering = record c.args.gathering.now { rows = c.read_leaf.new.rows } in
    at_end c.args.tree.now c.args.hand.now c.read_leaf.new.hand c.args.limits from c.args.to before old c.args.gathering.now g' c.in-Ok.leaf inv r c.end_round.new.hand c.read_leaf.ensures.same.0 c.end_round.new.gathering refl refl
    c.end_round.result c.in-Nothing.is c.end_round.ensures.ends
