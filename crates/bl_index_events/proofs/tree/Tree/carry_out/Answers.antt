use Rattle.bl_proc_steps.specs.declared.acts.Seen.TheVariants as seen
use Rattle.std.proofs.Common.{inl, inr}
use Rattle.bl_proc_deterministic.proofs.RefusedTurns.{takes_refused, takes_puts}
use Rattle.bl_index_events.proofs.Rooms.{done_not_refused}
use Rattle.bl_index_events.proofs.Standing.{done_from}
use Rattle.bl_index_events.proofs.tree.Tree.carry_out.Goals as goal

pub returns-clause-done : goal.returns-clause-done
returns-clause-done g c =
    let follows = g.met.P.Kind.follows _ _ _ c.begin.ensures.takes in
    done_from _ _ _ _ _ _ (c.carry_on.ensures.done _ _ c.begin.ensures.begun) follows.op follows.work

pub carry_on-requires-clause-free : goal.carry_on-requires-clause-free
carry_on-requires-clause-free g c =
    let takes = g.met.P.Kind.goes _ _ _ c.begin.ensures.takes in
    let p = g.P.Kind.proc_of c.args.process in let q = g.P.Kind.proc_of c.begin.new.process in
    ((λ r. elim (takes_refused p seen.Done q takes r) [ inl was ↦ c.requires.free.0 was | inr observed ↦ done_not_refused observed ]), λ r. c.requires.free.1 (takes_puts p seen.Done q takes r))

pub begin-requires-clause-own : goal.begin-requires-clause-own
begin-requires-clause-own g c = c.requires.own

pub begin-requires-clause-new : goal.begin-requires-clause-new
begin-requires-clause-new g c = c.requires.new

pub returns-clause-empty : goal.returns-clause-empty
returns-clause-empty g c = c.carry_on.ensures.empty

pub returns-clause-rests : goal.returns-clause-rests
returns-clause-rests g c = c.carry_on.ensures.rests

pub returns-clause-no_room : goal.returns-clause-no_room
returns-clause-no_room g c = c.carry_on.ensures.no_room

pub carry_on-requires-clause-runs : goal.carry_on-requires-clause-runs
carry_on-requires-clause-runs g c = c.begin.ensures.runs
