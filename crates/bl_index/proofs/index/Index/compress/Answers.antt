use Rattle.std.proofs.Common.{Some, ◌∙◌}
use Rattle.bl_index.proofs.Taken.{same_pass, of_inside}
use Rattle.bl_index_events.proofs.Ends.{done_first}
use Rattle.bl_index.proofs.CompressEnds.{compress_answered}
use Rattle.bl_index.proofs.index.Index.compress.Goals as goal

pub returns-clause-compresses : goal.returns-clause-compresses
returns-clause-compresses g c =
    let own = of_inside c.self.view_is c.pass.view_is c.requires.own in rw (← c.self.view_is, ← c.pass.view_is) (
    let said = c.compress_children.ensures.compressed in
    compress_answered _ _ _ _ _ _ _ _ _ _ said.2.done own.2 (said.1 ∙ (λ i. Some (c.level.ensures.named i, c.key.ensures i))) said.2.answer)

pub returns-clause-no_room : goal.returns-clause-no_room
returns-clause-no_room g c = c.compress_children.ensures.no_room

pub returns-clause-same : goal.returns-clause-same
returns-clause-same g c = rw (← c.pass.view_is) (let e = c.compress_children.ensures in same_pass c.pass.inside.hand c.compress_children.new.hand e.same (done_first _ _ _ _ _ e.compressed.2.done))

pub invariant_of-pass-inside : goal.invariant_of-pass-inside
invariant_of-pass-inside g c = let e = c.compress_children.ensures in (e.rests.idle, (e.empty, (e.rests.within, (e.rests.over, (∣ e.compressed.2.done.observed.notes.seen ∣₁, tt)))))
