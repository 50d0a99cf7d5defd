use Rattle.std.proofs.Common.{subst}
use Rattle.bl_model.specs.Writes.{write_op}
use Rattle.bl_proc_writes.specs.Placings.{write_of}
use Rattle.bl_model.specs.Replies.{reply_of}
use Rattle.bl_store.specs.Hands.{known, WasRefused}
use Rattle.bl_index_events.specs.Refused.{LacksForWrite, LacksForPost}
use Rattle.bl_index_events.proofs.Ends.{done_first}
use Rattle.bl_index_write.specs.Climbing.{HasClimbed}
use Rattle.bl_index.specs.Calls.{number_of}
use Rattle.bl_index.proofs.Taken.{same_pass, of_inside}
use Rattle.bl_index.proofs.Alone.{steps_alone}
use Rattle.bl_index.proofs.Climbings.{climb_answered, climb_in_call}
use Rattle.bl_index.specs.contracts.index.Pass as view
use Rattle.bl_index.proofs.index.Index.write_posting.Goals as goal

pub returns-clause-climbs : goal.returns-clause-climbs
returns-clause-climbs g c = let own = of_inside c.self.view_is c.pass.view_is c.requires.own in rw (← c.self.view_is, ← c.pass.view_is) (climb_answered _ _ _ _ _ _ _ _ _ c.write_key_posting.ensures.climbed own.2)

pub returns-clause-alone : goal.returns-clause-alone
returns-clause-alone g c =
    let own = of_inside c.self.view_is c.pass.view_is c.requires.own in rw (← c.self.view_is, ← c.pass.view_is) (
    let e = c.write_key_posting.ensures in
    let climbs = climb_answered _ _ _ _ _ _ _ _ _ e.climbed own.2 in
    steps_alone c.self.inside.tree (view.the_view c.pass.inside) c.write_key_posting.new.hand.seat (write_op c.args.key (write_of c.args.placing)) own e.same e.rests.within _ climbs.answers)

pub returns-clause-no_room : goal.returns-clause-no_room
returns-clause-no_room g c =
    let own = of_inside c.self.view_is c.pass.view_is c.requires.own in rw (← c.pass.view_is) (
    λ none.
    let e = c.write_key_posting.ensures in let h = c.write_key_posting.new.hand.seat in let r = c.write_key_posting.result in
    let climbed = subst (λ z. HasClimbed (number_of (view.the_view c.pass.inside)) (known c.pass.inside.hand.seat) (known h) c.args.key c.args.placing (reply_of z) r.1 r.2) none e.climbed in
    climb_in_call _ _ _ _ _ _ _ _ _ climbed own.2 (λ marks. LacksForWrite c.args.key (write_of c.args.placing) marks (WasRefused h)) (e.no_room none))

pub returns-clause-left : goal.returns-clause-left
returns-clause-left g c =
    let own = of_inside c.self.view_is c.pass.view_is c.requires.own in rw (← c.pass.view_is) (
    λ level separator there.
    let e = c.write_key_posting.ensures in let h = c.write_key_posting.new.hand.seat in let r = c.write_key_posting.result in
    let climbed = subst (λ z. HasClimbed (number_of (view.the_view c.pass.inside)) (known c.pass.inside.hand.seat) (known h) c.args.key c.args.placing z r.1 r.2) (e.entered level separator there) e.climbed in
    climb_in_call _ _ _ _ _ _ _ _ _ climbed own.2 (λ marks. LacksForPost level separator marks (WasRefused h)) (e.left level separator there))

pub returns-clause-same : goal.returns-clause-same
returns-clause-same g c = rw (← c.pass.view_is) (let e = c.write_key_posting.ensures in same_pass c.pass.inside.hand c.write_key_posting.new.hand e.same (done_first _ _ _ _ _ e.climbed.done))

pub invariant_of-pass-inside : goal.invariant_of-pass-inside
invariant_of-pass-inside g c = let e = c.write_key_posting.ensures in (e.rests.idle, (e.empty, (e.rests.within, (e.rests.over, (∣ e.climbed.done.observed.notes.seen ∣₁, tt)))))
