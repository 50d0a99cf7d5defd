use Rattle.std.proofs.Common.{◌∙◌, ◌++◌, [], ◌∷◌, List, sym, ap, subst, length, arith}
use Rattle.std.specs.Prelude.{All}
use Rattle.std.proofs.lemmas.List.Elements.{All-pop, length_all_zip}
use Rattle.bl_index.specs.Calls.{first_of}
use Rattle.bl_map.specs.declared.handle.Handle.{Handle}
use Rattle.bl_map.specs.Meetings.{IsSeated, HasCome}
use Rattle.bl_serve.proofs.Shares.{lent}
use Rattle.bl_serve.proofs.Together.{all_meet}
use Rattle.bl_serve.proofs.meeting.meet_all.Goals as goal

pub meet_all-requires : goal.meet_all-requires
meet_all-requires c =
    let popped = All-pop (IsSeated c.args.index.now) c.args.handles.now.items c.pop.new.self.items c.pop.result c.pop.ensures.items c.requires.own in
    record { own = (rw c.in-Some.is at popped.1, subst (All (IsSeated c.args.index.now)) (sym c.as_mut_slice.ensures.value) popped.0) }

pub returns : goal.returns
returns c =
    let m = c.meet_all.ensures in
    let long = length_all_zip (HasCome m.seen) c.as_mut_slice.result.now c.meet_all.new.others m.theirs in
    let same = ap length c.as_mut_slice.ensures.value in
    let a = c.pop.new.self.ok in
    all_meet (first_of c.args.index.now) c.in-Some.last c.meet_all.new.first c.as_mut_slice.result.now c.meet_all.new.others c.args.handles.now.items c.push.new.self.items
    (c.in-Some.ensures.items ∙ ap (λ (z : List Handle). z ++ c.in-Some.last ∷ []) (sym c.as_mut_slice.ensures.value))
    (c.in_ok-push.ensures.items ∙ ap (λ (z : List Handle). z ++ c.meet_all.new.first ∷ []) (lent c.pop.new.self.len c.pop.new.self.items c.meet_all.new.others (omega (arith, long, same, a)))) m
