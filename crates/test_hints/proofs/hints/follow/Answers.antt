use Rattle.std.proofs.Common.{sym, subst}
use Rattle.bl_index.specs.Calls.{IsPassOf}
use Rattle.bl_index.specs.declared.index.Pass.{Pass}
use Rattle.bl_index.proofs.Taken.{same_of}
use Rattle.test_hints.proofs.hints.follow.Goals as goal

pub returns : goal.returns
returns g c =
    let began = subst (λ (p : Pass). IsPassOf c.args.index.now p) (sym c.over-handle.ensures.1) c.requires in
    subst (λ (p : Pass). IsPassOf c.args.index.now p) (sym c.into_seat.ensures)
    (same_of c.args.index.now c.over-handle.result.pass c.follow_hint-followed.new.handle.pass c.follow_hint-followed.ensures.same.1 began)
