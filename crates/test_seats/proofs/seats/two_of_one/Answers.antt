use Rattle.std.proofs.Common.{◌∙◌, sym, subst}
use Rattle.std.specs.List.{AllZip}
use Rattle.bl_ffi_seats.specs.Opened.{IsNewSeat}
use Rattle.test_seats.proofs.Pairs.{last_at, rest_at}
use Rattle.test_seats.proofs.seats.two_of_one.Goals as goal

pub returns : goal.returns
returns c =
    let opened = c.in-Ok.ensures.ok in
    let all = subst (AllZip (IsNewSeat opened.index) opened.passes) c.in_ok-two.ensures.items opened.each in
    let rest = rest_at opened.index opened.passes c.pop.new.self.items c.in_ok-two.two all in
    let ones = subst (AllZip (IsNewSeat opened.index) rest.0) c.in_ok-one.ensures.items rest.1 in
    last_at opened.index opened.passes c.pop.new.self.items c.in_ok-two.two all ∙ sym (last_at opened.index rest.0 c.pop-2.new.self.items c.in_ok-one.one ones)
