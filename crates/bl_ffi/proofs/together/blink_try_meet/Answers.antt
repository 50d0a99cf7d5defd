use Rattle.std.proofs.Common.{Some, inr, refl, sym, ap, ◌∙◌}
use Rattle.bl_ffi_seats.specs.declared.seat.Seat.{Seat}
use Rattle.bl_ffi.proofs.together.blink_try_meet.Goals as goal

pub returns : goal.returns
returns c = let e = c.meet.ensures in inr (
  refl,
  record {
    s = c.deref_mut.result.now;
    t = c.deref_mut-2.result.now;
    s' = c.meet.new.self;
    t' = c.meet.new.other;
    were = (c.in-Some.ensures.held ∙ ap (λ (z : Seat). Some z) (sym c.deref_mut.ensures.value), c.in-Some-taken.ensures.held ∙ ap (λ (z : Seat). Some z) (sym c.deref_mut-2.ensures.value));
    are = (c.put_back-2.ensures, c.put_back-3.ensures);
    same = e.same;
    keeps = e.keeps;
    met = e.met;
  },
)
