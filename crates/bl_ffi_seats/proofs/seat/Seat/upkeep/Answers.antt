use Rattle.std.proofs.Common.{subst}
use Rattle.bl_index.specs.Calls.{first_of, pages_of, number_of, trail}
use Rattle.bl_index.specs.declared.index.Index.{Index}
use Rattle.bl_map_calls.proofs.Adding.{swept_more}
use Rattle.bl_map_tries.specs.Tries.{KeepsUp}
use Rattle.bl_map_calls.specs.Works.{Swept, Never}
use Rattle.bl_ffi_seats.proofs.seat.Seat.upkeep.Goals as goal

pub returns-clause-kept : goal.returns-clause-kept
returns-clause-kept c =
    let e = c.try_upkeep-done in let old = c.args.self.now in
    record {
      mid = trail e.new.pass;
      keeps = subst (λ (z : Index). KeepsUp (first_of z) (pages_of z) (number_of old.pass) c.args.most old.waiting e.new.waiting old.walk e.new.walk (trail old.pass) (trail e.new.pass)) c.deref.ensures e.ensures.keeps;
      sweeps = subst (λ (z : Index). Swept (first_of z) (number_of old.pass) (trail e.new.pass) (trail c.sweep.new.pass)) c.deref-2.ensures
          (swept_more _ _ _ _ _ _ _ e.ensures.same.2 Never c.sweep.ensures.sweeps);
      swept = c.sweep.ensures.swept.1;
    }
