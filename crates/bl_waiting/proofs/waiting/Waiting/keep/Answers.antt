use Rattle.std.proofs.Common.{◌≡◌, true, sym, subst}
use Rattle.std.specs.Prelude.{is_some}
use Rattle.std.specs.List.{list_all}
use Rattle.bl_waiting.proofs.Places.{one_more}
use Rattle.bl_waiting.proofs.waiting.Waiting.keep.Goals as goal

pub invariant_of-self-else-is_full : goal.invariant_of-self-else-is_full
invariant_of-self-else-is_full c = record { real = subst (λ z. list_all is_some z ≡ true) (sym c.push.ensures.items) (one_more c.args.self.now.hints.items c.in-Some.hint c.args.self.now.real) }
