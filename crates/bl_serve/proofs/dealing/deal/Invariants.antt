use Rattle.bl_serve.proofs.Deals.{DealsUpto}
use Rattle.bl_serve.proofs.dealing.deal.Given as goal

abbrev pub invariant-loop-place : goal.invariant-loop-place
invariant-loop-place l = DealsUpto l.shares l.place l.lines l.deals.items
