use Rattle.std.proofs.Common.{inl, inr}
use Rattle.bl_proc_ends.proofs.Spending.{spends}
use Rattle.bl_proc_ends.proofs.FewPuts.{puts_few}
use Rattle.bl_proc_ends.proofs.laws.puts_end.Goals as goal

pub returns-clause-few : goal.returns-clause-few
returns-clause-few c = λ p. puts_few p

pub returns-clause-fewer : goal.returns-clause-fewer
returns-clause-fewer c = λ old new what t. elim (spends old new what t) [ inl s ↦ inl (s.kept, s.spent) | inr r ↦ inr (r.0, r.1) ]
