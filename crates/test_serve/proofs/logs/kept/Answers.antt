use Rattle.std.proofs.Common.{◌≡◌, ℕ, [], refl, rules, List}
use Rattle.test_serve.proofs.logs.kept.Goals as goal

-- no bytes are the log of a map without rows
pub serve_by_plan-requires-clause-log : goal.serve_by_plan-requires-clause-log
serve_by_plan-requires-clause-log g c κs within = λ modelled.
    let none : c.new-tape.result.log.items ≡ [] = search rules in
    ([], refl, record { words = []; spelled = none; fits = tt; bodies = []; records = refl; left = λ key value. refl })
