use Rattle.test_store_rule.proofs.Steps.{last_fresh, next_fresh}
use Rattle.test_store_rule.proofs.two_hands.Goals as goal

pub returns-clause-first : goal.returns-clause-first
returns-clause-first c = next_fresh _ _ _ _ _ c.in-Some-pop.one c.in-Some.two c.in-Some.ensures.items c.in-Some-pop.ensures.items c.in_ok-store.ensures.dealt

pub returns-clause-second : goal.returns-clause-second
returns-clause-second c = last_fresh _ _ _ _ _ c.in-Some-pop.one c.in-Some.two c.in-Some.ensures.items c.in-Some-pop.ensures.items c.in_ok-store.ensures.dealt
