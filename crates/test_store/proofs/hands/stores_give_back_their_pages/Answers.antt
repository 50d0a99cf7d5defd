use Rattle.std.proofs.Common.{List, [], ◌∷◌, ◌++◌, ap, ◌∙◌}
use Rattle.bl_store.specs.declared.store.Hand.{Hand}
use Rattle.test_store_rule.specs.declared.Mine.{Mine}
use Rattle.test_store_rule.proofs.Steps.{both_there, same_number}
use Rattle.test_store.proofs.hands.stores_give_back_their_pages.Goals as goal

pub shut-pages-requires-clause-all : goal.shut-pages-requires-clause-all
shut-pages-requires-clause-all g c = let made = c.in_ok-store.ensures in both_there _ _ c.meet.new.hand c.meet.new.other made.sizes.1
    (c.in_ok-push-2.ensures.items ∙ ap (λ (z : List (Hand Mine)). z ++ c.meet.new.other ∷ []) (c.in_ok-push.ensures.items ∙ ap (λ (z : List (Hand Mine)). z ++ c.meet.new.hand ∷ []) c.new-hands.ensures.items))
    (same_number c.change-changed.new.hand c.meet.new.hand c.meet.ensures.same.0 ∙ (same_number c.in_ok-store.one c.change-changed.new.hand c.change-changed.ensures.same.0 ∙ made.first.1)) (same_number c.in_ok-store.two c.meet.new.other c.meet.ensures.other.0 ∙ made.second.1)
