use Rattle.std.proofs.Common.{rules, ℕ, ◌≡◌, ◌<◌, List, length, get_or, sym, ap, subst, ◌∙◌, None}
use Rattle.bl_store.specs.declared.store.Hand.{Hand}
use Rattle.bl_store.specs.Opening.{IsDealt}
use Rattle.test_store_rule.specs.Holding.{holding}
use Rattle.test_store_rule.specs.declared.Mine.{Mine}
use Rattle.test_store_race.proofs.Racing.{all_idle, all_back}
use Rattle.test_store_race.proofs.main.Goals as goal

pub shut-pages-requires-clause-own : goal.shut-pages-requires-clause-own
shut-pages-requires-clause-own g c = let xs : List (Hand Mine) = c.in_ok-store.hands.items in let ys : List (Hand Mine) = c.race.new.hands in let lent : c.as_mut_slice.result.now ≡ xs = c.as_mut_slice.ensures.value in let t = c.in_ok-store.store.table.shared.table_id in
    all_idle t c.in_ok-store.store.layout c.in_ok-store.hands.len xs ys (search rules) (c.race.ensures.count ∙ ap length lent) (λ i h low. c.race.ensures.fresh i h (subst (λ (z : List (Hand Mine)). i < length z) (sym lent) low))

pub shut-pages-requires-clause-all : goal.shut-pages-requires-clause-all
shut-pages-requires-clause-all g c = let xs : List (Hand Mine) = c.in_ok-store.hands.items in let ys : List (Hand Mine) = c.race.new.hands in let lent : c.as_mut_slice.result.now ≡ xs = c.as_mut_slice.ensures.value in let t = c.in_ok-store.store.table.shared.table_id in let made = c.in_ok-store.ensures in let passes = made.sizes.1 in
    all_back t c.in_ok-store.store.layout c.in_ok-store.hands.len xs ys (search rules) (c.race.ensures.count ∙ ap length lent) c.in_ok-store.store.layout.passes (subst (λ (z : ℕ). IsDealt t c.in_ok-store.store.layout (holding None) z xs) (sym passes) made.dealt)
    (λ i h low. subst (λ (z : List (Hand Mine)). (get_or ys i h).number ≡ (get_or z i h).number) lent (c.race.ensures.same i h (subst (λ (z : List (Hand Mine)). i < length z) (sym lent) low)))
