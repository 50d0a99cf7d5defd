use Rattle.std.proofs.Common.{rules, arith, ◌≡◌, ℕ, List, ap, ◌∙◌}
use lib.ListN.{get_elem?}
use Rattle.test_store_rule.specs.Holding.{first_words}
use Rattle.test_store_rule.proofs.Steps.{first_low, first_high, listed, starts, all_fresh}
use Rattle.test_store_rule.proofs.hands.Goals as goal
use Rattle.test_store_rule.proofs.hands.Goals.{then-page-lt2, else-page-lt2}

pub loop-page-preserved : goal.loop-page-preserved
loop-page-preserved c = let inv = c.loop-page.invariant in let items = c.in_ok-push.ensures.items in
    let is : c.if-page-lt2.push ≡ first_words c.loop-page.page = elim c.if-page-lt2.branch [ then-page-lt2 w ↦ w.push-is ∙ first_low c.loop-page.page w.if-page-lt2.true | else-page-lt2 w ↦ w.push-is ∙ first_high c.loop-page.page w.if-page-lt2.false ] in record {
      size = search rules;
      each = λ k low. ap (λ (z : List (List ℕ)). get_elem? z k) items ∙ listed c.loop-page.first.items c.loop-page.page c.if-page-lt2.push inv.size is inv.each k low;
    }

pub new-requires-clause-rule : goal.new-requires-clause-rule
new-requires-clause-rule c = let inv = c.loop-page.invariant in let end = c.loop-page-test.false in let size = inv.size in
    starts c.loop-page.first.items c.args.passes (λ k low. inv.each k (omega arith))

pub returns-clause-fresh : goal.returns-clause-fresh
returns-clause-fresh c = all_fresh _ _ _ _ c.in_ok-store.ensures.hands
