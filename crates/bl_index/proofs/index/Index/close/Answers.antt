use Rattle.std.proofs.Common.{rules, ◌≡◌, true, List, ap, subst, arith}
use Rattle.bl_index_events.specs.declared.tree.Tree.{Tree}
use Rattle.bl_index.specs.Closed.{HasPass}
use Rattle.bl_index.specs.declared.index.Pass.{Pass}
use Rattle.bl_index.proofs.AtRest.{each_hand, idle_hands, closes}
use Rattle.bl_index.proofs.index.Index.close.Goals as goal

pub close_hands-requires-clause-own : goal.close_hands-requires-clause-own
close_hands-requires-clause-own c = idle_hands c.args.self c.args.passes.items c.hands_of.result.items c.hands_of.ensures c.requires.own

pub close_hands-requires-clause-all : goal.close_hands-requires-clause-all
close_hands-requires-clause-all c =
    let has : c.has_all.result ≡ true = search rules in let count = c.args.self.shared in let same = ap (λ (z : Tree). z.passes) c.self.view_is in
    each_hand c.args.self c.args.passes.items c.hands_of.result.items c.hands_of.ensures
    (λ n lt. subst (λ (z : List Pass). HasPass z n) c.as_slice.ensures.value (c.has_all.ensures.yes has n (omega (arith, lt, count, same))))

pub returns-in-Ok-with_capacity-clause-ok : goal.returns-in-Ok-with_capacity-clause-ok
returns-in-Ok-with_capacity-clause-ok c =
    let has : c.has_all.result ≡ true = search rules in let count = c.args.self.shared in let same = ap (λ (z : Tree). z.passes) c.self.view_is in
    closes c.args.self c.args.passes.items c.hands_of.result.items c.hands_of.ensures c.close_hands.result.image.pages.items c.requires.own
    (λ n lt. subst (λ (z : List Pass). HasPass z n) c.as_slice.ensures.value (c.has_all.ensures.yes has n (omega (arith, lt, count, same)))) c.close_hands.ensures
