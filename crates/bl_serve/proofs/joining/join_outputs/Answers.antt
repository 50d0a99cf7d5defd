use Rattle.std.proofs.Common.{sym, ap, subst, ◌∙◌, List, length, arith}
use Rattle.std.specs.Prelude.{All}
use Rattle.std.proofs.lemmas.List.Sorted.{All-permutation}
use Rattle.bl_serve_worker.specs.declared.chunk.ShareOutput.{ShareOutput}
use Rattle.bl_serve.specs.Joining.{IsWhole, NamesLost}
use Rattle.bl_serve.proofs.Merging.{names_lost, as_many, all_numbered}
use Rattle.bl_serve.proofs.joining.join_outputs.Goals as goal

pub returns-then-not-are_all-clause-lost : goal.returns-then-not-are_all-clause-lost
returns-then-not-are_all-clause-lost c = names_lost _ _ c.args.deals.now c.args.before c.lost_line.result c.in_ok-sort_by_key.ensures.permutation
    (subst (λ (z : List ShareOutput). NamesLost z c.args.deals.now c.args.before c.lost_line.result) c.as_slice-then-not-are_all.ensures.value c.lost_line.ensures.names)

pub merge-requires-clause-all : goal.merge-requires-clause-all
merge-requires-clause-all c = let e = c.as_slice.ensures.value ∙ sym c.as_slice-2.ensures.value in all_numbered _ _ c.args.shares e (c.are_all.ensures c.if-not-are_all.false)

pub merge-requires-clause-whole : goal.merge-requires-clause-whole
merge-requires-clause-whole c = subst (All (IsWhole c.args.deals.now)) (sym c.as_slice-2.ensures.value) (All-permutation (IsWhole c.args.deals.now) _ _ c.in_ok-sort_by_key.ensures.permutation c.requires.whole)

pub merge-requires-clause-low : goal.merge-requires-clause-low
merge-requires-clause-low c = let many = as_many _ c.args.shares (c.are_all.ensures c.if-not-are_all.false) in let e = ap length (c.as_slice.ensures.value ∙ sym c.as_slice-2.ensures.value) in
    λ k d low. let few = c.requires.low k d low in omega (arith, few, many, e)
