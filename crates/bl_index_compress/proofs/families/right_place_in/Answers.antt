use Rattle.std.proofs.Common.{ℕ, List, ap, ◌∙◌, arith}
use Rattle.bl_page.specs.declared.page.Page.TheVariants.{Inner}
use Rattle.bl_page.specs.Pairs.{place}
use Rattle.bl_page.specs.Faults.{pairs_of as pairs_in_words}
use Rattle.bl_page.proofs.Once.{children_again}
use Rattle.bl_proc_routes.proofs.Spellings.{tree_pairs, pairs_counted}
use Rattle.bl_index_compress.proofs.Kins.{place_front, place_last}
use Rattle.bl_index_compress.proofs.families.right_place_in.Goals as goal

pub place_in-place-requires-clause-pairs : goal.place_in-place-requires-clause-pairs
place_in-place-requires-clause-pairs c = let t = c.requires in tree_pairs (Inner t.0) c.args.parent.now tt t.1

pub returns-then-place-count-clause-place : goal.returns-then-place-count-clause-place
returns-then-place-count-clause-place c = λ i e.
    let at = c.place_in-place.ensures.place ∙ (ap (λ (w : List ℕ). place c.args.key (pairs_in_words w)) e ∙ ap (place c.args.key) (children_again i)) in
    let count = pairs_counted (Inner i) c.args.parent.now tt e in
    place_front c.args.key i.children.items _ at (let lt = c.if-place-count.true in omega (arith, lt, count))

pub returns-else-place-count-clause-place : goal.returns-else-place-count-clause-place
returns-else-place-count-clause-place c = λ i e.
    let at = c.place_in-place.ensures.place ∙ (ap (λ (w : List ℕ). place c.args.key (pairs_in_words w)) e ∙ ap (place c.args.key) (children_again i)) in
    let count = pairs_counted (Inner i) c.args.parent.now tt e in
    place_last c.args.key i.children.items _ at (let ge = c.if-place-count.false in omega (arith, ge, count))
