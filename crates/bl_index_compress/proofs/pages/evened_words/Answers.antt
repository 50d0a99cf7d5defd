use Rattle.std.proofs.Common.{◌≡◌, ◌+◌, ◌-◌, ◌/◌, ◌%◌, ◌<◌, ◌≤◌, length, get_or, sym, subst, ◌∙◌, arith}
use Rattle.bl_page.specs.declared.page.Page.{Page}
use Rattle.bl_page.proofs.Once.{once}
use Rattle.bl_rearrange.specs.Rearranged.{pairs_of}
use Rattle.bl_rearrange.specs.Neighbours.{AreNeighbours, together}
use Rattle.bl_proc_routes.proofs.Spellings.{pairs_counted}
use Rattle.bl_index_compress.proofs.Spelled.{neighbours_tree}
use Rattle.bl_index_compress.proofs.Evens.{has_half, gains_left, gains_right, shares}
use Rattle.bl_index_compress.proofs.pages.evened_words.Goals as goal

pub entry_of-separator-requires : goal.entry_of-separator-requires
entry_of-separator-requires c = record {
  pages = (let t = c.requires.pages in let tree = neighbours_tree t.0 t.1 t.2 in let past = t.3 in
      let left = pairs_counted t.0 c.args.left.now tree.0 t.4 in let right = pairs_counted t.1 c.args.right.now tree.1 t.5 in
      (t.0, t.1, tree.0, tree.1, t.4, t.5, omega (arith, left, right, past)));
}

pub part_of-requires-clause-pages : goal.part_of-requires-clause-pages
part_of-requires-clause-pages c =
    let t = c.requires.pages in let tree = neighbours_tree t.0 t.1 t.2 in let past = t.3 in
    let left = pairs_counted t.0 c.args.left.now tree.0 t.4 in let right = pairs_counted t.1 c.args.right.now tree.1 t.5 in
    (t.0, t.1, tree.0, tree.1, t.4, t.5, omega (arith, left, right, past))

pub part_of-requires-2-clause-pages : goal.part_of-requires-2-clause-pages
part_of-requires-2-clause-pages c =
    let t = c.requires.pages in let tree = neighbours_tree t.0 t.1 t.2 in let past = t.3 in
    let left = pairs_counted t.0 c.args.left.now tree.0 t.4 in let right = pairs_counted t.1 c.args.right.now tree.1 t.5 in
    (t.0, t.1, tree.0, tree.1, t.4, t.5, omega (arith, left, right, past))

pub returns-then-left_count-half : goal.returns-then-left_count-half
returns-then-left_count-half c = λ p q v e f is.
    let t = c.requires.pages in
    let n = subst (λ (z : Page × Page). AreNeighbours z.0 z.1) (λ i. (once t.0 p (sym t.4 ∙ e) i, once t.1 q (sym t.5 ∙ f) i)) t.2 in
    let tree = neighbours_tree p q n in
    let left = pairs_counted p c.args.left.now tree.0 e in let right = pairs_counted q c.args.right.now tree.1 f in
    let half = (get_or c.args.left.now 0 0 % 65536 + get_or c.args.right.now 0 0 % 65536 + 1) / 2 in
    let rest = get_or c.args.left.now 0 0 % 65536 + get_or c.args.right.now 0 0 % 65536 - half in
    let is_half : half ≡ (together p q + 1) / 2 = omega (arith, left, right) in
    let is_rest : half + rest ≡ together p q = omega (arith, left, right) in
    let has = has_half p q v c.args.left.now c.args.right.now e f n is half rest is_half is_rest in
    let le : length (pairs_of p) ≤ length (pairs_of v.left) = (let few = c.if-left_count-half.true in omega (arith, left, has, few)) in
    shares p q v c.args.left.now c.args.right.now e f n is half rest is_half is_rest c.entry_of-separator.result (c.entry_of-separator.ensures p q tree.0 tree.1 e f) _ _ _
    (c.part_of.ensures p q tree.0 tree.1 e f) (c.part_of-2.ensures p q tree.0 tree.1 e f) (gains_left v.gains _ _ _ _ is.gains le)

pub returns-else-left_count-half : goal.returns-else-left_count-half
returns-else-left_count-half c = λ p q v e f is.
    let t = c.requires.pages in
    let n = subst (λ (z : Page × Page). AreNeighbours z.0 z.1) (λ i. (once t.0 p (sym t.4 ∙ e) i, once t.1 q (sym t.5 ∙ f) i)) t.2 in
    let tree = neighbours_tree p q n in
    let left = pairs_counted p c.args.left.now tree.0 e in let right = pairs_counted q c.args.right.now tree.1 f in
    let half = (get_or c.args.left.now 0 0 % 65536 + get_or c.args.right.now 0 0 % 65536 + 1) / 2 in
    let rest = get_or c.args.left.now 0 0 % 65536 + get_or c.args.right.now 0 0 % 65536 - half in
    let is_half : half ≡ (together p q + 1) / 2 = omega (arith, left, right) in
    let is_rest : half + rest ≡ together p q = omega (arith, left, right) in
    let has = has_half p q v c.args.left.now c.args.right.now e f n is half rest is_half is_rest in
    let lt : length (pairs_of v.left) < length (pairs_of p) = (let many = c.if-left_count-half.false in omega (arith, left, has, many)) in
    shares p q v c.args.left.now c.args.right.now e f n is half rest is_half is_rest c.entry_of-separator.result (c.entry_of-separator.ensures p q tree.0 tree.1 e f) _ _ _
    (c.part_of.ensures p q tree.0 tree.1 e f) (c.part_of-2.ensures p q tree.0 tree.1 e f) (gains_right v.gains _ _ _ _ is.gains lt)
