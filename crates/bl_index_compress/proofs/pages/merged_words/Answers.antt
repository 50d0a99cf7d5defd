use Rattle.std.proofs.Common.{◌≡◌, ℕ, ◌+◌, ◌%◌, ◌++◌, List, length, get_or, take, sym, ap, subst, ◌∙◌, arith, take_all}
use Rattle.std.proofs.lemmas.List.{length-append}
use Rattle.bl_page.specs.Words.{layout, entries_of}
use Rattle.bl_page.proofs.Once.{once}
use Rattle.bl_page.specs.Nodes.{IsTreePage}
use Rattle.bl_rearrange.specs.Rearranged.{pairs_of, IsNow}
use Rattle.bl_proc_routes.proofs.Spellings.{pairs_counted}
use Rattle.bl_index_compress.proofs.Spelled.{neighbours_tree, reads, spelled_now}
use Rattle.bl_index_compress.proofs.pages.merged_words.Goals as goal

pub part_of-requires-clause-pages : goal.part_of-requires-clause-pages
part_of-requires-clause-pages c =
    let t = c.requires.pages in let tree = neighbours_tree t.0 t.1 t.2 in
    let left = pairs_counted t.0 c.args.left.now tree.0 t.4 in let right = pairs_counted t.1 c.args.right.now tree.1 t.5 in
    (t.0, t.1, tree.0, tree.1, t.4, t.5, omega (arith, left, right))

pub part_of-requires-clause-few : goal.part_of-requires-clause-few
part_of-requires-clause-few c =
    let t = c.requires.pages in let tree = neighbours_tree t.0 t.1 t.2 in let fit = t.3 in
    let left = pairs_counted t.0 c.args.left.now tree.0 t.4 in let right = pairs_counted t.1 c.args.right.now tree.1 t.5 in
    omega (arith, left, right, fit)

pub returns : goal.returns
returns c = λ p q r e f merged.
    let t = c.requires.pages in let trees = neighbours_tree t.0 t.1 t.2 in
    let same = once t.0 p (sym t.4 ∙ e) in let other = once t.1 q (sym t.5 ∙ f) in
    let tree = subst IsTreePage same trees.0 in let also = subst IsTreePage other trees.1 in
    let left = pairs_counted p c.args.left.now tree e in let right = pairs_counted q c.args.right.now also f in
    let both = pairs_of p ++ pairs_of q in
    let count : get_or c.args.left.now 0 0 % 65536 + get_or c.args.right.now 0 0 % 65536 ≡ length both = omega (arith, left, right, length-append (pairs_of p) (pairs_of q)) in
    let all : take (get_or c.args.left.now 0 0 % 65536 + get_or c.args.right.now 0 0 % 65536) both ≡ both = ap (λ (n : ℕ). take n both) count ∙ take_all (length both) both (omega arith) in
    let one = reads p c.args.left.now e in let two = reads q c.args.right.now f in
    let now : IsNow (get_or c.args.left.now 1 0) (get_or c.args.right.now 2 0) (get_or c.args.right.now 3 0) p r = subst (λ (z : ℕ × ℕ × ℕ). IsNow z.0 z.1 z.2 p r) (λ j. (sym one.low j, sym two.high j, sym two.right j)) merged.1 in
    c.part_of.ensures p q tree also e f ∙ (ap (λ (es : List (ℕ × ℕ)). layout (get_or c.args.left.now 0 0 + get_or c.args.right.now 0 0 % 65536) (get_or c.args.left.now 1 0) (get_or c.args.right.now 2 0) (get_or c.args.right.now 3 0) (entries_of es)) all
    ∙ spelled_now _ _ _ (get_or c.args.left.now 0 0 + get_or c.args.right.now 0 0 % 65536) p r c.args.left.now both e now merged.2 (omega (arith, right, length-append (pairs_of p) (pairs_of q))))
