use Rattle.std.proofs.Common.{◌≡◌, ◌+◌, ◌*◌, ◌<◌, ◌≤◌, ◌++◌, length, take, drop, refl, sym, subst, ◌∙◌, arith}
use Rattle.bl_page.specs.declared.page.Page.{Page}
use Rattle.bl_page.specs.Words.{entries_of}
use Rattle.bl_page.proofs.Once.{once}
use Rattle.bl_rearrange.specs.Rearranged.{pairs_of}
use Rattle.bl_rearrange.specs.Neighbours.{together}
use Rattle.std.proofs.lemmas.List.{length-append}
use Rattle.bl_proc_deterministic.proofs.Spelling.{blank, laid}
use Rattle.bl_index_compress.proofs.Parted.{entry_within, entries_long}
use Rattle.bl_index_compress.proofs.pages.part_of.Goals as goal

pub loop-i-init : goal.loop-i-init
loop-i-init c = record {
  long = refl;
  first = refl;
  low = refl;
  high = refl;
  right = refl;
  read = λ p q tree also e f k low. absurd (omega arith);
  rest = λ k _ _. blank c.args.head.first c.args.head.low c.args.head.high c.args.head.right k;
}

pub entry_of-requires : goal.entry_of-requires
entry_of-requires c = record {
  pages = (let t = c.requires.pages in
      (t.0, t.1, t.2, t.3, t.4, t.5, (let low = c.loop-i-test.true in let end = c.loop-i.auto.i-end in let le = t.6 in omega (arith, low, end, le))));
}

pub returns : goal.returns
returns c = λ p q tree also e f.
    let i = c.loop-i.invariant in let t = c.requires.pages in
    let from = c.args.from in let count = c.args.count in let both = pairs_of p ++ pairs_of q in
    let same = once t.0 p (sym t.4 ∙ e) in let other = once t.1 q (sym t.5 ∙ f) in
    let some : from + count ≤ together p q = subst (λ (z : Page × Page). from + count ≤ together z.0 z.1) (λ j. (same j, other j)) t.6 in
    let all : from + count ≤ length both = omega (arith, some, length-append (pairs_of p) (pairs_of q)) in
    let es = entries_of (take count (drop from both)) in
    let long : length es ≡ 2 * count = entries_long from count both all in
    let end = c.loop-i.auto.i-end in let done = c.loop-i-test.false in let few = c.requires.few in
    laid c.args.head.first c.args.head.low c.args.head.high c.args.head.right c.loop-i.words es i.long (omega (arith, long, few)) i.first i.low i.high i.right
    (λ k low. let lt : k < 2 * count = omega (arith, low, long) in i.read p q tree also e f k (omega (arith, lt, done)) ∙ sym (entry_within from count both k lt))
    (λ k past low. i.rest k (omega (arith, past, long, end)) low)
