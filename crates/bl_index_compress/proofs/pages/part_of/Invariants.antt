use Rattle.std.proofs.Common.{◌≡◌, ℕ, ◌+◌, ◌*◌, ◌<◌, ◌≤◌, ◌++◌, length, get_or}
use Rattle.bl_page.specs.declared.page.Page.{Page}
use Rattle.bl_page.specs.Words.{words_of, entries_of}
use Rattle.bl_page.specs.Nodes.{IsTreePage}
use Rattle.bl_rearrange.specs.Rearranged.{pairs_of}
use Rattle.bl_index_compress.proofs.pages.part_of.Given as goal

abbrev pub invariant-loop-i : goal.invariant-loop-i
invariant-loop-i l = record {
  long : length l.words ≡ 32;
  first : get_or l.words 0 0 ≡ l.fn.head.first;
  low : get_or l.words 1 0 ≡ l.fn.head.low;
  high : get_or l.words 2 0 ≡ l.fn.head.high;
  right : get_or l.words 3 0 ≡ l.fn.head.right;
  read : (c d : Page) → IsTreePage c → IsTreePage d → l.left ≡ words_of c → l.right ≡ words_of d → (k : ℕ) → k < l.i → get_or l.words (4 + k) 0 ≡ get_or (entries_of (pairs_of c ++ pairs_of d)) (2 * l.from + k) 0;
  rest : (k : ℕ) → l.i ≤ k → k < 28 → get_or l.words (4 + k) 0 ≡ 0;
}
