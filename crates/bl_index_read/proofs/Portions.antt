-- What a scan reads of a leaf's words: that it begins with a key, that it ends below the scan's end, and how the scan goes on.
use Rattle.std.proofs.Common.{◌≡◌, ℕ, zero, suc, ◌-◌, ◌^◌, ◌<◌, ◌≤◌, Option, Some, None, List, [], ◌∷◌, length, get_or, sym, ap, subst, arith}
use Rattle.std.proofs.lemmas.Bool.Decides.{nat_tests}
use Rattle.bl_model.specs.Rows.{key_at}
use Rattle.bl_model.specs.Parts.{next_key}
use Rattle.bl_model.specs.declared.operation.Next.{Next}
use Rattle.bl_model.specs.declared.operation.Next.TheVariants.{More, End}
use Rattle.bl_model.proofs.Parts.{IsPlaceOf}
use Rattle.bl_page.specs.declared.page.Page.{Page}
use Rattle.bl_page.specs.declared.page.Page.TheVariants as page
use Rattle.bl_page.specs.Faults.{count_in, pairs_of}
use Rattle.bl_page.specs.Pairs.{AllWithin, end_of}
use Rattle.bl_page.specs.Words.{words_of}
use Rattle.bl_page.proofs.FaultLemmas.{fits}
use Rattle.bl_page.specs.Nodes.{IsTreePage}
use Rattle.bl_proc_routes.proofs.Spellings.{tree_pairs}
use Rattle.bl_proc.specs.declared.parts.Direction.TheVariants.{Down}
use Rattle.bl_proc.specs.Parts.{GoesOnBelow}
use Rattle.bl_index_read.specs.declared.leaf_rows.Behind.TheVariants.{Part, Nothing}
use Rattle.bl_index_read.specs.LeafRows.{IsBelow, IsBefore, first_above, GoesOnWithin, EndsBefore, IsLastBelow}
use Rattle.bl_index_read.proofs.Picked.{count_is}
use Rattle.bl_index_read.proofs.Ranges.{below_true}

-- the keys of a page are within its bounds
within_each : (low high : ℕ) (rows : List (ℕ × ℕ)) → AllWithin low high rows → (i : ℕ) → i < length rows → (low ≤ key_at rows i) × (key_at rows i < end_of high)
within_each low high [] all i lt = absurd (omega arith)
within_each low high (row ∷ rows) all zero lt = all.0
within_each low high (row ∷ rows) all (suc i) lt = within_each low high rows all.1 i (omega arith)

all_within : (c : Page) (words : List ℕ) → IsTreePage c → words ≡ words_of c → AllWithin (get_or words 1 0) (get_or words 2 0) (pairs_of words)
all_within (page.Anchor a) words tree e = absurd tree
all_within (page.Leaf l) words tree e = subst (λ w. AllWithin (get_or w 1 0) (get_or w 2 0) (pairs_of w)) (sym e) (fits (page.Leaf l)).cover
all_within (page.Inner n) words tree e = subst (λ w. AllWithin (get_or w 1 0) (get_or w 2 0) (pairs_of w)) (sym e) (fits (page.Inner n)).cover.0
all_within (page.Dead d) words tree e = absurd tree

end_is : (high : ℕ) → 0 < high → end_of high ≡ high
end_is zero some = absurd (omega (arith, some))
end_is (suc n) some = grind (arith, nat_tests)

module _ (c : Page) (words : List ℕ) (tree : IsTreePage c) (e : words ≡ words_of c) where
  -- its first row is the first from its low on
  pub place_first : (from : ℕ) → get_or words 1 0 ≡ from → IsPlaceOf (pairs_of words) from 0
  place_first from is = record {
    in_range = omega arith;
    before = λ j lt. absurd (omega arith);
    behind = λ j low lt. (let w = within_each (get_or words 1 0) (get_or words 2 0) (pairs_of words) (all_within c words tree e) j lt in omega (arith, w.0, is));
  }

  -- all its rows lie below an end that is not below its bound
  pub ends_with : length words ≡ 32 → (to : Option ℕ) (first count last high : ℕ) → IsLastBelow to last → high ≡ get_or words 2 0 → 0 < high → high ≤ last → first ≤ count → count ≡ count_in words → EndsBefore (pairs_of words) to first count
  ends_with long to first count last high is bound some low before all =
      let n = count_is words long (tree_pairs c words tree e) in record {
        behind = before;
        in_range = omega (arith, n, all);
        below = λ i least lt. below_true to (key_at (pairs_of words) i) (below to is i (omega (arith, n, all, lt)));
        others = λ i least lt. absurd (omega (arith, n, all, least, lt));
      }
    where
      below : (end : Option ℕ) → IsLastBelow end last → (i : ℕ) → i < length (pairs_of words) → IsBelow end (key_at (pairs_of words) i)
      below None l i lt = tt
      below (Some end) l i lt = let w = within_each (get_or words 1 0) (get_or words 2 0) (pairs_of words) (all_within c words tree e) i lt in let h = end_is (get_or words 2 0) (omega (arith, some, bound)) in omega (arith, l, w.1, h, bound, low)

-- ---- how a scan downwards goes on

pub goes_down : (to : Option ℕ) (least low page : ℕ) (next : Next) → least ≡ first_above to → GoesOnBelow low next → least < low → low < 2 ^ 64 → GoesOnWithin Down to (next_key next) (Part (low - 1) page)
goes_down to least low page (More key) is goes lt fits = (ap Some (let e : key ≡ low - 1 = omega (arith, goes) in e), omega (arith, fits), above to is)
  where
    above : (end : Option ℕ) → least ≡ first_above end → IsBefore Down end (low - 1)
    above None e = tt
    above (Some end) e = omega (arith, e, lt)
goes_down to least low page End is goes lt fits = absurd (omega (arith, goes, lt))

pub ends_down : (to : Option ℕ) (least low : ℕ) (next : Next) → least ≡ first_above to → GoesOnBelow low next → low ≤ least → GoesOnWithin Down to (next_key next) Nothing
ends_down None least low (More key) is goes le = omega (arith, is, goes, le)
ends_down None least low End is goes le = tt
ends_down (Some end) least low (More key) is goes le = omega (arith, is, goes, le)
ends_down (Some end) least low End is goes le = tt
