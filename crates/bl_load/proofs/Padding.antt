-- Pages with such behind them as are not in use, and under their anchor.
use Rattle.std.proofs.Common.{◌≡◌, ◌≢◌, ℕ, ◌<◌, List, length, set, Option, Some, refl, ap, ◌∙◌, arith, get_or-set_same, get_or-set_other}
use Rattle.std.proofs.Math.ListN.{length-set}
use Rattle.bl_page.specs.declared.page.Anchor.{Anchor as AnchorPage}
use Rattle.bl_page.specs.declared.page.Page.{Page}
use Rattle.bl_page.specs.declared.page.Page.TheVariants.{Anchor}
use Rattle.bl_page.specs.Pages.{page_at}
use Rattle.bl_load.specs.Trees.{IsPadded}
use Rattle.bl_load.proofs.Sounding.{IsWhole}

pub whole_of : (pages : List (Option Page)) (roots : List ℕ) (final first : List (Option Page)) (count : ℕ) (a : AnchorPage) → 0 < length pages → a.leftmost.items ≡ roots → first ≡ set pages 0 (Some (Anchor a))
    → IsPadded first count final → IsWhole pages roots final
whole_of pages roots final first count a some lists is p =
    let size : length first ≡ length pages = ap length is ∙ length-set pages 0 (Some (Anchor a)) in
    record {
      anchor = a;
      lists = lists;
      first = p.same 0 (omega (arith, size, some)) ∙ ap (λ (l : List (Option Page)). page_at l 0) is ∙ at_first pages some;
      same = λ x above within. p.same x (omega (arith, size, within)) ∙ ap (λ (l : List (Option Page)). page_at l x) is ∙ at_other pages x above;
      none = λ x above past. p.none x (omega (arith, size, past));
    }
  where
    at_first : (pages : List (Option Page)) → 0 < length pages → page_at (set pages 0 (Some (Anchor a))) 0 ≡ Some (Anchor a)
    at_first pages some = rw get_or-set_same refl

    at_other : (pages : List (Option Page)) (x : ℕ) → 0 < x → page_at (set pages 0 (Some (Anchor a))) x ≡ page_at pages x
    at_other pages x above = let ne : x ≢ 0 = omega arith in rw get_or-set_other refl
