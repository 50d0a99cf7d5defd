-- The words of two pages that have been evened out, and of their parent.
use Rattle.std.specs.Prelude.{◌≡◌, ℕ, Bool, true, false, List, Option, Some, None}
use Rattle.bl_page.specs.declared.page.Page.{Page}
use Rattle.bl_page.specs.Words.{words_of}
use Rattle.bl_rearrange.specs.declared.sides.Evened.{Evened}
use Rattle.bl_index_compress.specs.declared.shares.Shares.{Shares}

pub record AreSharesOf (e : Evened) (s : Shares) : Type 0 where
  pub left : s.left ≡ words_of e.left
  pub right : s.right ≡ words_of e.right
  pub separator : s.separator ≡ e.separator
  pub gains : s.gains ≡ e.gains

-- the parent has these words, if it can be listed so
abbrev pub IsRelisted : Option Page → List ℕ → Bool → Type 0
IsRelisted (Some p) words b = (b ≡ true) × (words ≡ words_of p)
IsRelisted None words b = b ≡ false
