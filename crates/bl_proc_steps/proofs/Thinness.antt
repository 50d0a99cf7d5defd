-- Whether a page is thin, as its words say it.
use Rattle.std.proofs.Common.{◌≡◌, ℕ, List, get_or}
use Rattle.bl_page.specs.declared.page.Page.{Page}
use Rattle.bl_page.specs.declared.page.Page.TheVariants as page
use Rattle.bl_page.specs.Words.{words_of}
use Rattle.bl_page.specs.Faults.{count_in}
use Rattle.bl_page.specs.Nodes.{IsTreePage}
use Rattle.bl_answers.specs.Thin.{low_if_thin, thin_low}
use Rattle.bl_proc_routes.proofs.Spellings.{pairs_counted}

pub thin_read : (c : Page) (words : List ℕ) → IsTreePage c → words ≡ words_of c → low_if_thin (count_in words) (get_or words 1 0) (get_or words 2 0) ≡ thin_low c
thin_read (page.Anchor a) words tree e = absurd tree
thin_read (page.Leaf l) words tree e = λ i. low_if_thin (pairs_counted (page.Leaf l) words tree e i) (get_or (e i) 1 0) (get_or (e i) 2 0)
thin_read (page.Inner n) words tree e = λ i. low_if_thin (pairs_counted (page.Inner n) words tree e i) (get_or (e i) 1 0) (get_or (e i) 2 0)
thin_read (page.Dead d) words tree e = absurd tree
