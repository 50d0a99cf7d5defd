-- Such facts have one proof at most, so that states with the same fields are the same.
use Rattle.std.specs.Prelude.{ℕ}
use Rattle.std.proofs.Props.{props}
use Rattle.bl_page.specs.declared.page.Page.{Page}
use Rattle.bl_page.specs.declared.page.Page.TheVariants.{Anchor, Leaf, Inner, Dead}
use Rattle.bl_page.specs.Pages.{Covers}
use Rattle.bl_page.specs.Pairs.{IsWithin-prop, IsChild-prop}
use Rattle.bl_rearrange.specs.Rearranged.{MayHold}

pub Covers-prop : (page : Page) (key : ℕ) → IsProp (Covers page key)
Covers-prop (Anchor a) key = hlevel props
Covers-prop (Leaf l) key = IsWithin-prop l.low l.high key
Covers-prop (Inner i) key = IsWithin-prop i.low i.high key
Covers-prop (Dead d) key = hlevel props

pub MayHold-prop : (page : Page) (word : ℕ) → IsProp (MayHold page word)
MayHold-prop (Anchor a) word = hlevel props
MayHold-prop (Leaf l) word = hlevel props
MayHold-prop (Inner i) word = IsChild-prop word
MayHold-prop (Dead d) word = hlevel props
