-- What a page says of a key is what its pairs say.
use Rattle.std.proofs.Common.{ℕ, ◌≡◌, refl}
use Rattle.bl_model.specs.Rows.{map_of}
use Rattle.bl_page.specs.declared.page.Page.{Page}
use Rattle.bl_page.specs.declared.page.Page.TheVariants.{Anchor, Leaf, Inner, Dead}
use Rattle.bl_rearrange.specs.Rearranged.{pairs_of}
use Rattle.bl_page.specs.Nodes.{node_of}

pub look_is : (page : Page) (key : ℕ) → (node_of page).look key ≡ map_of (pairs_of page) key
look_is (Anchor a) key = refl
look_is (Leaf l) key = refl
look_is (Inner i) key = refl
look_is (Dead d) key = refl
