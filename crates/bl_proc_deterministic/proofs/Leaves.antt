-- The leaf at which a writer of level 0 arrives.
use Rattle.std.proofs.Common.{ℕ, ◌≡◌, None, refl, arith}
use Rattle.std.specs.Prelude.{IsSome}
use Rattle.bl_page.specs.declared.page.Page.{Page}
use Rattle.bl_page.specs.declared.page.Page.TheVariants.{Anchor, Leaf, Inner, Dead}
use Rattle.bl_page.specs.Pages.{Covers}
use Rattle.bl_model.specs.Rows.{map_of}
use Rattle.bl_page.specs.Nodes.{node_of}
use Rattle.bl_rearrange.specs.Rearranged.{pairs_of, MayHold, MayLose}
use Rattle.bl_proc_routes.specs.declared.routes.Step.TheVariants.{Here}
use Rattle.bl_proc_routes.specs.Routes.{Leads}

pub leaf_covers : (c : Page) (key level : ℕ) → Leads c key level Here → Covers c key
leaf_covers (Anchor a) key level h = absurd h.0
leaf_covers (Leaf l) key level h = h.1
leaf_covers (Inner i) key level h = h.1
leaf_covers (Dead d) key level h = absurd h.0

pub leaf_lists : (c : Page) (key : ℕ) → (node_of c).look key ≡ None → map_of (pairs_of c) key ≡ None
leaf_lists (Anchor a) key e = refl
leaf_lists (Leaf l) key e = e
leaf_lists (Inner i) key e = e
leaf_lists (Dead d) key e = refl

pub leaf_holds : (c : Page) (key word : ℕ) → Leads c key 0 Here → MayHold c word
leaf_holds (Anchor a) key word h = tt
leaf_holds (Leaf l) key word h = tt
leaf_holds (Inner i) key word h = absurd (let above = i.above_leaves in let level = h.2 in omega arith)
leaf_holds (Dead d) key word h = tt

pub leaf_loses : (c : Page) (key : ℕ) → Leads c key 0 Here → MayLose c key
leaf_loses (Anchor a) key h = tt
leaf_loses (Leaf l) key h = tt
leaf_loses (Inner i) key h = absurd (let above = i.above_leaves in let level = h.2 in omega arith)
leaf_loses (Dead d) key h = tt

pub leaf_has : (c : Page) (key level : ℕ) → Leads c key level Here → IsSome ((node_of c).look key) → IsSome (map_of (pairs_of c) key)
leaf_has (Anchor a) key level h listed = absurd h.0
leaf_has (Leaf l) key level h listed = listed
leaf_has (Inner i) key level h listed = listed
leaf_has (Dead d) key level h listed = absurd h.0
