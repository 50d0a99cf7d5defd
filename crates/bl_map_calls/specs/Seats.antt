-- Whose seat a pass is.
use Rattle.std.specs.Prelude.{List, Option}
use Rattle.std.specs.Coded.{Coded-set, coded_list, coded_option}
use Rattle.std.proofs.Props.{props}
use Rattle.bl_page.specs.declared.page.Page.{Page}
use Rattle.bl_page.specs.contracts.page.Page as page
use Rattle.bl_index.specs.Calls.{IsPassOf}
use Rattle.bl_index.specs.declared.index.Index.{Index}
use Rattle.bl_index.specs.declared.index.Pass.{Pass}

pages_set : IsSet (List (Option Page))
pages_set = Coded-set (coded_list (coded_option page.the_row.coded))

pub IsPassOf-prop : (index : Index) (pass : Pass) → IsProp (IsPassOf index pass)
IsPassOf-prop index pass = hlevel (props, pages_set)
