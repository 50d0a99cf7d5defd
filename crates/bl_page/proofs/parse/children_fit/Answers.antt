use Rattle.std.proofs.Common.{◌^◌}
use Rattle.bl_page.proofs.PagesIn.{NameNumbers-up}
use Rattle.bl_page.proofs.parse.children_fit.Goals as goal

pub returns-then-begins_with-clause-children : goal.returns-then-begins_with-clause-children
returns-then-begins_with-clause-children c = λ yes. NameNumbers-up c.args.most (2 ^ 32) c.args.children.now c.requires (c.pairs_name_pages.ensures.0 yes)
