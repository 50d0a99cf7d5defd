use Rattle.std.proofs.Common.{ℕ, ◌≡◌, ◌<◌, refl, sym, ◌∙◌, subst, arith}
use Rattle.bl_proc_steps.specs.declared.acts.Seen.TheVariants as seen
use Rattle.bl_index_rule.specs.Observed.{Goes}
use Rattle.bl_index_events.proofs.Standing.{same_number}
use Rattle.bl_store.specs.Hands.{known}
use Rattle.bl_index_rule.proofs.Pages.{takes_page, refuses_take}
use Rattle.bl_index_events.proofs.tree.Tree.take_page.Goals as goal

pub reserve-requires-clause-takes : goal.reserve-requires-clause-takes
reserve-requires-clause-takes c = λ asked x. takes_page _ _ (known c.args.hand.now.seat) c.requires.runs.on.runs x c.requires.next c.requires.course.0

pub reserve-requires-clause-refuses : goal.reserve-requires-clause-refuses
reserve-requires-clause-refuses c = refuses_take _ _ (known c.args.hand.now.seat) c.requires.runs.on.runs c.requires.next c.requires.course.1

pub returns-in-Some-clause-took : goal.returns-in-Some-clause-took
returns-in-Some-clause-took c =
    let took = c.in-Ok.ensures.page refl in
    let same : took.0 ≡ c.in-Some.page = same_number (sym took.1 ∙ (sym c.page.ensures ∙ c.in-Some.is)) in
    let least : 0 < c.in-Some.page = omega arith in
    let most : c.in-Some.page < 4294967296 = omega (arith, c.args.self.now.store.layout) in
    ((least, most), c.in-Ok.ensures.stock.0, c.in-Ok.ensures.stock.1, subst (λ (z : ℕ). Goes (seen.Took z) (known c.args.hand.now.seat) (known c.reserve.new.hand.seat)) same took.4.1)
