use Rattle.std.proofs.Common.{◌≡◌, ◌-◌, ◌++◌, List, Option, None, [], ◌∷◌, length, sym, ap, ◌∙◌, append_assoc, arith}
use Rattle.std.proofs.lemmas.List.{append-nil, replicate_more}
use Rattle.bl_page.specs.declared.page.Page.{Page}
use Rattle.bl_image.proofs.Stored.{blanks}
use Rattle.bl_image.proofs.reading.filled_up.Goals as goal

pub loop-init : goal.loop-init
loop-init c = sym (append-nil c.args.pages.items)

pub loop-preserved : goal.loop-preserved
loop-preserved c = c.in_ok-push.ensures.items ∙ (ap (λ (xs : List (Option Page)). xs ++ None ∷ []) c.loop.invariant
    ∙ (append_assoc c.args.pages.items (blanks c.loop.counter) (None ∷ []) ∙ ap (λ (t : List (Option Page)). c.args.pages.items ++ t) (replicate_more c.loop.counter None)))

pub returns : goal.returns
returns c =
    let over = c.loop-test.false in
    let all : c.loop.counter ≡ c.args.count - length c.args.pages.items = omega (arith, over) in
    c.loop.invariant ∙ ap (λ n. c.args.pages.items ++ blanks n) all
