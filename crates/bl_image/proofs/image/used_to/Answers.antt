use Rattle.std.proofs.Common.{◌≡◌, ℕ, ◌+◌, ◌-◌, ◌<◌, None, length, get_or, drop, refl, sym, ap, ◌∙◌, arith}
use Rattle.std.proofs.lemmas.List.{drop_all, get_or_read_under}
use Rattle.bl_image.specs.Images.{used_to}
use Rattle.bl_image.proofs.Stored.{is_none, is_used, used_at, used_blanks, blank_more}
use Rattle.bl_image.proofs.image.used_to.Goals as goal

pub loop-behind-init : goal.loop-behind-init
loop-behind-init c = let pages = c.args.pages.now in let e : length pages - 0 ≡ length pages = omega arith in drop_all (length pages - 0) pages (omega (arith, e))

pub loop-behind-preserved : goal.loop-behind-preserved
loop-behind-preserved c =
    let pages = c.args.pages.now in let behind = c.loop-behind.behind in
    let lt : behind < length pages = omega (arith, c.loop-behind-test.true) in
    let x : ℕ = length pages - 1 - behind in
    let page = c.index-pages-x.result in
    let found : page ≡ get_or pages x None = get_or_read_under pages x (length pages) page None c.index-pages-x.is (omega (arith, lt)) refl in
    blank_more pages behind lt (sym found ∙ is_none page (sym c.is_some.ensures ∙ c.if-is_some.false)) c.loop-behind.invariant

-- the page is in use, and none behind it is
pub returns-then-is_some-clause-same : goal.returns-then-is_some-clause-same
returns-then-is_some-clause-same c =
    let pages = c.args.pages.now in let behind = c.loop-behind.behind in
    let lt : behind < length pages = omega (arith, c.loop-behind-test.true) in
    let x : ℕ = length pages - 1 - behind in
    let page = c.index-pages-x.result in
    let found : page ≡ get_or pages x None = get_or_read_under pages x (length pages) page None c.index-pages-x.is (omega (arith, lt)) refl in
    let next : x + 1 ≡ length pages - behind = omega (arith, lt) in
    sym (used_at pages x behind (omega (arith, lt)) (λ none. is_used page (sym c.is_some.ensures ∙ c.if-is_some.true) (found ∙ none)) (ap (λ n. drop n pages) next ∙ c.loop-behind.invariant))

-- none is in use
pub returns-clause-same : goal.returns-clause-same
returns-clause-same c =
    let pages = c.args.pages.now in
    let none : length pages - c.loop-behind.behind ≡ 0 = omega (arith, c.loop-behind-test.false) in
    sym (ap used_to (ap (λ n. drop n pages) (sym none) ∙ c.loop-behind.invariant) ∙ used_blanks c.loop-behind.behind)
