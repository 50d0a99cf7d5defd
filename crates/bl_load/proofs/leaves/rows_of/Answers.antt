use Rattle.std.proofs.Common.{◌≡◌, ◌<◌, ◌++◌, ℕ, List, Option, subst, sym, ap, ◌∙◌, refl, arith}
use Rattle.bl_page.specs.declared.page.Page.{Page}
use Rattle.bl_page.specs.Pages.{page_at}
use Rattle.bl_image.specs.declared.image.Image.{Image}
use Rattle.bl_check.specs.Spans.{leftmost}
use Rattle.bl_check.specs.Rules.{AreSound}
use Rattle.bl_check.specs.Rows.{AreRowsOf}
use Rattle.bl_load.specs.Loads.{IsLeaf, IsNoLeaf}
use Rattle.bl_load.proofs.Walked.{IsMet, met_first, met_next, met_rises, met_last, met_leaf}
use Rattle.bl_load.proofs.leaves.rows_of.Goals as goal

pub leaves-init : goal.leaves-init
leaves-init c =
    let pages = c.args.quiet.now.image.pages.items in
    let sound = subst (λ (i : Image). AreSound i.pages.items) c.image.ensures.same c.image.ensures.sound in
    let is : c.leftmost-x.result ≡ leftmost pages 0 = c.leftmost-x.ensures ∙ ap (λ (p : List (Option Page)). leftmost p 0) (c.as_slice-pages.ensures.value ∙ ap (λ (i : Image). i.pages.items) c.image.ensures.same) in
    subst (IsMet pages c.leftmost-x.result 0) (sym c.new-rows.ensures.items) (met_first pages c.leftmost-x.result sound c.args.quiet.now.image.some is)

pub leaves-smaller : goal.leaves-smaller
leaves-smaller c =
    let pages = c.args.quiet.now.image.pages.items in
    let sound = subst (λ (i : Image). AreSound i.pages.items) c.image.ensures.same c.image.ensures.sound in
    let same = c.as_slice-pages.ensures.value ∙ ap (λ (i : Image). i.pages.items) c.image.ensures.same in
    let at = subst (λ (p : List (Option Page)). IsLeaf c.in-Some.leaf.now (page_at p c.leaves.x)) same c.in-Some.ensures in
    let rises : c.leaves.low < c.in-Some.leaf.now.high = met_rises pages c.leaves.x c.leaves.low c.leaves.rows.items c.in-Some.leaf.now sound c.args.quiet.now.image.some c.leaves.invariant at c.if-leaf-eq0.false in
    omega (arith, rises)

pub leaves-preserved : goal.leaves-preserved
leaves-preserved c =
    let pages = c.args.quiet.now.image.pages.items in
    let sound = subst (λ (i : Image). AreSound i.pages.items) c.image.ensures.same c.image.ensures.sound in
    let same = c.as_slice-pages.ensures.value ∙ ap (λ (i : Image). i.pages.items) c.image.ensures.same in
    let at = subst (λ (p : List (Option Page)). IsLeaf c.in-Some.leaf.now (page_at p c.leaves.x)) same c.in-Some.ensures in
    let items : c.extend_from_slice.new.self.items ≡ c.leaves.rows.items ++ c.in-Some.leaf.now.rows.items =
    c.in_ok-extend_from_slice.ensures.items ∙ ap (λ (r : List (ℕ × ℕ)). c.leaves.rows.items ++ r) c.as_slice.ensures.value in
    subst (IsMet pages c.in-Some.leaf.now.right c.in-Some.leaf.now.high) (sym items)
    (met_next pages c.leaves.x c.leaves.low c.in-Some.leaf.now.right c.leaves.rows.items c.in-Some.leaf.now sound c.args.quiet.now.image.some c.leaves.invariant at c.if-leaf-eq0.false refl)

pub returns : goal.returns
returns c =
    let pages = c.args.quiet.now.image.pages.items in
    let same = c.as_slice-pages.ensures.value ∙ ap (λ (i : Image). i.pages.items) c.image.ensures.same in
    absurd (met_leaf pages c.leaves.x c.leaves.low c.leaves.rows.items c.leaves.invariant (subst (λ (p : List (Option Page)). IsNoLeaf (page_at p c.leaves.x)) same c.in_default.ensures))

pub returns-then-leaf-eq0 : goal.returns-then-leaf-eq0
returns-then-leaf-eq0 c =
    let pages = c.args.quiet.now.image.pages.items in
    let same = c.as_slice-pages.ensures.value ∙ ap (λ (i : Image). i.pages.items) c.image.ensures.same in
    let at = subst (λ (p : List (Option Page)). IsLeaf c.in-Some.leaf.now (page_at p c.leaves.x)) same c.in-Some.ensures in
    let items : c.extend_from_slice.new.self.items ≡ c.leaves.rows.items ++ c.in-Some.leaf.now.rows.items =
    c.in_ok-extend_from_slice.ensures.items ∙ ap (λ (r : List (ℕ × ℕ)). c.leaves.rows.items ++ r) c.as_slice.ensures.value in
    subst (AreRowsOf pages) (sym items) (met_last pages c.leaves.x c.leaves.low c.leaves.rows.items c.in-Some.leaf.now c.leaves.invariant at c.if-leaf-eq0.true)
