use Rattle.std.proofs.Common.{◌≡◌, ℕ, List, drop, slice_index, ap, subst, sym, ◌∙◌, arith}
use Rattle.std.proofs.lemmas.Bool.{false≢true}
use Rattle.bl_page.specs.Pairs.{RisesFrom, AllWithin, BeginsWith, NameNumbers}
use Rattle.bl_page.specs.Faults.{Kind, LevelFits, CountFits, OrderFits, CoverFits, pairs_in, pairs_of}
use Rattle.bl_page.proofs.Spelled.{pairs_layout}
use Rattle.bl_page.proofs.parse.inner_in.Goals as goal

abbrev ChildrenFit : ℕ → List ℕ → List (ℕ × ℕ) → Type 0
ChildrenFit most words pairs = AllWithin (slice_index words 1) (slice_index words 2) pairs × BeginsWith (slice_index words 1) pairs × NameNumbers most pairs

pub returns-then-not-is_zero_from-clause-fault : goal.returns-then-not-is_zero_from-clause-fault
returns-then-not-is_zero_from-clause-fault c =
    let words = c.args.words.now in
    let count = c.count_at-count.ensures in
    let pairs = c.pairs_at-children.ensures.pairs in
    let level_fits : LevelFits Kind.Inner words = (omega (arith, c.level_at-level.ensures, c.if-level-eq0.false), omega (arith, c.level_at-level.ensures, c.if-level-gt11.false)) in
    let count_fits : CountFits Kind.Inner words = (omega (arith, count, c.if-count-eq0.false), omega (arith, count, c.if-count-gt-MOST_PAIRS.false)) in
    let same : c.pairs_at-children.result.items ≡ pairs_of words = pairs ∙ ap (λ n. pairs_in n (drop 4 words)) count in
    let order_fits : OrderFits Kind.Inner words = subst (RisesFrom 0) (c.as_slice.ensures.value ∙ same) (c.keys_rise.ensures.0 c.if-not-keys_rise.false) in
    let cover_fits : CoverFits c.args.most Kind.Inner words = subst (ChildrenFit c.args.most words) (c.as_slice-2.ensures.value ∙ same) (c.children_fit.ensures.fit.0 c.if-not-children_fit.false) in
    (Kind.Inner, c.requires.kind, level_fits, count_fits, c.bounds_fit.ensures.0 c.if-not-bounds_fit.false, order_fits, cover_fits, λ rest. false≢true (sym c.if-not-is_zero_from.true ∙ c.is_zero_from.ensures.1 (λ i le lt. rest i (omega (arith, count, le)) lt)))

pub returns-clause-ok : goal.returns-clause-ok
returns-clause-ok c = pairs_layout c.args.words.now 3 c.level_at-level.result c.count_at-count.result c.pairs_at-children.result.items c.told-words c.if-count-gt-MOST_PAIRS.false
    c.requires.kind (sym c.level_at-level.ensures) (sym c.count_at-count.ensures) c.pairs_at-children.ensures.pairs (c.is_zero_from.ensures.0 c.if-not-is_zero_from.false)
