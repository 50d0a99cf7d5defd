use Rattle.std.proofs.Common.{ℕ, ◌≡◌, Some, None, sym, ◌∙◌, subst, inl, inr}
use Rattle.std.proofs.lemmas.Bool.{false≢true}
use Rattle.bl_model.specs.Rows.{map_of}
use Rattle.bl_page.specs.declared.page.Page.TheVariants.{Inner}
use Rattle.bl_page.specs.Pairs.{IsChild, IsWithin}
use Rattle.bl_rearrange.specs.Rearranged.{pairs_of}
use Rattle.bl_proc_compress.proofs.Looks.{look_is}
use Rattle.bl_index_events.proofs.Standing.{none_of}
use Rattle.bl_index_compress.proofs.Spelled.{reads}
use Rattle.bl_index_compress.proofs.Puts.{lists_key}
use Rattle.bl_index_compress.proofs.Relists.{no_relist, middle_of, relists_with}
use Rattle.bl_index_compress.proofs.pages.relisted_words.Goals as goal

pub returns-then-not-is_within : goal.returns-then-not-is_within
returns-then-not-is_within c = λ f r w k x t.
    let read = reads (Inner f.parent) c.args.parent.now w in
    let out : ¬ IsWithin f.parent.low f.parent.high c.args.new = λ within. false≢true (sym c.if-not-is_within.true ∙ c.is_within.ensures.1 (subst (λ (z : ℕ × ℕ). IsWithin z.0 z.1 c.args.new) (λ i. (sym read.low i, sym read.high i)) within)) in
    no_relist f.parent c.args.old c.args.new c.args.child r _ t (inl out)

pub words_without-requires-clause-page : goal.words_without-requires-clause-page
words_without-requires-clause-page c = let t = c.requires.family in (Inner t.0.parent, tt, t.1, lists_key t.0 c.args.old t.2)

pub row_in-requires-clause-page : goal.row_in-requires-clause-page
row_in-requires-clause-page c =
    let t = c.requires.family in
    let m = middle_of t.0 c.args.old c.words_without.new.words t.2 (c.words_without.ensures.words (Inner t.0.parent) t.1) in
    (m.page, m.tree, m.spells)

pub returns-in-Some : goal.returns-in-Some
returns-in-Some c = λ f r w k x t.
    let m = middle_of f c.args.old c.words_without.new.words k (c.words_without.ensures.words (Inner f.parent) w) in
    let row : Some c.in-Some._other ≡ map_of (pairs_of m.page) c.args.new = sym c.in-Some.is ∙ (c.row_in.ensures.row m.page m.spells ∙ look_is m.page c.args.new) in
    no_relist f.parent c.args.old c.args.new c.args.child r _ t (inr (m.page, m.without, λ none. (let both : Some c.in-Some._other ≡ None = row ∙ none in absurd (let z = both in cc))))

pub words_with-requires-clause-page : goal.words_with-requires-clause-page
words_with-requires-clause-page c =
    let t = c.requires.family in
    let m = middle_of t.0 c.args.old c.words_without.new.words t.2 (c.words_without.ensures.words (Inner t.0.parent) t.1) in
    (m.page, m.tree, m.spells, m.few)

pub returns : goal.returns
returns c = λ f r w k x t.
    let m = middle_of f c.args.old c.words_without.new.words k (c.words_without.ensures.words (Inner f.parent) w) in
    let read = reads (Inner f.parent) c.args.parent.now w in
    let within = subst (λ (z : ℕ × ℕ). IsWithin z.0 z.1 c.args.new) (λ i. (read.low i, read.high i)) (c.is_within.ensures.0 c.if-not-is_within.false) in
    let absent = sym (look_is m.page c.args.new) ∙ (sym (c.row_in.ensures.row m.page m.spells) ∙ none_of c.row_in.result c.in_default.not-Some) in
    relists_with f c.args.old c.args.new c.args.child c.words_without.new.words m (subst IsChild x f.right_child) within absent _ (c.words_with.ensures.words m.page m.spells) r t
