use Rattle.std.proofs.Common.{◌≡◌, ◌/◌, ◌%◌, ◌^◌, [], get_or, refl, sym, ◌∙◌, arith}
use Rattle.bl_page.specs.Words.{head}
use Rattle.bl_page.proofs.Spelled.{layout_is, head_is}
use Rattle.bl_page.proofs.parse.dead_in.Goals as goal

pub returns-clause-ok : goal.returns-clause-ok
returns-clause-ok c =
    let words = c.args.words.now in
    let is_kind : get_or words 0 0 / 2 ^ 32 ≡ 4 = c.requires.kind in
    let is_level : get_or words 0 0 / 2 ^ 16 % 2 ^ 16 ≡ c.level_at-level.result = sym c.level_at-level.ensures in
    let is_count : get_or words 0 0 % 2 ^ 16 ≡ 0 = sym c.count_at.ensures ∙ c.if-count_at-ne0.false in
    let first : get_or words 0 0 ≡ head 4 c.level_at-level.result 0 = omega (arith, head_is (get_or words 0 0)) in
    layout_is words (head 4 c.level_at-level.result 0) (get_or words 1 0) 0 (get_or words 3 0) 0 [] c.told-words (omega arith)
    first refl c.if-words-ne0.false refl refl (c.is_zero_from.ensures.0 c.if-not-is_zero_from.false)
