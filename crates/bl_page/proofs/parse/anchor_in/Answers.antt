use Rattle.std.proofs.Common.{◌≡◌, ◌/◌, ◌%◌, ◌^◌, ◌≤◌, length, drop, get_or, ap, sym, ◌∙◌, arith}
use Rattle.std.proofs.lemmas.List.{length-drop, length-take-le}
use Rattle.bl_page.specs.Words.{head}
use Rattle.bl_page.proofs.Spelled.{layout_is, head_is}
use Rattle.bl_page.proofs.parse.anchor_in.Goals as goal

pub returns-clause-ok : goal.returns-clause-ok
returns-clause-ok c =
    let words = c.args.words.now in
    let front = c.in-Some.ensures.found.1 in
    let room : c.count_at-count.result ≤ length (drop 4 words) = omega (arith, length-drop 4 words, c.told-words, c.if-count-gt-MOST_LEVELS.false) in
    let size : length c.in-Some.leftmost.items ≡ c.count_at-count.result = ap length front ∙ length-take-le c.count_at-count.result (drop 4 words) room in
    let is_kind : get_or words 0 0 / 2 ^ 32 ≡ 1 = c.requires.kind in
    let is_level : get_or words 0 0 / 2 ^ 16 % 2 ^ 16 ≡ 0 = sym c.level_at.ensures ∙ c.if-level_at-ne0.false in
    let is_count : get_or words 0 0 % 2 ^ 16 ≡ c.count_at-count.result = sym c.count_at-count.ensures in
    let first : get_or words 0 0 ≡ head 1 0 (length c.in-Some.leftmost.items) = omega (arith, head_is (get_or words 0 0)) in
    layout_is words (head 1 0 (length c.in-Some.leftmost.items)) 0 0 0 c.count_at-count.result c.in-Some.leftmost.items c.told-words (omega (arith, c.if-count-gt-MOST_LEVELS.false))
    first c.if-words-ne0.false c.if-words-ne0-2.false c.if-words-ne0-3.false front (c.is_zero_from.ensures.0 c.if-not-is_zero_from.false)
