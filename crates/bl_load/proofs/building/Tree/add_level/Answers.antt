use Rattle.std.proofs.Common.{◌≡◌, ℕ, ◌+◌, ◌-◌, ◌<◌, ◌≤◌, ◌^◌, ◌++◌, ◌∷◌, [], List, length, length-append, get_or, Option, Some, None, ap, sym, subst, ◌∙◌, arith}
use Rattle.std.specs.Prelude.{reverse, IfSome}
use Rattle.std.proofs.lemmas.List.{length-reverse}
use Rattle.std.proofs.Math.Seq.{get_or-append_seam}
use Rattle.bl_page.specs.declared.page.Page.{Page}
use Rattle.bl_page.specs.Pages.{page_at}
use Rattle.bl_check.specs.declared.span.Span.{Span}
use Rattle.bl_check.specs.Spans.{span_of, span_at, StandsAt}
use Rattle.bl_load.specs.Trees.{fan_for, AreEntries, IsUnlinked}
use Rattle.bl_load.proofs.Forests.{root_last}
use Rattle.bl_load.proofs.Growing.{entries_back}
use Rattle.bl_load.proofs.Ordering.{ordered_next, low_some, back_listed, rest_listed, level_counted, listed_named, right_none}
use Rattle.bl_load.proofs.Stepping.{parts_of, begun_next, level_next}
use Rattle.bl_load.proofs.building.Tree.add_level.Goals as goal

one_more : (before after : List (Option Page)) (page : Option Page) → after ≡ before ++ page ∷ [] → length after ≡ length before + 1
one_more before after page is = ap length is ∙ length-append before (page ∷ [])

pub pages-preserved : goal.pages-preserved
pages-preserved c =
    let i = c.pages.invariant in
    let made = c.in_ok-right.ensures.page in
    let rest = c.pages.rest.now in
    let front = c.split_at.result.0.now in
    let back = c.split_at.result.1.now in
    let low = (get_or back 0 (0, 0)).0 in
    let size : length back ≡ fan_for c.args.fill c.args.level = omega (arith, c.split_at.ensures.back_len, c.fan_of-fan.ensures.same, c.pages-test.true) in
    let parts = parts_of _ front back rest c.split_at.ensures.front c.split_at.ensures.back in
    let long = ap length parts ∙ length-append front back in
    let fan : 0 < fan_for c.args.fill c.args.level = omega (arith, c.fan_of-fan.ensures.same, c.fan_of-fan.ensures.some) in
    let some : 0 < length front = omega (arith, long, size, c.fan_of-fan.ensures.same, c.pages-test.true) in
    let more : 0 < length back = omega (arith, size, fan) in
    let above = low_some (fan_for c.args.fill c.args.level) c.args.level (length c.args.self.now.pages.items) c.args.pairs.now (length c.pages.self.pages.items) rest c.pages.entries.items c.pages.high i.ordered front back parts some more in
    record {
      begun = begun_next c.args.fill c.args.level c.args.self.now.pages.items c.args.self.now.leftmost.items c.args.pairs.now c.pages.self.pages.items rest c.pages.entries.items c.pages.high c.pages.right front back low made.1.0
          c.add_page.new.self.pages.items c.put_entry.new.entries.items c.in_ok-right.right c.from.result i.begun parts size made.1.1 above
          made.1.2 made.0 c.in_ok-put_entry.ensures c.from.ensures;
      ordered = ordered_next (fan_for c.args.fill c.args.level) c.args.level (length c.args.self.now.pages.items) c.args.pairs.now (length c.pages.self.pages.items) rest c.pages.entries.items c.pages.high i.ordered front back parts some more
          fan size c.put_entry.new.entries.items c.from.result (length c.add_page.new.self.pages.items) c.in_ok-put_entry.ensures (one_more c.pages.self.pages.items c.add_page.new.self.pages.items (Some made.1.0) made.1.2);
      leftmost = c.in_ok-right.ensures.leftmost ∙ i.leftmost;
      most = c.in_ok-right.ensures.most ∙ i.most;
    }

pub add_page-requires-clause-pairs : goal.add_page-requires-clause-pairs
add_page-requires-clause-pairs c =
    let i = c.pages.invariant in
    let rest = c.pages.rest.now in
    let front = c.split_at.result.0.now in
    let back = c.split_at.result.1.now in
    let size : length back ≡ fan_for c.args.fill c.args.level = omega (arith, c.split_at.ensures.back_len, c.fan_of-fan.ensures.same, c.pages-test.true) in
    let parts = parts_of _ front back rest c.split_at.ensures.front c.split_at.ensures.back in
    let long = ap length parts ∙ length-append front back in
    let some : 0 < length front = omega (arith, long, size, c.fan_of-fan.ensures.same, c.pages-test.true) in
    let more : 0 < length back = omega (arith, size, c.fan_of-fan.ensures.same, c.fan_of-fan.ensures.some) in
    let few : length c.args.self.now.pages.items ≤ 2 ^ 32 = omega (arith, c.requires.ready.room, c.args.self.now.limit) in
    back_listed (fan_for c.args.fill c.args.level) c.args.level (length c.args.self.now.pages.items) c.args.pairs.now (length c.pages.self.pages.items) rest c.pages.entries.items c.pages.high i.ordered front back parts some more
    c.pages.right (omega (arith, size, c.fan_of-fan.ensures.same, c.fan_of-fan.ensures.few))
    (listed_named c.args.fill c.args.level c.args.self.now.pages.items c.args.self.now.leftmost.items back 0 c.requires.forest few
    (λ up. entries_back c.args.self.now.pages.items (c.args.level - 1) front back (subst (AreEntries c.args.self.now.pages.items (c.args.level - 1)) parts (i.begun.listed up))))

pub add_page-requires-2-clause-pairs : goal.add_page-requires-2-clause-pairs
add_page-requires-2-clause-pairs c =
    let i = c.pages.invariant in
    let few : length c.args.self.now.pages.items ≤ 2 ^ 32 = omega (arith, c.requires.ready.room, c.args.self.now.limit) in
    rest_listed (fan_for c.args.fill c.args.level) c.args.level (length c.args.self.now.pages.items) c.args.pairs.now (length c.pages.self.pages.items) c.pages.rest.now c.pages.entries.items c.pages.high i.ordered
    c.pages.right (omega (arith, c.pages-test.false, c.fan_of-fan.ensures.few))
    (listed_named c.args.fill c.args.level c.args.self.now.pages.items c.args.self.now.leftmost.items c.pages.rest.now 0 c.requires.forest few i.begun.listed)

pub returns-clause-counted : goal.returns-clause-counted
returns-clause-counted c =
    let i = c.pages.invariant in
    let made = c.in_ok-first.ensures.page in
    level_counted (fan_for c.args.fill c.args.level) c.args.level (length c.args.self.now.pages.items) c.args.pairs.now (length c.pages.self.pages.items) c.pages.rest.now c.pages.entries.items c.pages.high i.ordered
    (omega (arith, c.fan_of-fan.ensures.same, c.fan_of-fan.ensures.some)) (omega (arith, c.fan_of-fan.ensures.same, c.pages-test.false))
    c.in_ok-entries.entries.items c.put_entry-2.new.entries.items c.from-2.result (length c.add_page-2.new.self.pages.items) c.in_ok-put_entry-2.ensures
    (c.in_ok-entries.ensures ∙ ap (λ (e : List (ℕ × ℕ)). reverse e) c.as_slice.ensures.value) (one_more c.pages.self.pages.items c.add_page-2.new.self.pages.items (Some made.1.0) made.1.2)

pub returns-clause-built : goal.returns-clause-built
returns-clause-built c =
    let i = c.pages.invariant in
    let made = c.in_ok-first.ensures.page in
    level_next c.args.fill c.args.level c.args.self.now.pages.items c.args.self.now.leftmost.items c.args.pairs.now c.pages.self.pages.items c.pages.rest.now c.pages.entries.items c.pages.high c.pages.right made.1.0
    c.add_page-2.new.self.pages.items c.put_entry-2.new.entries.items c.in_ok-entries.entries.items c.push.new.self.items c.in_ok-first.first c.from-2.result i.begun made.1.1 made.1.2 made.0 c.in_ok-put_entry-2.ensures c.from-2.ensures
    (c.in_ok-entries.ensures ∙ ap (λ (e : List (ℕ × ℕ)). reverse e) c.as_slice.ensures.value) (c.push.ensures.items ∙ ap (λ (r : List ℕ). r ++ c.in_ok-first.first ∷ []) (c.in_ok-first.ensures.leftmost ∙ i.leftmost))

pub returns-clause-alone : goal.returns-clause-alone
returns-clause-alone c = λ one.
    let i = c.pages.invariant in
    let made = c.in_ok-first.ensures.page in
    let before = c.pages.self.pages.items in
    let after = c.add_page-2.new.self.pages.items in
    let listed = c.in_ok-entries.ensures ∙ ap (λ (e : List (ℕ × ℕ)). reverse e) c.as_slice.ensures.value in
    let turns = length-reverse c.put_entry-2.new.entries.items in
    let long = ap length listed in
    let none = right_none (fan_for c.args.fill c.args.level) c.args.level (length c.args.self.now.pages.items) c.args.pairs.now (length before) c.pages.rest.now c.pages.entries.items c.pages.high c.pages.right
    (StandsAt before c.pages.right c.args.level c.pages.high) i.ordered i.begun.link c.put_entry-2.new.entries.items (0, c.from-2.result) c.in_ok-put_entry-2.ensures (omega (arith, one, turns, long)) in
    let roots = c.push.ensures.items ∙ ap (λ (r : List ℕ). r ++ c.in_ok-first.first ∷ []) (c.in_ok-first.ensures.leftmost ∙ i.leftmost) in
    let at : get_or c.push.new.self.items c.args.level 0 ≡ length before =
    ap (λ (r : List ℕ). get_or r c.args.level 0) roots ∙ root_last c.args.self.now.leftmost.items c.in_ok-first.first c.args.level (sym c.requires.forest.count) ∙ made.0 in
    let page : page_at after (length before) ≡ Some made.1.0 = ap (λ (l : List (Option Page)). page_at l (length before)) made.1.2 ∙ get_or-append_seam before (Some made.1.0) [] None in
    let span : span_at after (length before) ≡ Some (record { level = c.args.level; low = 0; high = c.pages.high; right = c.pages.right }) = ap span_of page ∙ made.1.1.place in
    subst (IsUnlinked after) (sym at) (subst (λ (o : Option Span). IfSome o (λ s. s.right ≡ 0)) (sym span) none)
