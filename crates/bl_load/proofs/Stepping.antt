-- A level that is built, page by page.
use Rattle.std.proofs.Common.{◌≡◌, ◌≢◌, ◌⊎◌, ℕ, ◌+◌, ◌-◌, ◌<◌, List, [], ◌∷◌, ◌++◌, length, get_or, take, drop, Option, Some, refl, ap, sym, subst, ◌∙◌, inl, inr, append-nil, append_assoc, arith}
use Rattle.std.specs.Prelude.{max, reverse}
use Rattle.std.proofs.lemmas.Bool.Decides.{nat_tests}
use Rattle.std.proofs.lemmas.List.{get_or_append_left, take-append-drop}
use Rattle.bl_page.specs.declared.page.Page.{Page}
use Rattle.bl_page.specs.declared.page.Page.TheVariants.{Anchor, Leaf, Inner, Dead}
use Rattle.bl_page.specs.Pages.{page_at}
use Rattle.bl_check.specs.declared.span.Span.{Span}
use Rattle.bl_check.specs.Spans.{StandsAt}
use Rattle.bl_check.specs.Rules.{ChildrenFit}
use Rattle.bl_check.specs.Rows.{RowsFrom}
use Rattle.bl_check.specs.Rows.RowsFrom.{Last as LastRows, Next as NextRows}
use Rattle.bl_load.specs.Loads.{IsFull}
use Rattle.bl_load.specs.Trees.{fan_for, IsPageAt, Grown, IsForest, AreEntries, AreListed, RowsOn, IsBegun, IsLevel}
use Rattle.bl_load.proofs.Growing.{stands_of, grown_on, grown_push, grown_entries, grown_rows, entries_append, entries_front, entries_back, entries_reverse}
use Rattle.bl_load.proofs.Forests.{Joins, page_new, span_new, forest_more, root_last, level_done}

same_span : (s t : Span) → Some s ≡ Some t → s ≡ t
same_span s t e = cc

pub fan_above : (fill level : ℕ) → 0 < level → fan_for fill level ≡ max fill 2
fan_above fill level some = grind (arith, nat_tests)

page_full : (fill : ℕ) (page : Page) (s : Span) (pairs : List (ℕ × ℕ)) → IsPageAt s pairs page → (s.low ≡ 0) ⊎ (length pairs ≡ fan_for fill s.level) → IsFull fill (Some page)
page_full fill (Anchor a) s pairs p h = absurd p.lists
page_full fill (Leaf l) s pairs p (inl zero) = inl (ap (λ (t : Span). t.low) (same_span (record { level = 0; low = l.low; high = l.high; right = l.right }) s p.place) ∙ zero)
page_full fill (Leaf l) s pairs p (inr size) =
    let e = same_span (record { level = 0; low = l.low; high = l.high; right = l.right }) s p.place in
    inr (ap length p.lists ∙ size ∙ ap (λ (t : Span). fan_for fill t.level) (sym e))
page_full fill (Inner i) s pairs p (inl zero) = inl (ap (λ (t : Span). t.low) (same_span (record { level = i.level; low = i.low; high = i.high; right = i.right }) s p.place) ∙ zero)
page_full fill (Inner i) s pairs p (inr size) =
    let e = same_span (record { level = i.level; low = i.low; high = i.high; right = i.right }) s p.place in
    inr (ap length p.lists ∙ size ∙ ap (λ (t : Span). fan_for fill t.level) (sym e) ∙ fan_above fill i.level i.above_leaves)
page_full fill (Dead d) s pairs p h = absurd p.lists

page_fits : (pages : List (Option Page)) (page : Page) (s : Span) (pairs : List (ℕ × ℕ)) → IsPageAt s pairs page → AreListed pages s.level pairs → ChildrenFit pages (Some page)
page_fits pages (Anchor a) s pairs p h = absurd p.lists
page_fits pages (Leaf l) s pairs p h = tt
page_fits pages (Inner i) s pairs p h =
    let same : i.level ≡ s.level = ap (λ (t : Span). t.level) (same_span (record { level = i.level; low = i.low; high = i.high; right = i.right }) s p.place) in
    subst (AreEntries pages (i.level - 1)) (sym p.lists) (subst (λ n. AreEntries pages (n - 1) pairs) (sym same) (h (omega (arith, i.above_leaves, same))))
page_fits pages (Dead d) s pairs p h = absurd p.lists

rows_more : (before pages : List (Option Page)) (x : ℕ) (page : Page) (s : Span) (pairs rest : List (ℕ × ℕ)) → Grown before pages → page_at pages x ≡ Some page → IsPageAt s pairs page → s.level ≡ 0 → RowsOn before s.right rest
    → RowsFrom pages x (pairs ++ rest)
rows_more before pages x (Anchor a) s pairs rest g at p zero on = absurd p.lists
rows_more before pages x (Leaf l) s pairs rest g at p zero (inl end) =
    let same : l.right ≡ s.right = ap (λ (t : Span). t.right) (same_span (record { level = 0; low = l.low; high = l.high; right = l.right }) s p.place) in
    subst (RowsFrom pages x) (p.lists ∙ sym (append-nil pairs) ∙ ap (λ t. pairs ++ t) (sym end.1)) (LastRows l at (same ∙ end.0))
rows_more before pages x (Leaf l) s pairs rest g at p zero (inr more) =
    let same : l.right ≡ s.right = ap (λ (t : Span). t.right) (same_span (record { level = 0; low = l.low; high = l.high; right = l.right }) s p.place) in
    subst (RowsFrom pages x) (ap (λ t. t ++ rest) p.lists)
    (NextRows l at (λ none. more.0 (sym same ∙ none)) (subst (λ y. RowsFrom pages y rest) (sym same) (grown_rows before pages g s.right rest more.1)))
rows_more before pages x (Inner i) s pairs rest g at p zero on =
    let same : i.level ≡ s.level = ap (λ (t : Span). t.level) (same_span (record { level = i.level; low = i.low; high = i.high; right = i.right }) s p.place) in
    absurd (omega (arith, i.above_leaves, same, zero))
rows_more before pages x (Dead d) s pairs rest g at p zero on = absurd p.lists

module _ (fill level : ℕ) (before : List (Option Page)) (roots : List ℕ) (pairs : List (ℕ × ℕ)) (pages : List (Option Page)) (rest entries : List (ℕ × ℕ)) (high right : ℕ)
    (b : IsBegun fill level before roots pairs pages rest entries high right) (front back : List (ℕ × ℕ)) (low : ℕ) (page : Page) (parts : rest ≡ front ++ back)
    (full : (low ≡ 0) ⊎ (length back ≡ fan_for fill level)) (p : IsPageAt (record { level = level; low = low; high = high; right = right }) back page) where
  abbrev now : List (Option Page)
  now = pages ++ Some page ∷ []

  abbrev here : Span
  here = record { level = level; low = low; high = high; right = right }

  join : Joins pages here right
  join = elim b.link [ inl none ↦ inl (none.0, none.1, none.1) | inr some ↦ inr (some, refl) ]

  push : Grown pages now
  push = grown_push pages (Some page)

  listed_back : AreListed pages level back
  listed_back up = grown_entries before pages b.grown (level - 1) back (entries_back before (level - 1) front back (subst (AreEntries before (level - 1)) parts (b.listed up)))

  forest_now : IsForest fill now roots level (length pages)
  forest_now = forest_more fill pages roots level right b.forest page here p.place refl (page_fits pages page here back p listed_back) (page_full fill page here back p full) join

  stands_now : StandsAt now (length pages) level low
  stands_now = stands_of now (length pages) level low here (span_new fill pages roots level right b.forest page here p.place) refl refl

  grown_now : Grown before now
  grown_now = grown_on before pages now b.grown push

  built_now : AreEntries now level (entries ++ (low, length pages) ∷ [])
  built_now = entries_append now level entries ((low, length pages) ∷ []) (grown_entries pages now push level entries b.built) (stands_now, tt)

  rows_now : level ≡ 0 → RowsFrom now (length pages) (back ++ b.listed_now)
  rows_now zero = rows_more pages now (length pages) page here back b.listed_now push (page_new fill pages roots level right b.forest page here p.place) p zero (b.rows zero)

  some_now : length pages ≢ 0
  some_now e = let some = b.forest.some in omega (arith, e, some)

  pub begun_more : low ≢ 0 → IsBegun fill level before roots pairs now front (entries ++ (low, length pages) ∷ []) low (length pages)
  begun_more some = record {
    grown = grown_now;
    forest = forest_now;
    link = inr (some, stands_now);
    listed = λ up. entries_front before (level - 1) front back (subst (AreEntries before (level - 1)) parts (b.listed up));
    built = built_now;
    listed_now = back ++ b.listed_now;
    split = b.split ∙ ap (λ t. t ++ b.listed_now) parts ∙ append_assoc front back b.listed_now;
    rows = λ zero. inr (some_now, rows_now zero);
  }

  pub level_built : low ≡ 0 → front ≡ [] → (after : List ℕ) (all : List (ℕ × ℕ)) → after ≡ roots ++ length pages ∷ [] → all ≡ reverse (entries ++ (low, length pages) ∷ []) → IsLevel fill level before roots pairs now after all
  level_built zero none after all after_is all_is = record {
    grown = grown_now;
    first = length pages;
    leftmost = after_is;
    forest = subst (λ (r : List ℕ). IsForest fill now r (level + 1) 0) (sym after_is) (level_done fill now roots level (length pages) forest_now (subst (StandsAt now (length pages) level) zero stands_now));
    built = subst (AreEntries now level) (sym all_is) (entries_reverse now level (entries ++ (low, length pages) ∷ []) built_now);
    rows = λ zero. subst (RowsFrom now (length pages)) (sym (b.split ∙ ap (λ t. t ++ b.listed_now) (parts ∙ ap (λ t. t ++ back) none))) (rows_now zero);
  }

pub parts_of : (n : ℕ) (front back rest : List (ℕ × ℕ)) → front ≡ take n rest → back ≡ drop n rest → rest ≡ front ++ back
parts_of n front back rest f b = sym (ap (λ (t : List (ℕ × ℕ)). t ++ back) f ∙ ap (λ (t : List (ℕ × ℕ)). take n rest ++ t) b ∙ take-append-drop n rest)

pub begun_next : (fill level : ℕ) (before : List (Option Page)) (roots : List ℕ) (pairs : List (ℕ × ℕ)) (pages : List (Option Page)) (rest entries : List (ℕ × ℕ)) (high right : ℕ) (front back : List (ℕ × ℕ)) (low : ℕ) (page : Page)
    (next_pages : List (Option Page)) (next_entries : List (ℕ × ℕ)) (number entry : ℕ) → IsBegun fill level before roots pairs pages rest entries high right → rest ≡ front ++ back → length back ≡ fan_for fill level
    → IsPageAt (record { level = level; low = low; high = high; right = right }) back page → low ≢ 0 → next_pages ≡ pages ++ Some page ∷ [] → number ≡ length pages → next_entries ≡ entries ++ (low, entry) ∷ [] → entry ≡ number
    → IsBegun fill level before roots pairs next_pages front next_entries low number
begun_next fill level before roots pairs pages rest entries high right front back low page next_pages next_entries number entry b parts size p some grown is added named =
    let made = begun_more fill level before roots pairs pages rest entries high right b front back low page parts (inr size) p some in
    let all : next_entries ≡ entries ++ (low, length pages) ∷ [] = added ∙ ap (λ n. entries ++ (low, n) ∷ []) (named ∙ is) in
    subst (λ n. IsBegun fill level before roots pairs next_pages front next_entries low n) (sym is)
    (subst (λ es. IsBegun fill level before roots pairs next_pages front es low (length pages)) (sym all)
    (subst (λ ps. IsBegun fill level before roots pairs ps front (entries ++ (low, length pages) ∷ []) low (length pages)) (sym grown) made))

pub level_next : (fill level : ℕ) (before : List (Option Page)) (roots : List ℕ) (pairs : List (ℕ × ℕ)) (pages : List (Option Page)) (rest entries : List (ℕ × ℕ)) (high right : ℕ) (page : Page)
    (next_pages : List (Option Page)) (next_entries all : List (ℕ × ℕ)) (after : List ℕ) (number entry : ℕ) → IsBegun fill level before roots pairs pages rest entries high right
    → IsPageAt (record { level = level; low = 0; high = high; right = right }) rest page → next_pages ≡ pages ++ Some page ∷ [] → number ≡ length pages → next_entries ≡ entries ++ (0, entry) ∷ [] → entry ≡ number
    → all ≡ reverse next_entries → after ≡ roots ++ number ∷ [] → IsLevel fill level before roots pairs next_pages after all
level_next fill level before roots pairs pages rest entries high right page next_pages next_entries all after number entry b p grown is added named turned last =
    let es : next_entries ≡ entries ++ (0, length pages) ∷ [] = added ∙ ap (λ n. entries ++ (0, n) ∷ []) (named ∙ is) in
    subst (λ ps. IsLevel fill level before roots pairs ps after all) (sym grown)
    (level_built fill level before roots pairs pages rest entries high right b [] rest 0 page refl (inl refl) p refl refl after all (last ∙ ap (λ n. roots ++ n ∷ []) is) (turned ∙ ap reverse es))

-- the rows of the levels that are there

pub rows_first : (fill : ℕ) (before : List (Option Page)) (roots : List ℕ) (rows : List (ℕ × ℕ)) (pages : List (Option Page)) (after : List ℕ) (entries : List (ℕ × ℕ)) → length roots ≡ 0
    → IsLevel fill 0 before roots rows pages after entries → RowsFrom pages (get_or after 0 0) rows
rows_first fill before roots rows pages after entries none l =
    let first : get_or after 0 0 ≡ l.first = ap (λ (r : List ℕ). get_or r 0 0) l.leftmost ∙ root_last roots l.first 0 (sym none) in
    subst (λ x. RowsFrom pages x rows) (sym first) (l.rows refl)

pub rows_next : (fill level : ℕ) (before : List (Option Page)) (roots : List ℕ) (rows pairs : List (ℕ × ℕ)) (pages : List (Option Page)) (after : List ℕ) (entries : List (ℕ × ℕ)) → 0 < length roots
    → RowsFrom before (get_or roots 0 0) rows → IsLevel fill level before roots pairs pages after entries → RowsFrom pages (get_or after 0 0) rows
rows_next fill level before roots rows pairs pages after entries some r l =
    let same : get_or after 0 0 ≡ get_or roots 0 0 = ap (λ (t : List ℕ). get_or t 0 0) l.leftmost ∙ get_or_append_left roots (l.first ∷ []) 0 0 some in
    subst (λ x. RowsFrom pages x rows) (sym same) (grown_rows before pages l.grown (get_or roots 0 0) rows r)
