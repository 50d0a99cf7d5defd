-- Pages that grow: what is said of live pages stays so.
use Rattle.std.proofs.Common.{◌≡◌, ℕ, ◌-◌, List, [], ◌∷◌, ◌++◌, Option, Some, None, refl, ap, sym, subst, ◌∙◌}
use Rattle.std.specs.Prelude.{IsSomeAnd, reverse}
use Rattle.std.proofs.lemmas.Grind.{reverse_onto}
use Rattle.std.proofs.lemmas.List.{get_or_append_left}
use Rattle.bl_page.specs.declared.page.Leaf.{Leaf as LeafPage}
use Rattle.bl_page.specs.declared.page.Page.{Page}
use Rattle.bl_page.specs.declared.page.Page.TheVariants.{Anchor, Leaf, Inner, Dead}
use Rattle.bl_page.specs.Pages.{page_at}
use Rattle.bl_check.specs.declared.span.Span.{Span}
use Rattle.bl_check.specs.Spans.{span_of, span_at, StandsAt}
use Rattle.bl_check.specs.Rules.{HasNext, LinkFits, ChildrenFit, Reaches}
use Rattle.bl_check.specs.Rules.Reaches.{Here, Next}
use Rattle.bl_check.specs.Rows.{RowsFrom}
use Rattle.bl_check.specs.Rows.RowsFrom.{Last as LastRows, Next as NextRows}
use Rattle.bl_check.proofs.Reaching.{live_below}
use Rattle.bl_load.specs.Trees.{Grown, AreEntries}

pub some_and : (o : Option Span) (P : Span → Type 0) → IsSomeAnd o P → (s : Span) × (o ≡ Some s) × P s
some_and None P h = absurd h
some_and (Some s) P h = (s, refl, h)

pub stands_of : (pages : List (Option Page)) (x level low : ℕ) (s : Span) → span_at pages x ≡ Some s → s.level ≡ level → s.low ≡ low → StandsAt pages x level low
stands_of pages x level low s at is_level is_low = subst (λ (o : Option Span). IsSomeAnd o (λ t. (t.level ≡ level) × (t.low ≡ low))) (sym at) (is_level, is_low)

module _ (a b : List (Option Page)) (g : Grown a b) where
  pub grown_span : (x : ℕ) (s : Span) → span_at a x ≡ Some s → span_at b x ≡ Some s
  grown_span x s at = ap span_of (g x s at) ∙ at

  pub grown_stands : (x level low : ℕ) → StandsAt a x level low → StandsAt b x level low
  grown_stands x level low h =
      let found = some_and (span_at a x) (λ s. (s.level ≡ level) × (s.low ≡ low)) h in
      stands_of b x level low found.0 (grown_span x found.0 found.1) found.2.0 found.2.1

  pub grown_next : (s : Span) → HasNext a s → HasNext b s
  grown_next s h = (h.0, grown_stands s.right s.level s.high h.1)

  pub grown_fits : (s : Span) → LinkFits a s → LinkFits b s
  grown_fits s h = (h.0, λ some. grown_next s (h.1 some))

  pub grown_reach : (x y : ℕ) → Reaches a x y → Reaches b x y
  grown_reach x y Here = Here
  grown_reach x y (Next s at next r) = Next s (grown_span x s at) (grown_next s next) (grown_reach s.right y r)

  pub grown_entries : (level : ℕ) (pairs : List (ℕ × ℕ)) → AreEntries a level pairs → AreEntries b level pairs
  grown_entries level [] h = tt
  grown_entries level (pair ∷ pairs) h = (grown_stands pair.1 level pair.0 h.0, grown_entries level pairs h.1)

  pub grown_children : (page : Option Page) → ChildrenFit a page → ChildrenFit b page
  grown_children None h = tt
  grown_children (Some (Anchor l)) h = tt
  grown_children (Some (Leaf l)) h = tt
  grown_children (Some (Inner i)) h = grown_entries (i.level - 1) i.children.items h
  grown_children (Some (Dead d)) h = tt

  leaf_kept : (x : ℕ) (leaf : LeafPage) → page_at a x ≡ Some (Leaf leaf) → page_at b x ≡ Some (Leaf leaf)
  leaf_kept x leaf at = g x (record { level = 0; low = leaf.low; high = leaf.high; right = leaf.right }) (ap span_of at) ∙ at

  pub grown_rows : (x : ℕ) (rows : List (ℕ × ℕ)) → RowsFrom a x rows → RowsFrom b x rows
  grown_rows x rows (LastRows leaf at end) = LastRows leaf (leaf_kept x leaf at) end
  grown_rows x rows (NextRows {rest = rest} leaf at some r) = NextRows leaf (leaf_kept x leaf at) some (grown_rows leaf.right rest r)

pub grown_on : (a b c : List (Option Page)) → Grown a b → Grown b c → Grown a c
grown_on a b c g h x s at = h x s (grown_span a b g x s at) ∙ g x s at

pub grown_push : (pages : List (Option Page)) (page : Option Page) → Grown pages (pages ++ page ∷ [])
grown_push pages page x s at = get_or_append_left pages (page ∷ []) None x (live_below pages x s at)

-- entries, turned round

pub entries_append : (pages : List (Option Page)) (level : ℕ) (a b : List (ℕ × ℕ)) → AreEntries pages level a → AreEntries pages level b → AreEntries pages level (a ++ b)
entries_append pages level [] b h k = k
entries_append pages level (pair ∷ a) b h k = (h.0, entries_append pages level a b h.1 k)

pub entries_front : (pages : List (Option Page)) (level : ℕ) (a b : List (ℕ × ℕ)) → AreEntries pages level (a ++ b) → AreEntries pages level a
entries_front pages level [] b h = tt
entries_front pages level (pair ∷ a) b h = (h.0, entries_front pages level a b h.1)

pub entries_back : (pages : List (Option Page)) (level : ℕ) (a b : List (ℕ × ℕ)) → AreEntries pages level (a ++ b) → AreEntries pages level b
entries_back pages level [] b h = h
entries_back pages level (pair ∷ a) b h = entries_back pages level a b h.1

pub entries_reverse : (pages : List (Option Page)) (level : ℕ) (pairs : List (ℕ × ℕ)) → AreEntries pages level pairs → AreEntries pages level (reverse pairs)
entries_reverse pages level [] h = tt
entries_reverse pages level (pair ∷ pairs) h =
    subst (AreEntries pages level) (sym (reverse_onto pairs pair [])) (entries_append pages level (reverse pairs) (pair ∷ []) (entries_reverse pages level pairs h.1) (h.0, tt))
