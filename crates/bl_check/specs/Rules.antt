-- The rules of a sound image, each said of one page.
use Rattle.std.specs.List.{AllByRecursion}
use Rattle.std.specs.Prelude.{◌≡◌, ◌≢◌, ◌↔◌, ℕ, ◌-◌, ◌<◌, List, length, Option, Some, None, Bool, true, false, IsTrue, IfSome}
use Rattle.bl_page.specs.declared.page.Page.{Page}
use Rattle.bl_page.specs.declared.page.Page.TheVariants.{Anchor, Leaf, Inner, Dead}
use Rattle.bl_check.specs.declared.span.Span.{Span}
use Rattle.bl_page.specs.Pages.{page_at}
use Rattle.bl_check.specs.Spans.{span_at, StandsAt, levels, leftmost}

abbrev pub is_anchor : Option Page → Bool
is_anchor None = false
is_anchor (Some (Anchor a)) = true
is_anchor (Some (Leaf l)) = false
is_anchor (Some (Inner i)) = false
is_anchor (Some (Dead d)) = false

abbrev pub is_dead : Option Page → Bool
is_dead None = false
is_dead (Some (Anchor a)) = false
is_dead (Some (Leaf l)) = false
is_dead (Some (Inner i)) = false
is_dead (Some (Dead d)) = true

-- A page with a bound links to a live page of its level whose low is that bound.
abbrev pub HasNext : List (Option Page) → Span → Type 0
HasNext pages s = (s.high ≢ 0) × StandsAt pages s.right s.level s.high

-- A page has such a link, or neither a bound nor a link.
abbrev pub LinkFits : List (Option Page) → Span → Type 0
LinkFits pages s = (s.high ≡ 0 → s.right ≡ 0) × (s.high ≢ 0 → HasNext pages s)

-- y is x, or is reached from x by links that fit
pub data Reaches (pages : List (Option Page)) : ℕ → ℕ → Type 0 where
  Here : {x : ℕ} → Reaches pages x x
  Next : {x y : ℕ} (s : Span) → span_at pages x ≡ Some s → HasNext pages s → Reaches pages s.right y → Reaches pages x y

-- Page x stands on the chain of a level, which goes from the level's leftmost page by links that fit.
abbrev pub OnChain : List (Option Page) → ℕ → ℕ → Type 0
OnChain pages level x = (level < levels pages) × Reaches pages (leftmost pages level) x

-- each pair of an inner page names a live page one level lower, whose low is the pair's key
abbrev pub ChildrenFit : List (Option Page) → Option Page → Type 0
ChildrenFit pages None = Unit {0}
ChildrenFit pages (Some (Anchor a)) = Unit {0}
ChildrenFit pages (Some (Leaf l)) = Unit {0}
ChildrenFit pages (Some (Inner i)) = AllByRecursion (λ pair. StandsAt pages pair.1 (i.level - 1) pair.0) i.children.items
ChildrenFit pages (Some (Dead d)) = Unit {0}

-- The rules, beside those of an image.
pub data Rule : Type 0 where
  -- page 0 is an anchor, and no other page is
  OneAnchor : Rule
  -- the leftmost page of each level, as page 0 lists them, is live, of that level, with low 0
  Leftmost : Rule
  -- the link of each page on a chain fits
  Links : Rule
  -- each live page stands on the chain of its level
  Chains : Rule
  -- each pair of an inner page names its child
  Children : Rule
  -- no page is dead
  NoneDead : Rule

abbrev pub rule_number : Rule → ℕ
rule_number OneAnchor = 3
rule_number Leftmost = 4
rule_number Links = 5
rule_number Chains = 6
rule_number Children = 7
rule_number NoneDead = 8

-- Page x keeps the rule.
abbrev pub KeepsRule : Rule → List (Option Page) → ℕ → Type 0
KeepsRule OneAnchor pages x = IsTrue (is_anchor (page_at pages x)) ↔ (x ≡ 0)
KeepsRule Leftmost pages x = x ≡ 0 → (level : ℕ) → level < levels pages → StandsAt pages (leftmost pages level) level 0
KeepsRule Links pages x = (level : ℕ) → OnChain pages level x → IfSome (span_at pages x) (λ s. LinkFits pages s)
KeepsRule Chains pages x = IfSome (span_at pages x) (λ s. OnChain pages s.level x)
KeepsRule Children pages x = ChildrenFit pages (page_at pages x)
KeepsRule NoneDead pages x = is_dead (page_at pages x) ≡ false

abbrev pub AllKeep : Rule → List (Option Page) → Type 0
AllKeep rule pages = (x : ℕ) → x < length pages → KeepsRule rule pages x

-- all pages keep all rules
abbrev pub AreSound : List (Option Page) → Type 0
AreSound pages = (rule : Rule) → AllKeep rule pages

-- the least page that breaks the rule, or None where each keeps it
abbrev pub IsFirst : Rule → List (Option Page) → Option ℕ → Type 0
IsFirst rule pages None = AllKeep rule pages
IsFirst rule pages (Some x) = (x < length pages) × ¬ KeepsRule rule pages x × ((y : ℕ) → y < x → KeepsRule rule pages y)

-- a chain does not come round: where the link of x fits, x is not reached again from the page it links to
abbrev pub NeverRound : List (Option Page) → Type 0
NeverRound pages = (x : ℕ) (s : Span) → span_at pages x ≡ Some s → HasNext pages s → ¬ Reaches pages s.right x
