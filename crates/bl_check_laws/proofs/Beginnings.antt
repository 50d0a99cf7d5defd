-- The rules of the checker give those of sound pages.
use Rattle.std.proofs.Common.{◌≡◌, ◌≢◌, ℕ, ◌-◌, ◌<◌, ◌≤◌, ◌^◌, List, [], ◌∷◌, length, get_or, true, false, Option, Some, None, refl, sym, subst, ap, ◌∙◌, inl, inr, arith}
use Rattle.std.specs.Prelude.{IsTrue, IfSome, IsSomeAnd, is_some, ◌==◌, if◌then◌else◌}
use Rattle.std.specs.List.{AllByRecursion}
use Rattle.std.proofs.lemmas.Bool.{cases_eq}
use Rattle.bl_model.specs.Rows.{map_of}
use Rattle.bl_page.specs.declared.page.Page.{Page}
use Rattle.bl_page.specs.declared.page.Page.TheVariants.{Anchor, Leaf, Inner}
use Rattle.bl_page.specs.Pairs.{end_of}
use Rattle.bl_image.specs.Images.{IsImage, Fits64, page_words}
use Rattle.bl_image.proofs.Chunks.{fits_at}
use Rattle.bl_page.specs.Nodes.{Node, unbounded}
use Rattle.bl_tree.specs.Starts.{IsReached}
use Rattle.bl_check.specs.declared.span.Span.{Span}
use Rattle.bl_page.specs.Pages.{page_at}
use Rattle.bl_check.specs.Spans.{span_of, span_at, StandsAt, leftmost, leftmost_of}
use Rattle.bl_check.specs.Rules.{is_anchor, LinkFits, Reaches, OnChain, ChildrenFit, Rule, AreSound}
use Rattle.bl_check.specs.Rules.Reaches.{Here, Next}
use Rattle.bl_check.proofs.Reaching.{live_below}
use Rattle.bl_check.proofs.Rising.{span_wide}
use Rattle.bl_claims.specs.Opening.{node_in, roots_in}
use Rattle.bl_check_laws.specs.Begins.{live_in, MayBegin}

-- what a live page says, as a span and as a node
pub record Says (page : Option Page) (s : Span) : Type 0 where
  pub level : (node_in page).shape.level ≡ s.level
  pub low : (node_in page).shape.low ≡ s.low
  pub end : (node_in page).shape.end ≡ end_of s.high
  pub right : (node_in page).shape.right ≡ s.right
  pub fits : Fits64 (page_words page) → s.high < 2 ^ 64

pub says : (page : Option Page) (s : Span) → span_of page ≡ Some s → Says page s
says (Some (Leaf l)) s is = let same : (record { level = 0; low = l.low; high = l.high; right = l.right }) ≡ s = cc in
    subst (Says (Some (Leaf l))) same (record { level = refl; low = refl; end = refl; right = refl; fits = λ h. h.1.1.0 })
says (Some (Inner i)) s is = let same : (record { level = i.level; low = i.low; high = i.high; right = i.right }) ≡ s = cc in
    subst (Says (Some (Inner i))) same (record { level = refl; low = refl; end = refl; right = refl; fits = λ h. h.1.1.0 })
says old s is = absurd cc

-- the span of a live page
pub live_span : (o : Option Span) → IsTrue (is_some o) → (s : Span) × (o ≡ Some s)
live_span None h = absurd cc
live_span (Some s) h = (s, refl)

stands_span : (o : Option Span) (level low : ℕ) → IsSomeAnd o (λ s. (s.level ≡ level) × (s.low ≡ low)) → (s : Span) × (o ≡ Some s) × (s.level ≡ level) × (s.low ≡ low)
stands_span None level low h = absurd h
stands_span (Some s) level low h = (s, refl, h.0, h.1)

record Stands (pages : List (Option Page)) (x level low : ℕ) : Type 0 where
  pub alive : IsTrue (live_in pages x)
  pub level_is : (node_in (page_at pages x)).shape.level ≡ level
  pub low_is : (node_in (page_at pages x)).shape.low ≡ low

stands : (pages : List (Option Page)) (x level low : ℕ) → StandsAt pages x level low → Stands pages x level low
stands pages x level low h = let (s, at, l, k) = stands_span (span_at pages x) level low h in let said = says (page_at pages x) s at in
    record { alive = ap is_some at; level_is = said.level ∙ l; low_is = said.low ∙ k }

-- bounds

pub no_bound : (high : ℕ) → high < 2 ^ 64 → end_of high ≡ unbounded → high ≡ 0
no_bound high lt is = grind arith

pub some_bound : (high : ℕ) → end_of high < unbounded → high ≢ 0
some_bound high lt none = absurd (let e : end_of high ≡ unbounded = ap end_of none in omega arith)

pub bound_is : (high : ℕ) → high ≢ 0 → end_of high ≡ high
bound_is high some = grind arith

end_within : (high : ℕ) → high < 2 ^ 64 → end_of high ≤ unbounded
end_within high lt = grind arith

-- the anchor

no_node : (page : Option Page) → is_anchor page ≡ true → is_some (span_of page) ≡ false
no_node (Some (Anchor a)) is = refl
no_node old is = absurd cc

pub record Anchored (page : Option Page) : Type 0 where
  pub some : 0 < (roots_in page).levels
  pub few : (roots_in page).levels ≤ 12
  pub count : length (leftmost_of page) ≡ (roots_in page).levels
  pub leftmost_is : (l : ℕ) → get_or (leftmost_of page) l 0 ≡ (roots_in page).leftmost l

pub anchored : (page : Option Page) → is_anchor page ≡ true → Anchored page
anchored (Some (Anchor a)) is = record { some = a.some; few = a.few; count = refl; leftmost_is = λ l. refl }
anchored old is = absurd cc

-- chains

abbrev nodes : List (Option Page) → ℕ → Node
nodes pages x = node_in (page_at pages x)

abbrev pub AllFit : List (Option Page) → Type 0
AllFit pages = AllByRecursion (λ page. Fits64 (page_words page)) pages

pub fits_span : (pages : List (Option Page)) (x : ℕ) (s : Span) → AllFit pages → span_at pages x ≡ Some s → s.high < 2 ^ 64
fits_span pages x s fit at = (says (page_at pages x) s at).fits (fits_at x pages fit (live_below pages x s at))

reaches : (pages : List (Option Page)) (x y : ℕ) → AllFit pages → Reaches pages x y → IsReached (nodes pages) x y
reaches pages x y fit Here = IsReached.Here
reaches pages x y fit (Next s at next r) =
    let said = says (page_at pages x) s at in let small = fits_span pages x s fit at in
    let end : (nodes pages x).shape.end ≡ s.high = said.end ∙ bound_is s.high next.0 in
    IsReached.Next (omega (arith, end, small)) (subst (λ z. IsReached (nodes pages) z y) (sym said.right) (reaches pages s.right y fit r))

-- what is listed among pairs
listed_pair : (P : ℕ × ℕ → Type 0) (pairs : List (ℕ × ℕ)) (k c : ℕ) → AllByRecursion P pairs → map_of pairs k ≡ Some c → P (k, c)
listed_pair P [] k c h is = absurd cc
listed_pair P (pair ∷ pairs) k c h is = elim (cases_eq pair.0 k) [
  | inl same ↦ let value : Some pair.1 ≡ Some c = (let e : (if pair.0 == k then Some pair.1 else map_of pairs k) ≡ Some pair.1 = grind arith in sym e ∙ is) in
      let one : pair.1 ≡ c = cc in subst (λ v. P (k, v)) one (subst (λ j. P (j, pair.1)) same h.0)
  | inr other ↦ listed_pair P pairs k c h.1 (let e : (if pair.0 == k then Some pair.1 else map_of pairs k) ≡ map_of pairs k = grind arith in sym e ∙ is)
]

-- the children of a page
record IsParent (pages : List (Option Page)) (page : Option Page) (k c : ℕ) : Type 0 where
  pub stands_at : StandsAt pages c ((node_in page).shape.level - 1) k

parent : (pages : List (Option Page)) (page : Option Page) (k c : ℕ) → ChildrenFit pages page → 0 < (node_in page).shape.level → IsTrue (is_some (span_of page)) → (node_in page).look k ≡ Some c → IsParent pages page k c
parent pages (Some (Leaf l)) k c fit above alive is = absurd (omega arith)
parent pages (Some (Inner i)) k c fit above alive is = record { stands_at = listed_pair (λ pair. StandsAt pages pair.1 (i.level - 1) pair.0) i.children.items k c fit is }
parent pages old k c fit above alive is = absurd cc

pub begins : (pages : List (Option Page)) (bytes : List ℕ) → IsImage pages bytes → AreSound pages → MayBegin pages
begins pages bytes image sound =
    let some : 0 < length pages = omega (arith, image.count.0) in
    let anchor : is_anchor (page_at pages 0) ≡ true = (sound Rule.OneAnchor 0 some).1 refl in
    let root = anchored (page_at pages 0) anchor in
    let chain : (x : ℕ) (s : Span) → span_at pages x ≡ Some s → OnChain pages s.level x =
    λ x s at. subst (λ o. IfSome o (λ s. OnChain pages s.level x)) at (sound Rule.Chains x (live_below pages x s at)) in
    let link : (x : ℕ) (s : Span) → span_at pages x ≡ Some s → LinkFits pages s =
    λ x s at. subst (λ o. IfSome o (λ s. LinkFits pages s)) at (sound Rule.Links x (live_below pages x s at) s.level (chain x s at)) in
    let rooted : (l : ℕ) → l < (roots_in (page_at pages 0)).levels → Stands pages ((roots_in (page_at pages 0)).leftmost l) l 0 =
    λ l lt. subst (λ z. Stands pages z l 0) (root.leftmost_is l) (stands pages (leftmost pages l) l 0 (sound Rule.Leftmost 0 some refl l (subst (λ n. l < n) (sym root.count) lt))) in
    record {
      anchor = no_node (page_at pages 0) anchor;
      some_level = root.some;
      few_levels = root.few;
      leftmost = λ l lt. let h = rooted l lt in (h.alive, h.level_is, h.low_is);
      wide = λ x alive. let (s, at) = live_span (span_at pages x) alive in let said = says (page_at pages x) s at in
          let wide = span_wide (page_at pages x) s at in omega (arith, said.low, said.end, wide);
      within = λ x alive. let (s, at) = live_span (span_at pages x) alive in let said = says (page_at pages x) s at in
          subst (λ e. e ≤ unbounded) (sym said.end) (end_within s.high (fits_span pages x s image.words at));
      linked = λ x alive lt. let (s, at) = live_span (span_at pages x) alive in let said = says (page_at pages x) s at in
          let some = some_bound s.high (subst (λ e. e < unbounded) said.end lt) in
          let next = (link x s at).1 some in let h = stands pages s.right s.level s.high next.1 in
          let there : (nodes pages x).shape.right ≡ s.right = said.right in
          subst (λ z. IsTrue (live_in pages z) × ((nodes pages z).shape.level ≡ (nodes pages x).shape.level) × ((nodes pages z).shape.low ≡ (nodes pages x).shape.end)) (sym there)
          (h.alive, h.level_is ∙ sym said.level, h.low_is ∙ sym (said.end ∙ bound_is s.high some));
      last = λ x alive end. let (s, at) = live_span (span_at pages x) alive in let said = says (page_at pages x) s at in
          said.right ∙ (link x s at).0 (no_bound s.high (fits_span pages x s image.words at) (sym said.end ∙ end));
      on_chain = λ x alive. let (s, at) = live_span (span_at pages x) alive in let said = says (page_at pages x) s at in let on = chain x s at in (
        subst (λ l. l < (roots_in (page_at pages 0)).levels) (sym said.level) (subst (λ n. s.level < n) root.count on.0),
        subst (λ l. IsReached (nodes pages) ((roots_in (page_at pages 0)).leftmost l) x) (sym said.level)
            (subst (λ z. IsReached (nodes pages) z x) (root.leftmost_is s.level) (reaches pages (leftmost pages s.level) x image.words on.1)),
      );
      children = λ x k c alive above is. let (s, at) = live_span (span_at pages x) alive in
          let fit = sound Rule.Children x (live_below pages x s at) in
          let h = stands pages c ((nodes pages x).shape.level - 1) k (parent pages (page_at pages x) k c fit above alive is).stands_at in
          (h.alive, (let e = h.level_is in omega (arith, e, above)), h.low_is);
    }
