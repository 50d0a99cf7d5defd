-- One page more, and one level more.
use Rattle.std.proofs.Common.{◌≡◌, ◌⊎◌, ℕ, ◌+◌, ◌<◌, List, [], ◌∷◌, ◌++◌, length, get_or, Option, Some, None, refl, ap, sym, subst, ◌∙◌, inl, inr, length-append, arith}
use Rattle.std.proofs.lemmas.Bool.{cases_lt}
use Rattle.std.proofs.lemmas.List.{get_or_append_left}
use Rattle.std.proofs.Math.Seq.{get_or-append_seam}
use Rattle.bl_page.specs.declared.page.Page.{Page}
use Rattle.bl_page.specs.Pages.{page_at}
use Rattle.bl_check.specs.declared.span.Span.{Span}
use Rattle.bl_check.specs.Spans.{span_of, span_at, StandsAt}
use Rattle.bl_check.specs.Rules.{HasNext, LinkFits, ChildrenFit, Reaches}
use Rattle.bl_check.specs.Rules.Reaches.{Here, Next}
use Rattle.bl_load.specs.Loads.{IsFull}
use Rattle.bl_load.specs.Trees.{Grown, IsNode, IsForest}
use Rattle.bl_load.proofs.Growing.{grown_span, grown_stands, grown_next, grown_fits, grown_reach, grown_children, grown_push}

pub none_reached : (pages : List (Option Page)) (x y : ℕ) → span_at pages x ≡ None → Reaches pages x y → y ≡ x
none_reached pages x y none Here = refl
none_reached pages x y none (Next s at next r) = absurd (let e : None ≡ Some s = sym none ∙ at in cc)

node_kept : (fill : ℕ) (a b : List (Option Page)) (roots : List ℕ) (level first now x : ℕ) → Grown a b → (n : IsNode fill a roots level first x) → (n.span.level ≡ level → Reaches b now x)
    → IsNode fill b roots level now x
node_kept fill a b roots level first now x g n reached = record {
  span = n.span;
  live = grown_span a b g x n.span n.live;
  fits = grown_fits a b g n.span n.fits;
  children = subst (ChildrenFit b) (sym (g x n.span n.live)) (grown_children a b g (page_at a x) n.children);
  full = subst (IsFull fill) (sym (g x n.span n.live)) n.full;
  not_above = n.not_above;
  here = reached;
  below = λ lt. grown_reach a b g (get_or roots n.span.level 0) x (n.below lt);
}

-- the new page links to the one that was built before it on its level, if there is one
abbrev pub Joins : List (Option Page) → Span → ℕ → Type 0
Joins pages s first = ((s.high ≡ 0) × (s.right ≡ 0) × (first ≡ 0)) ⊎ (HasNext pages s × (s.right ≡ first))

module _ (fill : ℕ) (pages : List (Option Page)) (roots : List ℕ) (level first : ℕ) (f : IsForest fill pages roots level first) (page : Page) (s : Span) (place : span_of (Some page) ≡ Some s) where
  abbrev pub more : List (Option Page)
  more = pages ++ Some page ∷ []

  pub page_new : page_at more (length pages) ≡ Some page
  page_new = get_or-append_seam pages (Some page) [] None

  pub span_new : span_at more (length pages) ≡ Some s
  span_new = ap span_of page_new ∙ place

  joined : (x : ℕ) → 0 < x → Joins pages s first → Reaches pages first x → Reaches more (length pages) x
  joined x above (inl end) reached = absurd (let same : x ≡ 0 = none_reached pages 0 x (ap span_of f.none) (subst (λ y. Reaches pages y x) end.2 reached) in omega (arith, same, above))
  joined x above (inr next) reached =
      Next s span_new (grown_next pages more (grown_push pages (Some page)) s next.0) (grown_reach pages more (grown_push pages (Some page)) s.right x (subst (λ y. Reaches pages y x) (sym next.1) reached))

  fits_new : Joins pages s first → LinkFits more s
  fits_new (inl end) = (λ none. end.1, λ some. absurd (some end.0))
  fits_new (inr next) = (λ none. absurd (next.0.0 none), λ some. grown_next pages more (grown_push pages (Some page)) s next.0)

  pub forest_more : s.level ≡ level → ChildrenFit pages (Some page) → IsFull fill (Some page) → Joins pages s first → IsForest fill more roots level (length pages)
  forest_more is_level fit full join =
      let g = grown_push pages (Some page) in
      let size = length-append pages (Some page ∷ []) in
      record {
        some = omega (arith, size);
        none = get_or_append_left pages (Some page ∷ []) None 0 f.some ∙ f.none;
        nodes = λ x above within. elim (cases_lt x (length pages)) [
          | inl lt ↦ (let n = f.nodes x above lt in node_kept fill pages more roots level first (length pages) x g n (λ same. joined x above join (n.here same)))
          | inr le ↦
              let same : length pages ≡ x = omega (arith, size) in
              subst (IsNode fill more roots level (length pages)) same (record {
                span = s;
                live = span_new;
                fits = fits_new join;
                children = subst (ChildrenFit more) (sym page_new) (grown_children pages more g (Some page) fit);
                full = subst (IsFull fill) (sym page_new) full;
                not_above = omega (arith, is_level);
                here = λ e. Here;
                below = λ lt. absurd (omega (arith, is_level, lt));
              })
        ];
        count = f.count;
        stand = λ l lt. grown_stands pages more g (get_or roots l 0) l 0 (f.stand l lt);
      }

pub root_last : (roots : List ℕ) (first l : ℕ) → l ≡ length roots → get_or (roots ++ first ∷ []) l 0 ≡ first
root_last roots first l is = ap (λ n. get_or (roots ++ first ∷ []) n 0) is ∙ get_or-append_seam roots first [] 0

pub level_done : (fill : ℕ) (pages : List (Option Page)) (roots : List ℕ) (level first : ℕ) → IsForest fill pages roots level first → StandsAt pages first level 0 → IsForest fill pages (roots ++ first ∷ []) (level + 1) 0
level_done fill pages roots level first f stands = record {
  some = f.some;
  none = f.none;
  nodes = λ x above within. let n = f.nodes x above within in record {
    span = n.span;
    live = n.live;
    fits = n.fits;
    children = n.children;
    full = n.full;
    not_above = omega (arith, n.not_above);
    here = λ same. absurd (omega (arith, n.not_above, same));
    below = λ lt. elim (cases_lt n.span.level level) [
      | inl less ↦ subst (λ y. Reaches pages y x) (sym (get_or_append_left roots (first ∷ []) 0 n.span.level (omega (arith, f.count, less)))) (n.below less)
      | inr le ↦
          let same : n.span.level ≡ level = omega (arith, le, n.not_above) in
          subst (λ y. Reaches pages y x) (sym (root_last roots first n.span.level (omega (arith, same, f.count)))) (n.here same)
    ];
  };
  count = (let size = length-append roots (first ∷ []) in omega (arith, size, f.count));
  stand = λ l lt. elim (cases_lt l level) [
    | inl less ↦ subst (λ y. StandsAt pages y l 0) (sym (get_or_append_left roots (first ∷ []) 0 l (omega (arith, f.count, less)))) (f.stand l less)
    | inr le ↦
        let same : l ≡ level = omega (arith, le, lt) in
        subst (λ y. StandsAt pages y l 0) (sym (root_last roots first l (omega (arith, same, f.count)))) (subst (λ n. StandsAt pages first n 0) (sym same) stands)
  ];
}
