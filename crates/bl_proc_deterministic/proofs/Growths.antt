-- A growth goes on, and in one way.
use Rattle.std.proofs.Common.{ℕ, ◌≡◌, ◌≢◌, ◌-◌, ◌<◌, ◌++◌, List, [], ◌∷◌, length, get_or, refl, sym, ap, ◌∙◌, inl, inr, arith}
use Rattle.std.proofs.lemmas.Bool.{cases_lt, cases_eq, false≢true}
use Rattle.std.proofs.lemmas.List.{length-append}
use Rattle.std.specs.Coded.{le_prop}
use mathlib.Core.HLevel.{is_prop→PathP}
use Rattle.arrayvec.specs.ArrayVec.{ArrayVec}
use Rattle.bl_page.specs.declared.page.Page.{Page}
use Rattle.bl_page.specs.declared.page.Page.TheVariants as page
use Rattle.bl_page.specs.declared.page.Anchor.{Anchor}
use Rattle.bl_page.specs.declared.page.Inner.{Inner}
use Rattle.bl_page.specs.Pairs.{IsChild}
use Rattle.bl_page.proofs.PagesIn.{AreChildren-at, AreChildren-push}
use Rattle.bl_page.proofs.Same.{anchor_same, inner_same}
use Rattle.bl_page.specs.Nodes.{roots_of}
use Rattle.bl_proc_steps.specs.declared.acts.Seen.{Seen}
use Rattle.bl_proc_steps.specs.declared.acts.Seen.TheVariants as seen
use Rattle.bl_proc_steps.specs.declared.growth.Rise.{Rise}
use Rattle.bl_proc_steps.specs.declared.growth.Growth.{Growth}
use Rattle.bl_proc_steps.specs.declared.growth.Growth.TheVariants.{Latching, Latched, Taking, PuttingTop, PuttingAnchor, OpeningTop, OpeningGrown, OpeningRefused}
use Rattle.bl_proc_steps.specs.declared.growth.Grew.{Grew}
use Rattle.bl_proc_steps.specs.declared.growth.Grew.TheVariants.{On, Grown, Refused}
use Rattle.bl_proc_steps.specs.Given.{Gives}
use Rattle.bl_proc_steps.specs.Growths.{growth_next, growth_needs, IsTop, Raises, Grows}
use Rattle.bl_page.specs.Tops.{IsAnchor}
use Rattle.bl_proc_deterministic.specs.One.{One}
use Rattle.bl_proc_deterministic.proofs.Pages.{vec_one}
use Rattle.bl_proc_deterministic.proofs.WayCases.{GrowthCase, growth_case}

rise_same : (a b : Rise) → a.anchor ≡ b.anchor → a ≡ b
rise_same a b anchor = λ i. record {
  anchor = anchor i;
  room = is_prop→PathP (λ i. length (anchor i).leftmost.items < 12) (λ i. le_prop) a.room b.room i;
}

pub anchor_one : (a b : Anchor) → page.Anchor a ≡ page.Anchor b → a ≡ b
anchor_one a b e = cc

-- the first page of a level is known by its level and its child
top_one : (level below : ℕ) (p q : Page) → IsTop level below p → IsTop level below q → p ≡ q
top_one level below (page.Inner p) (page.Inner q) a b = ap page.Inner (inner_same p q (a.0 ∙ sym b.0) (a.1 ∙ sym b.1) (a.2 ∙ sym b.2) (a.3 ∙ sym b.3) (vec_one p.children q.children (a.4 ∙ sym b.4)))
top_one level below (page.Inner p) old a b = absurd b
top_one level below old q a b = absurd a

-- and the anchor by its leftmost pages
pub leftmost_one : (leftmost : List ℕ) (p q : Page) → IsAnchor leftmost p → IsAnchor leftmost q → p ≡ q
leftmost_one leftmost (page.Anchor p) (page.Anchor q) a b = ap page.Anchor (anchor_same p q (items_one p.leftmost q.leftmost (a ∙ sym b)))
  where
    items_one : (v w : ArrayVec ℕ) → v.items ≡ w.items → v ≡ w
    items_one v w e = ap (λ (xs : List ℕ). record { items = xs }) e
leftmost_one leftmost (page.Anchor p) old a b = absurd b
leftmost_one leftmost old q a b = absurd a

raised : (rise : Rise) (y : ℕ) → IsChild y → (top : Page) × (anchor : Page) × Raises rise.anchor.leftmost.items y top anchor
raised rise y child =
    let leftmost = rise.anchor.leftmost.items in
    let some = rise.anchor.some in
    let room = rise.room in
    let more = length-append leftmost (y ∷ []) in
    let below = get_or leftmost (length leftmost - 1) 0 in
    let names : IsChild below = AreChildren-at leftmost (length leftmost - 1) rise.anchor.pages (omega arith) in
    let top : Inner = record {
      level = length leftmost;
      low = 0;
      high = 0;
      right = 0;
      children = record { items = (0, below) ∷ [] };
      above_leaves = some;
      below_limit = room;
      bounds = omega arith;
      link = omega arith;
      few = omega arith;
      order = (omega arith, tt);
      cover = ((omega arith, omega arith), tt);
      first = refl;
      pages = (names, tt);
    } in
    let anchor : Anchor = record {
      leftmost = record { items = leftmost ++ y ∷ [] };
      some = omega arith;
      few = omega arith;
      pages = AreChildren-push leftmost y rise.anchor.pages child;
    } in
    (page.Inner top, page.Anchor anchor, ((refl, refl, refl, refl, refl), refl))

-- A tree with that many levels may rise.
rises_not : {level : ℕ} (c : Page) (rise : Rise) → (c ≡ page.Anchor rise.anchor) × ((roots_of c).levels ≡ level) → (level < 12 → (roots_of c).levels ≢ level) → ⊥
rises_not c rise is differs = (let room = rise.room in let count : (roots_of c).levels ≡ length rise.anchor.leftmost.items = ap (λ (z : Page). (roots_of z).levels) is.0 in let levels = is.1 in differs (omega arith) levels)

-- what two turns lead to where the same was seen
growth_same : {level : ℕ} {g : Growth} {what : Seen} {a b : Grew} → GrowthCase level g what a → GrowthCase level g what b → b ≡ a
growth_same (GrowthCase.LatchedAnchor a s) (GrowthCase.LatchedAnchor b t) = ap On (t ∙ sym s)
growth_same (GrowthCase.Missed a s) (GrowthCase.Missed b t) = ap On (t ∙ sym s)
growth_same (GrowthCase.Rises c r s) (GrowthCase.Rises _ u t) = (let e = rise_same u r (anchor_one u.anchor r.anchor (sym t.0 ∙ s.0)) in λ i. On (Taking (e i)))
growth_same (GrowthCase.Rises c r s) (GrowthCase.Stands _ t) = absurd (rises_not c r s t)
growth_same (GrowthCase.Stands c s) (GrowthCase.Rises _ u t) = absurd (rises_not c u t s)
growth_same (GrowthCase.Stands c s) (GrowthCase.Stands _ t) = refl
growth_same (GrowthCase.TookTop u y r s) (GrowthCase.TookTop _ _ v t) =
    let leftmost = u.anchor.leftmost.items in
    let tops = top_one (length leftmost) (get_or leftmost (length leftmost - 1) 0) v.top r.top t.1.0 s.1.0 in
    let anchors = leftmost_one (leftmost ++ y ∷ []) v.anchor r.anchor t.1.1 s.1.1 in
    λ i. On (PuttingTop (record { new = (t.0 ∙ sym s.0) i; top = tops i; anchor = anchors i }))
growth_same (GrowthCase.TopRefused u a s) (GrowthCase.TopRefused _ b t) = ap On (t ∙ sym s)
growth_same (GrowthCase.PutTop r a s) (GrowthCase.PutTop _ b t) = ap On (t ∙ sym s)
growth_same (GrowthCase.PutAnchor r a s) (GrowthCase.PutAnchor _ b t) = ap On (t ∙ sym s)
growth_same (GrowthCase.OpenedTop x a s) (GrowthCase.OpenedTop _ b t) = ap On (t ∙ sym s)
growth_same GrowthCase.OpenedGrown GrowthCase.OpenedGrown = refl
growth_same GrowthCase.OpenedRefused GrowthCase.OpenedRefused = refl

grows : (level : ℕ) (g : Growth) (what : Seen) (new : Grew) → Grows level g what new → One (Grows level g what)
grows level g what new goes = record { new = new; goes = goes; only = λ other t. growth_same (growth_case level g what new goes) (growth_case level g what other t) }

-- The anchor was got again: it may rise, or there is nothing to be done.
got : (level : ℕ) → 0 < level → (c : Page) → One (Grows level Latched (seen.Words c))
got level least (page.Anchor a) = elim (cases_eq (length a.leftmost.items) level) [
  | inl is ↦ elim (cases_lt level 12) [
    | inl few ↦ (let rise : Rise = record { anchor = a; room = omega arith } in grows level Latched (seen.Words (page.Anchor a)) (On (Taking rise)) (refl, is))
    | inr many ↦ grows level Latched (seen.Words (page.Anchor a)) (On OpeningGrown) (λ few. absurd (omega arith))
  ]
  | inr other ↦ grows level Latched (seen.Words (page.Anchor a)) (On OpeningGrown) (λ few. other)
]
got level least (page.Leaf l) = grows level Latched (seen.Words (page.Leaf l)) (On OpeningGrown) (λ few e. omega arith)
got level least (page.Inner i) = grows level Latched (seen.Words (page.Inner i)) (On OpeningGrown) (λ few e. omega arith)
got level least (page.Dead d) = grows level Latched (seen.Words (page.Dead d)) (On OpeningGrown) (λ few e. omega arith)

taken : (level : ℕ) (u : Rise) (y : ℕ) → IsChild y → One (Grows level (Taking u) (seen.Took y))
taken level u y child = (let p = raised u y child in grows level (Taking u) (seen.Took y) (On (PuttingTop (record { new = y; top = p.0; anchor = p.1 }))) (refl, p.2))

pub growth_one : (level : ℕ) → 0 < level → (g : Growth) (what : Seen) → Gives (growth_next g) (growth_needs g) what → One (Grows level g what)
growth_one level least Latching seen.Done g = grows level Latching seen.Done (On Latched) refl
growth_one level least Latching seen.Missed g = grows level Latching seen.Missed (On Latching) refl
growth_one level least Latched (seen.Words c) g = got level least c
growth_one level least (Taking u) (seen.Took y) g = taken level u y g
growth_one level least (Taking u) seen.Refused g = grows level (Taking u) seen.Refused (On OpeningRefused) refl
growth_one level least (PuttingTop u) seen.Done g = grows level (PuttingTop u) seen.Done (On (PuttingAnchor u)) refl
growth_one level least (PuttingTop u) seen.Refused g = absurd (false≢true g)
growth_one level least (PuttingAnchor u) seen.Done g = grows level (PuttingAnchor u) seen.Done (On (OpeningTop u.new)) refl
growth_one level least (PuttingAnchor u) seen.Refused g = absurd (false≢true g)
growth_one level least (OpeningTop u) seen.Done g = grows level (OpeningTop u) seen.Done (On OpeningGrown) refl
growth_one level least OpeningGrown seen.Done g = grows level OpeningGrown seen.Done Grown tt
growth_one level least OpeningRefused seen.Done g = grows level OpeningRefused seen.Done Refused tt
growth_one level least old what g = absurd g
