-- A lowering goes on, and in one way.
use Rattle.std.proofs.Common.{ℕ, ◌≡◌, ◌≢◌, ◌⊎◌, ◌-◌, ◌<◌, ◌≤◌, length, take, refl, sym, ap, ◌∙◌, inl, inr, arith}
use Rattle.std.proofs.lemmas.Bool.{cases_lt, cases_eq, false≢true}
use Rattle.std.specs.Coded.{le_prop}
use mathlib.Core.HLevel.{is_prop→PathP}
use Rattle.bl_page.specs.declared.page.Page.{Page}
use Rattle.bl_page.specs.declared.page.Page.TheVariants as page
use Rattle.bl_page.specs.declared.page.Anchor.{Anchor}
use Rattle.bl_page.specs.declared.page.Dead.{Dead}
use Rattle.bl_page.proofs.Same.{dead_same}
use Rattle.bl_page.specs.Nodes.{roots_of}
use Rattle.bl_proc_steps.specs.declared.acts.Seen.{Seen}
use Rattle.bl_proc_steps.specs.declared.acts.Seen.TheVariants as seen
use Rattle.bl_answers.specs.declared.answers.Lowered.{Lowered}
use Rattle.bl_answers.specs.declared.answers.Lowered.TheVariants as lowered
use Rattle.bl_proc_steps.specs.declared.lowering.Summit.{Summit}
use Rattle.bl_proc_steps.specs.declared.lowering.Sinking.{Sinking}
use Rattle.bl_proc_steps.specs.declared.lowering.Lowering.{Lowering}
use Rattle.bl_proc_steps.specs.declared.lowering.Lowering.TheVariants.{Looking, LatchingAnchor, LatchedAnchor, LatchingTop, LatchedTop, PuttingAnchor, PuttingDead, Retiring, OpeningTop, OpeningAnchor}
use Rattle.bl_proc_steps.specs.declared.lowering.Sank.{Sank}
use Rattle.bl_proc_steps.specs.declared.lowering.Sank.TheVariants.{On, Over}
use Rattle.bl_proc_steps.specs.Given.{Gives}
use Rattle.bl_page.specs.Tops.{top_of, IsSole, IsFallen}
use Rattle.bl_proc_steps.specs.Lowerings.{lowering_next, lowering_needs, Sinks, Lowers}
use Rattle.bl_proc_steps.proofs.Tops.{length_take, AreChildren-take}
use Rattle.bl_proc_deterministic.specs.One.{One}
use Rattle.bl_proc_deterministic.proofs.Growths.{anchor_one, leftmost_one}

-- Each turn of a lowering.
pub data LoweringCase : Lowering → Seen → Sank → Type 0 where
  SawOne : (c : Page) (what : Lowered) → (what ≡ lowered.Needed) × ((roots_of c).levels ≡ 1) → LoweringCase Looking (seen.Words c) (Over what)
  SawMore : (c : Page) (new : Lowering) → (new ≡ LatchingAnchor) × ((roots_of c).levels ≢ 1) → LoweringCase Looking (seen.Words c) (On new)
  Latched : (new : Lowering) → new ≡ LatchedAnchor → LoweringCase LatchingAnchor seen.Done (On new)
  Missed : (new : Lowering) → new ≡ LatchingAnchor → LoweringCase LatchingAnchor seen.Missed (On new)
  IsTall : (c : Page) (t : Summit) → (c ≡ page.Anchor t.anchor) × (t.top ≡ top_of (roots_of c)) → LoweringCase LatchedAnchor (seen.Words c) (On (LatchingTop t))
  IsLow : (c : Page) (what : Lowered) → (what ≡ lowered.Needed) × ((roots_of c).levels ≤ 1) → LoweringCase LatchedAnchor (seen.Words c) (On (OpeningAnchor what))
  LatchedUpper : (t : Summit) (new : Lowering) → new ≡ LatchedTop t → LoweringCase (LatchingTop t) seen.Done (On new)
  MissedUpper : (t : Summit) (new : Lowering) → new ≡ LatchingTop t → LoweringCase (LatchingTop t) seen.Missed (On new)
  IsSpare : (t : Summit) (c : Page) (s : Sinking) → (s.top ≡ t.top) × IsSole c × Sinks t.anchor.leftmost.items s → LoweringCase (LatchedTop t) (seen.Words c) (On (PuttingAnchor s))
  IsNeeded : (t : Summit) (c : Page) (x : ℕ) (what : Lowered) → (x ≡ t.top) × (what ≡ lowered.Needed) × (¬ IsSole c) → LoweringCase (LatchedTop t) (seen.Words c) (On (OpeningTop x what))
  PutAnchor : (s : Sinking) (new : Lowering) → new ≡ PuttingDead s → LoweringCase (PuttingAnchor s) seen.Done (On new)
  Refused : (s : Sinking) (new : Lowering) → new ≡ OpeningTop s.top lowered.NoRoom → LoweringCase (PuttingAnchor s) seen.Refused (On new)
  PutDead : (s : Sinking) (new : Lowering) → new ≡ Retiring s.top → LoweringCase (PuttingDead s) seen.Done (On new)
  Retired : (x : ℕ) (new : Lowering) → new ≡ OpeningAnchor lowered.Lowered → LoweringCase (Retiring x) seen.Done (On new)
  OpenedTop : (x : ℕ) (what : Lowered) (new : Lowering) → new ≡ OpeningAnchor what → LoweringCase (OpeningTop x what) seen.Done (On new)
  OpenedAnchor : (what last : Lowered) → last ≡ what → LoweringCase (OpeningAnchor what) seen.Done (Over last)

pub lowering_case : (l : Lowering) (what : Seen) (new : Sank) → Lowers l what new → LoweringCase l what new
lowering_case Looking (seen.Words c) (Over what) t = SawOne c what t
lowering_case Looking (seen.Words c) (On new) t = SawMore c new t
lowering_case LatchingAnchor seen.Done (On new) t = Latched new t
lowering_case LatchingAnchor seen.Missed (On new) t = Missed new t
lowering_case LatchedAnchor (seen.Words c) (On (LatchingTop s)) t = IsTall c s t
lowering_case LatchedAnchor (seen.Words c) (On (OpeningAnchor what)) t = IsLow c what t
lowering_case (LatchingTop s) seen.Done (On new) t = LatchedUpper s new t
lowering_case (LatchingTop s) seen.Missed (On new) t = MissedUpper s new t
lowering_case (LatchedTop s) (seen.Words c) (On (PuttingAnchor k)) t = IsSpare s c k t
lowering_case (LatchedTop s) (seen.Words c) (On (OpeningTop x what)) t = IsNeeded s c x what t
lowering_case (PuttingAnchor s) seen.Done (On new) t = PutAnchor s new t
lowering_case (PuttingAnchor s) seen.Refused (On new) t = Refused s new t
lowering_case (PuttingDead s) seen.Done (On new) t = PutDead s new t
lowering_case (Retiring x) seen.Done (On new) t = Retired x new t
lowering_case (OpeningTop x what) seen.Done (On new) t = OpenedTop x what new t
lowering_case (OpeningAnchor what) seen.Done (Over last) t = OpenedAnchor what last t
lowering_case l what new t = absurd t

summit_same : (a b : Summit) → a.anchor ≡ b.anchor → a.top ≡ b.top → a ≡ b
summit_same a b anchor top = λ i. record {
  anchor = anchor i;
  top = top i;
  tall = is_prop→PathP (λ i. 1 < length (anchor i).leftmost.items) (λ i. le_prop) a.tall b.tall i;
}

-- what a top page becomes is known by its level
fallen_one : (level : ℕ) (p q : Page) → IsFallen level p → IsFallen level q → p ≡ q
fallen_one level (page.Dead p) (page.Dead q) a b = ap page.Dead (dead_same p q (a.0 ∙ sym b.0) (a.1 ∙ sym b.1) (a.2 ∙ sym b.2))
fallen_one level (page.Dead p) old a b = absurd b
fallen_one level old q a b = absurd a

-- a page is needed as the top or not
sole_or_not : (c : Page) → IsSole c ⊎ (IsSole c → ⊥)
sole_or_not (page.Inner i) = elim (cases_eq (length i.children.items) 1) [
  | inl one ↦ elim (cases_eq i.high 0) [
    | inl high ↦ elim (cases_eq i.right 0) [ inl right ↦ inl (one, high, right) | inr n ↦ inr (λ h. n h.2) ]
    | inr n ↦ inr (λ h. n h.1)
  ]
  | inr n ↦ inr (λ h. n h.0)
]
sole_or_not (page.Anchor a) = inr (λ h. h)
sole_or_not (page.Leaf l) = inr (λ h. h)
sole_or_not (page.Dead d) = inr (λ h. h)

-- the anchor without its last level, and what the top page becomes
sunk : (t : Summit) → (s : Sinking) × (s.top ≡ t.top) × Sinks t.anchor.leftmost.items s
sunk t =
    let leftmost = t.anchor.leftmost.items in
    let tall = t.tall in
    let few = t.anchor.few in
    let count = length_take (length leftmost - 1) leftmost (omega arith) in
    let anchor : Anchor = record {
      leftmost = record { items = take (length leftmost - 1) leftmost };
      some = omega (arith, count);
      few = omega (arith, count);
      pages = AreChildren-take (length leftmost - 1) leftmost t.anchor.pages;
    } in
    let dead : Dead = record { level = length leftmost - 1; low = 0; right = 0; below_limit = omega arith; link = omega arith } in
    (record { top = t.top; anchor = page.Anchor anchor; dead = page.Dead dead }, refl, (refl, (refl, refl, refl)))

tall_or_low : (c : Page) (t : Summit) → c ≡ page.Anchor t.anchor → (roots_of c).levels ≤ 1 → ⊥
tall_or_low c t is low = (let tall = t.tall in let count : (roots_of c).levels ≡ length t.anchor.leftmost.items = ap (λ (z : Page). (roots_of z).levels) is in absurd (omega arith))

-- what two turns lead to where the same was seen
lowering_same : {l : Lowering} {what : Seen} {a b : Sank} → LoweringCase l what a → LoweringCase l what b → b ≡ a
lowering_same (SawOne c a s) (SawOne _ b t) = ap Over (t.0 ∙ sym s.0)
lowering_same (SawOne c a s) (SawMore _ b t) = absurd (t.1 s.1)
lowering_same (SawMore c a s) (SawOne _ b t) = absurd (s.1 t.1)
lowering_same (SawMore c a s) (SawMore _ b t) = ap On (t.0 ∙ sym s.0)
lowering_same (Latched a s) (Latched b t) = ap On (t ∙ sym s)
lowering_same (Missed a s) (Missed b t) = ap On (t ∙ sym s)
lowering_same (IsTall c a s) (IsTall _ b t) = (let e = summit_same b a (anchor_one b.anchor a.anchor (sym t.0 ∙ s.0)) (t.1 ∙ sym s.1) in λ i. On (LatchingTop (e i)))
lowering_same (IsTall c a s) (IsLow _ b t) = absurd (tall_or_low c a s.0 t.1)
lowering_same (IsLow c a s) (IsTall _ b t) = absurd (tall_or_low c b t.0 s.1)
lowering_same (IsLow c a s) (IsLow _ b t) = (let e = t.0 ∙ sym s.0 in λ i. On (OpeningAnchor (e i)))
lowering_same (LatchedUpper u a s) (LatchedUpper _ b t) = ap On (t ∙ sym s)
lowering_same (MissedUpper u a s) (MissedUpper _ b t) = ap On (t ∙ sym s)
lowering_same (IsSpare u c a s) (IsSpare _ _ b t) =
    let leftmost = u.anchor.leftmost.items in
    let anchors = leftmost_one (take (length leftmost - 1) leftmost) b.anchor a.anchor t.2.0 s.2.0 in
    let deads = fallen_one (length leftmost - 1) b.dead a.dead t.2.1 s.2.1 in
    λ i. On (PuttingAnchor (record { top = (t.0 ∙ sym s.0) i; anchor = anchors i; dead = deads i }))
lowering_same (IsSpare u c a s) (IsNeeded _ _ x b t) = absurd (t.2 s.1)
lowering_same (IsNeeded u c x a s) (IsSpare _ _ b t) = absurd (s.2 t.1)
lowering_same (IsNeeded u c x a s) (IsNeeded _ _ y b t) = (let e = t.0 ∙ sym s.0 in let f = t.1 ∙ sym s.1 in λ i. On (OpeningTop (e i) (f i)))
lowering_same (PutAnchor u a s) (PutAnchor _ b t) = ap On (t ∙ sym s)
lowering_same (Refused u a s) (Refused _ b t) = ap On (t ∙ sym s)
lowering_same (PutDead u a s) (PutDead _ b t) = ap On (t ∙ sym s)
lowering_same (Retired x a s) (Retired _ b t) = ap On (t ∙ sym s)
lowering_same (OpenedTop x u a s) (OpenedTop _ _ b t) = ap On (t ∙ sym s)
lowering_same (OpenedAnchor u a s) (OpenedAnchor _ b t) = ap Over (t ∙ sym s)

lowers : (l : Lowering) (what : Seen) (new : Sank) → Lowers l what new → One (Lowers l what)
lowers l what new goes = record { new = new; goes = goes; only = λ other t. lowering_same (lowering_case l what new goes) (lowering_case l what other t) }

-- the anchor was got without a latch, and under it
looked : (c : Page) → One (Lowers Looking (seen.Words c))
looked c = elim (cases_eq (roots_of c).levels 1) [
  | inl one ↦ lowers Looking (seen.Words c) (Over lowered.Needed) (refl, one)
  | inr n ↦ lowers Looking (seen.Words c) (On LatchingAnchor) (refl, n)
]

topped : (c : Page) → One (Lowers LatchedAnchor (seen.Words c))
topped (page.Anchor a) = elim (cases_lt 1 (length a.leftmost.items)) [
  | inl tall ↦ (let t : Summit = record { anchor = a; top = top_of (roots_of (page.Anchor a)); tall = tall } in lowers LatchedAnchor (seen.Words (page.Anchor a)) (On (LatchingTop t)) (refl, refl))
  | inr low ↦ lowers LatchedAnchor (seen.Words (page.Anchor a)) (On (OpeningAnchor lowered.Needed)) (refl, low)
]
topped (page.Leaf l) = lowers LatchedAnchor (seen.Words (page.Leaf l)) (On (OpeningAnchor lowered.Needed)) (refl, omega arith)
topped (page.Inner i) = lowers LatchedAnchor (seen.Words (page.Inner i)) (On (OpeningAnchor lowered.Needed)) (refl, omega arith)
topped (page.Dead d) = lowers LatchedAnchor (seen.Words (page.Dead d)) (On (OpeningAnchor lowered.Needed)) (refl, omega arith)

-- the top page was got
reached : (t : Summit) (c : Page) → One (Lowers (LatchedTop t) (seen.Words c))
reached t c = elim (sole_or_not c) [
  | inl sole ↦ (let p = sunk t in lowers (LatchedTop t) (seen.Words c) (On (PuttingAnchor p.0)) (p.1, sole, p.2))
  | inr need ↦ lowers (LatchedTop t) (seen.Words c) (On (OpeningTop t.top lowered.Needed)) (refl, refl, need)
]

pub lowering_one : (l : Lowering) (what : Seen) → Gives (lowering_next l) (lowering_needs l) what → One (Lowers l what)
lowering_one Looking (seen.Words c) g = looked c
lowering_one LatchingAnchor seen.Done g = lowers LatchingAnchor seen.Done (On LatchedAnchor) refl
lowering_one LatchingAnchor seen.Missed g = lowers LatchingAnchor seen.Missed (On LatchingAnchor) refl
lowering_one LatchedAnchor (seen.Words c) g = topped c
lowering_one (LatchingTop t) seen.Done g = lowers (LatchingTop t) seen.Done (On (LatchedTop t)) refl
lowering_one (LatchingTop t) seen.Missed g = lowers (LatchingTop t) seen.Missed (On (LatchingTop t)) refl
lowering_one (LatchedTop t) (seen.Words c) g = reached t c
lowering_one (PuttingAnchor s) seen.Done g = lowers (PuttingAnchor s) seen.Done (On (PuttingDead s)) refl
lowering_one (PuttingAnchor s) seen.Refused g = lowers (PuttingAnchor s) seen.Refused (On (OpeningTop s.top lowered.NoRoom)) refl
lowering_one (PuttingDead s) seen.Done g = lowers (PuttingDead s) seen.Done (On (Retiring s.top)) refl
lowering_one (PuttingDead s) seen.Refused g = absurd (false≢true g)
lowering_one (Retiring x) seen.Done g = lowers (Retiring x) seen.Done (On (OpeningAnchor lowered.Lowered)) refl
lowering_one (OpeningTop x what) seen.Done g = lowers (OpeningTop x what) seen.Done (On (OpeningAnchor what)) refl
lowering_one (OpeningAnchor what) seen.Done g = lowers (OpeningAnchor what) seen.Done (Over what) refl
lowering_one l what g = absurd g
