-- What a process that takes the top level away holds at its two latches: nothing at that of the anchor, and the anchor at that of
-- page 3, the top page.
use Rattle.std.proofs.Common.{ℕ, ◌≡◌, ◌==◌, true, false, zero, suc, if◌then◌else◌, Some, None, [], ◌∷◌, arith, ap, sym, ◌∙◌, inl, inr, refl}
use Rattle.std.proofs.lemmas.Bool.{cases_eq, false≢true}
use Rattle.bl_model.specs.declared.operation.Reply.{Reply}
use Rattle.bl_page.specs.declared.page.Page.{Page}
use Rattle.bl_page.specs.Machine.{Act}
use Rattle.bl_page.specs.Machine.Act.{Begin, End, Get, Put, Latch, Retire}
use Rattle.bl_claims.specs.Trails.{Mark, Trail}
use Rattle.bl_claims.specs.Latches.{LatchesAlone, LatchesBelowAnchor}

abbrev plain : Act Page Reply → Mark
plain act = record { event = record { process = record { pass = 1; number = 0 }; act = act }; saw = None; said = None }

abbrev got : ℕ → Page → Mark
got x c = record (plain (Get x)) { saw = Some c }

-- the anchor is got, the anchor and the top page are latched and got, and what is put is the anchor and then the dead page
abbrev lowered : Page → Page → Page → Page → Trail
lowered anchor top below dead =
    plain Begin
    ∷ got 0 anchor
    ∷ plain (Latch 0)
    ∷ got 0 anchor
    ∷ plain (Latch 3)
    ∷ got 3 top
    ∷ plain (Put 0 below)
    ∷ plain (Put 3 dead)
    ∷ plain (Retire 3)
    ∷ plain (Act.Open 0)
    ∷ plain (End None)
    ∷ []

no_latch : (a : Act Page Reply) (x : ℕ) (m : Mark) → Some (plain a) ≡ Some m → m.event.act ≡ Latch x → a ≡ Latch x
no_latch a x m e l = (let f : plain a ≡ m = cc in ap (λ z. z.event.act) f ∙ l)

only_anchor : (y : ℕ) → (if 0 == y then true else false) ≡ true → y ≡ 0
only_anchor y h = elim (cases_eq 0 y) [ inl e ↦ sym e | inr n ↦ absurd (grind (arith, h)) ]

module _ (anchor top below dead : Page) where
  below_anchor : LatchesBelowAnchor (lowered anchor top below dead)
  below_anchor zero m x y e l k = absurd (false≢true k)
  below_anchor (suc zero) m x y e l k = absurd (false≢true k)
  below_anchor (suc (suc zero)) m x y e l k = absurd (false≢true k)
  below_anchor (suc (suc (suc zero))) m x y e l k = only_anchor y k
  below_anchor (suc (suc (suc (suc zero)))) m x y e l k = only_anchor y k
  below_anchor (suc (suc (suc (suc (suc zero))))) m x y e l k = (let f : Get 3 ≡ Latch x = ap (λ z. z.event.act) (let g : got 3 top ≡ m = cc in g) ∙ l in cc)
  below_anchor (suc (suc (suc (suc (suc (suc zero)))))) m x y e l k = (let f = no_latch (Put 0 below) x m e l in cc)
  below_anchor (suc (suc (suc (suc (suc (suc (suc zero))))))) m x y e l k = (let f = no_latch (Put 3 dead) x m e l in cc)
  below_anchor (suc (suc (suc (suc (suc (suc (suc (suc zero)))))))) m x y e l k = (let f = no_latch (Retire 3) x m e l in cc)
  below_anchor (suc (suc (suc (suc (suc (suc (suc (suc (suc zero))))))))) m x y e l k = (let f = no_latch (Act.Open 0) x m e l in cc)
  below_anchor (suc (suc (suc (suc (suc (suc (suc (suc (suc (suc zero)))))))))) m x y e l k = (let f = no_latch (End None) x m e l in cc)
  below_anchor (suc (suc (suc (suc (suc (suc (suc (suc (suc (suc (suc i))))))))))) m x y e l k = (let f : None ≡ Some m = e in absurd (cc f))

  -- at the second latch it does hold a page
  not_alone : LatchesAlone (lowered anchor top below dead) → ⊥
  not_alone h = h 4 (plain (Latch 3)) 3 0 refl refl refl
