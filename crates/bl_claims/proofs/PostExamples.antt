-- Three posts that run alone, by what they did: one that a parent lists already, one for which the tree has no level, and one
-- that enters page 2 in page 3 by the key 9.
use Rattle.std.proofs.Common.{ℕ, ◌≡◌, ◌≢◌, ◌==◌, zero, suc, if◌then◌else◌, Option, Some, None, List, [], ◌∷◌, arith, ap, sym, ◌∙◌, refl, inl, inr}
use Rattle.std.specs.Prelude.{Contains}
use Rattle.std.proofs.lemmas.Bool.{cases_eq}
use Rattle.std.proofs.lemmas.List.Elements.{Contains-push_cases}
use Rattle.bl_model.specs.declared.operation.Reply.{Reply}
use Rattle.bl_page.specs.declared.page.Page.{Page}
use Rattle.bl_page.specs.Machine.{Act}
use Rattle.bl_page.specs.Machine.Act.{Begin, End, Get, Put, Latch}
use Rattle.bl_page.specs.Nodes.{Covers, node_of, roots_of}
use Rattle.bl_claims.specs.Trails.{Mark, Trail}
use Rattle.bl_claims.specs.Meanings.{RaisesOnly, HasRaised, WritesBack, MeansDone, MeansAlready, MeansStale}

abbrev plain : Act Page Reply → Mark
plain act = record { event = record { process = record { pass = 1; number = 0 }; act = act }; saw = None; said = None }

abbrev got : ℕ → Page → Mark
got x c = record (plain (Get x)) { saw = Some c }

-- it has begun and got the anchor
nothing_yet : (anchor : Page) (level : ℕ) → HasRaised level (plain Begin ∷ got 0 anchor ∷ [])
nothing_yet anchor level = record { earlier = []; begin = plain Begin; since = got 0 anchor ∷ []; split = refl; begun = refl; is = RaisesOnly.Never }

only : (m n : Mark) → Contains (m ∷ []) n → m ≡ n
only m n c = elim (Contains-push_cases [] m n c) [ inl i ↦ absurd (omega (arith, i.1)) | inr e ↦ e ]

-- page 3 lists the key
second : Page → Page → Trail
second anchor parent = plain Begin ∷ got 0 anchor ∷ plain (Latch 3) ∷ got 3 parent ∷ plain (Act.Open 3) ∷ plain (End None) ∷ []

listed_before : (anchor parent : Page) → (node_of parent).shape.level ≡ 1 → Covers (node_of parent).shape 9 → (node_of parent).look 9 ≡ Some 2 → MeansAlready 1 9 (second anchor parent)
unfolding second
listed_before anchor parent level covers lists = record {
  parent = record {
    at = 3;
    under = record {
      before = plain Begin ∷ got 0 anchor ∷ [];
      latch = plain (Latch 3);
      during = got 3 parent ∷ [];
      after = plain (Act.Open 3) ∷ plain (End None) ∷ [];
      split = refl;
      first = nothing_yet anchor 1;
      latched = refl;
      no_more = refl;
      kept = λ m c o. (let e : Get 3 ≡ Act.Open 3 = ap (λ z. z.event.act) (only (got 3 parent) m c) ∙ o in cc);
    };
    parent = parent;
    got = record { mark = got 3 parent; is = (0, omega arith, refl); act = refl; saw = refl };
    level_is = level;
    covers = covers;
  };
  none = refl;
  child = 2;
  listed = lists;
}

-- the anchor has one level, and the post is to level 2
too_low : (anchor : Page) → (roots_of anchor).levels ≡ 1 → MeansStale 2 9 (plain Begin ∷ got 0 anchor ∷ plain (End None) ∷ [])
too_low anchor levels = inl (record { first = record { earlier = []; begin = plain Begin; since = got 0 anchor ∷ plain (End None) ∷ []; split = refl; begun = refl; is = RaisesOnly.Never }; anchor = anchor; got = record { mark = got 0 anchor; is = (1, omega arith, refl); act = refl; saw = refl }; few = omega (arith, levels) })

-- two puts of the page that is held are no split of it
no_split : (separator : Option ℕ) (pages : List Page) (first second : Page) → WritesBack 3 separator pages (Put 3 first ∷ Put 3 second ∷ []) → ⊥
no_split separator pages first second h = elim h [ ]

-- page 3 lists page 1 by the key 0, and page 2 with the low 9 is reached from page 1
module _ (anchor parent left right new : Page) (level : (node_of parent).shape.level ≡ 1) (covers : Covers (node_of parent).shape 9) (below : (node_of right).shape.level ≡ 0) (right_covers : Covers (node_of right).shape 9) (low : (node_of right).shape.low ≡ 9)
    (was : (j : ℕ) → (node_of parent).look j ≡ (if j == 0 then Some 1 else None)) (is : (j : ℕ) → (node_of new).look j ≡ (if j == 0 then Some 1 else if j == 9 then Some 2 else None)) where
  walked : Trail
  walked = got 3 parent ∷ got 1 left ∷ got 2 right ∷ plain (Put 3 new) ∷ []

  no_opening : (m : Mark) → Contains walked m → m.event.act ≢ Act.Open 3
  unfolding walked
  no_opening m (zero, l, e) o = (let f : Get 3 ≡ Act.Open 3 = ap (λ z. z.event.act) e ∙ o in cc)
  no_opening m (suc zero, l, e) o = (let f : Get 1 ≡ Act.Open 3 = ap (λ z. z.event.act) e ∙ o in cc)
  no_opening m (suc (suc zero), l, e) o = (let f : Get 2 ≡ Act.Open 3 = ap (λ z. z.event.act) e ∙ o in cc)
  no_opening m (suc (suc (suc zero)), l, e) o = (let f : Put 3 new ≡ Act.Open 3 = ap (λ z. z.event.act) e ∙ o in cc)
  no_opening m (suc (suc (suc (suc n))), l, e) o = absurd (omega (arith, l))

  one_page : (page : Page) → Contains (new ∷ []) page → new ≡ page
  one_page page c = elim (Contains-push_cases [] new page c) [ inl i ↦ absurd (omega (arith, i.1)) | inr e ↦ e ]

  entered : MeansDone 1 9 None (plain Begin ∷ got 0 anchor ∷ plain (Latch 3) ∷ got 3 parent ∷ got 1 left ∷ got 2 right ∷ plain (Put 3 new) ∷ plain (Act.Open 3) ∷ plain (End None) ∷ [])
  unfolding walked
  entered = record {
    parent = record {
      at = 3;
      under = record {
        before = plain Begin ∷ got 0 anchor ∷ [];
        latch = plain (Latch 3);
        during = walked;
        after = plain (Act.Open 3) ∷ plain (End None) ∷ [];
        split = refl;
        first = nothing_yet anchor 1;
        latched = refl;
        no_more = refl;
        kept = no_opening;
      };
      parent = parent;
      got = record { mark = got 3 parent; is = (0, omega arith, refl); act = refl; saw = refl };
      level_is = level;
      covers = covers;
    };
    child = record { at = 2; child = right; got = record { mark = got 2 right; is = (2, omega arith, refl); act = refl; saw = refl }; level_is = ap suc below; covers = right_covers };
    low = low;
    pages = new ∷ [];
    writes = WritesBack.Whole new;
    lists = record {
      no_other = λ j c page m e. let f : (if j == 0 then Some 1 else if j == 9 then Some 2 else None) ≡ Some c = sym (is j) ∙ (ap (λ z. (node_of z).look j) (one_page page m) ∙ e) in
          elim (cases_eq j 0) [
            | inl z ↦ inl (was j ∙ grind (arith, f))
            | inr n ↦ elim (cases_eq j 9) [ inl k ↦ inr (k, grind (arith, f)) | inr k ↦ absurd (grind (arith, f)) ]
          ];
      kept = λ j c e. (new, (0, omega arith, refl), (let f : (if j == 0 then Some 1 else None) ≡ Some c = sym (was j) ∙ e in elim (cases_eq j 0) [ inl z ↦ is j ∙ grind (arith, f) | inr n ↦ absurd (grind (arith, f)) ]));
      listed = (new, (0, omega arith, refl), is 9);
    };
  }
