-- The rows that a history gives, counted by the passes whose entries give them.
use Rattle.std.proofs.Common.{◌≡◌, ◌≢◌, inl, inr, ℕ, zero, suc, ◌+◌, ◌<◌, ◌≤◌, List, [], ◌∷◌, ◌++◌, Option, Some, None, refl, sym, ap, ◌∙◌, arith}
use Rattle.std.specs.Prelude.{All, flat_map}
use Rattle.std.proofs.lemmas.Bool.{cases_eq}
use Rattle.std.proofs.lemmas.Bool.Decides.{nat_tests}
use Rattle.std.proofs.lemmas.List.Concat.{flat_map-cons}
use Rattle.std.proofs.lemmas.List.Elements.{All-nil, All-cons, All-head, All-tail}
use Rattle.bl_model.specs.declared.operation.Entry.{Entry}
use Rattle.bl_model.specs.History.{entries_of_pass}
use Rattle.bl_page.specs.Machine.{Name}
use Rattle.bl_journal.specs.Rows.{times}
use Rattle.bl_journal.proofs.Leaving.{times-append}
use Rattle.bl_claims.specs.Trails.{Said, Trail, entries_at, history_of}
use Rattle.bl_claims.specs.Seeing.{AreWithin}

-- ---- rows of one after another

pub counted : {A : Type 0} (key value : ℕ) (f : A → List (ℕ × ℕ)) (x : A) (xs : List A) → times key value (flat_map f (x ∷ xs)) ≡ times key value (f x) + times key value (flat_map f xs)
counted key value f x xs = ap (λ (z : List (ℕ × ℕ)). times key value z) (flat_map-cons f x xs) ∙ times-append key value (f x) (flat_map f xs)

-- ---- the entries of a pass

own_first : (p : ℕ) (e : Entry) (h : List Entry) → e.pass ≡ p → entries_of_pass p (e ∷ h) ≡ e ∷ entries_of_pass p h
own_first p e h is = grind (arith, nat_tests, is)

other_first : (p : ℕ) (e : Entry) (h : List Entry) → e.pass ≢ p → entries_of_pass p (e ∷ h) ≡ entries_of_pass p h
other_first p e h other = grind (arith, nat_tests, other)

-- ---- by passes

module _ (key value : ℕ) (rows_of : Entry → List (ℕ × ℕ)) where
  -- how often the row is among those of entries
  abbrev pub often : List Entry → ℕ
  often es = times key value (flat_map rows_of es)

  one_more : (e : Entry) (es : List Entry) → often (e ∷ es) ≡ times key value (rows_of e) + often es
  one_more e es = counted key value rows_of e es

  -- the same, of so many passes from that one on
  abbrev pub by_passes : ℕ → ℕ → List Entry → ℕ
  by_passes from zero h = 0
  by_passes from (suc n) h = often (entries_of_pass from h) + by_passes (suc from) n h

  none_yet : (from n : ℕ) → by_passes from n [] ≡ 0
  none_yet from zero = refl
  none_yet from (suc n) = let rest = none_yet (suc from) n in omega (arith, rest)

  below_all : (from n : ℕ) (e : Entry) (h : List Entry) → e.pass < from → by_passes from n (e ∷ h) ≡ by_passes from n h
  below_all from zero e h low = refl
  below_all from (suc n) e h low = ap (λ (z : List Entry). often z + by_passes (suc from) n (e ∷ h)) (other_first from e h (λ is. absurd (omega (arith, low, is))))
      ∙ ap (λ (z : ℕ). often (entries_of_pass from h) + z) (below_all (suc from) n e h (omega (arith, low)))

  among_them : (from n : ℕ) (e : Entry) (h : List Entry) → from ≤ e.pass → e.pass < from + n → by_passes from n (e ∷ h) ≡ times key value (rows_of e) + by_passes from n h
  among_them from zero e h low high = absurd (omega (arith, low, high))
  among_them from (suc n) e h low high = elim (cases_eq (e.pass) from) [
    | inl is ↦
        let own = ap often (own_first from e h is) ∙ one_more e (entries_of_pass from h) in
        let rest = below_all (suc from) n e h (omega (arith, is)) in
        omega (arith, own, rest)
    | inr other ↦
        let same = ap often (other_first from e h other) in
        let more = among_them (suc from) n e h (omega (arith, low, other)) (omega (arith, high)) in
        omega (arith, same, more)
  ]

  -- a history of the first so many passes gives each row as often as they do
  pub all_counted : (n : ℕ) (h : List Entry) → All (λ e. e.pass < n) h → often h ≡ by_passes 0 n h
  all_counted n [] all = sym (none_yet 0 n)
  all_counted n (e ∷ h) all =
      let rest = all_counted n h (All-tail (λ (x : Entry). x.pass < n) e h all) in
      let low : e.pass < n = All-head (λ (x : Entry). x.pass < n) e h all in
      let first = one_more e h in
      let here = among_them 0 n e h (omega arith) (omega (arith, low)) in
      omega (arith, rest, first, here)

-- ---- the entries of a trail

module _ (passes : ℕ) where
  abbrev IsBelow : Entry → Type 0
  IsBelow e = e.pass < passes

  entries_below : (p : Name) (said : Option Said) (es : List Entry) → p.pass < passes → All IsBelow es → All IsBelow (entries_at p said ++ es)
  entries_below p None es low all = all
  entries_below p (Some s) es low all = All-cons IsBelow (record { pass = p.pass; op = s.op; reply = s.reply }) es low all

  pub all_below : (marks : Trail) → AreWithin passes marks → All (λ (e : Entry). e.pass < passes) (history_of marks)
  all_below [] w = All-nil IsBelow
  all_below (m ∷ ms) w = entries_below m.event.process m.said (history_of ms) (w m (0, omega arith, refl)) (all_below ms (λ n c. w n (suc c.0, (let l = c.1 in omega arith), c.2)))
