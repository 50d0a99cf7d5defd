-- What a process has done since it took a page, and one mark more.
use Rattle.std.proofs.Common.{ℕ, ◌≡◌, ◌≢◌, ◌⊎◌, ◌<◌, ◌++◌, zero, suc, List, [], ◌∷◌, arith, ap, sym, ◌∙◌, refl, inl, inr, append_assoc}
use Rattle.std.specs.Prelude.{Contains, slice_index_or}
use Rattle.std.proofs.lemmas.List.Elements.{Contains-push, Contains-append_left, Contains-append_cases}
use Rattle.bl_page.specs.declared.page.Page.{Page}
use Rattle.bl_page.specs.Machine.{Act}
use Rattle.bl_claims.specs.Trails.{Mark, Trail}
use Rattle.bl_claims.specs.Moments.{IsFreshBy}

-- a list that ends with m, split at an element: that is m, or m stands behind it
split : {A : Type 0} (xs before since : List A) (m last : A) → xs ++ m ∷ [] ≡ before ++ last ∷ since → ((last ≡ m) × (since ≡ [])) ⊎ ((rest : List A) × (since ≡ rest ++ m ∷ []) × (xs ≡ before ++ last ∷ rest))
split [] [] since m last e = inl (cc, cc)
split [] (b ∷ []) since m last e = cc
split [] (b ∷ c ∷ before) since m last e = cc
split (x ∷ xs) [] since m last e = inr (xs, (let i : xs ++ m ∷ [] ≡ since = cc in sym i), (let i : x ≡ last = cc in ap (λ v. v ∷ xs) i))
split (x ∷ xs) (b ∷ before) since m last e =
    let i : xs ++ m ∷ [] ≡ before ++ last ∷ since = cc in
    let j : x ≡ b = cc in
    elim (split xs before since m last i) [
      | inl o ↦ inl o
      | inr o ↦ inr (o.0, o.1, (let f = o.2 in cc))
    ]

only_at : {A : Type 0} (m x : A) (k : ℕ) → k < 1 → slice_index_or (m ∷ []) k x ≡ x → x ≡ m
only_at m x zero l e = sym e
only_at m x (suc k) l e = absurd (omega arith)

pub only : {A : Type 0} (m x : A) → Contains (m ∷ []) x → x ≡ m
only m x h = only_at m x h.0 h.1 h.2

pub fresh_on : (ms : Trail) (m : Mark) (y : ℕ) → m.event.act ≢ Act.Take y → m.event.act ≢ Act.Latch y → ((x : ℕ) (c : Page) → x ≢ y → m.event.act ≡ Act.Put x c → ⊥) → IsFreshBy ms y → IsFreshBy (ms ++ m ∷ []) y
fresh_on ms m y no_take no_latch no_put h = record {
  gained = record {
    before = h.gained.before;
    last = h.gained.last;
    since = h.gained.since ++ m ∷ [];
    split = ap (λ v. v ++ m ∷ []) h.gained.split ∙ append_assoc h.gained.before (h.gained.last ∷ h.gained.since) (m ∷ []);
    is = h.gained.is;
    never_again = λ n c d. elim (Contains-append_cases h.gained.since (m ∷ []) n c) [
      | inl i ↦ h.gained.never_again n i d
      | inr i ↦ let f : n ≡ m = only m n i in elim d [ inl a ↦ no_take (ap (λ v. v.event.act) (sym f) ∙ a) | inr a ↦ no_latch (ap (λ v. v.event.act) (sym f) ∙ a) ]
    ];
  };
  by_take = h.by_take;
  put_no_other = λ x n p. elim (Contains-append_cases h.gained.since (m ∷ []) p.mark p.is) [
    | inl i ↦ h.put_no_other x n (record { mark = p.mark; is = i; page = p.page; act = p.act })
    | inr i ↦ no_put x p.page n (ap (λ v. v.event.act) (sym (only m p.mark i)) ∙ p.act)
  ];
}

pub no_member : (n : Mark) → Contains [] n → ⊥
no_member n c = absurd (omega (arith, c.1))

pub fresh_new : (ms : Trail) (m : Mark) (y : ℕ) → m.event.act ≡ Act.Take y → IsFreshBy (ms ++ m ∷ []) y
fresh_new ms m y e = record {
  gained = record { before = ms; last = m; since = []; split = refl; is = inl e; never_again = λ n c d. no_member n c };
  by_take = e;
  put_no_other = λ x n p. no_member p.mark p.is;
}

-- what was fresh before m, and why
pub fresh_back : (ms : Trail) (m : Mark) (y : ℕ) → m.event.act ≢ Act.Take y → IsFreshBy (ms ++ m ∷ []) y → IsFreshBy ms y × (m.event.act ≢ Act.Latch y) × ((x : ℕ) (c : Page) → x ≢ y → m.event.act ≡ Act.Put x c → ⊥)
fresh_back ms m y no_take h = elim (split ms h.gained.before h.gained.since m h.gained.last h.gained.split) [
  | inl o ↦ absurd (no_take (ap (λ v. v.event.act) (sym o.0) ∙ h.by_take))
  | inr o ↦
      let rest = o.0 in
      let inside : (n : Mark) → Contains rest n → Contains h.gained.since n = λ n c. rw o.1 (Contains-append_left rest (m ∷ []) n c) in
      let last_in : Contains h.gained.since m = rw o.1 (Contains-push rest m) in (
        record {
          gained = record {
            before = h.gained.before;
            last = h.gained.last;
            since = rest;
            split = o.2;
            is = h.gained.is;
            never_again = λ n c d. h.gained.never_again n (inside n c) d;
          };
          by_take = h.by_take;
          put_no_other = λ x n p. h.put_no_other x n (record { mark = p.mark; is = inside p.mark p.is; page = p.page; act = p.act });
        },
        λ e. h.gained.never_again m last_in (inr e),
        λ x c n e. h.put_no_other x n (record { mark = m; is = last_in; page = c; act = e }),
      )
]
