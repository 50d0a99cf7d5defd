-- What is counted goes on by one mark.
use Rattle.std.proofs.Common.{ℕ, ◌≡◌, ◌≢◌, ◌⊎◌, ◌+◌, ◌≤◌, ◌++◌, ◌&&◌, Bool, true, false, if◌then◌else◌, Some, zero, suc, List, [], ◌∷◌, length, take, arith, ap, sym, ◌∙◌, refl, inl, inr, subst}
use Rattle.std.specs.Prelude.{slice_get}
use Rattle.std.proofs.lemmas.Bool.{cases_lt}
use Rattle.bl_model.specs.declared.operation.Reply.{Reply}
use Rattle.bl_page.specs.declared.page.Page.{Page}
use Rattle.bl_page.specs.Machine.{Name, Act}
use Rattle.bl_page.specs.Machine.Act.{Begin, End, Get, Put, Take, Latch, Retire, Look, Release, Miss}
use Rattle.bl_claims.specs.Trails.{Mark, Trail, same_name, DoesAt}
use Rattle.bl_tree_worlds.proofs.Pushes.{name_cases, same_self, not_same}
use Rattle.bl_claims.specs.Bounds.{is_begin, gets_in, puts_in, begins, since_begin, gets_by, puts_beside, gets_of, puts_near, most_gets, IsWithinBound}

bool_cases : (b : Bool) → (b ≡ true) ⊎ (b ≡ false)
bool_cases true = inl refl
bool_cases false = inr refl

if_true : {A : Type 0} (b : Bool) (x y : A) → b ≡ true → (if b then x else y) ≡ x
if_true true x y e = refl
if_true false x y e = cc

if_false : {A : Type 0} (b : Bool) (x y : A) → b ≡ false → (if b then x else y) ≡ y
if_false true x y e = cc
if_false false x y e = refl

and_true : (a b : Bool) → a ≡ true → b ≡ true → (a && b) ≡ true
and_true true b e f = f
and_true false b e f = e

left_true : (a b : Bool) → (a && b) ≡ true → a ≡ true
left_true true b e = refl
left_true false b e = e

right_true : (a b : Bool) → (a && b) ≡ true → b ≡ true
right_true true b e = e
right_true false b e = cc

is_begin_only : (a : Act Page Reply) → is_begin a ≡ true → a ≡ Begin
is_begin_only Begin e = refl
is_begin_only (End answer) e = cc
is_begin_only (Get x) e = cc
is_begin_only (Put x c) e = cc
is_begin_only (Take x) e = cc
is_begin_only (Latch x) e = cc
is_begin_only (Act.Open x) e = cc
is_begin_only (Retire x) e = cc
is_begin_only (Look it) e = cc
is_begin_only (Release x) e = cc
is_begin_only (Miss what) e = cc

does_begin : (p : Name) (m : Mark) → m.event ≡ record { process = p; act = Begin } → begins p m ≡ true
does_begin p m e = and_true (same_name m.event.process p) (is_begin m.event.act) (ap (λ v. same_name v.process p) e ∙ same_self p) (ap (λ v. is_begin v.act) e)

begin_does : (p : Name) (m : Mark) → begins p m ≡ true → m.event ≡ record { process = p; act = Begin }
begin_does p m e =
    let own : m.event.process ≡ p = elim (name_cases m.event.process p) [
      | inl i ↦ i
      | inr n ↦ absurd (let f : true ≡ false = sym (left_true (same_name m.event.process p) (is_begin m.event.act) e) ∙ not_same m.event.process p n in cc)
    ] in
    let act : m.event.act ≡ Begin = is_begin_only m.event.act (right_true (same_name m.event.process p) (is_begin m.event.act) e) in
    λ i. record { process = own i; act = act i }

-- the same process stands behind a mark of the rest
does_rest : (d : Mark) (ms : Trail) (i : ℕ) (p : Name) → DoesAt (d ∷ ms) (suc i) p Begin → DoesAt ms i p Begin
does_rest d ms i p h = record { mark = h.mark; is = h.is; event = h.event }

does_more : (d : Mark) (ms : Trail) (i : ℕ) (p : Name) → DoesAt ms i p Begin → DoesAt (d ∷ ms) (suc i) p Begin
does_more d ms i p h = record { mark = h.mark; is = h.is; event = h.event }

-- after its begin one mark more is one event more
pub since_on : (p : Name) (ms : Trail) (m : Mark) (i : ℕ) → DoesAt ms i p Begin → since_begin p (ms ++ m ∷ []) ≡ since_begin p ms ++ m ∷ []
since_on p [] m i h = cc (h.is)
since_on p (d ∷ ms) m zero h =
    let e : d ≡ h.mark = (let f = h.is in cc) in
    let t : begins p d ≡ true = does_begin p d (ap (λ v. v.event) e ∙ h.event) in
    if_true (begins p d) (ms ++ m ∷ []) (since_begin p (ms ++ m ∷ [])) t ∙ sym (ap (λ l. l ++ m ∷ []) (if_true (begins p d) ms (since_begin p ms) t))
since_on p (d ∷ ms) m (suc i) h = elim (bool_cases (begins p d)) [
  | inl t ↦ if_true (begins p d) (ms ++ m ∷ []) (since_begin p (ms ++ m ∷ [])) t ∙ sym (ap (λ l. l ++ m ∷ []) (if_true (begins p d) ms (since_begin p ms) t))
  | inr f ↦ if_false (begins p d) (ms ++ m ∷ []) (since_begin p (ms ++ m ∷ [])) f ∙ (since_on p ms m i (does_rest d ms i p h) ∙ sym (ap (λ l. l ++ m ∷ []) (if_false (begins p d) ms (since_begin p ms) f)))
]

-- before it there is none
pub since_none : (p : Name) (ms : Trail) → ((i : ℕ) → DoesAt ms i p Begin → ⊥) → since_begin p ms ≡ []
since_none p [] h = refl
since_none p (d ∷ ms) h = elim (bool_cases (begins p d)) [
  | inl t ↦ absurd (h 0 (record { mark = d; is = refl; event = begin_does p d t }))
  | inr f ↦ if_false (begins p d) ms (since_begin p ms) f ∙ since_none p ms (λ i o. h (suc i) (does_more d ms i p o))
]

pub since_first : (p : Name) (ms : Trail) (m : Mark) → ((i : ℕ) → DoesAt ms i p Begin → ⊥) → since_begin p (ms ++ m ∷ []) ≡ []
since_first p [] m h = elim (bool_cases (begins p m)) [
  | inl t ↦ if_true (begins p m) [] (since_begin p []) t
  | inr f ↦ if_false (begins p m) [] (since_begin p []) f
]
since_first p (d ∷ ms) m h = elim (bool_cases (begins p d)) [
  | inl t ↦ absurd (h 0 (record { mark = d; is = refl; event = begin_does p d t }))
  | inr f ↦ if_false (begins p d) (ms ++ m ∷ []) (since_begin p (ms ++ m ∷ [])) f ∙ since_first p ms m (λ i o. h (suc i) (does_more d ms i p o))
]

-- what one event adds
abbrev pub own_gets : Name → Mark → ℕ
own_gets p m = if same_name m.event.process p then gets_in m.event.act else 0

abbrev pub other_puts : Name → Mark → ℕ
other_puts p m = if same_name m.event.process p then 0 else puts_in m.event.act

gets_by_on : (p : Name) (ms : Trail) (m : Mark) → gets_by p (ms ++ m ∷ []) ≡ gets_by p ms + own_gets p m
gets_by_on p [] m = omega arith
gets_by_on p (d ∷ ms) m = omega (arith, gets_by_on p ms m)

puts_beside_on : (p : Name) (ms : Trail) (m : Mark) → puts_beside p (ms ++ m ∷ []) ≡ puts_beside p ms + other_puts p m
puts_beside_on p [] m = omega arith
puts_beside_on p (d ∷ ms) m = omega (arith, puts_beside_on p ms m)

module _ (p : Name) (trail : Trail) (m : Mark) (i : ℕ) (begun : DoesAt trail i p Begin) where
  pub gets_on : gets_of p (trail ++ m ∷ []) ≡ gets_of p trail + own_gets p m
  gets_on = ap (gets_by p) (since_on p trail m i begun) ∙ gets_by_on p (since_begin p trail) m

  pub puts_on : puts_near p (trail ++ m ∷ []) ≡ puts_near p trail + other_puts p m
  puts_on = ap (puts_beside p) (since_on p trail m i begun) ∙ puts_beside_on p (since_begin p trail) m

pub own_gets_own : (p : Name) (m : Mark) → m.event.process ≡ p → own_gets p m ≡ gets_in m.event.act
own_gets_own p m e = if_true (same_name m.event.process p) (gets_in m.event.act) 0 (ap (λ q. same_name q p) e ∙ same_self p)

pub own_gets_other : (p : Name) (m : Mark) → m.event.process ≢ p → own_gets p m ≡ 0
own_gets_other p m n = if_false (same_name m.event.process p) (gets_in m.event.act) 0 (not_same m.event.process p n)

pub other_puts_own : (p : Name) (m : Mark) → m.event.process ≡ p → other_puts p m ≡ 0
other_puts_own p m e = if_true (same_name m.event.process p) 0 (puts_in m.event.act) (ap (λ q. same_name q p) e ∙ same_self p)

pub other_puts_other : (p : Name) (m : Mark) → m.event.process ≢ p → other_puts p m ≡ puts_in m.event.act
other_puts_other p m n = if_false (same_name m.event.process p) 0 (puts_in m.event.act) (not_same m.event.process p n)

-- fronts of a list
pub take_front : {A : Type 0} (xs : List A) (y : A) (i : ℕ) → i ≤ length xs → take i (xs ++ y ∷ []) ≡ take i xs
take_front xs y zero le = refl
take_front [] y (suc i) le = absurd (omega arith)
take_front (x ∷ xs) y (suc i) le = ap (λ z. x ∷ z) (take_front xs y i (omega arith))

take_all : {A : Type 0} (xs : List A) (i : ℕ) → length xs ≤ i → take i xs ≡ xs
take_all [] zero le = refl
take_all [] (suc i) le = refl
take_all (x ∷ xs) zero le = absurd (omega arith)
take_all (x ∷ xs) (suc i) le = ap (λ z. x ∷ z) (take_all xs i (omega arith))

push_length : {A : Type 0} (xs : List A) (y : A) → length (xs ++ y ∷ []) ≡ suc (length xs)
push_length [] y = refl
push_length (x ∷ xs) y = ap suc (push_length xs y)

take_get : (ms : Trail) (n i : ℕ) (m : Mark) → slice_get (take n ms) i ≡ Some m → slice_get ms i ≡ Some m
take_get [] zero i m h = h
take_get [] (suc n) i m h = h
take_get (d ∷ ms) zero i m h = cc
take_get (d ∷ ms) (suc n) zero m h = h
take_get (d ∷ ms) (suc n) (suc i) m h = take_get ms n i m h

module _ (pages : ℕ) (p : Name) (trail : Trail) where
  -- one moment more
  pub within_on : (m : Mark) → IsWithinBound pages p trail → gets_of p (trail ++ m ∷ []) ≤ most_gets pages (puts_near p (trail ++ m ∷ [])) → IsWithinBound pages p (trail ++ m ∷ [])
  within_on m h last i le = elim (cases_lt (length trail) i) [
    | inl l ↦ rw (take_all (trail ++ m ∷ []) i (omega (arith, push_length trail m))) last
    | inr l ↦ rw (take_front trail m i l) (h i l)
  ]

  -- now
  pub within_now : IsWithinBound pages p trail → gets_of p trail ≤ most_gets pages (puts_near p trail)
  within_now h = subst (λ t. gets_of p t ≤ most_gets pages (puts_near p t)) (take_all trail (length trail) (omega arith)) (h (length trail) (omega arith))

  -- before its begin
  pub within_none : ((i : ℕ) → DoesAt trail i p Begin → ⊥) → IsWithinBound pages p trail
  within_none h i le =
      let e : since_begin p (take i trail) ≡ [] = since_none p (take i trail) (λ j o. h j (record { mark = o.mark; is = take_get trail i j o.mark o.is; event = o.event })) in
      let gets : gets_of p (take i trail) ≡ 0 = ap (gets_by p) e in
      omega (arith, gets)
