-- Histories interleave lists: by place, in any order of the lists, of joined lists, and by pass.
use Rattle.std.proofs.Common.{◌≡◌, ◌≢◌, ℕ, zero, suc, ◌+◌, ◌<◌, List, [], ◌∷◌, ◌++◌, length, get_or, set, take, drop, map, refl, sym, ap, ◌∙◌, subst, append_assoc, arith, ⊎_elim, length-append}
use Rattle.std.specs.Prelude.{All, flat_map, swap, IsPermutation}
use Rattle.std.proofs.lemmas.Bool.{cases_eq}
use Rattle.std.proofs.lemmas.Bool.Decides.{nat_tests}
use Rattle.std.proofs.lemmas.List.{set_at, set_split, set-get_or, set-set, set_comm, get_or-set_same, get_or-set_other, length-set}
use Rattle.std.proofs.lemmas.List.Edits.{swap_is, length-swap}
use Rattle.std.proofs.lemmas.List.Elements.{All-nil, All-cons, All-head, All-tail, All-append}
use Rattle.std.proofs.lemmas.List.Sorted.{All-permutation, IsPermutation-refl, IsPermutation-trans, IsPermutation-swap, IsPermutation-keeps}
use Rattle.std.proofs.lemmas.List.Concat.{flat_map-append}
use Rattle.std.proofs.lemmas.List.{map-append}
use Rattle.bl_model.specs.declared.operation.Entry.{Entry}
use Rattle.bl_model.specs.History.{entries_of_pass}
use Rattle.bl_serve_lines.specs.Served.{Interleaves}
use Rattle.bl_serve_lines.specs.Served.Interleaves.{Done, Takes}

-- ---- lists

get_at : {A : Type 0} (before : List A) (x : A) (after : List A) (d : A) → get_or (before ++ x ∷ after) (length before) d ≡ x
get_at [] x after d = refl
get_at (b ∷ before) x after d = get_at before x after d

-- where an element goes when two places are exchanged
pub record Goes {A : Type 0} (l : List A) (k i j : ℕ) (d : A) : Type 0 where
  pub to : ℕ
  pub low : to < length l
  pub at : get_or (swap l i j) to d ≡ get_or l k d
  pub set_there : (v : A) → swap (set l k v) i j ≡ set (swap l i j) to v

swapped : {A : Type 0} (l : List A) (k i j : ℕ) (d v : A) → i < length l → j < length l → swap (set l k v) i j ≡ set (set (set l k v) i (get_or (set l k v) j d)) j (get_or (set l k v) i d)
swapped l k i j d v low_i low_j = sym (swap_is (set l k v) i j d (let s = length-set l k v in omega arith) (let s = length-set l k v in omega arith))

same_place : {A : Type 0} (l : List A) (k i : ℕ) (d : A) → k < length l → i < length l → Goes l k i i d
same_place l k i d low low_i =
    let none : (z : List _) → i < length z → swap z i i ≡ z = λ z lz. sym (swap_is z i i d lz lz) ∙ (set-set z i (get_or z i d) (get_or z i d) ∙ set-get_or z i d) in record {
      to = k;
      low = low;
      at = ap (λ (z : List _). get_or z k d) (none l low_i);
      set_there = λ v. none (set l k v) (let s = length-set l k v in omega arith) ∙ ap (λ (z : List _). set z k v) (sym (none l low_i));
    }

first_place : {A : Type 0} (l : List A) (i j : ℕ) (d : A) → i ≢ j → i < length l → j < length l → Goes l i i j d
first_place l i j d ne low_i low_j = let ne' : j ≢ i = (λ e. ne (sym e)) in let is = swap_is l i j d low_i low_j in record {
  to = j;
  low = low_j;
  at = ap (λ (z : List _). get_or z j d) (sym is) ∙ get_or-set_same (set l i (get_or l j d)) j (get_or l i d) d (let s = length-set l i (get_or l j d) in omega arith);
  set_there = λ v. swapped l i i j d v low_i low_j
      ∙ (ap (λ (z : _). set (set (set l i v) i z) j (get_or (set l i v) i d)) (get_or-set_other l i j v d ne')
      ∙ (ap (λ (z : _). set (set (set l i v) i (get_or l j d)) j z) (get_or-set_same l i v d low_i)
      ∙ (ap (λ (z : List _). set z j v) (set-set l i v (get_or l j d))
      ∙ (sym (set-set (set l i (get_or l j d)) j (get_or l i d) v)
      ∙ ap (λ (z : List _). set z j v) is))));
}

second_place : {A : Type 0} (l : List A) (i j : ℕ) (d : A) → i ≢ j → i < length l → j < length l → Goes l j i j d
second_place l i j d ne low_i low_j = let ne' : j ≢ i = (λ e. ne (sym e)) in let is = swap_is l i j d low_i low_j in record {
  to = i;
  low = low_i;
  at = ap (λ (z : List _). get_or z i d) (sym is) ∙ (get_or-set_other (set l i (get_or l j d)) j i (get_or l i d) d ne ∙ get_or-set_same l i (get_or l j d) d low_i);
  set_there = λ v. swapped l j i j d v low_i low_j
      ∙ (ap (λ (z : _). set (set (set l j v) i z) j (get_or (set l j v) i d)) (get_or-set_same l j v d low_j)
      ∙ (ap (λ (z : _). set (set (set l j v) i v) j z) (get_or-set_other l j i v d ne)
      ∙ (ap (λ (z : List _). set z j (get_or l i d)) (set_comm l j i v v ne')
      ∙ (set-set (set l i v) j v (get_or l i d)
      ∙ (ap (λ (z : List _). set z j (get_or l i d)) (sym (set-set l i (get_or l j d) v))
      ∙ (set_comm (set l i (get_or l j d)) i j v (get_or l i d) ne
      ∙ ap (λ (z : List _). set z i v) is))))));
}

other_place : {A : Type 0} (l : List A) (k i j : ℕ) (d : A) → k ≢ i → k ≢ j → k < length l → i < length l → j < length l → Goes l k i j d
other_place l k i j d no_i no_j low low_i low_j = let is = swap_is l i j d low_i low_j in record {
  to = k;
  low = low;
  at = ap (λ (z : List _). get_or z k d) (sym is) ∙ (get_or-set_other (set l i (get_or l j d)) j k (get_or l i d) d no_j ∙ get_or-set_other l i k (get_or l j d) d no_i);
  set_there = λ v. swapped l k i j d v low_i low_j
      ∙ (ap (λ (z : _). set (set (set l k v) i z) j (get_or (set l k v) i d)) (get_or-set_other l k j v d (λ e. no_j (sym e)))
      ∙ (ap (λ (z : _). set (set (set l k v) i (get_or l j d)) j z) (get_or-set_other l k i v d (λ e. no_i (sym e)))
      ∙ (ap (λ (z : List _). set z j (get_or l i d)) (set_comm l k i v (get_or l j d) no_i)
      ∙ (set_comm (set l i (get_or l j d)) k j v (get_or l i d) no_j
      ∙ ap (λ (z : List _). set z k v) is))));
}

goes : {A : Type 0} (l : List A) (k i j : ℕ) (d : A) → k < length l → i < length l → j < length l → Goes l k i j d
goes l k i j d low low_i low_j = ⊎_elim
    (λ (e : i ≡ j). subst (λ (z : ℕ). Goes l k i z d) e (same_place l k i d low low_i))
    (λ (ne : i ≡ j → ⊥). ⊎_elim
    (λ (e : i ≡ k). subst (λ (z : ℕ). Goes l z i j d) e (first_place l i j d ne low_i low_j))
    (λ (no_i : i ≡ k → ⊥). ⊎_elim
    (λ (e : j ≡ k). subst (λ (z : ℕ). Goes l z i j d) e (second_place l i j d ne low_i low_j))
    (λ (no_j : j ≡ k → ⊥). other_place l k i j d (λ e. no_i (sym e)) (λ e. no_j (sym e)) low low_i low_j)
    (cases_eq j k))
    (cases_eq i k))
    (cases_eq i j)

-- where the element of a place goes in another order
pub record Tracks {A : Type 0} (d : A) (xs ys : List A) (k : ℕ) : Type 0 where
  pub to : ℕ
  pub low : to < length ys
  pub at : get_or ys to d ≡ get_or xs k d
  pub set_there : (v : A) → IsPermutation (set xs k v) (set ys to v)

pub tracks : {A : Type 0} (d : A) (xs ys : List A) → IsPermutation xs ys → (k : ℕ) → k < length xs → Tracks d xs ys k
tracks d xs ys perm = IsPermutation-keeps xs (λ (l : List _). (k : ℕ) → k < length xs → Tracks d xs l k)
    (λ k low. record { to = k; low = low; at = refl; set_there = λ v. IsPermutation-refl (set xs k v) })
    (λ l i j low_i low_j so_far k low. let t = so_far k low in let g = goes l t.to i j d t.low low_i low_j in record {
      to = g.to;
      low = let s = length-swap l i j in let h = g.low in omega arith;
      at = g.at ∙ t.at;
      set_there = λ v. IsPermutation-trans (set xs k v) (set l t.to v) (set (swap l i j) g.to v) (t.set_there v)
          (IsPermutation-swap (set l t.to v) (set (swap l i j) g.to v) i j (let s = length-set l t.to v in omega arith) (let s = length-set l t.to v in omega arith) (sym (g.set_there v)));
    })
    ys perm

split_map : {A B : Type 0} (f : A → B) (gs : List A) (before : List B) (x : B) (after : List B) → map f gs ≡ before ++ x ∷ after
    → (gb : List A) × (g : A) × (ga : List A) × (gs ≡ gb ++ g ∷ ga) × (map f gb ≡ before) × (f g ≡ x) × (map f ga ≡ after)
split_map f [] [] x after is = cc
split_map f [] (b ∷ before) x after is = cc
split_map f (g ∷ gs) [] x after is = ([], g, gs, refl, refl, cc, cc)
split_map f (g ∷ gs) (b ∷ before) x after is = let e : map f gs ≡ before ++ x ∷ after = cc in let hd : f g ≡ b = cc in let r = split_map f gs before x after e in
    let m = r.4 in (g ∷ r.0, r.1, r.2, ap (λ (z : List _). g ∷ z) r.3, cc (hd, m), r.5, r.6)

-- ---- by place

-- the next entry is the first of the list at that place
pub record Picks (lists : List (List Entry)) (e : Entry) (h : List Entry) : Type 0 where
  pub place : ℕ
  pub list : List Entry
  pub low : place < length lists
  pub at : get_or lists place [] ≡ e ∷ list
  pub more : Interleaves (set lists place list) h

pub picks : (lists : List (List Entry)) (e : Entry) (h : List Entry) → Picks lists e h → Interleaves lists (e ∷ h)
picks lists e h p =
    subst (λ (z : List (List Entry)). Interleaves z (e ∷ h)) (sym (sym (set-get_or lists p.place []) ∙ (set_split lists p.place (get_or lists p.place []) p.low ∙ ap (λ (z : List Entry). take p.place lists ++ z ∷ drop (suc p.place) lists) p.at)))
    (Takes (take p.place lists) e p.list (drop (suc p.place) lists) h (subst (λ (z : List (List Entry)). Interleaves z h) (set_split lists p.place p.list p.low) p.more))

-- ---- in any order of the lists

pub in_any_order : {xs : List (List Entry)} {h : List Entry} → Interleaves xs h → (ys : List (List Entry)) → IsPermutation xs ys → Interleaves ys h
in_any_order (Done xs all) ys perm = Done ys (All-permutation (λ list. list ≡ []) xs ys perm all)
in_any_order (Takes before e list after h more) ys perm =
    let xs : List (List Entry) = before ++ (e ∷ list) ∷ after in
    let low : length before < length xs = (let long = length-append before ((e ∷ list) ∷ after) in omega arith) in
    let t = tracks [] xs ys perm (length before) low in
    let left : set xs (length before) list ≡ before ++ list ∷ after = set_at before (e ∷ list) after list (length before) refl in
    picks ys e h (record {
      place = t.to;
      list = list;
      low = t.low;
      at = t.at ∙ get_at before (e ∷ list) after [];
      more = in_any_order more (set ys t.to list) (subst (λ (z : List (List Entry)). IsPermutation z (set ys t.to list)) left (t.set_there list));
    })

-- ---- of lists joined

abbrev pub joined : List (List Entry) → List Entry
joined lists = flat_map (λ list. list) lists

abbrev pub all_of : List (List (List Entry)) → List (List Entry)
all_of groups = flat_map (λ group. group) groups

split_joined : (g : List (List Entry)) (e : Entry) (list : List Entry) → joined g ≡ e ∷ list
    → (g1 : List (List Entry)) × (l : List Entry) × (g2 : List (List Entry)) × (g ≡ g1 ++ (e ∷ l) ∷ g2) × (joined g1 ≡ []) × (list ≡ l ++ joined g2)
split_joined [] e list is = cc
split_joined ([] ∷ g) e list is = let r = split_joined g e list is in ([] ∷ r.0, r.1, r.2, ap (λ (z : List (List Entry)). [] ∷ z) r.3, r.4, r.5)
split_joined ((x ∷ xs) ∷ g) e list is = let a : x ≡ e = cc in let b : xs ++ joined g ≡ list = cc in ([], xs, g, ap (λ (z : Entry). (z ∷ xs) ∷ g) a, refl, sym b)

nones : (g : List (List Entry)) → joined g ≡ [] → All (λ list. list ≡ []) g
nones [] is = All-nil (λ list. list ≡ [])
nones ([] ∷ g) is = All-cons (λ list. list ≡ []) [] g refl (nones g is)
nones ((x ∷ xs) ∷ g) is = absurd (let no : ⊥ = cc in no)

all_none : (gs : List (List (List Entry))) → All (λ list. list ≡ []) (map joined gs) → All (λ list. list ≡ []) (all_of gs)
all_none [] all = All-nil (λ list. list ≡ [])
all_none (g ∷ gs) all = All-append (λ list. list ≡ []) g (all_of gs) (nones g (All-head (λ list. list ≡ []) (joined g) (map joined gs) all)) (all_none gs (All-tail (λ list. list ≡ []) (joined g) (map joined gs) all))

all_at : (gb ga : List (List (List Entry))) (g1 : List (List Entry)) (y : List Entry) (g2 : List (List Entry)) → all_of (gb ++ (g1 ++ y ∷ g2) ∷ ga) ≡ (all_of gb ++ g1) ++ y ∷ (g2 ++ all_of ga)
all_at gb ga g1 y g2 = flat_map-append (λ group. group) gb ((g1 ++ y ∷ g2) ∷ ga) ∙ (ap (λ (z : List (List Entry)). all_of gb ++ z) (append_assoc g1 (y ∷ g2) (all_of ga)) ∙ sym (append_assoc (all_of gb) g1 (y ∷ (g2 ++ all_of ga))))

-- a history that interleaves the joined lists interleaves the lists
pub one_by_one : {lists : List (List Entry)} {h : List Entry} → Interleaves lists h → (gs : List (List (List Entry))) → map joined gs ≡ lists → Interleaves (all_of gs) h
one_by_one (Done lists all) gs is = Done (all_of gs) (all_none gs (subst (All (λ list. list ≡ [])) (sym is) all))
one_by_one (Takes before e list after h more) gs is =
    let s = split_map joined gs before (e ∷ list) after is in
    let j = split_joined s.1 e list s.5 in
    let group : List (List Entry) = j.0 ++ j.1 ∷ j.2 in
    let same : joined group ≡ list = flat_map-append (λ z. z) j.0 (j.1 ∷ j.2) ∙ (ap (λ (z : List Entry). z ++ (j.1 ++ joined j.2)) j.4 ∙ sym j.5) in
    let there : map joined (s.0 ++ group ∷ s.2) ≡ before ++ list ∷ after = map-append joined s.0 (group ∷ s.2) ∙ (ap (λ (z : List (List Entry)). z ++ joined group ∷ map joined s.2) s.4 ∙ (ap (λ (z : List Entry). before ++ z ∷ map joined s.2) same ∙ ap (λ (z : List (List Entry)). before ++ list ∷ z) s.6)) in
    let are : all_of gs ≡ (all_of s.0 ++ j.0) ++ (e ∷ j.1) ∷ (j.2 ++ all_of s.2) = ap (λ (z : List (List (List Entry))). all_of z) s.3 ∙ (ap (λ (z : List (List Entry)). all_of (s.0 ++ z ∷ s.2)) j.3 ∙ all_at s.0 s.2 j.0 (e ∷ j.1) j.2) in
    subst (λ (z : List (List Entry)). Interleaves z (e ∷ h)) (sym are)
    (Takes (all_of s.0 ++ j.0) e j.1 (j.2 ++ all_of s.2) h
    (subst (λ (z : List (List Entry)). Interleaves z h) (all_at s.0 s.2 j.0 j.1 j.2) (one_by_one more (s.0 ++ group ∷ s.2) there)))

-- ---- by pass

abbrev pub parts : ℕ → ℕ → List Entry → List (List Entry)
parts from zero h = []
parts from (suc n) h = entries_of_pass from h ∷ parts (suc from) n h

part_own : (p : ℕ) (e : Entry) (h : List Entry) → e.pass ≡ p → entries_of_pass p (e ∷ h) ≡ e ∷ entries_of_pass p h
part_own p e h is = grind (arith, nat_tests, is)

part_other : (p : ℕ) (e : Entry) (h : List Entry) → e.pass ≢ p → entries_of_pass p (e ∷ h) ≡ entries_of_pass p h
part_other p e h other = grind (arith, nat_tests, other)

parts_none : (from n : ℕ) → All (λ list. list ≡ []) (parts from n [])
parts_none from zero = All-nil (λ list. list ≡ [])
parts_none from (suc n) = All-cons (λ list. list ≡ []) [] (parts (suc from) n []) refl (parts_none (suc from) n)

parts_at : (from n k : ℕ) (h : List Entry) → k < n → (k < length (parts from n h)) × (get_or (parts from n h) k [] ≡ entries_of_pass (from + k) h)
parts_at from zero k h low = absurd (omega arith)
parts_at from (suc n) zero h low = (omega arith, ap (λ (z : ℕ). entries_of_pass z h) (let e : from ≡ from + 0 = omega arith in e))
parts_at from (suc n) (suc k) h low = let r = parts_at (suc from) n k h (omega arith) in (let r0 = r.0 in omega arith, r.1 ∙ ap (λ (z : ℕ). entries_of_pass z h) (let e : suc from + k ≡ from + suc k = omega arith in e))

parts_above : (from n : ℕ) (e : Entry) (h : List Entry) → e.pass < from → parts from n (e ∷ h) ≡ parts from n h
parts_above from zero e h low = refl
parts_above from (suc n) e h low = ap (λ (z : List Entry). z ∷ parts (suc from) n (e ∷ h)) (part_other from e h (λ is. omega arith)) ∙ ap (λ (z : List (List Entry)). entries_of_pass from h ∷ z) (parts_above (suc from) n e h (omega arith))

parts_set : (from n k : ℕ) (e : Entry) (h : List Entry) → k < n → e.pass ≡ from + k → set (parts from n (e ∷ h)) k (entries_of_pass (from + k) h) ≡ parts from n h
parts_set from zero k e h low is = absurd (omega arith)
parts_set from (suc n) zero e h low is = ap (λ (z : ℕ). entries_of_pass z h ∷ parts (suc from) n (e ∷ h)) (let z : from + 0 ≡ from = omega arith in z) ∙ ap (λ (z : List (List Entry)). entries_of_pass from h ∷ z) (parts_above (suc from) n e h (omega arith))
parts_set from (suc n) (suc k) e h low is = ap (λ (z : List Entry). z ∷ set (parts (suc from) n (e ∷ h)) k (entries_of_pass (from + suc k) h)) (part_other from e h (λ z. omega arith))
    ∙ (ap (λ (z : ℕ). entries_of_pass from h ∷ set (parts (suc from) n (e ∷ h)) k (entries_of_pass z h)) (let z : from + suc k ≡ suc from + k = omega arith in z)
    ∙ ap (λ (z : List (List Entry)). entries_of_pass from h ∷ z) (parts_set (suc from) n k e h (omega arith) (omega arith)))

-- a history interleaves its entries by pass
pub by_part : (n : ℕ) (h : List Entry) → All (λ e. e.pass < n) h → Interleaves (parts 0 n h) h
by_part n [] all = Done (parts 0 n []) (parts_none 0 n)
by_part n (e ∷ h) all = let low = All-head (λ x. x.pass < n) e h all in let at = parts_at 0 n (e.pass) (e ∷ h) low in
    let zero_plus : 0 + e.pass ≡ e.pass = omega arith in
    picks (parts 0 n (e ∷ h)) e h (record {
      place = e.pass;
      list = entries_of_pass (e.pass) h;
      low = at.0;
      at = at.1 ∙ (ap (λ (z : ℕ). entries_of_pass z (e ∷ h)) zero_plus ∙ part_own (e.pass) e h refl);
      more = subst (λ (z : List (List Entry)). Interleaves z h) (sym (ap (λ (z : ℕ). set (parts 0 n (e ∷ h)) (e.pass) (entries_of_pass z h)) (sym zero_plus) ∙ parts_set 0 n (e.pass) e h low (omega arith))) (by_part n h (All-tail (λ x. x.pass < n) e h all));
    })
