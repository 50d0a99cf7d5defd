-- Places of C, one after another.
use Rattle.std.proofs.Common.{ℕ, zero, suc, ◌≡◌, ◌+◌, ◌<◌, ◌≤◌, ◌++◌, List, [], ◌∷◌, length, map, set, take, drop, Option, Some, None, refl, sym, ap, ◌∙◌, append_assoc, append-nil, inl, inr, add-one, arith}
use Rattle.std.proofs.lemmas.List.{length_push}
use mathlib.Core.Option.{some, some-injective, some-ne-none}
use lib.ListN.{get_elem?}
use Rattle.bl_index.specs.declared.index.Index.{Index}
use Rattle.bl_index.specs.declared.index.Pass.{Pass}
use Rattle.bl_ffi_seats.specs.Opened.{AreSeatsOf}
use Rattle.bl_ffi_seats.specs.declared.seat.Seat.{Seat}
use Rattle.bl_page.specs.declared.page.Page.{Page}
use Rattle.bl_index.specs.Calls.{pages_of}
use Rattle.bl_index.proofs.Gathered.{all_of}
use Rattle.bl_ffi_seats.specs.Seats.{AreOfOne}
use Rattle.bl_ffi_seats.specs.Closed.{values, AreAtOne, HaveClosed}
use Rattle.bl_ffi_seats.proofs.Closings.{Boxed, map_at, map_length}
use Rattle.bl_ffi.specs.declared.seat.SeatOfC.{SeatOfC}
use Rattle.std.specs.Arc.{arc_value}
use Rattle.std.specs.List.{AllZip}
use Rattle.std.specs.Prelude.{All, slice_get}
use Rattle.bl_ffi.specs.Together.{AreAtOneMap}
use Rattle.bl_ffi.specs.Places.{seats_in, opened, closed, IsOpen, HasOpenSeat, AreTaken}

abbrev pub seat_in : SeatOfC → Option Seat
seat_in place = place.seat

map_set : {A B : Type 0} (f : A → B) (l : List A) (i : ℕ) (x : A) → map f (set l i x) ≡ set (map f l) i (f x)
map_set f [] i x = refl
map_set f (y ∷ l) zero x = refl
map_set f (y ∷ l) (suc i) x = ap (λ (z : _). f y ∷ z) (map_set f l i x)

map_push : {A B : Type 0} (f : A → B) (l : List A) (a : A) → map f (l ++ a ∷ []) ≡ map f l ++ f a ∷ []
map_push f [] a = refl
map_push f (x ∷ xs) a = ap (λ (z : _). f x ∷ z) (map_push f xs a)

set_seam : {A : Type 0} (xs ys : List A) (x y : A) → set (xs ++ y ∷ ys) (length xs) x ≡ xs ++ x ∷ ys
set_seam [] ys x y = refl
set_seam (z ∷ xs) ys x y = ap (λ (w : _). z ∷ w) (set_seam xs ys x y)

at_seam : {A : Type 0} (xs ys : List A) (y : A) → get_elem? (xs ++ y ∷ ys) (length xs) ≡ some y
at_seam [] ys y = refl
at_seam (z ∷ xs) ys y = at_seam xs ys y

drop_at : {A : Type 0} (l : List A) (i : ℕ) (a : A) → get_elem? l i ≡ some a → drop i l ≡ a ∷ drop (i + 1) l
drop_at l i a at = rw add-one (go l i a at)
  where
    go : {B : Type 0} (l : List B) (i : ℕ) (a : B) → get_elem? l i ≡ some a → drop i l ≡ a ∷ drop (suc i) l
    go [] i a at = absurd (some-ne-none a (sym at))
    go (x ∷ l) zero a at = ap (λ (z : _). z ∷ l) (some-injective x a at)
    go (x ∷ l) (suc i) a at = go l i a at

take_at : {A : Type 0} (l : List A) (i : ℕ) (a : A) → get_elem? l i ≡ some a → take (i + 1) l ≡ take i l ++ a ∷ []
take_at l i a at = rw add-one (go l i a at)
  where
    go : {B : Type 0} (l : List B) (i : ℕ) (a : B) → get_elem? l i ≡ some a → take (suc i) l ≡ take i l ++ a ∷ []
    go [] i a at = absurd (some-ne-none a (sym at))
    go (x ∷ l) zero a at = ap (λ (z : _). z ∷ []) (some-injective x a at)
    go (x ∷ l) (suc i) a at = ap (λ (z : _). x ∷ z) (go l i a at)

there : {A : Type 0} (l : List A) (i : ℕ) → i < length l → (a : A) × (get_elem? l i ≡ some a)
there [] i lt = absurd (omega (arith, lt))
there (x ∷ xs) zero lt = (x, refl)
there (x ∷ xs) (suc i) lt = there xs i (omega (arith, lt))

closed_more : (n : ℕ) → closed (n + 1) ≡ closed n ++ None ∷ []
closed_more n = rw add-one (go n)
  where
    go : (n : ℕ) → closed (suc n) ≡ closed n ++ None ∷ []
    go zero = refl
    go (suc n) = ap (λ (z : List (Option Seat)). None ∷ z) (go n)

closed_length : (n : ℕ) → length (closed n) ≡ n
closed_length zero = refl
closed_length (suc n) = ap suc (closed_length n)

-- what stands behind i places of which something was done is what stood there
behind : (front old : List (Option Seat)) (i : ℕ) (a : Option Seat) → length front ≡ i → get_elem? old i ≡ some a → get_elem? (front ++ drop i old) i ≡ some a
behind front old i a long at = ap (λ (z : List (Option Seat)). get_elem? (front ++ z) i) (drop_at old i a at) ∙ (ap (λ (n : ℕ). get_elem? (front ++ a ∷ drop (i + 1) old) n) (sym long) ∙ at_seam front (drop (i + 1) old) a)

-- the next place is set
set_next : (front old : List (Option Seat)) (i : ℕ) (a x : Option Seat) → length front ≡ i → get_elem? old i ≡ some a → set (front ++ drop i old) i x ≡ front ++ x ∷ drop (i + 1) old
set_next front old i a x long at = ap (λ (z : List (Option Seat)). set (front ++ z) i x) (drop_at old i a at) ∙ (ap (λ (n : ℕ). set (front ++ a ∷ drop (i + 1) old) n x) (sym long) ∙ set_seam front (drop (i + 1) old) x a)

-- a place is closed
close_next : (old places : List SeatOfC) (i : ℕ) (place : SeatOfC) → i < length old → place.seat ≡ None → seats_in places ≡ closed i ++ drop i (seats_in old) → seats_in (set places i place) ≡ closed (i + 1) ++ drop (i + 1) (seats_in old)
close_next old places i place lt none so_far =
    let olds = seats_in old in let t = there olds i (let long = map_length seat_in old in omega (arith, lt, long)) in
    map_set seat_in places i place ∙ ((λ j. set (so_far j) i (none j)) ∙ (set_next (closed i) olds i t.0 None (closed_length i) t.1
    ∙ (sym (append_assoc (closed i) (None ∷ []) (drop (i + 1) olds)) ∙ ap (λ (z : List (Option Seat)). z ++ drop (i + 1) olds) (sym (closed_more i)))))

drop_all : {A : Type 0} (l : List A) (i : ℕ) → length l ≤ i → drop i l ≡ []
drop_all [] zero le = refl
drop_all [] (suc i) le = refl
drop_all (x ∷ l) zero le = absurd (omega (arith, le))
drop_all (x ∷ l) (suc i) le = drop_all l i (omega (arith, le))

set_same : {A : Type 0} (l : List A) (i : ℕ) (a : A) → get_elem? l i ≡ some a → set l i a ≡ l
set_same [] i a at = refl
set_same (x ∷ l) zero a at = ap (λ (z : _). z ∷ l) (sym (some-injective x a at))
set_same (x ∷ l) (suc i) a at = ap (λ (z : _). x ∷ z) (set_same l i a at)

-- ---- whether one is open

-- a place that has the same as before
pub seats_kept : (places : List SeatOfC) (i : ℕ) (was place : SeatOfC) → get_elem? places i ≡ some was → place.seat ≡ was.seat → seats_in (set places i place) ≡ seats_in places
seats_kept places i was place at same =
    map_set seat_in places i place ∙ (ap (λ (z : Option Seat). set (seats_in places) i z) same ∙ set_same (seats_in places) i was.seat (map_at seat_in places i was at))

-- what stands at a place stood there before
stood : (old places : List SeatOfC) (i : ℕ) (was : SeatOfC) (seat : Option Seat) → get_elem? places i ≡ some was → was.seat ≡ seat → seats_in places ≡ seats_in old → get_elem? (seats_in old) i ≡ some seat
stood old places i was seat at is kept = ap (λ (z : List (Option Seat)). get_elem? z i) (sym kept) ∙ (map_at seat_in places i was at ∙ ap some is)

pub one_open : (old places : List SeatOfC) (i : ℕ) (was : SeatOfC) → get_elem? places i ≡ some was → IsOpen was.seat → seats_in places ≡ seats_in old → HasOpenSeat (seats_in old)
one_open old places i was at has kept = (i, has.0, stood old places i was (Some has.0) at has.1 kept)

pub closed_next : (old places : List SeatOfC) (i : ℕ) (was : SeatOfC) → get_elem? places i ≡ some was → was.seat ≡ None → seats_in places ≡ seats_in old → seats_in old ≡ closed i ++ drop i (seats_in old) → seats_in old ≡ closed (i + 1) ++ drop (i + 1) (seats_in old)
closed_next old places i was at none kept so_far =
    let olds = seats_in old in
    so_far ∙ (ap (λ (z : List (Option Seat)). closed i ++ z) (drop_at olds i None (stood old places i was None at none kept))
    ∙ (sym (append_assoc (closed i) (None ∷ []) (drop (i + 1) olds)) ∙ ap (λ (z : List (Option Seat)). z ++ drop (i + 1) olds) (sym (closed_more i))))

pub all_closed : (old : List SeatOfC) (i : ℕ) → i ≡ length old → seats_in old ≡ closed i ++ drop i (seats_in old) → seats_in old ≡ closed (length old)
all_closed old i is so_far =
    so_far ∙ (ap (λ (z : List (Option Seat)). closed i ++ z) (drop_all (seats_in old) i (let long = map_length seat_in old in omega (arith, is, long))) ∙ (append-nil (closed i) ∙ ap closed is))

-- ---- seats are put into places

pub record PutSo (old places : List (Option Seat)) (all rest : List Seat) (i : ℕ) : Type 0 where
  pub given : List Seat
  pub are : all ≡ given ++ rest
  pub many : length given ≡ i
  pub put : places ≡ opened given ++ drop i old

pub none_put : (old : List (Option Seat)) (all : List Seat) → PutSo old old all all 0
none_put old all = record { given = []; are = refl; many = refl; put = refl }

pub put_next : (old places : List SeatOfC) (all rest left : List Seat) (i : ℕ) (place : SeatOfC) (seat : Seat) → i < length old → rest ≡ seat ∷ left → place.seat ≡ Some seat → PutSo (seats_in old) (seats_in places) all rest i
    → PutSo (seats_in old) (seats_in (set places i place)) all left (i + 1)
put_next old places all rest left i place seat lt next is s =
    let olds = seats_in old in let t = there olds i (let long = map_length seat_in old in omega (arith, lt, long)) in
    let long : length (opened s.given) ≡ i = map_length (λ (z : Seat). Some z) s.given ∙ s.many in
    record {
      given = s.given ++ seat ∷ [];
      are = s.are ∙ (ap (λ (z : List Seat). s.given ++ z) next ∙ sym (append_assoc s.given (seat ∷ []) left));
      many = length_push s.given seat ∙ ap (λ (n : ℕ). n + 1) s.many;
      put = map_set seat_in places i place ∙ ((λ j. set (s.put j) i (is j)) ∙ (set_next (opened s.given) olds i t.0 (Some seat) long t.1
          ∙ (sym (append_assoc (opened s.given) (Some seat ∷ []) (drop (i + 1) olds)) ∙ ap (λ (z : List (Option Seat)). z ++ drop (i + 1) olds) (sym (map_push (λ (z : Seat). Some z) s.given seat)))));
    }

-- ---- seats are taken out of places

pub record TakeSo (old places : List (Option Seat)) (seats : List Seat) (i : ℕ) : Type 0 where
  pub taken : opened seats ≡ take i old
  pub many : length seats ≡ i
  pub left : places ≡ closed i ++ drop i old

-- what stands at the next place
pub next_is : (old places : List (Option Seat)) (seats : List Seat) (i : ℕ) (a : Option Seat) → i < length old → get_elem? places i ≡ some a → TakeSo old places seats i → get_elem? old i ≡ some a
next_is old places seats i a lt at s =
    let t = there old i lt in
    t.1 ∙ (sym (behind (closed i) old i t.0 (closed_length i) t.1) ∙ (ap (λ (z : List (Option Seat)). get_elem? z i) (sym s.left) ∙ at))

pub take_next : (old places : List SeatOfC) (seats now : List Seat) (i : ℕ) (was place : SeatOfC) (seat : Seat) → i < length old → get_elem? places i ≡ some was → was.seat ≡ Some seat → place.seat ≡ None → now ≡ seats ++ seat ∷ [] → TakeSo (seats_in old) (seats_in places) seats i
    → TakeSo (seats_in old) (seats_in (set places i place)) now (i + 1)
take_next old places seats now i was place seat lt at had none pushed s =
    let olds = seats_in old in
    let at_old : get_elem? olds i ≡ some (Some seat) = next_is olds (seats_in places) seats i (Some seat) (let long = map_length seat_in old in omega (arith, lt, long)) (map_at seat_in places i was at ∙ ap some had) s in
    record {
      taken = ap opened pushed ∙ (map_push (λ (z : Seat). Some z) seats seat ∙ (ap (λ (z : List (Option Seat)). z ++ Some seat ∷ []) s.taken ∙ sym (take_at olds i (Some seat) at_old)));
      many = ap length pushed ∙ (length_push seats seat ∙ ap (λ (n : ℕ). n + 1) s.many);
      left = close_next old places i place lt none s.left;
    }

pub taken_all : (old places : List SeatOfC) (seats : List Seat) (i : ℕ) → length old ≤ i → i ≤ length old → TakeSo (seats_in old) (seats_in places) seats i → AreTaken (seats_in old) (seats_in places) seats
taken_all old places seats i past low s = record {
  taken = s.taken ∙ ap (λ (n : ℕ). take n (seats_in old)) (sym s.many);
  left = s.left ∙ ap (λ (n : ℕ). closed n ++ drop n (seats_in old)) (sym s.many);
  stops = inl (let many = s.many in let long = map_length seat_in old in omega (arith, many, long, past, low));
}

pub taken_some : (old places : List SeatOfC) (seats : List Seat) (i : ℕ) (was place : SeatOfC) → i < length old → get_elem? places i ≡ some was → was.seat ≡ None → place.seat ≡ None → TakeSo (seats_in old) (seats_in places) seats i
    → AreTaken (seats_in old) (seats_in (set places i place)) seats
taken_some old places seats i was place lt at had none s =
    let olds = seats_in old in
    let at_old : get_elem? olds i ≡ some None = next_is olds (seats_in places) seats i None (let long = map_length seat_in old in omega (arith, lt, long)) (map_at seat_in places i was at ∙ ap some had) s in
    let is : seats_in (set places i place) ≡ closed i ++ drop i olds = map_set seat_in places i place ∙ ((λ j. set (s.left j) i (none j)) ∙ (set_next (closed i) olds i None None (closed_length i) at_old ∙ ap (λ (z : List (Option Seat)). closed i ++ z) (sym (drop_at olds i None at_old)))) in
    record {
      taken = s.taken ∙ ap (λ (n : ℕ). take n olds) (sym s.many);
      left = is ∙ ap (λ (n : ℕ). closed n ++ drop n olds) (sym s.many);
      stops = inr (ap (λ (n : ℕ). get_elem? olds n) s.many ∙ at_old);
    }

pub value_push : (boxes now : List Boxed) (box : Boxed) → now ≡ boxes ++ box ∷ [] → values now ≡ values boxes ++ box.value ∷ []
value_push boxes now box is = ap values is ∙ map_push (λ (z : Boxed). z.value) boxes box

pub value_length : (boxes : List Boxed) → length (values boxes) ≡ length boxes
value_length boxes = map_length (λ (z : Boxed). z.value) boxes

pub all_put : (old places : List (Option Seat)) (boxes : List Boxed) (rest : List Seat) (i : ℕ) → length rest ≡ 0 → PutSo old places (values boxes) rest i → places ≡ opened (values boxes) ++ drop (length boxes) old
all_put old places boxes [] i none s =
    let is : values boxes ≡ s.given = s.are ∙ append-nil s.given in
    let many : length boxes ≡ i = sym (value_length boxes) ∙ (ap length is ∙ s.many) in
    s.put ∙ (λ j. opened (sym is j) ++ drop (sym many j) old)
all_put old places boxes (x ∷ rest) i none s = absurd (omega (arith, none))

-- ---- seats are handed out

pub drop_closed : (front : List (Option Seat)) (n i : ℕ) → n ≤ i → front ++ drop i (closed n) ≡ front
drop_closed front n i le = ap (λ (z : List (Option Seat)). front ++ z) (drop_all (closed n) i (let long = closed_length n in omega (arith, le, long))) ∙ append-nil front

pub handed : (seats : List Seat) (boxes : List Boxed) (mid new : List (Option Seat)) (n : ℕ) → values boxes ≡ seats → length seats ≡ n → mid ≡ closed n → new ≡ opened (values boxes) ++ drop (length boxes) mid → new ≡ opened seats
handed seats boxes mid new n is long closed_all put =
    put ∙ ((λ j. opened (is j) ++ drop (length boxes) (closed_all j)) ∙ drop_closed (opened seats) n (length boxes) (let a = value_length boxes in let b = ap length is in omega (arith, a, b, long)))

pub boxed_next : (all rest left : List Seat) (seat : Seat) (boxes now : List Boxed) (box : Boxed) → rest ≡ seat ∷ left → box.value ≡ seat → now ≡ boxes ++ box ∷ [] → all ≡ values boxes ++ rest → all ≡ values now ++ left
boxed_next all rest left seat boxes now box next is pushed so_far =
    so_far ∙ ((λ j. values boxes ++ next j) ∙ (sym (append_assoc (values boxes) (seat ∷ []) left) ∙ (ap (λ (z : Seat). (values boxes ++ z ∷ []) ++ left) (sym is) ∙ ap (λ (z : List Seat). z ++ left) (sym (value_push boxes now box pushed)))))

-- there are as many seats as passes
pub as_many : (index : Index) (passes : List Pass) (seats : List Seat) (n : ℕ) → AreSeatsOf index passes seats → length passes ≡ n → length seats ≡ n
as_many index passes seats n each is = go passes seats each ∙ is
  where
    go : (ps : List Pass) (ss : List Seat) → AreSeatsOf index ps ss → length ss ≡ length ps
    go [] [] each = refl
    go [] (s ∷ ss) each = absurd each
    go (p ∷ ps) [] each = absurd each
    go (p ∷ ps) (s ∷ ss) each = ap suc (go ps ss each.1)

or_box : Boxed → Option Boxed → Boxed
or_box d None = d
or_box d (Some b) = b

some_same : (a b : Boxed) → Some a ≡ Some b → a ≡ b
unfolding or_box
some_same a b is = ap (or_box b) is

-- ---- seats that were taken out of all places

take_whole : {A : Type 0} (l : List A) (n : ℕ) → n ≡ length l → take n l ≡ l
take_whole [] zero is = refl
take_whole [] (suc n) is = refl
take_whole (x ∷ l) zero is = absurd (omega (arith, is))
take_whole (x ∷ l) (suc n) is = ap (λ (z : _). x ∷ z) (take_whole l n (omega (arith, is)))

take_le : {A : Type 0} (l : List A) (n : ℕ) → length (take n l) ≤ length l
take_le [] zero = omega arith
take_le [] (suc n) = omega arith
take_le (x ∷ l) zero = omega arith
take_le (x ∷ l) (suc n) = (let less = take_le l n in omega (arith, less))

pub no_more : (old mid : List (Option Seat)) (seats : List Seat) → AreTaken old mid seats → length seats ≤ length old
no_more old mid seats t =
    let a = ap length t.taken in let b = map_length (λ (z : Seat). Some z) seats in let c = take_le old (length seats) in omega (arith, a, b, c)

-- they were those of all places
pub taken_whole : (old new : List (Option Seat)) (seats : List Seat) → length seats ≡ length old → AreTaken old new seats → (old ≡ opened seats) × (new ≡ closed (length seats))
taken_whole old new seats long t =
    (sym (t.taken ∙ take_whole old (length seats) long), t.left ∙ (ap (λ (z : List (Option Seat)). closed (length seats) ++ z) (drop_all old (length seats) (omega (arith, long))) ∙ append-nil (closed (length seats))))

drop_front : (n : ℕ) (l : List (Option Seat)) → drop n (closed n ++ l) ≡ l
drop_front zero l = refl
drop_front (suc n) l = drop_front n l

take_drop : {A : Type 0} (l : List A) (n : ℕ) → take n l ++ drop n l ≡ l
take_drop [] zero = refl
take_drop [] (suc n) = refl
take_drop (x ∷ l) zero = refl
take_drop (x ∷ l) (suc n) = ap (λ (z : _). x ∷ z) (take_drop l n)

-- where all open places are of one map, so are the seats in them
pub at_one_map : (old : List (Option Seat)) (seats : List Seat) → old ≡ opened seats → AreAtOneMap old → AreAtOne seats
at_one_map old seats is one = all_of (λ (z : Seat). All (AreOfOne z) seats) seats (λ i s at. all_of (AreOfOne s) seats (λ j t at_t.
    one i j s t (ap (λ (z : List (Option Seat)). get_elem? z i) is ∙ map_at (λ (z : Seat). Some z) seats i s at) (ap (λ (z : List (Option Seat)). get_elem? z j) is ∙ map_at (λ (z : Seat). Some z) seats j t at_t)))

pub put_full : (mid new : List (Option Seat)) (boxes : List Boxed) (n : ℕ) → length boxes ≡ n → mid ≡ closed n → new ≡ opened (values boxes) ++ drop (length boxes) mid → new ≡ opened (values boxes)
put_full mid new boxes n long empty put = put ∙ (ap (λ (z : List (Option Seat)). opened (values boxes) ++ drop (length boxes) z) empty ∙ drop_closed (opened (values boxes)) n (length boxes) (omega (arith, long)))

-- the pages of a closed map are as many as those of the index of each of its seats
pub pages_closed : (boxes : List Boxed) (box : Boxed) (pages : List (Option Page)) → Some box ≡ slice_get boxes 0 → HaveClosed (values boxes) pages → length pages ≡ pages_of (arc_value box.value.index)
pages_closed [] box pages is h = absurd (let f : Some box ≡ None = is in cc)
pages_closed (x ∷ boxes) box pages is h =
    let same : x.value.index ≡ box.value.index = ap (λ (z : Boxed). z.value.index) (sym (some_same box x is)) in
    h.closes.count ∙ ap pages_of (sym (h.at 0 x.value (omega arith)) ∙ ap arc_value same)
