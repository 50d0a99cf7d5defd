-- Seats in boxes, one after another, and their hands.
use Rattle.std.proofs.Common.{ℕ, zero, suc, ◌≡◌, ◌≢◌, ◌+◌, ◌<◌, ◌≤◌, ◌++◌, List, [], ◌∷◌, All, length, map, set, get_or, refl, sym, ap, ◌∙◌, subst, append_assoc, append-nil, inl, inr, arith}
use Rattle.std.specs.Prelude.{Box, Option, Some, None, slice_get}
use Rattle.std.specs.Arc.{arc_value}
use Rattle.std.specs.declared.alloc.Global.{Global}
use Rattle.std.proofs.lemmas.Bool.{cases_eq}
use mathlib.Core.Option.{some, some-injective, some-ne-none}
use lib.ListN.{get_elem?}
use Rattle.bl_store.specs.Closing.{HasEach}
use Rattle.bl_store.specs.declared.store.Hand.{Hand}
use Rattle.bl_index_rule.proofs.Shown.{at_below}
use Rattle.bl_index_rule.specs.declared.known.PassState.{PassState}
use Rattle.bl_index.proofs.Gathered.{one_there, all_there, all_of}
use Rattle.bl_index.specs.Calls.{passes_of}
use Rattle.bl_index.specs.Closed.{IsIdleOf}
use Rattle.bl_index.specs.declared.index.Index.{Index}
use Rattle.bl_index_events.specs.declared.tree.Tree.{Tree}
use Rattle.bl_ffi_seats.specs.declared.seat.Seat.{Seat}
use Rattle.bl_ffi_seats.specs.Seats.{seat_number, AreOfOne}
use Rattle.bl_ffi_seats.specs.Closed.{values, hand_of, AreAtOne, AreAll, HasSeat, IsAtIndex, LacksOne, AreComplete}

abbrev pub Boxed : Type 0
Boxed = Box Seat Global

-- ---- what stands at a place

pub map_at : {A B : Type 0} (f : A → B) (l : List A) (k : ℕ) (a : A) → get_elem? l k ≡ some a → get_elem? (map f l) k ≡ some (f a)
map_at f [] k a at = absurd (some-ne-none a (sym at))
map_at f (x ∷ xs) zero a at = ap (λ (z : _). some (f z)) (some-injective x a at)
map_at f (x ∷ xs) (suc k) a at = map_at f xs k a at

pub map_back : {A B : Type 0} (f : A → B) (l : List A) (k : ℕ) (b : B) → get_elem? (map f l) k ≡ some b → (a : A) × (get_elem? l k ≡ some a) × (f a ≡ b)
map_back f [] k b at = absurd (some-ne-none b (sym at))
map_back f (x ∷ xs) zero b at = (x, refl, some-injective (f x) b at)
map_back f (x ∷ xs) (suc k) b at = map_back f xs k b at

pub map_length : {A B : Type 0} (f : A → B) (l : List A) → length (map f l) ≡ length l
map_length f [] = refl
map_length f (x ∷ xs) = ap suc (map_length f xs)

pub value_at : (boxes : List Boxed) (k : ℕ) (b : Boxed) → get_elem? boxes k ≡ some b → get_elem? (values boxes) k ≡ some b.value
value_at boxes k b at = map_at (λ (z : Boxed). z.value) boxes k b at

or_value : Boxed → Option Boxed → Boxed
or_value d None = d
or_value d (Some b) = b

pub first_there : (l : List Boxed) (b : Boxed) → Some b ≡ slice_get l 0 → get_elem? l 0 ≡ some b
unfolding or_value
first_there [] b is = absurd (let f : Some b ≡ None = is in cc)
first_there (x ∷ l) b is = ap some (ap (or_value x) (sym is))

-- ---- who has a number

pub none_more : (boxes : List Boxed) (i number : ℕ) (b : Boxed) → get_elem? boxes i ≡ some b → seat_number b.value ≢ number → ((k : ℕ) (p : Boxed) → k < i → get_elem? boxes k ≡ some p → seat_number p.value ≢ number)
    → (k : ℕ) (p : Boxed) → k < i + 1 → get_elem? boxes k ≡ some p → seat_number p.value ≢ number
none_more boxes i number b at other none k p lt at_k = elim (cases_eq k i) [
  | inl same ↦ subst (λ (z : Boxed). seat_number z.value ≢ number) (one_there boxes i b p at (subst (λ (z : ℕ). get_elem? boxes z ≡ some p) same at_k)) other
  | inr ne ↦ none k p (omega (arith, lt, ne)) at_k
]

pub not_there : (boxes : List Boxed) (i number : ℕ) → length boxes ≤ i → ((k : ℕ) (p : Boxed) → k < i → get_elem? boxes k ≡ some p → seat_number p.value ≢ number) → ¬ HasSeat (values boxes) number
not_there boxes i number past none (k, seat, at, numbered) =
    let b = map_back (λ (z : Boxed). z.value) boxes k seat at in
    none k b.0 (let low = at_below boxes k b.0 b.1 in omega (arith, low, past)) b.1 (ap seat_number b.2 ∙ numbered)

pub all_more : (seats : List Seat) (i : ℕ) → HasSeat seats i → ((n : ℕ) → n < i → HasSeat seats n) → (n : ℕ) → n < i + 1 → HasSeat seats n
all_more seats i has old n lt = elim (cases_eq n i) [
  | inl same ↦ subst (HasSeat seats) (sym same) has
  | inr ne ↦ old n (omega (arith, lt, ne))
]

pub set_length : {A : Type 0} (l : List A) (i : ℕ) (x : A) → length (set l i x) ≡ length l
set_length [] i x = refl
set_length (y ∷ l) zero x = refl
set_length (y ∷ l) (suc i) x = ap suc (set_length l i x)

-- ---- the hands of the seats

-- some of the seats have given their hands
pub record GivenSo (index : Index) (seats : List Seat) (rest : List Boxed) (hands : List (Hand PassState)) : Type 0 where
  pub taken : List Seat
  pub all : seats ≡ taken ++ values rest
  pub given : hands ≡ map hand_of taken
  pub own : All (IsIdleOf index) hands
  pub at : All (IsAtIndex index) (values rest)

pub none_given : (index : Index) (boxes : List Boxed) (hands : List (Hand PassState)) → hands ≡ [] → All (IsAtIndex index) (values boxes) → GivenSo index (values boxes) boxes hands
none_given index boxes hands empty at = record {
  taken = [];
  all = refl;
  given = empty;
  own = λ k d lt. absurd (let none = ap length empty in omega (arith, lt, none));
  at = at;
}

map_push : {A B : Type 0} (f : A → B) (l : List A) (a : A) → map f (l ++ a ∷ []) ≡ map f l ++ f a ∷ []
map_push f [] a = refl
map_push f (x ∷ xs) a = ap (λ (z : _). f x ∷ z) (map_push f xs a)

all_push : (P : Hand PassState → Type 0) (l : List (Hand PassState)) (a : Hand PassState) → All P l → P a → All P (l ++ a ∷ [])
all_push P [] a all p zero d lt = p
all_push P [] a all p (suc k) d lt = absurd (omega (arith, lt))
all_push P (x ∷ xs) a all p zero d lt = all 0 d (omega arith)
all_push P (x ∷ xs) a all p (suc k) d lt = all_push P xs a (λ j e low. all (suc j) e (omega (arith, low))) p k d (omega (arith, lt))

all_tail : (P : Seat → Type 0) (seat : Seat) (rest : List Seat) → All P (seat ∷ rest) → P seat × All P rest
all_tail P seat rest all = (all 0 seat (omega arith), λ k d lt. all (suc k) d (omega (arith, lt)))

-- the first seat is at the index
pub first_at : (index : Index) (seats : List Seat) (boxes left : List Boxed) (box : Boxed) (hands : List (Hand PassState)) → boxes ≡ box ∷ left → GivenSo index seats boxes hands → arc_value box.value.index ≡ index
first_at index seats boxes left box hands next g = (all_tail (IsAtIndex index) box.value (values left) (subst (λ (z : List Boxed). All (IsAtIndex index) (values z)) next g.at)).0

module _ (index : Index) (seats : List Seat) (boxes left : List Boxed) (box : Boxed) (hands now : List (Hand PassState)) (next : boxes ≡ box ∷ left) (g : GivenSo index seats boxes hands) where
  pub one_given : now ≡ hands ++ hand_of box.value ∷ [] → IsIdleOf index (hand_of box.value) → GivenSo index seats left now
  one_given pushed idle = record {
    taken = g.taken ++ box.value ∷ [];
    all = g.all ∙ (ap (λ (z : List Boxed). g.taken ++ values z) next ∙ sym (append_assoc g.taken (box.value ∷ []) (values left)));
    given = pushed ∙ (ap (λ (z : List (Hand PassState)). z ++ hand_of box.value ∷ []) g.given ∙ sym (map_push hand_of g.taken box.value));
    own = subst (All (IsIdleOf index)) (sym pushed) (all_push (IsIdleOf index) hands (hand_of box.value) g.own idle);
    at = (all_tail (IsAtIndex index) box.value (values left) (subst (λ (z : List Boxed). All (IsAtIndex index) (values z)) next g.at)).1;
  }

-- all have given them
pub all_given : (index : Index) (seats : List Seat) (boxes : List Boxed) (hands : List (Hand PassState)) → length boxes ≡ 0 → GivenSo index seats boxes hands → hands ≡ map hand_of seats
all_given index seats [] hands none g = g.given ∙ ap (map hand_of) (sym (g.all ∙ append-nil g.taken))
all_given index seats (b ∷ boxes) hands none g = absurd (omega (arith, none))

pub each_hand : (index : Index) (seats : List Seat) (hands : List (Hand PassState)) → hands ≡ map hand_of seats → AreAll index seats → HasEach (passes_of index) hands
each_hand index seats hands is all n lt = let has = all n lt in
    (has.0, hand_of has.1, ap (λ (z : List (Hand PassState)). get_elem? z has.0) is ∙ map_at hand_of seats has.0 has.1 has.2, has.3)

-- ---- of one index

-- where one of them is at an index, all are
pub at_one : (seats : List Seat) (k : ℕ) (one : Seat) → get_elem? seats k ≡ some one → AreAtOne seats → All (IsAtIndex (arc_value one.index)) seats
at_one seats k one at one_index = all_there (λ (z : Seat). All (AreOfOne z) seats) seats k one one_index at

-- and so all lack what one of them lacks
pub all_lack : (seats : List Seat) (k : ℕ) (one : Seat) → get_elem? seats k ≡ some one → AreAtOne seats → LacksOne seats one → All (LacksOne seats) seats
all_lack seats k one at one_index lacks = λ i d lt.
    let same : arc_value (get_or seats i d).index ≡ arc_value one.index = at_one seats k one at one_index i d lt in
    (lacks.0, subst (λ (z : Index). lacks.0 < passes_of z) (sym same) lacks.1, lacks.2)

-- all of one index, of which each is there
pub complete : (index : Index) (seats : List Seat) → All (IsAtIndex index) seats → AreAll index seats → AreComplete seats
complete index seats at all = λ k d lt. subst (λ (z : Index). AreAll z seats) (sym (at k d lt)) all

pub count_of : (tree : Tree) (index : Index) (seat : Seat) (box : Boxed) → tree ≡ index → index ≡ arc_value seat.index → seat ≡ box.value → tree.passes ≡ passes_of (arc_value box.value.index)
count_of tree index seat box t i s = let first = arc_value box.value.index in ap (λ (z : Tree). z.passes) (t ∙ (i ∙ ap (λ (z : Seat). arc_value z.index) s)) ∙ first.shared

-- where there is a seat for each number of the first one's index, all are there
pub all_complete : (boxes : List Boxed) (box : Boxed) (count : ℕ) → Some box ≡ slice_get boxes 0 → count ≡ passes_of (arc_value box.value.index) → AreAtOne (values boxes) → ((n : ℕ) → n < count → HasSeat (values boxes) n)
    → AreComplete (values boxes)
all_complete boxes box count first is one all =
    complete (arc_value box.value.index) (values boxes) (at_one (values boxes) 0 box.value (value_at boxes 0 box (first_there boxes box first)) one) (λ n lt. all n (omega (arith, lt, is)))
