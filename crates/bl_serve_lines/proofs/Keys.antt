-- Histories that interleave lists of which one alone has operations on a key.
use Rattle.std.proofs.Common.{◌≡◌, ℕ, Bool, true, false, List, [], ◌∷◌, ◌++◌, map, refl, sym, ap, ◌∙◌, subst, arith}
use Rattle.std.specs.Prelude.{All, filter}
use Rattle.std.proofs.lemmas.List.{map-append}
use Rattle.std.proofs.lemmas.List.Elements.{All-nil, All-cons, All-head, All-tail, filter-append}
use Rattle.bl_model.specs.declared.operation.Entry.{Entry}
use Rattle.bl_serve_lines.specs.Served.{Interleaves, is_on, on_key}
use Rattle.bl_serve_lines.specs.Served.Interleaves.{Done, Takes}

-- ---- a list is in the history whole, if all others are empty

none_at : (xs ys : List (List Entry)) (l : List Entry) → All (λ list. list ≡ []) (xs ++ l ∷ ys) → l ≡ []
none_at [] ys l all = All-head (λ list. list ≡ []) l ys all
none_at (x ∷ xs) ys l all = none_at xs ys l (All-tail (λ list. list ≡ []) x (xs ++ l ∷ ys) all)

-- the list from which an entry is taken is the one that is not empty
taken_there : (before after xs ys : List (List Entry)) (e : Entry) (list l : List Entry) → before ++ (e ∷ list) ∷ after ≡ xs ++ l ∷ ys → All (λ list. list ≡ []) xs → All (λ list. list ≡ []) ys → (e ∷ list ≡ l) × (before ≡ xs) × (after ≡ ys)
taken_there [] after [] ys e list l is no_xs no_ys = (let a : e ∷ list ≡ l = cc in a, refl, let b : after ≡ ys = cc in b)
taken_there [] after (x ∷ xs) ys e list l is no_xs no_ys = let a : e ∷ list ≡ x = cc in let b = All-head (λ list. list ≡ []) x xs no_xs in absurd (let no : ⊥ = cc in no)
taken_there (b ∷ before) after [] ys e list l is no_xs no_ys = let a : before ++ (e ∷ list) ∷ after ≡ ys = cc in
    let none = none_at before after (e ∷ list) (subst (All (λ list. list ≡ [])) (sym a) no_ys) in absurd (let no : ⊥ = cc in no)
taken_there (b ∷ before) after (x ∷ xs) ys e list l is no_xs no_ys = let hd : b ≡ x = cc in let tl : before ++ (e ∷ list) ∷ after ≡ xs ++ l ∷ ys = cc in
    let r = taken_there before after xs ys e list l tl (All-tail (λ list. list ≡ []) x xs no_xs) no_ys in let m = r.1 in (r.0, cc (hd, m), r.2)

pub only_one : {lists : List (List Entry)} {h : List Entry} → Interleaves lists h → (xs : List (List Entry)) (l : List Entry) (ys : List (List Entry)) → lists ≡ xs ++ l ∷ ys → All (λ list. list ≡ []) xs → All (λ list. list ≡ []) ys → h ≡ l
only_one (Done lists all) xs l ys is no_xs no_ys = sym (none_at xs ys l (subst (All (λ list. list ≡ [])) is all))
only_one (Takes before e list after h more) xs l ys is no_xs no_ys =
    let t = taken_there before after xs ys e list l is no_xs no_ys in
    ap (λ (z : List Entry). e ∷ z) (only_one more xs list ys (ap (λ (z : List (List Entry)). z ++ list ∷ after) t.1 ∙ ap (λ (z : List (List Entry)). xs ++ list ∷ z) t.2) no_xs no_ys) ∙ t.0

-- ---- what passes a test is interleaved so too

module _ (test : Entry → Bool) where
  abbrev pub filtered : List (List Entry) → List (List Entry)
  filtered lists = map (filter test) lists

  none_pass : (lists : List (List Entry)) → All (λ list. list ≡ []) lists → All (λ list. list ≡ []) (filtered lists)
  none_pass [] all = All-nil (λ list. list ≡ [])
  none_pass (l ∷ lists) all = All-cons (λ list. list ≡ []) (filter test l) (filtered lists) (ap (filter test) (All-head (λ list. list ≡ []) l lists all)) (none_pass lists (All-tail (λ list. list ≡ []) l lists all))

  filtered_at : (before : List (List Entry)) (l : List Entry) (after : List (List Entry)) → filtered (before ++ l ∷ after) ≡ filtered before ++ filter test l ∷ filtered after
  filtered_at before l after = map-append (filter test) before (l ∷ after)

  passes_on : (b : Bool) (e : Entry) (before : List (List Entry)) (list : List Entry) (after : List (List Entry)) (h : List Entry) → test e ≡ b → Interleaves (filtered (before ++ list ∷ after)) (filter test h)
      → Interleaves (filtered (before ++ (e ∷ list) ∷ after)) (filter test (e ∷ h))
  passes_on true e before list after h is more =
      let front : filter test (e ∷ list) ≡ e ∷ filter test list = grind (arith, is) in let whole : filter test (e ∷ h) ≡ e ∷ filter test h = grind (arith, is) in
      subst (λ (z : List (List Entry) × List Entry). Interleaves z.0 z.1) (λ i. (sym (filtered_at before (e ∷ list) after ∙ ap (λ (z : List Entry). filtered before ++ z ∷ filtered after) front) i, sym whole i))
      (Takes (filtered before) e (filter test list) (filtered after) (filter test h) (subst (λ (z : List (List Entry)). Interleaves z (filter test h)) (filtered_at before list after) more))
  passes_on false e before list after h is more =
      let front : filter test (e ∷ list) ≡ filter test list = grind (arith, is) in let whole : filter test (e ∷ h) ≡ filter test h = grind (arith, is) in
      subst (λ (z : List (List Entry) × List Entry). Interleaves z.0 z.1) (λ i. (sym (filtered_at before (e ∷ list) after ∙ (ap (λ (z : List Entry). filtered before ++ z ∷ filtered after) front ∙ sym (filtered_at before list after))) i, sym whole i)) more

  pub those_that_pass : {lists : List (List Entry)} {h : List Entry} → Interleaves lists h → Interleaves (filtered lists) (filter test h)
  those_that_pass (Done lists all) = Done (filtered lists) (none_pass lists all)
  those_that_pass (Takes before e list after h more) = passes_on (test e) e before list after h refl (those_that_pass more)

-- the list alone has operations on the key: those of the history are its own, in their order
pub from_one : (key : ℕ) {lists : List (List Entry)} {h : List Entry} → Interleaves lists h → (xs : List (List Entry)) (l : List Entry) (ys : List (List Entry)) → lists ≡ xs ++ l ∷ ys
    → All (λ list. on_key key list ≡ []) xs → All (λ list. on_key key list ≡ []) ys → on_key key h ≡ on_key key l
from_one key {lists} {h} w xs l ys is no_xs no_ys =
    let test : Entry → Bool = λ e. is_on key e.op in
    only_one (those_that_pass test w) (map (filter test) xs) (filter test l) (map (filter test) ys) (ap (map (filter test)) is ∙ map-append (filter test) xs (l ∷ ys)) (lifted xs no_xs) (lifted ys no_ys)
  where
    lifted : (xs : List (List Entry)) → All (λ list. on_key key list ≡ []) xs → All (λ list. list ≡ []) (map (filter (λ (e : Entry). is_on key e.op)) xs)
    lifted [] all = All-nil (λ list. list ≡ [])
    lifted (x ∷ xs) all = All-cons (λ list. list ≡ []) (on_key key x) (map (filter (λ (e : Entry). is_on key e.op)) xs) (All-head (λ list. on_key key list ≡ []) x xs all) (lifted xs (All-tail (λ list. on_key key list ≡ []) x xs all))

-- a history of nothing, and one behind another
pub on_key_append : (key : ℕ) (xs ys : List Entry) → on_key key (xs ++ ys) ≡ on_key key xs ++ on_key key ys
on_key_append key xs ys = filter-append (λ (e : Entry). is_on key e.op) xs ys
