-- The lines of a share, one after another.
use Rattle.std.proofs.Common.{◌≡◌, ℕ, suc, ◌+◌, ◌-◌, ◌≤◌, true, List, [], ◌∷◌, ◌++◌, length, take, drop, get_or, sym, ap, ◌∙◌, subst, arith}
use Rattle.std.specs.Prelude.{Option, Some, None, slice_index, ◌==◌}
use Rattle.std.proofs.lemmas.Bool.Decides.{nat_tests}
use Rattle.std.proofs.lemmas.List.{take_all, get_or-drop, length-drop, length-take}
use Rattle.memchr.specs.Find.{IsFirstByte, Passes, is_byte}
use Rattle.bl_serve_lines.specs.declared.request.Request.{Request}
use Rattle.bl_serve_lines.specs.Dealt.{dealt, numbers}
use Rattle.bl_serve_lines.proofs.Dealing.{dealt_long, dealt_more, dealt_none, numbers_long, number_at}
use Rattle.bl_claims.specs.Trails.{Trail}
use Rattle.bl_map.specs.declared.handle.Handle.{Handle}
use Rattle.bl_map.specs.Handles.{IsSameHandle, first_map_of, pages_of_map, number_of_seat}
use Rattle.bl_serve_worker.specs.Answering.{AnswersLine, AnswersLines}
use Rattle.bl_serve_worker.specs.Shares.{IsNextPlace}
use Rattle.bl_serve_worker.proofs.Lines.{by_same_map, no_lines, one_more}

-- ---- the next place of a share

-- the bytes from a place on
rest_of : (from : ℕ) (deals : List ℕ) → take (length deals - from) (drop from deals) ≡ drop from deals
rest_of from deals = take_all (length deals - from) (drop from deals) (let long = length-drop from deals in omega (arith, long))

byte_at : (share from step : ℕ) (deals : List ℕ) → Passes (is_byte share) (drop from deals) step → slice_index deals (from + step) ≡ share
byte_at share from step deals passes = sym (get_or-drop from deals step 0) ∙ same (slice_index (drop from deals) step) passes
  where
    same : (x : ℕ) → (x == share) ≡ true → x ≡ share
    same x is = grind (arith, nat_tests, is)

passes_at : (share from step : ℕ) (deals : List ℕ) → slice_index deals (from + step) ≡ share → Passes (is_byte share) (drop from deals) step
passes_at share from step deals is = same (slice_index (drop from deals) step) (get_or-drop from deals step 0 ∙ is)
  where
    same : (x : ℕ) → x ≡ share → (x == share) ≡ true
    same x is = grind (arith, nat_tests, is)

pub next_some : (share from step : ℕ) (deals : List ℕ) → from ≤ length deals → IsFirstByte (is_byte share) (take (length deals - from) (drop from deals)) (Some step) → IsNextPlace share deals from (Some (from + step))
next_some share from step deals le found =
    let first = subst (λ (z : List ℕ). IsFirstByte (is_byte share) z (Some step)) (rest_of from deals) found in let long = length-drop from deals in let high = first.0.high in (
      omega arith,
      omega (arith, long, high, le),
      byte_at share from step deals first.1,
      λ k a b is. first.0.before (k - from) (omega arith) (omega (arith, a, b)) (passes_at share from (k - from) deals (ap (slice_index deals) (let e : from + (k - from) ≡ k = omega (arith, a) in e) ∙ is)),
    )

pub next_none : (share from : ℕ) (deals : List ℕ) → from ≤ length deals → IsFirstByte (is_byte share) (take (length deals - from) (drop from deals)) None → IsNextPlace share deals from None
next_none share from deals le found = λ k a b is. let none = subst (λ (z : List ℕ). IsFirstByte (is_byte share) z None) (rest_of from deals) found in let long = length-drop from deals in
    none (k - from) (omega arith) (omega (arith, a, b, long, le)) (passes_at share from (k - from) deals (ap (slice_index deals) (let e : from + (k - from) ≡ k = omega (arith, a) in e) ∙ is))

-- ---- up to a place

-- what stands at the next place comes last
grown_by : {A : Type 0} (share from place : ℕ) (deals : List ℕ) (xs : List A) (d : A) → length xs ≡ length deals → IsNextPlace share deals from (Some place) → dealt share (take (place + 1) deals) xs ≡ dealt share (take from deals) xs ++ get_or xs place d ∷ []
grown_by {A} share from place deals xs d same (le, low, is, none) =
    let at : from + (place - from) ≡ place = omega (arith, le) in
    let before : dealt share (take place deals) xs ≡ dealt share (take from deals) xs = ap (λ (n : ℕ). dealt share (take n deals) xs) (sym at)
    ∙ dealt_none share deals xs from (place - from) 0 same (omega (arith, le, low)) (λ k a b. none k a (omega (arith, b, at))) in
    ap (λ (n : ℕ). dealt share (take n deals) xs) (let e : place + 1 ≡ suc place = omega arith in e)
    ∙ (dealt_more share deals xs place 0 d same low is ∙ ap (λ (z : List A). z ++ get_or xs place d ∷ []) before)

-- where there is no next place, all is there
ended_by : {A : Type 0} (share from : ℕ) (deals : List ℕ) (xs : List A) → length xs ≡ length deals → from ≤ length deals → IsNextPlace share deals from None → dealt share deals xs ≡ dealt share (take from deals) xs
ended_by share from deals xs same le none =
    let at : from + (length deals - from) ≡ length deals = omega (arith, le) in
    ap (λ (z : List ℕ). dealt share z xs) (sym (take_all (from + (length deals - from)) deals (omega (arith, at))))
    ∙ dealt_none share deals xs from (length deals - from) 0 same (omega (arith, at)) (λ k a b. none k a (omega (arith, b, at)))

-- ---- in a loop

module _ (a : Handle) (share before : ℕ) (deals : List ℕ) (lines : List (Option Request)) where
  abbrev ns : List ℕ
  ns = numbers (suc before) (length lines)

  -- the lines of the share up to a place are answered
  abbrev pub Upto : ℕ → List ℕ → List ℕ → Trail → Trail → Type 0
  Upto place text lengths old new = AnswersLines (first_map_of a) (pages_of_map a) (number_of_seat a) (dealt share (take place deals) (numbers (suc before) (length lines))) (dealt share (take place deals) lines) text lengths old new

  pub no_share : (text lengths : List ℕ) (old : Trail) → text ≡ [] → lengths ≡ [] → Upto 0 text lengths old old
  no_share text lengths old is none = no_lines (first_map_of a) (pages_of_map a) (number_of_seat a) text lengths old is none

  pub next_of_share : (b : Handle) (from place n : ℕ) (text more lengths longer : List ℕ) (old mid new : Trail) → IsSameHandle a b → length deals ≡ length lines → IsNextPlace share deals from (Some place) → n ≡ before + (place + 1)
      → longer ≡ lengths ++ (length more - length text) ∷ [] → Upto from text lengths old mid → AnswersLine (first_map_of b) (pages_of_map b) (number_of_seat b) n (get_or lines place None) text more mid new → Upto (place + 1) more longer old new
  next_of_share b from place n text more lengths longer old mid new same as_many next at_number grown so_far one =
      let asked : Option Request = get_or lines place None in
      let ns_long : length ns ≡ length deals = numbers_long (suc before) (length lines) ∙ sym as_many in
      let low = next.1 in
      let number : get_or ns place n ≡ n = number_at (suc before) (length lines) place n (omega (arith, low, as_many)) ∙ (let e : suc before + place ≡ n = omega (arith, at_number) in e) in
      let lines_grown : dealt share (take (place + 1) deals) lines ≡ dealt share (take from deals) lines ++ asked ∷ [] = grown_by share from place deals lines None (sym as_many) next in
      let numbers_grown : dealt share (take (place + 1) deals) ns ≡ dealt share (take from deals) ns ++ n ∷ [] = grown_by share from place deals ns n ns_long next ∙ ap (λ (z : ℕ). dealt share (take from deals) ns ++ z ∷ []) number in
      let few : length (take from deals) ≤ length deals = (let l = length-take from deals in omega (arith, l)) in
      subst (λ (z : List ℕ × List (Option Request)). AnswersLines (first_map_of a) (pages_of_map a) (number_of_seat a) z.0 z.1 more longer old new) (λ i. (sym numbers_grown i, sym lines_grown i))
      (one_more (first_map_of a) (pages_of_map a) (number_of_seat a) n (dealt share (take from deals) ns) (dealt share (take from deals) lines) asked text more lengths longer old mid new
      (dealt_long share (take from deals) ns lines (omega (arith, few, ns_long)) (omega (arith, few, as_many))) grown so_far
      (by_same_map (λ first pages pass. AnswersLine first pages pass n asked text more mid new) a b same one))

  -- behind the last place
  pub all_of_share : (from : ℕ) (text lengths : List ℕ) (old new : Trail) → length deals ≡ length lines → from ≤ length deals → IsNextPlace share deals from None → Upto from text lengths old new
      → AnswersLines (first_map_of a) (pages_of_map a) (number_of_seat a) (dealt share deals (numbers (suc before) (length lines))) (dealt share deals lines) text lengths old new
  all_of_share from text lengths old new as_many le none so_far =
      subst (λ (z : List ℕ × List (Option Request)). AnswersLines (first_map_of a) (pages_of_map a) (number_of_seat a) z.0 z.1 text lengths old new)
      (λ i. (sym (ended_by share from deals ns (numbers_long (suc before) (length lines) ∙ sym as_many) le none) i, sym (ended_by share from deals lines (sym as_many) le none) i)) so_far
