-- What the slots of handles hold, and what their passes have changed.
use Rattle.std.proofs.Common.{◌≡◌, ℕ, ◌+◌, List, [], ◌∷◌, ◌++◌, true, false, refl, ap, ◌∙◌, arith}
use Rattle.std.specs.Prelude.{All, Option, flat_map}
use Rattle.std.specs.List.{AllZip}
use Rattle.std.proofs.lemmas.List.Concat.{flat_map-cons}
use Rattle.std.proofs.lemmas.List.Elements.{All-head, All-tail}
use Rattle.bl_journal.specs.Rows.{times}
use Rattle.bl_journal.proofs.Leaving.{times-append}
use Rattle.bl_changes.specs.declared.changes.Changes.{Changes}
use Rattle.bl_changes.specs.Changes.{all_came, all_went}
use Rattle.bl_serve_lines.specs.declared.request.Request.{Request}
use Rattle.bl_page.specs.declared.page.Page.{Page}
use Rattle.bl_claims.specs.Trails.{Trail}
use Rattle.bl_claims.specs.Seeing.{own}
use Rattle.bl_index.specs.declared.index.Pass.{Pass}
use Rattle.bl_index.specs.Calls.{number_of, trail}
use Rattle.bl_map.specs.declared.handle.Handle.{Handle}
use Rattle.bl_map.specs.Handles.{number_of_seat, seat_of, seats_of, seen_by}
use Rattle.bl_map.specs.Meetings.{Comes}
use Rattle.bl_serve_worker.specs.declared.chunk.Slot.{Slot}
use Rattle.bl_serve_worker.specs.Noting.{HasNoted}
use Rattle.bl_serve.specs.Chunks.{WorkOn}
use Rattle.bl_serve.specs.Meetings.{AllMeet}
use Rattle.bl_serve.specs.Noting.{came_by, went_by, HaveNoted, NoteMore}

-- rows of one after another
counted : {A : Type 0} (key value : ℕ) (f : A → List (ℕ × ℕ)) (x : A) (xs : List A) → times key value (flat_map f (x ∷ xs)) ≡ times key value (f x) + times key value (flat_map f xs)
counted key value f x xs = ap (λ (z : List (ℕ × ℕ)). times key value z) (flat_map-cons f x xs) ∙ times-append key value (f x) (flat_map f xs)

-- ---- after a chunk

-- what one handle has noted, counted
came_one : (o n : Handle) (changes : Changes) (key value : ℕ) → number_of_seat n ≡ number_of_seat o → HasNoted (number_of_seat o) (seen_by o) (seen_by n) changes
    → times key value (all_came (own (number_of_seat n) (seen_by n))) ≡ times key value (all_came (own (number_of_seat o) (seen_by o))) + times key value changes.came.items
came_one o n changes key value same h = ap (λ (pass : ℕ). times key value (all_came (own pass (seen_by n)))) same
    ∙ (ap (λ (z : List (ℕ × ℕ)). times key value z) h.came ∙ times-append key value (all_came (own (number_of_seat o) (seen_by o))) changes.came.items)

went_one : (o n : Handle) (changes : Changes) (key value : ℕ) → number_of_seat n ≡ number_of_seat o → HasNoted (number_of_seat o) (seen_by o) (seen_by n) changes
    → times key value (all_went (own (number_of_seat n) (seen_by n))) ≡ times key value (all_went (own (number_of_seat o) (seen_by o))) + times key value changes.went.items
went_one o n changes key value same h = ap (λ (pass : ℕ). times key value (all_went (own pass (seen_by n)))) same
    ∙ (ap (λ (z : List (ℕ × ℕ)). times key value z) h.went ∙ times-append key value (all_went (own (number_of_seat o) (seen_by o))) changes.went.items)

-- the changes in all slots
abbrev came_in : List Slot → List (ℕ × ℕ)
came_in slots = flat_map (λ s. s.changes.came.items) slots

abbrev went_in : List Slot → List (ℕ × ℕ)
went_in slots = flat_map (λ s. s.changes.went.items) slots

came_all : (number : ℕ) (deals : List ℕ) (lines : List (Option Request)) (olds news : List Handle) (slots : List Slot) (key value : ℕ) → WorkOn true number deals lines olds news slots → All (λ (s : Slot). s.failed ≡ false) slots
    → times key value (came_by (seats_of news)) ≡ times key value (came_by (seats_of olds)) + times key value (came_in slots)
came_all number deals lines [] [] [] key value h ok = refl
came_all number deals lines [] [] (s ∷ ss) key value h ok = absurd h
came_all number deals lines [] (n ∷ ns) slots key value h ok = absurd h
came_all number deals lines (o ∷ os) [] slots key value h ok = absurd h
came_all number deals lines (o ∷ os) (n ∷ ns) [] key value h ok = absurd h
came_all number deals lines (o ∷ os) (n ∷ ns) (s ∷ ss) key value h ok =
    let one = came_one o n s.changes key value h.0.0.1.2 (h.0.2 (All-head (λ (x : Slot). x.failed ≡ false) s ss ok) refl) in
    let more = came_all number deals lines os ns ss key value h.1 (All-tail (λ (x : Slot). x.failed ≡ false) s ss ok) in
    let a = counted key value (λ (p : Pass). all_came (own (number_of p) (trail p))) (seat_of n) (seats_of ns) in
    let b = counted key value (λ (p : Pass). all_came (own (number_of p) (trail p))) (seat_of o) (seats_of os) in
    let d = counted key value (λ (x : Slot). x.changes.came.items) s ss in
    omega (arith, one, more, a, b, d)

went_all : (number : ℕ) (deals : List ℕ) (lines : List (Option Request)) (olds news : List Handle) (slots : List Slot) (key value : ℕ) → WorkOn true number deals lines olds news slots → All (λ (s : Slot). s.failed ≡ false) slots
    → times key value (went_by (seats_of news)) ≡ times key value (went_by (seats_of olds)) + times key value (went_in slots)
went_all number deals lines [] [] [] key value h ok = refl
went_all number deals lines [] [] (s ∷ ss) key value h ok = absurd h
went_all number deals lines [] (n ∷ ns) slots key value h ok = absurd h
went_all number deals lines (o ∷ os) [] slots key value h ok = absurd h
went_all number deals lines (o ∷ os) (n ∷ ns) [] key value h ok = absurd h
went_all number deals lines (o ∷ os) (n ∷ ns) (s ∷ ss) key value h ok =
    let one = went_one o n s.changes key value h.0.0.1.2 (h.0.2 (All-head (λ (x : Slot). x.failed ≡ false) s ss ok) refl) in
    let more = went_all number deals lines os ns ss key value h.1 (All-tail (λ (x : Slot). x.failed ≡ false) s ss ok) in
    let a = counted key value (λ (p : Pass). all_went (own (number_of p) (trail p))) (seat_of n) (seats_of ns) in
    let b = counted key value (λ (p : Pass). all_went (own (number_of p) (trail p))) (seat_of o) (seats_of os) in
    let d = counted key value (λ (x : Slot). x.changes.went.items) s ss in
    omega (arith, one, more, a, b, d)

pub notes_more : (number : ℕ) (deals : List ℕ) (lines : List (Option Request)) (olds news : List Handle) (slots : List Slot) (noted more : Changes) → WorkOn true number deals lines olds news slots → All (λ (s : Slot). s.failed ≡ false) slots
    → more.came.items ≡ noted.came.items ++ came_in slots → more.went.items ≡ noted.went.items ++ went_in slots → NoteMore (seats_of olds) noted (seats_of news) more
notes_more number deals lines olds news slots noted more turns ok came went = record {
  came = came_in slots;
  went = went_in slots;
  came_is = came;
  went_is = went;
  have = record {
    came_are = λ key value. came_all number deals lines olds news slots key value turns ok;
    went_are = λ key value. went_all number deals lines olds news slots key value turns ok;
  };
}

-- ---- when all have met

-- none has a further entry by that
came_met : (seen : Trail) (olds news : List Pass) → AllZip (Comes seen) olds news → came_by news ≡ came_by olds
came_met seen [] [] h = refl
came_met seen [] (q ∷ qs) h = absurd h
came_met seen (p ∷ ps) [] h = absurd h
came_met seen (p ∷ ps) (q ∷ qs) h =
    let one : own (number_of q) (trail q) ≡ own (number_of p) (trail p) = (λ i. own (h.0.same.2 i) (h.0.is i)) ∙ h.0.none in
    ap (λ (z : List _). all_came z ++ came_by qs) one ∙ ap (λ (z : List (ℕ × ℕ)). all_came (own (number_of p) (trail p)) ++ z) (came_met seen ps qs h.1)

went_met : (seen : Trail) (olds news : List Pass) → AllZip (Comes seen) olds news → went_by news ≡ went_by olds
went_met seen [] [] h = refl
went_met seen [] (q ∷ qs) h = absurd h
went_met seen (p ∷ ps) [] h = absurd h
went_met seen (p ∷ ps) (q ∷ qs) h =
    let one : own (number_of q) (trail q) ≡ own (number_of p) (trail p) = (λ i. own (h.0.same.2 i) (h.0.is i)) ∙ h.0.none in
    ap (λ (z : List _). all_went z ++ went_by qs) one ∙ ap (λ (z : List (ℕ × ℕ)). all_went (own (number_of p) (trail p)) ++ z) (went_met seen ps qs h.1)

-- so all is noted still
pub notes_met : (first : List (Option Page)) (before olds news : List Pass) (noted more : Changes) → AllMeet first olds news → NoteMore before noted olds more → NoteMore before noted news more
notes_met first before olds news noted more m h = record {
  came = h.came;
  went = h.went;
  came_is = h.came_is;
  went_is = h.went_is;
  have = record {
    came_are = λ key value. ap (λ (z : List (ℕ × ℕ)). times key value z) (came_met m.seen olds news m.each) ∙ h.have.came_are key value;
    went_are = λ key value. ap (λ (z : List (ℕ × ℕ)). times key value z) (went_met m.seen olds news m.each) ∙ h.have.went_are key value;
  };
}
