-- The answers of each share, and those of all lines.
use Rattle.std.proofs.Common.{◌≡◌, ◌≢◌, ℕ, zero, suc, ◌+◌, ◌<◌, ◌≤◌, Option, List, [], ◌∷◌, ◌++◌, length, map, refl, sym, ap, ◌∙◌, subst, arith, ⊎_elim, length-append}
use Rattle.std.specs.Prelude.{All, flat_map, sum}
use Rattle.std.specs.List.{AllZip}
use Rattle.std.proofs.lemmas.Bool.{cases_eq}
use Rattle.std.proofs.lemmas.List.{length-map}
use Rattle.std.proofs.lemmas.List.Sums.{sum_by-cons}
use Rattle.std.proofs.lemmas.List.Elements.{All-nil, All-cons, All-head, All-tail, All-weaker}
use Rattle.bl_serve_lines.specs.declared.request.Request.{Request}
use Rattle.bl_serve_lines.specs.Lines.{Answer, answer_text}
use Rattle.bl_serve_lines.specs.Text.{numbered}
use Rattle.bl_serve_lines.specs.Dealt.{dealt, numbers}
use Rattle.bl_serve_lines.proofs.Dealing.{here, elsewhere, shares_of, dealt_long, numbers_long}
use Rattle.bl_serve_worker.specs.Answering.{IsFor, answers_text, joined_text, replies}
use Rattle.bl_serve_worker.specs.Shares.{Piece, IsPiece}
use Rattle.bl_serve_worker.proofs.Lines.{zip_length, replies_long}
use Rattle.bl_serve.specs.Joining.{IsOutputOf, IsWhole}

-- ---- the answers of a share

abbrev pub hand_at : List Piece → ℕ → List Answer
hand_at [] k = []
hand_at (p ∷ pieces) zero = p.answers
hand_at (p ∷ pieces) (suc k) = hand_at pieces k

-- a share that no line has
none_dealt : {A : Type 0} (share : ℕ) (deals : List ℕ) (xs : List A) → All (λ s. s < share) deals → dealt share deals xs ≡ []
none_dealt share [] xs low = refl
none_dealt share (s ∷ deals) [] low = refl
none_dealt share (s ∷ deals) (x ∷ xs) low = elsewhere share s deals x xs (λ e. let h = All-head (λ s. s < share) s deals low in omega (arith, e, h)) ∙ none_dealt share deals xs (All-tail (λ s. s < share) s deals low)

weaker_low : (few many : ℕ) → few ≤ many → (deals : List ℕ) → All (λ s. s < few) deals → All (λ s. s < many) deals
weaker_low few many le deals low = All-weaker (λ s. s < few) (λ s. s < many) (λ s h. omega (arith, le, h)) deals low

-- the pieces from a share on
module _ (pages number : ℕ) (deals : List ℕ) (lines : List (Option Request)) where
  hand_from : (pieces : List Piece) (from count : ℕ) → map (λ p. p.output.share) pieces ≡ numbers from count → All (IsPiece pages number deals lines) pieces → All (λ s. s < from + count) deals → (k : ℕ) → AllZip (IsFor (pages, pages)) (dealt (from + k) deals lines) (hand_at pieces k)
  hand_from [] from zero is each low k = subst (λ (z : List (Option Request)). AllZip (IsFor (pages, pages)) z []) (sym (none_dealt (from + k) deals lines (weaker_low (from + 0) (from + k) (omega arith) deals low))) tt
  hand_from [] from (suc count) is each low k = absurd (let no : ⊥ = cc in no)
  hand_from (p ∷ pieces) from zero is each low k = absurd (let no : ⊥ = cc in no)
  hand_from (p ∷ pieces) from (suc count) is each low zero =
      let first : p.output.share ≡ from = cc in
      subst (λ (s : ℕ). AllZip (IsFor (pages, pages)) (dealt s deals lines) p.answers) (first ∙ (let e : from ≡ from + 0 = omega arith in e)) (All-head (IsPiece pages number deals lines) p pieces each).each
  hand_from (p ∷ pieces) from (suc count) is each low (suc k) =
      let rest : map (λ p. p.output.share) pieces ≡ numbers (suc from) count = cc in
      subst (λ (s : ℕ). AllZip (IsFor (pages, pages)) (dealt s deals lines) (hand_at pieces k)) (let e : suc from + k ≡ from + suc k = omega arith in e)
      (hand_from pieces (suc from) count rest (All-tail (IsPiece pages number deals lines) p pieces each) (weaker_low (from + suc count) (suc from + count) (omega arith) deals low) k)

  pub each_hand : (count : ℕ) (pieces : List Piece) → map (λ p. p.output.share) pieces ≡ numbers 0 count → All (IsPiece pages number deals lines) pieces → All (λ s. s < count) deals → (k : ℕ) → AllZip (IsFor (pages, pages)) (dealt k deals lines) (hand_at pieces k)
  each_hand count pieces is each low k = subst (λ (s : ℕ). AllZip (IsFor (pages, pages)) (dealt s deals lines) (hand_at pieces k)) (let e : 0 + k ≡ k = omega arith in e)
      (hand_from pieces 0 count is each (weaker_low count (0 + count) (omega arith) deals low) k)

all_hands_from : (from : ℕ) (deals : List ℕ) (all : List Answer) (pieces : List Piece) → ((k : ℕ) → dealt (from + k) deals all ≡ hand_at pieces k) → flat_map (λ p. p.answers) pieces ≡ shares_of from (length pieces) deals all
all_hands_from from deals all [] hands = refl
all_hands_from from deals all (p ∷ pieces) hands =
    let first : dealt from deals all ≡ p.answers = ap (λ (s : ℕ). dealt s deals all) (let e : from ≡ from + 0 = omega arith in e) ∙ hands 0 in
    ap (λ (z : List Answer). z ++ flat_map (λ p. p.answers) pieces) (sym first)
    ∙ ap (λ (z : List Answer). dealt from deals all ++ z) (all_hands_from (suc from) deals all pieces (λ k. ap (λ (s : ℕ). dealt s deals all) (let e : suc from + k ≡ from + suc k = omega arith in e) ∙ hands (suc k)))

from_0 : (deals : List ℕ) (all : List Answer) (pieces : List Piece) → ((k : ℕ) → dealt k deals all ≡ hand_at pieces k) → (k : ℕ) → dealt (0 + k) deals all ≡ hand_at pieces k
from_0 deals all pieces hands k = ap (λ (s : ℕ). dealt s deals all) (let e : 0 + k ≡ k = omega arith in e) ∙ hands k

-- the answers of all pieces are those of all shares
pub all_hands : (count : ℕ) (deals : List ℕ) (all : List Answer) (pieces : List Piece) → length pieces ≡ count → ((k : ℕ) → dealt k deals all ≡ hand_at pieces k) → flat_map (λ p. p.answers) pieces ≡ shares_of 0 count deals all
all_hands count deals all pieces many hands = all_hands_from 0 deals all pieces (from_0 deals all pieces hands) ∙ ap (λ (n : ℕ). shares_of 0 n deals all) many

-- ---- one of the pieces, and those before and behind it

-- the hand at that place is one piece's; of all others P holds
pub record Split (P : List Answer → Type 0) (pieces : List Piece) (place : ℕ) : Type 0 where
  pub front : List Piece
  pub there : Piece
  pub behind : List Piece
  pub is : pieces ≡ front ++ there ∷ behind
  pub at : hand_at pieces place ≡ there.answers
  pub before : All (λ p. P p.answers) front
  pub after : All (λ p. P p.answers) behind

module _ (P : List Answer → Type 0) where
  all_are : (pieces : List Piece) → ((k : ℕ) → P (hand_at pieces k)) → All (λ p. P p.answers) pieces
  all_are [] h = All-nil (λ p. P p.answers)
  all_are (p ∷ pieces) h = All-cons (λ p. P p.answers) p pieces (h 0) (all_are pieces (λ k. h (suc k)))

  pub split_at : (pieces : List Piece) (place : ℕ) → place < length pieces → ((k : ℕ) → k ≢ place → P (hand_at pieces k)) → Split P pieces place
  split_at [] place low others = absurd (omega (arith, low))
  split_at (p ∷ pieces) zero low others = record { front = []; there = p; behind = pieces; is = refl; at = refl; before = All-nil (λ p. P p.answers); after = all_are pieces (λ k. others (suc k) (λ e. omega (arith, e))) }
  split_at (p ∷ pieces) (suc place) low others = let r = split_at pieces place (omega (arith, low)) (λ k other. others (suc k) (λ e. other (omega (arith, e)))) in record {
    front = p ∷ r.front;
    there = r.there;
    behind = r.behind;
    is = ap (λ (z : List Piece). p ∷ z) r.is;
    at = r.at;
    before = All-cons (λ p. P p.answers) p r.front (others 0 (λ e. omega (arith, e))) r.before;
    after = r.after;
  }

-- ---- the replies

replies_dealt : (share : ℕ) (deals ns : List ℕ) (all : List Answer) → length ns ≡ length deals → length all ≡ length deals → replies (dealt share deals ns) (dealt share deals all) ≡ dealt share deals (replies ns all)
replies_dealt share [] ns all a b = refl
replies_dealt share (s ∷ deals) [] all a b = absurd (omega (arith, a))
replies_dealt share (s ∷ deals) (n ∷ ns) [] a b = absurd (omega (arith, b))
replies_dealt share (s ∷ deals) (n ∷ ns) (answer ∷ all) a b =
    let more = replies_dealt share deals ns all (omega (arith, a)) (omega (arith, b)) in let text : List ℕ = numbered n (answer_text answer) in ⊎_elim
    (λ (own : s ≡ share). (λ i. replies (here share s deals n ns own i) (here share s deals answer all own i)) ∙ (ap (λ (z : List (List ℕ)). text ∷ z) more ∙ sym (here share s deals text (replies ns all) own)))
    (λ (no : s ≡ share → ⊥). (λ i. replies (elsewhere share s deals n ns no i) (elsewhere share s deals answer all no i)) ∙ (more ∙ sym (elsewhere share s deals text (replies ns all) no)))
    (cases_eq s share)

pub joined_replies : (number : ℕ) (all : List Answer) (count : ℕ) → length all ≡ count → joined_text (replies (numbers number count) all) ≡ answers_text number all
joined_replies number [] zero is = refl
joined_replies number [] (suc count) is = absurd (omega (arith, is))
joined_replies number (answer ∷ all) zero is = absurd (omega (arith, is))
joined_replies number (answer ∷ all) (suc count) is = ap (λ (z : List ℕ). numbered number (answer_text answer) ++ z) (joined_replies (suc number) all count (omega (arith, is)))

sum_lengths : (texts : List (List ℕ)) → sum (map length texts) ≡ length (joined_text texts)
sum_lengths [] = refl
sum_lengths (t ∷ texts) = sum_by-cons (λ (n : ℕ). n) (length t) (map length texts) ∙ (ap (λ (n : ℕ). length t + n) (sum_lengths texts) ∙ sym (length-append t (joined_text texts)))

module _ (pages number : ℕ) (deals : List ℕ) (lines : List (Option Request)) (as_many : length lines ≡ length deals) where
  abbrev ns : List ℕ
  ns = numbers number (length lines)

  ns_long : length ns ≡ length deals
  ns_long = numbers_long number (length lines) ∙ as_many

  outputs_from : (all : List Answer) (pieces : List Piece) (from count : ℕ) → map (λ p. p.output.share) pieces ≡ numbers from count → All (IsPiece pages number deals lines) pieces
      → ((k : ℕ) → dealt (from + k) deals all ≡ hand_at pieces k) → length all ≡ length lines → All (λ p. IsOutputOf deals (replies ns all) p.output) pieces
  outputs_from all [] from count is each hands long = All-nil (λ p. IsOutputOf deals (replies ns all) p.output)
  outputs_from all (p ∷ pieces) from zero is each hands long = absurd (let no : ⊥ = cc in no)
  outputs_from all (p ∷ pieces) from (suc count) is each hands long =
      let first : p.output.share ≡ from = cc in let rest : map (λ p. p.output.share) pieces ≡ numbers (suc from) count = cc in
      let piece = All-head (IsPiece pages number deals lines) p pieces each in
      let mine : p.answers ≡ dealt p.output.share deals all = sym (hands 0) ∙ ap (λ (s : ℕ). dealt s deals all) (let e : from + 0 ≡ p.output.share = omega (arith, first) in e) in
      let texts : replies (dealt p.output.share deals ns) p.answers ≡ dealt p.output.share deals (replies ns all) = ap (replies (dealt p.output.share deals ns)) mine ∙ replies_dealt p.output.share deals ns all ns_long (long ∙ as_many) in
      All-cons (λ p. IsOutputOf deals (replies ns all) p.output) p pieces (record { text = piece.prints ∙ ap joined_text texts; cuts = piece.cuts ∙ ap (map length) texts })
      (outputs_from all pieces (suc from) count rest (All-tail (IsPiece pages number deals lines) p pieces each) (λ k. ap (λ (s : ℕ). dealt s deals all) (let e : suc from + k ≡ from + suc k = omega arith in e) ∙ hands (suc k)) long)

  -- each piece prints those of the replies that are its share's
  pub outputs_of : (count : ℕ) (all : List Answer) (pieces : List Piece) → map (λ p. p.output.share) pieces ≡ numbers 0 count → All (IsPiece pages number deals lines) pieces
      → ((k : ℕ) → dealt k deals all ≡ hand_at pieces k) → length all ≡ length lines → All (λ p. IsOutputOf deals (replies ns all) p.output) pieces
  outputs_of count all pieces is each hands long = outputs_from all pieces 0 count is each (from_0 deals all pieces hands) long

  pub whole_piece : (p : Piece) → IsPiece pages number deals lines p → IsWhole deals p.output
  whole_piece p h =
      let mine : List ℕ = dealt p.output.share deals ns in let l = ns_long in
      let numbers_many : length mine ≡ length (dealt p.output.share deals lines) = dealt_long p.output.share deals ns lines (omega (arith, l)) (omega (arith, as_many)) in
      let texts_many : length (replies mine p.answers) ≡ length mine = replies_long mine p.answers (zip_length (IsFor (pages, pages)) (dealt p.output.share deals lines) p.answers h.each ∙ sym numbers_many) in record {
        many = ap length h.cuts ∙ (length-map (replies mine p.answers) length ∙ (texts_many ∙ dealt_long p.output.share deals ns deals (omega (arith, l)) (omega arith)));
        bytes = ap sum h.cuts ∙ (sum_lengths (replies mine p.answers) ∙ sym (ap length h.prints));
      }
