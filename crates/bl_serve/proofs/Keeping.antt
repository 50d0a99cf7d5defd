-- The operations on one key are those of one share, in the order of the lines.
use Rattle.std.proofs.Common.{◌≡◌, ◌≢◌, ℕ, ◌<◌, Bool, true, false, Option, Some, None, List, [], ◌∷◌, ◌++◌, length, map, refl, sym, ap, ◌∙◌, subst, arith, ⊎_elim}
use Rattle.std.specs.Prelude.{◌==◌, All, MatchOption, flat_map, IsPermutation}
use Rattle.std.specs.List.{AllZip}
use Rattle.std.proofs.lemmas.Bool.{cases_eq}
use Rattle.std.proofs.lemmas.List.{map-append}
use Rattle.std.proofs.lemmas.List.Elements.{All-nil, All-cons, All-map}
use Rattle.std.proofs.lemmas.List.Sorted.{IsPermutation-map}
use Rattle.bl_model.specs.declared.operation.Entry.{Entry}
use Rattle.bl_model.specs.declared.operation.Reply.{Reply}
use Rattle.bl_serve_lines.specs.declared.request.Request.{Request}
use Rattle.bl_serve_lines.specs.declared.listing.Listing.TheVariants.{ScanFrom}
use Rattle.bl_serve_lines.specs.declared.listing.Scan.{Scan}
use Rattle.bl_serve_lines.specs.declared.listing.Until.{Until}
use Rattle.bl_serve_lines.specs.declared.listing.Until.TheVariants.{Top, Below, DownTo}
use Rattle.bl_serve_lines.specs.Scans.{AreParts, behind, part_of, scan_of}
use Rattle.bl_serve_lines.specs.Lines.{Answer, Adds, addition, entries, sum_reply, value_in}
use Rattle.bl_serve_lines.specs.Served.{Interleaves, is_on, on_key}
use Rattle.bl_serve_lines.specs.Dealt.{dealt}
use Rattle.bl_serve_lines.proofs.Dealing.{here, elsewhere}
use Rattle.bl_serve_lines.proofs.Keys.{from_one, on_key_append}
use Rattle.bl_serve_worker.specs.Answering.{IsFor}
use Rattle.bl_serve_worker.specs.Answering.IsFor.{Replies, Sums, Scans, Saves, States, Syncs, Refuses}
use Rattle.bl_serve_worker.specs.Shares.{Piece}
use Rattle.bl_serve.specs.Dealing.{AreDealt, IsOn}
use Rattle.bl_serve.proofs.Hands.{hand_at, split_at}
use Rattle.bl_serve.proofs.Pieces.{flat_id, map_flat}
use Rattle.bl_serve.proofs.Weaving.{joined, all_of, in_any_order, one_by_one}

-- ---- what is apart from a key

first_apart : (key : ℕ) (e : Entry) (es : List Entry) → is_on key e.op ≡ false → on_key key es ≡ [] → on_key key (e ∷ es) ≡ []
first_apart key e es off more = grind (arith, off, more)

part_apart : (key from : ℕ) (until : Until) → is_on key (part_of until from) ≡ false
part_apart key from Top = refl
part_apart key from (Below high) = refl
part_apart key from (DownTo low) = refl

parts_apart : (key : ℕ) (scan : Scan) (es : List Entry) → AreParts scan es → on_key key es ≡ []
parts_apart key scan [] are = refl
parts_apart key scan (e ∷ es) (from, at, op, are) = first_apart key e es (ap (is_on key) op ∙ part_apart key from scan.until) (parts_apart key (behind scan e.reply) es are)

sum_apart : (key its number : ℕ) (seen : Option ℕ) → is_on key (addition its number seen) ≡ (its == key)
sum_apart key its number None = refl
sum_apart key its number (Some value) = refl

others_apart : (key its number : ℕ) (seen : Option ℕ) (es : List Entry) (reply told : Reply) (o : Option ℕ) → MatchOption o ((es ≡ []) × (reply ≡ told)) (λ value. Adds its number (Some value) es reply)
    → ((value : ℕ) → Adds its number (Some value) es reply → on_key key es ≡ []) → on_key key es ≡ []
others_apart key its number seen es reply told None (none, said) more = ap (on_key key) none
others_apart key its number seen es reply told (Some value) adds more = more value adds

sums_apart : (key its number : ℕ) (seen : Option ℕ) (es : List Entry) (reply : Reply) → (its == key) ≡ false → Adds its number seen es reply → on_key key es ≡ []
sums_apart key its number seen [] reply off adds = absurd adds
sums_apart key its number seen (e ∷ es) reply off adds = first_apart key e es (ap (is_on key) adds.0 ∙ (sum_apart key its number seen ∙ off))
    (others_apart key its number seen es reply (sum_reply seen e.reply) (value_in e.reply) adds.1 (λ value more. sums_apart key its number (Some value) es reply off more))

not_true : (b : Bool) → ¬ (b ≡ true) → b ≡ false
not_true true other = absurd (other refl)
not_true false other = refl

-- the answer to a line has no operation on a key that the line is not on
apart_of : {pages : ℕ × ℕ} {asked : Option Request} {answer : Answer} (key : ℕ) → IsFor pages asked answer → ¬ IsOn key asked → on_key key (entries answer) ≡ []
apart_of key (Replies entry) off = go (is_on key entry.op) refl
  where
    go : (b : Bool) → is_on key entry.op ≡ b → on_key key (entry ∷ []) ≡ []
    go true is = absurd (off is)
    go false is = grind (arith, is)
apart_of key (Sums its number es reply adds) off = sums_apart key its number None es reply (not_true (its == key) off) adds
apart_of key (Scans asked parts are) off = parts_apart key (scan_of asked) parts are
apart_of key (Saves parts done are) off = parts_apart key (scan_of (ScanFrom 0 None)) parts are
apart_of key (States all used free room) off = refl
apart_of key Syncs off = refl
apart_of key Refuses off = refl

-- ---- in the shares

abbrev IsDealtSo : ℕ → (ℕ → ℕ) → ℕ → Option Request → Type 0
IsDealtSo count share_of share asked = (share < count) × ((key : ℕ) → IsOn key asked → share ≡ share_of key)

pub all_low : (count : ℕ) (share_of : ℕ → ℕ) (deals : List ℕ) (lines : List (Option Request)) → AllZip (IsDealtSo count share_of) deals lines → All (λ s. s < count) deals
all_low count share_of [] lines each = All-nil (λ s. s < count)
all_low count share_of (s ∷ deals) [] each = absurd each
all_low count share_of (s ∷ deals) (a ∷ lines) each = All-cons (λ s. s < count) s deals each.0.0 (all_low count share_of deals lines each.1)

-- the operations on the key in the answers
abbrev those_on : ℕ → List Answer → List Entry
those_on key answers = on_key key (flat_map entries answers)

those_first : (key : ℕ) (answer : Answer) (answers : List Answer) → those_on key (answer ∷ answers) ≡ on_key key (entries answer) ++ those_on key answers
those_first key answer answers = on_key_append key (entries answer) (flat_map entries answers)

module _ (pages count key : ℕ) (share_of : ℕ → ℕ) where
  -- a share that is not the key's has none of them
  not_there : (deals : List ℕ) (lines : List (Option Request)) (all : List Answer) → AllZip (IsDealtSo count share_of) deals lines → AllZip (IsFor (pages, pages)) lines all → (share : ℕ) → share ≢ share_of key → those_on key (dealt share deals all) ≡ []
  not_there [] lines all each fits share other = refl
  not_there (s ∷ deals) [] all each fits share other = absurd each
  not_there (s ∷ deals) (a ∷ lines) [] each fits share other = absurd fits
  not_there (s ∷ deals) (a ∷ lines) (answer ∷ all) each fits share other =
      let more = not_there deals lines all each.1 fits.1 share other in ⊎_elim
      (λ (own : s ≡ share). ap (those_on key) (here share s deals answer all own) ∙ (those_first key answer (dealt share deals all) ∙ ((λ i. apart_of key fits.0 (λ on. other (sym own ∙ each.0.1 key on)) i ++ more i))))
      (λ (no : s ≡ share → ⊥). ap (those_on key) (elsewhere share s deals answer all no) ∙ more)
      (cases_eq s share)

  -- its own has all, in the order of the lines
  all_there : (deals : List ℕ) (lines : List (Option Request)) (all : List Answer) → AllZip (IsDealtSo count share_of) deals lines → AllZip (IsFor (pages, pages)) lines all → those_on key (dealt (share_of key) deals all) ≡ those_on key all
  all_there [] [] [] each fits = refl
  all_there [] [] (answer ∷ all) each fits = absurd fits
  all_there [] (a ∷ lines) all each fits = absurd each
  all_there (s ∷ deals) [] all each fits = absurd each
  all_there (s ∷ deals) (a ∷ lines) [] each fits = absurd fits
  all_there (s ∷ deals) (a ∷ lines) (answer ∷ all) each fits =
      let more = all_there deals lines all each.1 fits.1 in let share = share_of key in ⊎_elim
      (λ (own : s ≡ share_of key). ap (those_on key) (here share s deals answer all own) ∙ (those_first key answer (dealt share deals all) ∙ (ap (λ (z : List Entry). on_key key (entries answer) ++ z) more ∙ sym (those_first key answer all))))
      (λ (no : s ≡ share_of key → ⊥). ap (those_on key) (elsewhere share s deals answer all no)
      ∙ (more ∙ sym (those_first key answer all ∙ ap (λ (z : List Entry). z ++ those_on key all) (apart_of key fits.0 (λ on. no (each.0.1 key on))))))
      (cases_eq s (share_of key))

-- ---- a history that interleaves the shares

abbrev pub entries_in : Piece → List Entry
entries_in p = flat_map entries p.answers

abbrev pub answers_in : List Piece → List Answer
answers_in pieces = flat_map (λ p. p.answers) pieces

joined_lists : (pieces : List Piece) → map joined (map (λ p. map entries p.answers) pieces) ≡ map entries_in pieces
joined_lists [] = refl
joined_lists (p ∷ pieces) = ap (λ (z : List Entry). z ∷ map joined (map (λ p. map entries p.answers) pieces)) (flat_id entries p.answers) ∙ ap (λ (z : List (List Entry)). entries_in p ∷ z) (joined_lists pieces)

module _ (lists : List (List Entry)) (pieces sorted : List Piece) (are : lists ≡ map entries_in pieces) (perm : IsPermutation pieces sorted) (history : List Entry) (w : Interleaves lists history) where
  of_sorted : Interleaves (map entries_in sorted) history
  of_sorted = in_any_order (subst (λ (z : List (List Entry)). Interleaves z history) are w) (map entries_in sorted) (IsPermutation-map entries_in pieces sorted perm)

  -- it interleaves the answers to all lines
  pub weaving : (all : List Answer) → IsPermutation (answers_in sorted) all → Interleaves (map entries all) history
  weaving all perm_all =
      let groups : List (List (List Entry)) = map (λ p. map entries p.answers) sorted in
      let a : Interleaves (all_of groups) history = one_by_one of_sorted groups (joined_lists sorted) in
      let b : Interleaves (map entries (answers_in sorted)) history = subst (λ (z : List (List Entry)). Interleaves z history) (flat_id (λ (p : Piece). map entries p.answers) sorted ∙ sym (map_flat (λ (p : Piece). p.answers) entries sorted)) a in
      in_any_order b (map entries all) (IsPermutation-map entries (answers_in sorted) all perm_all)

  -- it has the operations on a key in the order of the lines
  pub keeping : (pages count : ℕ) (deals : List ℕ) (lines : List (Option Request)) (all : List Answer) → AreDealt count lines deals → AllZip (IsFor (pages, pages)) lines all → length sorted ≡ count → ((k : ℕ) → dealt k deals all ≡ hand_at sorted k) → (key : ℕ) → on_key key history ≡ on_key key (flat_map entries all)
  keeping pages count deals lines all d fits many hands key =
      let share : ℕ = d.share_of key in
      let s = split_at (λ answers. those_on key answers ≡ []) sorted share (let low = d.low key in omega (arith, low, many)) (λ k other. ap (those_on key) (sym (hands k)) ∙ not_there pages count key d.share_of deals lines all d.each fits k other) in
      let split : map entries_in sorted ≡ map entries_in s.front ++ entries_in s.there ∷ map entries_in s.behind = ap (map entries_in) s.is ∙ map-append entries_in s.front (s.there ∷ s.behind) in
      from_one key of_sorted (map entries_in s.front) (entries_in s.there) (map entries_in s.behind) split
      (All-map (λ (z : List Entry). on_key key z ≡ []) entries_in s.front s.before) (All-map (λ (z : List Entry). on_key key z ≡ []) entries_in s.behind s.after)
      ∙ (ap (those_on key) (sym s.at ∙ sym (hands share)) ∙ all_there pages count key d.share_of deals lines all d.each fits)
