-- What the passes did in a section, put together.
use Rattle.std.proofs.Common.{◌≡◌, ℕ, suc, ◌+◌, ◌<◌, ◌≤◌, Bool, List, [], ◌∷◌, ◌++◌, length, take, drop, map, set, get_or, refl, sym, ap, ◌∙◌, subst, append-nil, arith, add-one, length-set}
use Rattle.std.specs.Prelude.{All, Option, Result, Ok, Err, OnOk, is_ok, cond, false, flat_map, IsPermutation}
use Rattle.std.specs.List.{AllZip}
use Rattle.std.proofs.lemmas.List.{map-append, length-map, take_all, take_more, take-append-drop}
use Rattle.std.proofs.Math.Seq.{take-append_seam}
use Rattle.std.proofs.lemmas.List.Concat.{flat_map-append}
use Rattle.std.proofs.lemmas.List.Elements.{All-nil, All-cons, All-head, All-tail, All-append, All-map, All-push, All-weaker}
use Rattle.std.proofs.lemmas.List.Sorted.{All-permutation}
use Rattle.bl_model.specs.declared.operation.Entry.{Entry}
use Rattle.bl_serve_lines.specs.declared.request.Request.{Request}
use Rattle.bl_serve_lines.specs.Lines.{Answer}
use Rattle.bl_serve_lines.specs.Dealt.{dealt, numbers}
use Rattle.bl_serve_lines.proofs.Dealing.{regathers, all_pairs, all_shares, numbers_long}
use Rattle.bl_page.specs.declared.page.Page.{Page}
use Rattle.bl_claims.specs.Seeing.{own}
use Rattle.bl_index.specs.declared.index.Index.{Index}
use Rattle.bl_index.specs.declared.index.Pass.{Pass}
use Rattle.bl_index.specs.Calls.{IsPassOf}
use Rattle.bl_index.proofs.Taken.{same_of}
use Rattle.bl_map.specs.declared.handle.Handle.{Handle}
use Rattle.bl_map.specs.Handles.{first_map_of, pages_of_map, number_of_seat, seat_of, seats_of, seen_by}
use Rattle.bl_map.proofs.Elements.{take_set, next_is, drop_set, drop_one}
use Rattle.bl_serve_worker.specs.declared.chunk.Slot.{Slot}
use Rattle.bl_serve_worker.specs.declared.chunk.ShareOutput.{ShareOutput}
use Rattle.bl_serve_worker.specs.Answering.{IsFor, joined_text, replies}
use Rattle.bl_serve_worker.specs.Shares.{Piece, IsPiece, Logs, WorksOn}
use Rattle.bl_serve.specs.Joining.{IsOutputOf, IsWhole}
use Rattle.bl_serve.specs.Dealing.{AreDealt}
use Rattle.bl_serve.specs.Chunks.{Taken, IsTaken, IsChunk, Collects, WorkOn}
use Rattle.bl_serve_worker.proofs.Lines.{zip_length, replies_long}
use Rattle.bl_serve.proofs.Hands.{hand_at, whole_piece, each_hand, all_hands, outputs_of, joined_replies}
use Rattle.bl_serve.proofs.Keeping.{all_low, entries_in, answers_in, weaving, keeping}
use Rattle.bl_serve.proofs.Pieces.{lifted, flat_id}
use Rattle.bl_serve.proofs.Together.{BeganWith}

-- what was lent comes back
pub lent : {A : Type 0} (n : ℕ) (old now : List A) → n ≡ length now → take n (now ++ drop (length now) old) ≡ now
lent n old now is = ap (λ (k : ℕ). take k (now ++ drop (length now) old)) is ∙ take-append_seam now (drop (length now) old)

-- ---- what was written is taken in

pub record CollectsSo (all now : List Slot) (written : List ShareOutput) (i : ℕ) : Type 0 where
  pub long : length now ≡ length all
  pub left : drop i now ≡ drop i all
  pub none_failed : All (λ (d : Slot). d.failed ≡ false) (take i all)
  pub outputs_are : written ≡ flat_map (λ d. d.log.items) (take i all)

pub collect_none : (all : List Slot) (written : List ShareOutput) → written ≡ [] → CollectsSo all all written 0
collect_none all written is = record { long = refl; left = refl; none_failed = All-nil (λ (d : Slot). d.failed ≡ false); outputs_are = is }

pub collect_more : (all now : List Slot) (written written' : List ShareOutput) (i : ℕ) (was is d : Slot) → CollectsSo all now written i → i < length now → was ≡ get_or now i d → was.failed ≡ false → written' ≡ written ++ was.log.items → CollectsSo all (set now i is) written' (i + 1)
collect_more all now written written' i was is d g low at ok more =
    let there : was ≡ get_or all i d = at ∙ next_is all now i d g.left low in
    let taken : take (i + 1) all ≡ take i all ++ was ∷ [] = take_more all i d (let e = g.long in omega (arith, e, low)) ∙ ap (λ (z : Slot). take i all ++ z ∷ []) (sym there) in record {
      long = length-set now i is ∙ g.long;
      left = rw add-one (drop_set now i is ∙ drop_one now all i g.left);
      none_failed = subst (All (λ (x : Slot). x.failed ≡ false)) (sym taken) (All-push (λ (x : Slot). x.failed ≡ false) (take i all) was g.none_failed ok);
      outputs_are = more ∙ (ap (λ (z : List ShareOutput). z ++ was.log.items) g.outputs_are
          ∙ (ap (λ (z : List ShareOutput). flat_map (λ (x : Slot). x.log.items) (take i all) ++ z) (sym (append-nil was.log.items))
          ∙ (sym (flat_map-append (λ (x : Slot). x.log.items) (take i all) (was ∷ [])) ∙ ap (flat_map (λ (x : Slot). x.log.items)) (sym taken))));
    }

pub collects_all : (all now : List Slot) (written : List ShareOutput) (i : ℕ) → length now ≤ i → CollectsSo all now written i → Collects all written
collects_all all now written i end g =
    let whole : take i all ≡ all = take_all i all (let e = g.long in omega (arith, e, end)) in record {
      none_failed = subst (All (λ (d : Slot). d.failed ≡ false)) whole g.none_failed;
      outputs_are = g.outputs_are ∙ ap (flat_map (λ (d : Slot). d.log.items)) whole;
    }

-- ---- from slot to slot

module _ (keeps : Bool) (number : ℕ) (deals : List ℕ) (lines : List (Option Request)) where
  -- two parts of the passes have done their work
  pub turns_append : (os ns : List Handle) (ds : List Slot) (os' ns' : List Handle) (ds' : List Slot) → WorkOn keeps number deals lines os ns ds → WorkOn keeps number deals lines os' ns' ds' → WorkOn keeps number deals lines (os ++ os') (ns ++ ns') (ds ++ ds')
  turns_append [] [] [] os' ns' ds' h k = k
  turns_append [] [] (d ∷ ds) os' ns' ds' h k = absurd h
  turns_append [] (n ∷ ns) ds os' ns' ds' h k = absurd h
  turns_append (o ∷ os) [] ds os' ns' ds' h k = absurd h
  turns_append (o ∷ os) (n ∷ ns) [] os' ns' ds' h k = absurd h
  turns_append (o ∷ os) (n ∷ ns) (d ∷ ds) os' ns' ds' h k = (h.0, turns_append os ns ds os' ns' ds' h.1 k)

  -- there are as many of each
  pub turns_long : (os ns : List Handle) (ds : List Slot) → WorkOn keeps number deals lines os ns ds → (length ns ≡ length os) × (length ds ≡ length os)
  turns_long [] [] [] h = (refl, refl)
  turns_long [] [] (d ∷ ds) h = absurd h
  turns_long [] (n ∷ ns) ds h = absurd h
  turns_long (o ∷ os) [] ds h = absurd h
  turns_long (o ∷ os) (n ∷ ns) [] h = absurd h
  turns_long (o ∷ os) (n ∷ ns) (d ∷ ds) h = let r = turns_long os ns ds h.1 in (ap suc r.0, ap suc r.1)

  -- so many have had theirs, one after another
  pub record TurnsSo (olds news : List Handle) (slots now : List Slot) (i : ℕ) : Type 0 where
    pub long : length news ≡ length olds
    pub many : length now ≡ length slots
    pub left : drop i news ≡ drop i olds
    pub turns : WorkOn keeps number deals lines (take i olds) (take i news) (take i now)

  pub turns_none : (olds : List Handle) (slots : List Slot) → TurnsSo olds olds slots slots 0
  turns_none olds slots = record { long = refl; many = refl; left = refl; turns = tt }

  pub turns_more : (olds news : List Handle) (slots now : List Slot) (i : ℕ) (was is d : Handle) (slot : Slot) → TurnsSo olds news slots now i → i < length news → i < length now → was ≡ get_or news i d → WorksOn keeps number deals lines was is slot
      → TurnsSo olds (set news i is) slots (set now i slot) (i + 1)
  turns_more olds news slots now i was is d slot t low low' at turn =
      let there : was ≡ get_or olds i d = at ∙ next_is olds news i d t.left low in
      let old_are : take (i + 1) olds ≡ take i olds ++ was ∷ [] = take_more olds i d (let e = t.long in omega (arith, e, low)) ∙ ap (λ (z : Handle). take i olds ++ z ∷ []) (sym there) in
      let both = turns_append (take i olds) (take i news) (take i now) (was ∷ []) (is ∷ []) (slot ∷ []) t.turns (turn, tt) in
      record {
        long = length-set news i is ∙ t.long;
        many = length-set now i slot ∙ t.many;
        left = rw add-one (drop_set news i is ∙ drop_one news olds i t.left);
        turns = subst (λ (z : List Handle × List Handle × List Slot). WorkOn keeps number deals lines z.0 z.1 z.2) (λ k. (sym old_are k, sym (take_set news i is low) k, sym (take_set now i slot low') k)) both;
      }

  pub turns_all : (olds news : List Handle) (slots now : List Slot) (i : ℕ) → length slots ≡ length olds → length olds ≤ i → TurnsSo olds news slots now i → WorkOn keeps number deals lines olds news now
  turns_all olds news slots now i as_many end t =
      let e = t.long in let f = t.many in
      subst (λ (z : List Handle × List Handle × List Slot). WorkOn keeps number deals lines z.0 z.1 z.2)
      (λ k. (take_all i olds end k, take_all i news (omega (arith, e, end)) k, take_all i now (omega (arith, f, as_many, end)) k)) t.turns

  -- the first ones and the others, in two threads
  turns_parted : (place : ℕ) (olds news some now : List Handle) (slots theirs : List Slot) → WorkOn keeps number deals lines (take place olds) news slots → WorkOn keeps number deals lines (drop place olds) now theirs → some ≡ news ++ now
      → WorkOn keeps number deals lines olds some (slots ++ theirs)
  turns_parted place olds news some now slots theirs h k is =
      subst (λ (z : List Handle × List Handle). WorkOn keeps number deals lines z.0 z.1 (slots ++ theirs)) (λ i. (take-append-drop place olds i, sym is i))
      (turns_append (take place olds) news slots (drop place olds) now theirs h k)

  pub parted_ok : {A E : Type 0} (r : Result A E) (place : ℕ) (olds news some now : List Handle) (slots theirs : List Slot) → WorkOn keeps number deals lines (take place olds) news slots → WorkOn keeps number deals lines (drop place olds) now theirs
      → some ≡ cond (is_ok r) (news ++ now) news → OnOk r (WorkOn keeps number deals lines olds some (slots ++ theirs))
  parted_ok (Ok x) place olds news some now slots theirs h k is = turns_parted place olds news some now slots theirs h k is
  parted_ok (Err e) place olds news some now slots theirs h k is = tt

module _ (keeps : Bool) (first : List (Option Page)) (pages number : ℕ) (deals : List ℕ) (lines : List (Option Request)) where
  record Spread (olds news : List Handle) (slots : List Slot) : Type 0 where
    taken : List Taken
    pieces : List Piece
    old_are : map (λ t. t.old) taken ≡ seats_of olds
    new_are : map (λ t. t.new) taken ≡ seats_of news
    each_taken : All (IsTaken first) taken
    each : All (IsPiece pages number deals lines) pieces
    written : map (λ p. p.output) pieces ≡ flat_map (λ d. d.log.items) slots
    shares : flat_map (λ t. t.share) taken ≡ map entries_in pieces

  spread : (olds news : List Handle) (slots : List Slot) → All (BeganWith first pages) olds → WorkOn keeps number deals lines olds news slots → All (λ (d : Slot). d.failed ≡ false) slots → Spread olds news slots
  spread [] [] [] began h ok = record { taken = []; pieces = []; old_are = refl; new_are = refl; each_taken = All-nil (IsTaken first); each = All-nil (IsPiece pages number deals lines); written = refl; shares = refl }
  spread [] [] (d ∷ slots) began h ok = absurd h
  spread [] (n ∷ news) slots began h ok = absurd h
  spread (o ∷ olds) [] slots began h ok = absurd h
  spread (o ∷ olds) (n ∷ news) [] began h ok = absurd h
  spread (o ∷ olds) (n ∷ news) (d ∷ slots) began h ok = let r = spread olds news slots (All-tail (BeganWith first pages) o olds began) h.1 (All-tail (λ (x : Slot). x.failed ≡ false) d slots ok) in
      let so = All-head (BeganWith first pages) o olds began in
      let own_logs : Logs (first_map_of o) (pages_of_map o) number deals lines (number_of_seat o) (seen_by o) (seen_by n) [] d.log.items = h.0.1 (All-head (λ (x : Slot). x.failed ≡ false) d slots ok) in
      let logs : Logs first pages number deals lines (number_of_seat o) (seen_by o) (seen_by n) [] d.log.items =
      subst (λ (z : List (Option Page) × ℕ). Logs z.0 z.1 number deals lines (number_of_seat o) (seen_by o) (seen_by n) [] d.log.items) (λ i. (so.0 i, so.1 i)) own_logs in
      let one : Taken = record { old = seat_of o; new = seat_of n; share = map entries_in logs.pieces } in record {
        taken = one ∷ r.taken;
        pieces = logs.pieces ++ r.pieces;
        old_are = ap (λ (z : List Pass). seat_of o ∷ z) r.old_are;
        new_are = ap (λ (z : List Pass). seat_of n ∷ z) r.new_are;
        each_taken = All-cons (IsTaken first) one r.taken (record { same = h.0.0.1; begins = logs.begins; seen = logs.seen; mine = logs.mine ∙ ap (λ (z : List Entry). own (number_of_seat o) (seen_by o) ++ z) (sym (flat_id entries_in logs.pieces)) }) r.each_taken;
        each = All-append (IsPiece pages number deals lines) logs.pieces r.pieces logs.each r.each;
        written = map-append (λ (p : Piece). p.output) logs.pieces r.pieces ∙ (ap (λ (z : List ShareOutput). z ++ map (λ p. p.output) r.pieces) (sym logs.log) ∙ ap (λ (z : List ShareOutput). d.log.items ++ z) r.written);
        shares = ap (λ (z : List (List Entry)). map entries_in logs.pieces ++ z) r.shares ∙ sym (map-append entries_in logs.pieces r.pieces);
      }

  -- each output has a reply for each line of its share
  pub collected_whole : (olds news : List Handle) (slots : List Slot) (written : List ShareOutput) → length lines ≡ length deals → All (BeganWith first pages) olds → WorkOn keeps number deals lines olds news slots → Collects slots written → All (IsWhole deals) written
  collected_whole olds news slots written as_many began turns g =
      let s = spread olds news slots began turns g.none_failed in
      subst (All (IsWhole deals)) (s.written ∙ sym g.outputs_are) (All-map (IsWhole deals) (λ (p : Piece). p.output) s.pieces
      (All-weaker (IsPiece pages number deals lines) (λ (p : Piece). IsWhole deals p.output) (whole_piece pages number deals lines as_many) s.pieces s.each))

  -- ---- all together

  -- the answers to all lines, as the pieces have them
  record Answered (count : ℕ) (pieces : List Piece) : Type 0 where
    all : List Answer
    long : length all ≡ length lines
    fits : AllZip (IsFor (pages, pages)) lines all
    hands : (k : ℕ) → dealt k deals all ≡ hand_at pieces k
    same : IsPermutation (answers_in pieces) all

  answered : (count : ℕ) (pieces : List Piece) → length lines ≡ length deals → All (λ s. s < count) deals → map (λ p. p.output.share) pieces ≡ numbers 0 count → All (IsPiece pages number deals lines) pieces → Answered count pieces
  answered count pieces as_many low are each =
      let many : length pieces ≡ count = sym (length-map pieces (λ (p : Piece). p.output.share)) ∙ (ap length are ∙ numbers_long 0 count) in
      let for : (k : ℕ) → AllZip (IsFor (pages, pages)) (dealt k deals lines) (hand_at pieces k) = each_hand pages number deals lines count pieces are each low in
      let r = regathers deals lines (hand_at pieces) as_many (λ k. zip_length (IsFor (pages, pages)) (dealt k deals lines) (hand_at pieces k) (for k)) in record {
        all = r.all;
        long = r.long ∙ sym as_many;
        fits = all_pairs (IsFor (pages, pages)) deals lines r.all as_many r.long (λ k. subst (AllZip (IsFor (pages, pages)) (dealt k deals lines)) (sym (r.each k)) (for k));
        hands = r.each;
        same = subst (λ (z : List Answer). IsPermutation z r.all) (sym (all_hands count deals r.all pieces many r.each)) (all_shares count deals r.all r.long low);
      }

  -- the replies to all lines
  abbrev texts_of : List Answer → List (List ℕ)
  texts_of all = replies (numbers number (length lines)) all

  texts_long : (all : List Answer) → length lines ≡ length deals → length all ≡ length lines → length (texts_of all) ≡ length deals
  texts_long all as_many long = replies_long (numbers number (length lines)) all (long ∙ sym (numbers_long number (length lines))) ∙ (numbers_long number (length lines) ∙ as_many)

  pub chunk : (count : ℕ) (text old : List ℕ) (olds news : List Handle) (slots : List Slot) (written sorted : List ShareOutput) → length lines ≡ length deals → AreDealt count lines deals → All (BeganWith first pages) olds → WorkOn keeps number deals lines olds news slots → Collects slots written
      → IsPermutation written sorted → map (λ w. w.share) sorted ≡ numbers 0 count → ((texts : List (List ℕ)) → length texts ≡ length deals → All (IsOutputOf deals texts) sorted → text ≡ old ++ joined_text texts)
      → (more : List ℕ) × (text ≡ old ++ more) × IsChunk first pages number lines more (seats_of olds) (seats_of news)
  chunk count text old olds news slots written sorted as_many d began turns g perm are_all text_is =
      let s = spread olds news slots began turns g.none_failed in
      let l = lifted (λ (p : Piece). p.output) s.pieces sorted (subst (λ (z : List ShareOutput). IsPermutation z sorted) (g.outputs_are ∙ sym s.written) perm) in
      let pieces : List Piece = l.0 in
      let each : All (IsPiece pages number deals lines) pieces = All-permutation (IsPiece pages number deals lines) s.pieces pieces l.1 s.each in
      let are : map (λ p. p.output.share) pieces ≡ numbers 0 count = shares_are pieces ∙ (ap (map (λ (w : ShareOutput). w.share)) l.2 ∙ are_all) in
      let many : length pieces ≡ count = sym (length-map pieces (λ (p : Piece). p.output.share)) ∙ (ap length are ∙ numbers_long 0 count) in
      let a = answered count pieces as_many (all_low count d.share_of deals lines d.each) are each in
      let outputs : All (IsOutputOf deals (texts_of a.all)) sorted = subst (All (IsOutputOf deals (texts_of a.all))) l.2 (All-map (IsOutputOf deals (texts_of a.all)) (λ (p : Piece). p.output) pieces
      (outputs_of pages number deals lines as_many count a.all pieces are each a.hands a.long)) in (
        joined_text (texts_of a.all),
        text_is (texts_of a.all) (texts_long a.all as_many a.long) outputs,
        record {
          answers = a.all;
          each = a.fits;
          prints = joined_replies number a.all (length lines) a.long;
          taken = s.taken;
          old_are = s.old_are;
          new_are = s.new_are;
          each_taken = s.each_taken;
          weaves = λ history w. weaving (flat_map (λ t. t.share) s.taken) s.pieces pieces s.shares l.1 history w a.all a.same;
          keeps = λ history w. keeping (flat_map (λ t. t.share) s.taken) s.pieces pieces s.shares l.1 history w pages count deals lines a.all d a.fits many a.hands;
        },
      )
    where
      shares_are : (ps : List Piece) → map (λ p. p.output.share) ps ≡ map (λ (w : ShareOutput). w.share) (map (λ p. p.output) ps)
      shares_are [] = refl
      shares_are (p ∷ ps) = ap (λ (z : List ℕ). p.output.share ∷ z) (shares_are ps)

pub chunk_own : (first : List (Option Page)) (index : Index) (pages number : ℕ) (lines : List (Option Request)) (text : List ℕ) (olds news : List Pass) → All (IsPassOf index) olds → IsChunk first pages number lines text olds news → All (IsPassOf index) news
chunk_own first index pages number lines text olds news own_all r = subst (All (IsPassOf index)) r.new_are (go r.taken r.each_taken (subst (All (IsPassOf index)) (sym r.old_are) own_all))
  where
    go : (taken : List Taken) → All (IsTaken first) taken → All (IsPassOf index) (map (λ t. t.old) taken) → All (IsPassOf index) (map (λ t. t.new) taken)
    go [] each h = All-nil (IsPassOf index)
    go (t ∷ ts) each h = All-cons (IsPassOf index) t.new (map (λ t. t.new) ts) (same_of index t.old t.new (All-head (IsTaken first) t ts each).same (All-head (IsPassOf index) t.old (map (λ t. t.old) ts) h)) (go ts (All-tail (IsTaken first) t ts each) (All-tail (IsPassOf index) t.old (map (λ t. t.old) ts) h))
