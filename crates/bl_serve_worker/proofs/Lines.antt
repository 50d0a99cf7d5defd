-- Lines that are answered one after another.
use Rattle.std.proofs.Common.{◌≡◌, ◌≢◌, ℕ, suc, ◌+◌, ◌-◌, ◌^◌, ◌<◌, ◌≤◌, List, [], ◌∷◌, ◌++◌, length, length-append, refl, sym, ap, ◌∙◌, subst, append_assoc, arith, append-nil}
use Rattle.std.specs.Prelude.{Option, Some, None, flat_map, map, codes, decimal, nat_lt}
use Rattle.std.specs.List.{AllZip}
use Rattle.std.proofs.lemmas.List.{flat_map_more, map-append}
use Rattle.bl_model.specs.declared.operation.Entry.{Entry}
use Rattle.bl_model.specs.declared.operation.Op.{Op}
use Rattle.bl_model.specs.declared.operation.Reply.{Reply}
use Rattle.bl_serve_lines.specs.declared.request.Request.{Request}
use Rattle.bl_serve_lines.specs.declared.request.Request.TheVariants.{Ask, Add, Scan, Stat, Sync}
use Rattle.bl_serve_lines.specs.declared.listing.Listing.{Listing}
use Rattle.bl_serve_lines.specs.declared.listing.Listing.TheVariants as listing
use Rattle.bl_serve_lines.specs.declared.listing.Until.TheVariants.{Below}
use Rattle.bl_serve_lines.specs.Scans.{rows_before, scan_of, shown}
use Rattle.bl_serve_lines.proofs.Listed.{told_rows, few_below}
use Rattle.bl_serve_lines.proofs.Known.{zip_append}
use Rattle.bl_serve_lines.specs.Lines.{Answer, Replied, Added, Scanned, Stated, Synced, Malformed, entries, rows_in, answer_text}
use Rattle.bl_serve_lines.specs.Text.{numbered, reply_text, row_text, room_text}
use Rattle.bl_page.specs.declared.page.Page.{Page}
use Rattle.bl_claims.specs.Trails.{Trail, entries_at, history_of}
use Rattle.bl_claims.specs.Seeing.{own, GoesOnFrom}
use Rattle.bl_index.specs.Calls.{first_of, pages_of}
use Rattle.bl_map.specs.declared.handle.Handle.{Handle}
use Rattle.bl_map.specs.Handles.{IsSameHandle, HasCounted, HasKeptUp, first_map_of, pages_of_map, number_of_seat, seen_by}
use Rattle.bl_model.specs.Rows.{HasRisingKeys}
use Rattle.bl_map_calls.specs.Works.{Works}
use Rattle.bl_map.proofs.Same.{kept_as}
use Rattle.bl_serve_worker.specs.Answering.IsFor.{Replies, Sums, Scans, States, Syncs, Refuses}
use Rattle.bl_serve_worker.specs.Answering.{IsFor, answers_text, joined_text, replies, AnswersLine, AnswersLines, HasAdded, HasAnswered, HasWrittenRows}
use Rattle.bl_serve_worker.proofs.Counting.{counted_parts, kept_of_all}

pub zip_length : {A B : Type 0} (R : A → B → Type 0) (xs : List A) (ys : List B) → AllZip R xs ys → length ys ≡ length xs
zip_length R [] [] h = refl
zip_length R [] (y ∷ ys) h = absurd h
zip_length R (x ∷ xs) [] h = absurd h
zip_length R (x ∷ xs) (y ∷ ys) h = ap suc (zip_length R xs ys h.1)

pub text_append : (n : ℕ) (xs ys : List Answer) → answers_text n (xs ++ ys) ≡ answers_text n xs ++ answers_text (n + length xs) ys
text_append n [] ys = ap (λ k. answers_text k ys) (let e : n ≡ n + 0 = omega arith in e)
text_append n (x ∷ xs) ys = ap (λ t. numbered n (answer_text x) ++ t) (text_append (suc n) xs ys ∙ ap (λ k. answers_text (suc n) xs ++ answers_text k ys) (let e : suc n + length xs ≡ n + suc (length xs) = omega arith in e))
    ∙ sym (append_assoc (numbered n (answer_text x)) (answers_text (suc n) xs) (answers_text (n + suc (length xs)) ys))

pub goes_on : (old mid new : Trail) → GoesOnFrom old mid → GoesOnFrom mid new → GoesOnFrom old new
goes_on old mid new a b = (a.0 ++ b.0, b.1 ∙ (ap (λ (z : Trail). z ++ b.0) a.1 ∙ append_assoc old a.0 b.0))

pub stays : (old : Trail) → GoesOnFrom old old
stays old = ([], sym (append-nil old))

pub history_append : (xs ys : Trail) → history_of (xs ++ ys) ≡ history_of xs ++ history_of ys
history_append [] ys = refl
history_append (m ∷ ms) ys = ap (λ (z : List Entry). entries_at m.event.process m.said ++ z) (history_append ms ys) ∙ sym (append_assoc (entries_at m.event.process m.said) (history_of ms) (history_of ys))

-- what one handle tells of its map and its seat, told of the same handle as it was before
pub by_same_map : (P : List (Option Page) → ℕ → ℕ → Type 0) (a b : Handle) → IsSameHandle a b → P (first_map_of b) (pages_of_map b) (number_of_seat b) → P (first_map_of a) (pages_of_map a) (number_of_seat a)
by_same_map P a b same h = subst (λ (z : List (Option Page) × ℕ × ℕ). P z.0 z.1 z.2) (λ i. (first_of (same.0 i).now, pages_of (same.0 i).now, same.1.2 i)) h

pub replies_long : (numbers : List ℕ) (answers : List Answer) → length answers ≡ length numbers → length (replies numbers answers) ≡ length numbers
replies_long [] answers same = refl
replies_long (n ∷ numbers) [] same = absurd (omega (arith, same))
replies_long (n ∷ numbers) (answer ∷ answers) same = ap suc (replies_long numbers answers (omega (arith, same)))

replies_more : (numbers : List ℕ) (answers : List Answer) (n : ℕ) (answer : Answer) → length answers ≡ length numbers → replies (numbers ++ n ∷ []) (answers ++ answer ∷ []) ≡ replies numbers answers ++ numbered n (answer_text answer) ∷ []
replies_more [] [] n answer same = refl
replies_more [] (a ∷ answers) n answer same = absurd (omega (arith, same))
replies_more (m ∷ numbers) [] n answer same = absurd (omega (arith, same))
replies_more (m ∷ numbers) (a ∷ answers) n answer same = ap (λ (z : List (List ℕ)). numbered m (answer_text a) ∷ z) (replies_more numbers answers n answer (omega (arith, same)))

-- nothing is answered yet
pub no_lines : (first : List (Option Page)) (pages pass : ℕ) (text lengths : List ℕ) (old : Trail) → text ≡ [] → lengths ≡ [] → AnswersLines first pages pass [] [] text lengths old old
no_lines first pages pass text lengths old is none = record { answers = []; each = tt; prints = is; cuts = none; begins = stays old; seen = λ s. s; mine = sym (append-nil (own pass old)) }

pub one_more : (first : List (Option Page)) (pages pass n : ℕ) (numbers : List ℕ) (lines : List (Option Request)) (asked : Option Request) (text more lengths longer : List ℕ) (old mid new : Trail) → length numbers ≡ length lines → longer ≡ lengths ++ (length more - length text) ∷ []
    → AnswersLines first pages pass numbers lines text lengths old mid → AnswersLine first pages pass n asked text more mid new → AnswersLines first pages pass (numbers ++ n ∷ []) (lines ++ asked ∷ []) more longer old new
one_more first pages pass n numbers lines asked text more lengths longer old mid new as_many grown a b = let long = zip_length (IsFor (pages, pages)) lines a.answers a.each in
    let reply : List ℕ = numbered n (answer_text b.answer) in
    let all : replies (numbers ++ n ∷ []) (a.answers ++ b.answer ∷ []) ≡ replies numbers a.answers ++ reply ∷ [] = replies_more numbers a.answers n b.answer (omega (arith, long, as_many)) in
    let bytes : length more - length text ≡ length reply = let whole = ap length b.prints in let sum = length-append text reply in omega (arith, whole, sum) in record {
      answers = a.answers ++ b.answer ∷ [];
      each = zip_append (IsFor (pages, pages)) lines (asked ∷ []) a.answers (b.answer ∷ []) a.each (b.is_for, tt);
      prints = b.prints ∙ (ap (λ (z : List ℕ). z ++ reply) a.prints ∙ (flat_map_more (λ (z : List ℕ). z) [] (replies numbers a.answers) reply ∙ ap joined_text (sym all)));
      cuts = grown ∙ (ap (λ (z : List ℕ). z ++ (length more - length text) ∷ []) a.cuts ∙ (ap (λ (z : ℕ). map length (replies numbers a.answers) ++ z ∷ []) bytes
          ∙ (sym (map-append length (replies numbers a.answers) (reply ∷ [])) ∙ ap (map length) (sym all))));
      begins = goes_on old mid new a.begins b.begins;
      seen = λ s. b.seen (a.seen s);
      mine = b.mine ∙ (ap (λ (z : List Entry). z ++ entries b.answer) a.mine ∙ (append_assoc (own pass old) (flat_map entries a.answers) (entries b.answer) ∙ ap (λ (z : List Entry). own pass old ++ z) (flat_map_more entries [] a.answers b.answer)));
    }

-- the text has as many bytes as before, or more
pub text_grows : (first : List (Option Page)) (pages pass n : ℕ) (asked : Option Request) (text more : List ℕ) (old new : Trail) → AnswersLine first pages pass n asked text more old new → length text ≤ length more
text_grows first pages pass n asked text more old new l = let whole = ap length l.prints in let sum = length-append text (numbered n (answer_text l.answer)) in omega (arith, whole, sum)

-- ---- single lines

asked_line : (first : List (Option Page)) (pages pass n : ℕ) (op : Op) (reply : Reply) (before after : List ℕ) (old new : Trail) → Works first pass op reply old new → after ≡ before ++ numbered n (reply_text reply) → AnswersLine first pages pass n (Some (Ask op)) before after old new
asked_line first pages pass n op reply before after old new w is = record { answer = Replied (record { pass = pass; op = op; reply = reply }); is_for = Replies (record { pass = pass; op = op; reply = reply }); prints = is; begins = w.begins; seen = λ s. w.seen; mine = w.once }

pub asked_as : (first : List (Option Page)) (pages pass n : ℕ) (asked : Option Request) (request : Request) (op : Op) (reply : Reply) (before after : List ℕ) (old new : Trail) → asked ≡ Some request → request ≡ Ask op → Works first pass op reply old new → after ≡ before ++ numbered n (reply_text reply)
    → AnswersLine first pages pass n asked before after old new
asked_as first pages pass n asked request op reply before after old new is ask w written = subst (λ (z : Option Request). AnswersLine first pages pass n z before after old new) (sym (is ∙ ap Some ask)) (asked_line first pages pass n op reply before after old new w written)

-- the number, a space, what stands behind it, and an LF
pub line_of : (before number text : List ℕ) → ((before ++ number) ++ (codes " " ++ text)) ++ 10 ∷ [] ≡ before ++ (number ++ codes " " ++ text ++ 10 ∷ [])
line_of before number text = append_assoc (before ++ number) (32 ∷ text) (10 ∷ []) ∙ (append_assoc before number ((32 ∷ text) ++ 10 ∷ [])
    ∙ ap (λ (t : List ℕ). before ++ t) (sym (append_assoc (number ++ codes " ") text (10 ∷ []) ∙ append_assoc number (codes " ") (text ++ 10 ∷ []))))

pub listed_line : (a b : Handle) (n : ℕ) (asked : Listing) (before head rows after : List ℕ) → ((low high : ℕ) → asked ≢ listing.Count low high) → head ≡ (before ++ decimal n) ++ codes " rows" → after ≡ rows ++ 10 ∷ []
    → HasWrittenRows (scan_of asked) head rows a b → HasAnswered n (Some (Scan asked)) before after a b
listed_line a b n asked before head rows after other headed is (parts, are, made, written) =
    let all : List (ℕ × ℕ) = rows_before (scan_of asked).until (rows_in parts) in
    let text : List ℕ = flat_map row_text (shown (scan_of asked).tells all) in record {
      answer = Scanned asked parts;
      is_for = Scans asked parts are;
      prints = is ∙ (ap (λ (z : List ℕ). z ++ 10 ∷ []) (written ∙ (ap (λ (z : List ℕ). z ++ text) headed ∙ append_assoc (before ++ decimal n) (codes " rows") text))
          ∙ (line_of before (decimal n) (codes "rows" ++ text) ∙ ap (λ (z : List ℕ). before ++ numbered n z) (sym (told_rows asked all other))));
      begins = made.begins;
      seen = made.seen;
      mine = made.mine;
    }

pub counted_line : (a b : Handle) (n low high count : ℕ) (before head counted after : List ℕ) → high < 2 ^ 64 → head ≡ before ++ decimal n → counted ≡ head ++ (codes " count " ++ decimal count) → after ≡ counted ++ 10 ∷ []
    → HasCounted low (Some high) count a b → HasAnswered n (Some (Scan (listing.Count low high))) before after a b
counted_line a b n low high count before head counted after small headed more is c =
    let s = c.scanned in let kept : List (ℕ × ℕ) = rows_before (Below high) (rows_in s.parts) in
    let rows_are : c.rows ≡ kept = s.listed ∙ kept_of_all (λ row. nat_lt row.0 high) s.parts in
    let few = few_below (rows_in s.parts) high (subst HasRisingKeys rows_are s.ordered) in let long = ap length rows_are in let answer = c.count in
    let all : count ≡ length kept = omega (arith, few, long, answer, small) in record {
      answer = Scanned (listing.Count low high) s.parts;
      is_for = Scans (listing.Count low high) s.parts (counted_parts (number_of_seat a) high (Some low) c.upto s.parts s.are_parts (λ at is. rw is at c.over));
      prints = is ∙ (ap (λ (z : List ℕ). z ++ 10 ∷ []) (more ∙ ap (λ (z : List ℕ). z ++ (codes " count " ++ decimal count)) headed)
          ∙ (line_of before (decimal n) (codes "count " ++ decimal count) ∙ ap (λ (k : ℕ). before ++ numbered n (codes "count " ++ decimal k)) all));
      begins = s.begins;
      seen = s.seen;
      mine = s.mine;
    }

pub summed_line : (a b : Handle) (n key number : ℕ) (reply : Reply) (before after : List ℕ) → HasAdded key number reply a b → after ≡ before ++ numbered n (reply_text reply) → HasAnswered n (Some (Add key number)) before after a b
summed_line a b n key number reply before after (es, adds, made) is =
    record { answer = Added key number es reply; is_for = Sums key number es reply adds; prints = is; begins = made.begins; seen = made.seen; mine = made.mine }

-- a line that has no entry
word_line : (first : List (Option Page)) (pages pass n : ℕ) (asked : Option Request) (answer : Answer) (before after : List ℕ) (old : Trail) → IsFor (pages, pages) asked answer → entries answer ≡ [] → after ≡ before ++ numbered n (answer_text answer) → AnswersLine first pages pass n asked before after old old
word_line first pages pass n asked answer before after old for none is = record { answer = answer; is_for = for; prints = is; begins = stays old; seen = λ s. s; mine = sym (append-nil (own pass old)) ∙ ap (λ (z : List Entry). own pass old ++ z) (sym none) }

pub synced_line : (first : List (Option Page)) (pages pass n : ℕ) (asked : Option Request) (before after : List ℕ) (old : Trail) → asked ≡ Some Sync → after ≡ before ++ numbered n (codes "synced") → AnswersLine first pages pass n asked before after old old
synced_line first pages pass n asked before after old is written = subst (λ (z : Option Request). AnswersLine first pages pass n z before after old old) (sym is) (word_line first pages pass n (Some Sync) Synced before after old Syncs refl written)

pub stated_line : (first : List (Option Page)) (pages pass n all used free : ℕ) (asked : Option Request) (before after : List ℕ) (old : Trail) → asked ≡ Some Stat → (all ≡ pages) × (used + free ≤ all) → after ≡ before ++ numbered n (room_text all used free) → AnswersLine first pages pass n asked before after old old
stated_line first pages pass n all used free asked before after old is room written = subst (λ (z : Option Request). AnswersLine first pages pass n z before after old old) (sym is) (word_line first pages pass n (Some Stat) (Stated all used free) before after old (States all used free (let same = room.0 in (omega (arith, same), omega (arith, same), room.1))) refl written)

pub malformed_line : (first : List (Option Page)) (pages pass n : ℕ) (asked : Option Request) (before after : List ℕ) (old : Trail) → asked ≡ None → after ≡ before ++ numbered n (codes "malformed") → AnswersLine first pages pass n asked before after old old
malformed_line first pages pass n asked before after old is written = subst (λ (z : Option Request). AnswersLine first pages pass n z before after old old) (sym is) (word_line first pages pass n None Malformed before after old Refuses refl written)

-- a line, and then what adds no entry
pub then_idle : (a b c : Handle) (n : ℕ) (asked : Option Request) (before after : List ℕ) → IsSameHandle a b → AnswersLine (first_map_of a) (pages_of_map a) (number_of_seat a) n asked before after (seen_by a) (seen_by b) → HasKeptUp b c
    → AnswersLine (first_map_of a) (pages_of_map a) (number_of_seat a) n asked before after (seen_by a) (seen_by c)
then_idle a b c n asked before after same l kept = let k = kept_as a b c same kept in record {
  answer = l.answer;
  is_for = l.is_for;
  prints = l.prints;
  begins = goes_on (seen_by a) (seen_by b) (seen_by c) l.begins k.begins;
  seen = λ s. k.seen (l.seen s);
  mine = k.none ∙ l.mine;
}
