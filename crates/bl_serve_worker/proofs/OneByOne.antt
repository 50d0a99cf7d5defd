-- How a scan and an addition are made, call by call.
use Rattle.std.proofs.Common.{◌≡◌, ℕ, ◌+◌, ◌%◌, ◌^◌, Option, Some, None, List, [], ◌∷◌, ◌++◌, length, length-append, refl, sym, ap, ◌∙◌, subst, append-nil, append_assoc}
use Rattle.std.specs.Prelude.{MatchOption, flat_map}
use Rattle.bl_model.specs.declared.operation.Entry.{Entry}
use Rattle.bl_model.specs.declared.operation.Op.{Op}
use Rattle.bl_model.specs.declared.operation.Op.TheVariants.{Find, Change}
use Rattle.bl_model.specs.declared.operation.Reply.{Reply}
use Rattle.bl_model.specs.Parts.{rows_of}
use Rattle.bl_serve_lines.specs.declared.listing.Scan.{Scan}
use Rattle.bl_serve_lines.specs.declared.listing.Tells.{Tells}
use Rattle.bl_serve_lines.specs.Text.{row_text}
use Rattle.bl_serve_lines.specs.Lines.{Adds, rows_in, sum_reply, value_in}
use Rattle.bl_serve_lines.specs.Scans.{behind, less, part_of, place_of, rows_before, shown}
use Rattle.bl_serve_lines.proofs.Listed.{GoesOn, one_part, all_parts, rows_more, less_both, less_none, none_shown, shown_more}
use Rattle.bl_page.specs.declared.page.Page.{Page}
use Rattle.bl_claims.specs.Trails.{Trail}
use Rattle.bl_claims.specs.Seeing.{own}
use Rattle.bl_map.specs.declared.handle.Handle.{Handle}
use Rattle.bl_map.specs.Handles.{IsSameHandle, HasCalled, first_map_of, number_of_seat, seen_by}
use Rattle.bl_map_calls.specs.Works.{Works}
use Rattle.bl_serve_worker.specs.Answering.{HasMade, HasAdded, HasWrittenRows}
use Rattle.bl_serve_worker.proofs.Lines.{by_same_map, goes_on, stays}

-- ---- calls, one after another

none_made : (first : List (Option Page)) (pass : ℕ) (old : Trail) → HasMade first pass [] old old
none_made first pass old = record { begins = stays old; seen = λ s. s; mine = sym (append-nil (own pass old)) }

one_made : (first : List (Option Page)) (pass : ℕ) (es : List Entry) (op : Op) (reply : Reply) (old mid new : Trail) → HasMade first pass es old mid → Works first pass op reply mid new
    → HasMade first pass (es ++ record { pass = pass; op = op; reply = reply } ∷ []) old new
one_made first pass es op reply old mid new m w = let e : Entry = record { pass = pass; op = op; reply = reply } in record {
  begins = goes_on old mid new m.begins w.begins;
  seen = λ s. w.seen;
  mine = w.once ∙ (ap (λ (z : List Entry). z ++ e ∷ []) m.mine ∙ append_assoc (own pass old) es (e ∷ []));
}

-- the call of the same handle as it was before
called_as : (a b c : Handle) (op : Op) (reply : Reply) → IsSameHandle a b → HasCalled op reply b c → Works (first_map_of a) (number_of_seat a) op reply (seen_by b) (seen_by c)
called_as a b c op reply same called = by_same_map (λ first pages pass. Works first pass op reply (seen_by b) (seen_by c)) a b same called

-- ---- a scan

-- what is known behind some parts
pub record Listed (a b : Handle) (scan left : Scan) (before text : List ℕ) : Type 0 where
  pub parts : List Entry
  pub goes : GoesOn scan parts left
  pub until : left.until ≡ scan.until
  pub tells : left.tells ≡ less scan.tells (length (rows_before scan.until (rows_in parts)))
  pub made : HasMade (first_map_of a) (number_of_seat a) parts (seen_by a) (seen_by b)
  pub written : text ≡ before ++ flat_map row_text (shown scan.tells (rows_before scan.until (rows_in parts)))

pub none_listed : (a : Handle) (scan : Scan) (text : List ℕ) → Listed a a scan scan text text
none_listed a scan text = record {
  parts = [];
  goes = λ rest are. are;
  until = refl;
  tells = sym (less_none scan.tells);
  made = none_made (first_map_of a) (number_of_seat a) (seen_by a);
  written = none_shown scan.tells text;
}

pub one_listed : (a b c : Handle) (scan left next : Scan) (from : ℕ) (reply : Reply) (before text more : List ℕ) → IsSameHandle a b → Listed a b scan left before text → place_of left ≡ Some from → HasCalled (part_of left.until from) reply b c
    → more ≡ text ++ flat_map row_text (shown left.tells (rows_before left.until (rows_of reply))) → next ≡ behind left reply → Listed a c scan next before more
one_listed a b c scan left next from reply before text more same s at called prints is =
    let e : Entry = record { pass = number_of_seat a; op = part_of left.until from; reply = reply } in
    let xs : List (ℕ × ℕ) = rows_before scan.until (rows_in s.parts) in let ys : List (ℕ × ℕ) = rows_before left.until (rows_of reply) in
    let all : rows_before scan.until (rows_in (s.parts ++ e ∷ [])) ≡ xs ++ ys = rows_more scan.until s.parts e ∙ ap (λ u. xs ++ rows_before u (rows_of reply)) (sym s.until) in record {
      parts = s.parts ++ e ∷ [];
      goes = subst (GoesOn scan (s.parts ++ e ∷ [])) (sym is) (one_part scan left from s.parts e s.goes at refl);
      until = ap (λ (z : Scan). z.until) is ∙ s.until;
      tells = ap (λ (z : Scan). z.tells) is ∙ (ap (λ (t : Tells). less t (length ys)) s.tells
          ∙ (less_both scan.tells (length xs) (length ys) ∙ ap (less scan.tells) (sym (length-append xs ys) ∙ ap length (sym all))));
      made = one_made (first_map_of a) (number_of_seat a) s.parts (part_of left.until from) reply (seen_by a) (seen_by b) (seen_by c) s.made (called_as a b c (part_of left.until from) reply same called);
      written = shown_more scan.tells xs ys before text more s.written (prints ∙ ap (λ (t : Tells). text ++ flat_map row_text (shown t ys)) s.tells)
          ∙ ap (λ (z : List (ℕ × ℕ)). before ++ flat_map row_text (shown scan.tells z)) (sym all);
    }

pub all_listed : (a b : Handle) (scan left : Scan) (before text : List ℕ) → Listed a b scan left before text → place_of left ≡ None → HasWrittenRows scan before text a b
all_listed a b scan left before text s over = (s.parts, all_parts scan left s.parts s.goes over, s.made, s.written)

-- ---- an addition

-- what is known where a value was seen
pub record Summed (a b : Handle) (key number value : ℕ) : Type 0 where
  pub es : List Entry
  pub goes : (rest : List Entry) (reply : Reply) → Adds key number (Some value) rest reply → Adds key number None (es ++ rest) reply
  pub made : HasMade (first_map_of a) (number_of_seat a) es (seen_by a) (seen_by b)

-- the entry that saw a value, and those behind it
saw : (key number value : ℕ) (seen : Option ℕ) (e : Entry) (rest : List Entry) (reply : Reply) → value_in e.reply ≡ Some value → Adds key number (Some value) rest reply
    → MatchOption (value_in e.reply) ((rest ≡ []) × (reply ≡ sum_reply seen e.reply)) (λ value. Adds key number (Some value) rest reply)
saw key number value seen e rest reply is adds = subst (λ (z : Option ℕ). MatchOption z ((rest ≡ []) × (reply ≡ sum_reply seen e.reply)) (λ value. Adds key number (Some value) rest reply)) (sym is) adds

-- the last one
saw_none : (key number : ℕ) (seen : Option ℕ) (e : Entry) → value_in e.reply ≡ None
    → MatchOption (value_in e.reply) ((◌≡◌ {A = List Entry} [] []) × (sum_reply seen e.reply ≡ sum_reply seen e.reply)) (λ value. Adds key number (Some value) [] (sum_reply seen e.reply))
saw_none key number seen e is = subst (λ (z : Option ℕ). MatchOption z ((◌≡◌ {A = List Entry} [] []) × (sum_reply seen e.reply ≡ sum_reply seen e.reply)) (λ value. Adds key number (Some value) [] (sum_reply seen e.reply))) (sym is) (refl, refl)

pub found_sum : (a b : Handle) (key number value : ℕ) (reply : Reply) → HasCalled (Find key) reply a b → Some value ≡ value_in reply → Summed a b key number value
found_sum a b key number value reply called is = let e : Entry = record { pass = number_of_seat a; op = Find key; reply = reply } in record {
  es = e ∷ [];
  goes = λ rest told adds. (refl, saw key number value None e rest told (sym is) adds);
  made = one_made (first_map_of a) (number_of_seat a) [] (Find key) reply (seen_by a) (seen_by a) (seen_by b) (none_made (first_map_of a) (number_of_seat a) (seen_by a)) called;
}

pub no_sum : (a b : Handle) (key number : ℕ) (reply : Reply) → HasCalled (Find key) reply a b → None ≡ value_in reply → HasAdded key number reply a b
no_sum a b key number reply called is = let e : Entry = record { pass = number_of_seat a; op = Find key; reply = reply } in (
  e ∷ [],
  (refl, saw_none key number None e (sym is)),
  one_made (first_map_of a) (number_of_seat a) [] (Find key) reply (seen_by a) (seen_by a) (seen_by b) (none_made (first_map_of a) (number_of_seat a) (seen_by a)) called,
)

pub other_sum : (a b c : Handle) (key number value other : ℕ) (reply : Reply) → IsSameHandle a b → Summed a b key number value → HasCalled (Change key value ((value + number) % 2 ^ 64)) reply b c → Some other ≡ value_in reply → Summed a c key number other
other_sum a b c key number value other reply same s called is =
    let op : Op = Change key value ((value + number) % 2 ^ 64) in let e : Entry = record { pass = number_of_seat a; op = op; reply = reply } in record {
      es = s.es ++ e ∷ [];
      goes = λ rest told adds. subst (λ (z : List Entry). Adds key number None z told) (sym (append_assoc s.es (e ∷ []) rest)) (s.goes (e ∷ rest) told (refl, saw key number other (Some value) e rest told (sym is) adds));
      made = one_made (first_map_of a) (number_of_seat a) s.es op reply (seen_by a) (seen_by b) (seen_by c) s.made (called_as a b c op reply same called);
    }

pub last_sum : (a b c : Handle) (key number value : ℕ) (reply told : Reply) → IsSameHandle a b → Summed a b key number value → HasCalled (Change key value ((value + number) % 2 ^ 64)) reply b c → None ≡ value_in reply
    → told ≡ sum_reply (Some value) reply → HasAdded key number told a c
last_sum a b c key number value reply told same s called is tells =
    let op : Op = Change key value ((value + number) % 2 ^ 64) in let e : Entry = record { pass = number_of_seat a; op = op; reply = reply } in
    subst (λ (z : Reply). HasAdded key number z a c) (sym tells) (
      s.es ++ e ∷ [],
      s.goes (e ∷ []) (sum_reply (Some value) reply) (refl, saw_none key number (Some value) e (sym is)),
      one_made (first_map_of a) (number_of_seat a) s.es op reply (seen_by a) (seen_by b) (seen_by c) s.made (called_as a b c op reply same called),
    )
