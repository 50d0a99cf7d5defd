-- Lines of the input, from their bytes and their answers.
use Rattle.std.proofs.Common.{◌≡◌, ◌≢◌, ◌⊎◌, ℕ, zero, suc, ◌+◌, ◌-◌, ◌%◌, ◌^◌, ◌<◌, ◌≤◌, true, false, List, [], ◌∷◌, ◌++◌, length, map, reverse, refl, sym, ap, ◌∙◌, subst, arith, ⊎_elim, inl, inr}
use Rattle.std.specs.Prelude.{◌↔◌, ◌&&◌, if◌then◌else◌, nat_le, nat_lt, All, Bool, Contains, Option, Some, None, flat_map, slice_index_or, sum_by, count_by, is_none, IsSome}
use Rattle.std.specs.List.{AllZip}
use Rattle.std.proofs.lemmas.Bool.{cases_eq}
use Rattle.std.proofs.lemmas.Bool.Decides.{nat_tests}
use Rattle.std.proofs.lemmas.Grind.{common_steps}
use Rattle.std.proofs.lemmas.List.Concat.{flat_map-cons}
use Rattle.std.proofs.lemmas.List.Elements.{All-nil, All-cons, All-head, All-tail}
use Rattle.bl_model.specs.declared.operation.Entry.{Entry}
use Rattle.bl_model.specs.declared.operation.Op.{Op}
use Rattle.bl_model.specs.declared.operation.Op.TheVariants.{Find, Insert, Put, Delete, Change, Part, PartDown}
use Rattle.bl_model.specs.declared.operation.Reply.{Reply}
use Rattle.bl_model.specs.declared.operation.Next.TheVariants.{More, End}
use Rattle.bl_model.specs.declared.operation.Reply.TheVariants.{Found, Absent, Present, Differs, Rows, NoRoom}
use Rattle.bl_serve_lines.specs.declared.listing.Listing.{Listing}
use Rattle.bl_serve_lines.specs.declared.listing.Listing.TheVariants as listing
use Rattle.bl_serve_lines.specs.declared.listing.Scan as scan
use Rattle.bl_serve_lines.specs.declared.listing.Until.{Until}
use Rattle.bl_serve_lines.specs.declared.listing.Until.TheVariants.{Top, Below, DownTo}
use Rattle.bl_serve_lines.specs.declared.listing.Tells.{Tells}
use Rattle.bl_serve_lines.specs.declared.listing.Tells.TheVariants as tells
use Rattle.bl_serve_lines.specs.declared.request.Request.{Request}
use Rattle.bl_serve_lines.specs.declared.request.Request.TheVariants.{Ask, Add, Scan, Save, Stat, Sync}
use Rattle.bl_model.specs.Map.{Map, MayAnswer, ListsPairs, map_step}
use Rattle.bl_model.specs.History.{IsLegalFrom, final_map}
use Rattle.bl_model.specs.Rows.{HasRisingKeys}
use Rattle.bl_model.proofs.Histories.{legal_append}
use Rattle.bl_serve_lines.specs.Lines.{Line, IsLine, Adds, Fits, Answer, Replied, Added, Scanned, Saved, Stated, Synced, Malformed, entries, answer_text, input_of, output_of}
use Rattle.bl_serve_lines.specs.Scans.{AreParts, is_before, key_above, key_below, less, limited, place_in, rows_before, scan_of, wants_more}
use Rattle.bl_serve_lines.specs.Text.{Means, Spells, numbered}
use Rattle.bl_serve_lines.specs.declared.serving.Sectioning.{Sectioning}
use Rattle.bl_serve_lines.specs.declared.serving.Sectioning.TheVariants.{BySync, AtMost}
use Rattle.bl_serve_lines.specs.Served.{Ends, IsShort, HasNoEnd, malformed_of, syncs_of}
use Rattle.bl_serve_worker.specs.Answering.{IsFor, answers_text}
use Rattle.bl_serve_worker.specs.Answering.IsFor.{Replies, Sums, Scans, Saves, States, Syncs, Refuses}
use Rattle.bl_serve_reading.specs.Reading.{IsReadAs, bytes_of, AsksEnd, AskNoEnd, AskEndLast}
use Rattle.bl_serve_reading.specs.Syncs.{is_sync}
use Rattle.bl_serve.proofs.Finite.{IsFinite, finite_step, finite_history}

abbrev pub lines_with : List (List ℕ) → List Answer → List Line
lines_with [] answers = []
lines_with (text ∷ texts) [] = []
lines_with (text ∷ texts) (answer ∷ answers) = record { bytes = text; answer = answer } ∷ lines_with texts answers

fits_one : {pages : ℕ × ℕ} {asked : Option Request} {answer : Answer} → IsFor pages asked answer → (bytes : List ℕ) → Means bytes asked → Fits pages bytes answer
fits_one (Replies entry) bytes m = m
fits_one (Sums key number es reply adds) bytes m = (m, adds)
fits_one (Scans asked parts are) bytes m = (m, are)
fits_one (Saves parts done are) bytes m = (m, are)
fits_one (States all used free room) bytes m = (m, room)
fits_one Syncs bytes m = m
fits_one Refuses bytes m = m

malformed_one : {pages : ℕ × ℕ} {asked : Option Request} {answer : Answer} → IsFor pages asked answer → malformed_of answer ≡ count_by is_none (asked ∷ [])
malformed_one (Replies entry) = refl
malformed_one (Sums key number es reply adds) = refl
malformed_one (Scans asked parts are) = refl
malformed_one (Saves parts done are) = refl
malformed_one (States all used free room) = refl
malformed_one Syncs = refl
malformed_one Refuses = refl

not_synced : {pages : ℕ × ℕ} {asked : Option Request} {answer : Answer} → IsFor pages asked answer → asked ≢ Some Sync → answer ≢ Synced
not_synced (Replies entry) other e = let no : ⊥ = cc in no
not_synced (Sums key number es reply adds) other e = let no : ⊥ = cc in no
not_synced (Scans asked parts are) other e = let no : ⊥ = cc in no
not_synced (Saves parts done are) other e = let no : ⊥ = cc in no
not_synced (States all used free room) other e = let no : ⊥ = cc in no
not_synced Syncs other e = other refl
not_synced Refuses other e = let no : ⊥ = cc in no

is_synced : {pages : ℕ × ℕ} {asked : Option Request} {answer : Answer} → IsFor pages asked answer → asked ≡ Some Sync → answer ≡ Synced
is_synced (Replies entry) e = let no : ⊥ = cc in absurd no
is_synced (Sums key number es reply adds) e = let no : ⊥ = cc in absurd no
is_synced (Scans asked parts are) e = let no : ⊥ = cc in absurd no
is_synced (Saves parts done are) e = let no : ⊥ = cc in absurd no
is_synced (States all used free room) e = let no : ⊥ = cc in absurd no
is_synced Syncs e = refl
is_synced Refuses e = let no : ⊥ = cc in absurd no

-- a line ends a section as its request does
answers_end : (how : Sectioning) (count : ℕ) {pages : ℕ × ℕ} {asked : Option Request} {answer : Answer} → IsFor pages asked answer → AsksEnd how count asked → Ends how count answer
answers_end BySync count f is = is_synced f is
answers_end (AtMost most) count f (inl is) = inl (is_synced f is)
answers_end (AtMost most) count f (inr many) = inr many

synced_one : {pages : ℕ × ℕ} {asked : Option Request} {answer : Answer} → IsFor pages asked answer → syncs_of answer ≡ count_by is_sync (asked ∷ [])
synced_one (Replies entry) = refl
synced_one (Sums key number es reply adds) = refl
synced_one (Scans asked parts are) = refl
synced_one (Saves parts done are) = refl
synced_one (States all used free room) = refl
synced_one Syncs = refl
synced_one Refuses = refl

count_cons : (test : Option Request → Bool) (a : Option Request) (l : List (Option Request)) → count_by test (a ∷ l) ≡ count_by test (a ∷ []) + count_by test l
count_cons test a l = grind (arith, common_steps)

-- what is known of the lines that were read and answered
pub record AreLines (pages : ℕ × ℕ) (asked : List (Option Request)) (texts : List (List ℕ)) (answers : List Answer) : Type 0 where
  pub good : All (IsLine pages) (lines_with texts answers)
  pub entries_are : map (λ line. entries line.answer) (lines_with texts answers) ≡ map entries answers
  pub all_entries : flat_map (λ line. entries line.answer) (lines_with texts answers) ≡ flat_map entries answers
  pub input : input_of (lines_with texts answers) ≡ bytes_of texts
  pub output : (n : ℕ) → answers_text n answers ≡ output_of n (lines_with texts answers)
  pub long : length (lines_with texts answers) ≡ length asked
  pub malformed : sum_by (λ line. malformed_of line.answer) (lines_with texts answers) ≡ count_by is_none asked
  pub syncs : sum_by (λ line. syncs_of line.answer) (lines_with texts answers) ≡ count_by is_sync asked

pub are_lines : (pages : ℕ × ℕ) (asked : List (Option Request)) (texts : List (List ℕ)) (answers : List Answer) → AllZip IsReadAs asked texts → AllZip (IsFor pages) asked answers → AreLines pages asked texts answers
are_lines pages [] [] [] h k = record { good = All-nil (IsLine pages); entries_are = refl; all_entries = refl; input = refl; output = λ n. refl; long = refl; malformed = refl; syncs = refl }
are_lines pages [] [] (answer ∷ answers) h k = absurd k
are_lines pages [] (text ∷ texts) answers h k = absurd h
are_lines pages (a ∷ asked) [] answers h k = absurd h
are_lines pages (a ∷ asked) (text ∷ texts) [] h k = absurd k
are_lines pages (a ∷ asked) (text ∷ texts) (answer ∷ answers) h k = let r = are_lines pages asked texts answers h.1 k.1 in let line : Line = record { bytes = text; answer = answer } in record {
  good = All-cons (IsLine pages) line (lines_with texts answers) (record { cut = h.0.cut; fits = fits_one k.0 text h.0.means }) r.good;
  entries_are = ap (λ (z : List (List Entry)). entries answer ∷ z) r.entries_are;
  all_entries = flat_map-cons (λ (l : Line). entries l.answer) line (lines_with texts answers) ∙ (ap (λ (z : List Entry). entries answer ++ z) r.all_entries ∙ sym (flat_map-cons entries answer answers));
  input = flat_map-cons (λ (l : Line). l.bytes ++ 10 ∷ []) line (lines_with texts answers) ∙ (ap (λ (z : List ℕ). (text ++ 10 ∷ []) ++ z) r.input ∙ sym (flat_map-cons (λ (t : List ℕ). t ++ 10 ∷ []) text texts));
  output = λ n. ap (λ (z : List ℕ). numbered n (answer_text answer) ++ z) (r.output (suc n));
  long = ap suc r.long;
  malformed = let one = malformed_one k.0 in let more = r.malformed in let c = count_cons is_none a asked in let f : Line → ℕ = λ x. malformed_of x.answer in
      let s : sum_by f (line ∷ lines_with texts answers) ≡ f line + sum_by f (lines_with texts answers) = grind (arith, common_steps) in omega (arith, one, more, c, s);
  syncs = let one = synced_one k.0 in let more = r.syncs in let c = count_cons is_sync a asked in let f : Line → ℕ = λ x. syncs_of x.answer in
      let s : sum_by f (line ∷ lines_with texts answers) ≡ f line + sum_by f (lines_with texts answers) = grind (arith, common_steps) in omega (arith, one, more, c, s);
}

no_sync_lines : (pages : ℕ × ℕ) (asked : List (Option Request)) (texts : List (List ℕ)) (answers : List Answer) → AllZip IsReadAs asked texts → AllZip (IsFor pages) asked answers → All (λ a. a ≢ Some Sync) asked → All (λ line. line.answer ≢ Synced) (lines_with texts answers)
no_sync_lines pages [] [] answers h k none = All-nil (λ line. line.answer ≢ Synced)
no_sync_lines pages [] (text ∷ texts) answers h k none = absurd h
no_sync_lines pages (a ∷ asked) [] answers h k none = absurd h
no_sync_lines pages (a ∷ asked) (text ∷ texts) [] h k none = absurd k
no_sync_lines pages (a ∷ asked) (text ∷ texts) (answer ∷ answers) h k none = All-cons (λ line. line.answer ≢ Synced) (record { bytes = text; answer = answer }) (lines_with texts answers)
    (not_synced k.0 (All-head (λ (z : Option Request). z ≢ Some Sync) a asked none)) (no_sync_lines pages asked texts answers h.1 k.1 (All-tail (λ (z : Option Request). z ≢ Some Sync) a asked none))

pub no_end_lines : (how : Sectioning) (pages : ℕ × ℕ) (asked : List (Option Request)) (texts : List (List ℕ)) (answers : List Answer) → AllZip IsReadAs asked texts → AllZip (IsFor pages) asked answers → AskNoEnd how asked → HasNoEnd how (lines_with texts answers)
no_end_lines how pages asked texts answers h k no_end = (no_sync_lines pages asked texts answers h k no_end.0, subst (IsShort how) (sym (are_lines pages asked texts answers h k).long) no_end.1)

-- the last line ends a section, and no other does
pub record EndsLast (how : Sectioning) (lines : List Line) : Type 0 where
  pub front : List Line
  pub end : Line
  pub ends : lines ≡ front ++ end ∷ []
  pub is_end : Ends how (length lines) end.answer
  pub no_end : HasNoEnd how front

-- the last line, and the others
record Parted (pages : ℕ × ℕ) (front : List (Option Request)) (last : Option Request) (lines : List Line) : Type 0 where
  first : List Line
  end : Line
  ends : lines ≡ first ++ end ∷ []
  long : length first ≡ length front
  fits : IsFor pages last end.answer
  none : All (λ a. a ≢ Some Sync) front → All (λ line. line.answer ≢ Synced) first

parted : (pages : ℕ × ℕ) (front : List (Option Request)) (last : Option Request) (texts : List (List ℕ)) (answers : List Answer) → AllZip IsReadAs (front ++ last ∷ []) texts → AllZip (IsFor pages) (front ++ last ∷ []) answers → Parted pages front last (lines_with texts answers)
parted pages [] last [] answers h k = absurd h
parted pages [] last (text ∷ texts) [] h k = absurd k
parted pages [] last (text ∷ []) (answer ∷ answers) h k = record { first = []; end = record { bytes = text; answer = answer }; ends = refl; long = refl; fits = k.0; none = λ _. All-nil (λ line. line.answer ≢ Synced) }
parted pages [] last (text ∷ next ∷ texts) (answer ∷ answers) h k = absurd h.1
parted pages (a ∷ front) last [] answers h k = absurd h
parted pages (a ∷ front) last (text ∷ texts) [] h k = absurd k
parted pages (a ∷ front) last (text ∷ texts) (answer ∷ answers) h k = let r = parted pages front last texts answers h.1 k.1 in let line : Line = record { bytes = text; answer = answer } in record {
  first = line ∷ r.first;
  end = r.end;
  ends = ap (λ (z : List Line). line ∷ z) r.ends;
  long = ap suc r.long;
  fits = r.fits;
  none = λ none. All-cons (λ line. line.answer ≢ Synced) line r.first (not_synced k.0 (All-head (λ (z : Option Request). z ≢ Some Sync) a front none)) (r.none (All-tail (λ (z : Option Request). z ≢ Some Sync) a front none));
}

pub end_lines : (how : Sectioning) (pages : ℕ × ℕ) (asked : List (Option Request)) (texts : List (List ℕ)) (answers : List Answer) → AllZip IsReadAs asked texts → AllZip (IsFor pages) asked answers → AskEndLast how asked → EndsLast how (lines_with texts answers)
end_lines how pages asked texts answers h k s =
    let p = parted pages s.front s.last texts answers (subst (λ (z : List (Option Request)). AllZip IsReadAs z texts) s.ends h) (subst (λ (z : List (Option Request)). AllZip (IsFor pages) z answers) s.ends k) in
    let long = (are_lines pages asked texts answers h k).long in record {
      front = p.first;
      end = p.end;
      ends = p.ends;
      is_end = answers_end how (length (lines_with texts answers)) p.fits (subst (λ (n : ℕ). AsksEnd how n s.last) (sym long) s.is_end);
      no_end = (p.none s.no_end.0, subst (IsShort how) (sym p.long) s.no_end.1);
    }

-- ---- answers that are lawful: lines that nobody answered have them too

some_reply : (m : Map) (bytes : List ℕ) (op : Op) → Spells bytes (Ask op) → (r : Reply) × MayAnswer m op r
some_reply m bytes (Find key) a = go (m key) refl
  where
    go : (o : Option ℕ) → m key ≡ o → (r : Reply) × MayAnswer m (Find key) r
    go (Some v) is = (Found v, is)
    go None is = (Absent, is)
some_reply m bytes (Insert key value) a = go (m key) refl
  where
    go : (o : Option ℕ) → m key ≡ o → (r : Reply) × MayAnswer m (Insert key value) r
    go (Some v) is = (Present v, is)
    go None is = (NoRoom, is)
some_reply m bytes (Put key value) a = (NoRoom, tt)
some_reply m bytes (Delete key) a = go (m key) refl
  where
    go : (o : Option ℕ) → m key ≡ o → (r : Reply) × MayAnswer m (Delete key) r
    go (Some v) is = (NoRoom, subst IsSome (sym is) refl)
    go None is = (Absent, is)
some_reply m bytes (Change key old new) a = go (m key) refl
  where
    go : (o : Option ℕ) → m key ≡ o → (r : Reply) × MayAnswer m (Change key old new) r
    go (Some v) is = elim (cases_eq v old) [
      | inl same ↦ (NoRoom, is ∙ ap Some same)
      | inr other ↦ (Differs v, (is, other))
    ]
    go None is = (Absent, is)
some_reply m bytes (Part from) a = absurd a
some_reply m bytes (PartDown from) a = absurd a

-- a row alone, if the map has the key
abbrev one_row : ℕ → Option ℕ → List (ℕ × ℕ)
one_row key (Some value) = (key, value) ∷ []
one_row key None = []

one_rises : (key : ℕ) (there : Option ℕ) → HasRisingKeys (one_row key there)
one_rises key (Some value) i j low within = absurd (omega (arith, low, within))
one_rises key None i j low within = let short : length (one_row key None) ≡ 0 = refl in absurd (omega (arith, low, within, short))

one_pair : (m : Map) (at : ℕ) (there : Option ℕ) → m at ≡ there → (key value : ℕ) → Contains (one_row at there) (key, value) ↔ ((m key ≡ Some value) × ((at ≤ key) × (key < suc at)))
one_pair m at (Some v) is key value = (
  (λ (k, low, same). let first : k ≡ 0 = omega (arith, low) in let pair : ◌≡◌ {A = ℕ × ℕ} (at, v) (key, value) = subst (λ (z : ℕ). slice_index_or ((at, v) ∷ []) z (key, value) ≡ (key, value)) first same in
      let e : at ≡ key = ap (λ (z : ℕ × ℕ). z.0) pair in let w : v ≡ value = ap (λ (z : ℕ × ℕ). z.1) pair in
      (ap m (sym e) ∙ (is ∙ ap Some w), (omega (arith, e), omega (arith, e)))),
  (λ (has, (low, high)). let e : at ≡ key = omega (arith, low, high) in let w : v ≡ value = let s : Some v ≡ Some value = sym is ∙ (ap m e ∙ has) in cc in
      (0, omega arith, ap (λ (z : ℕ). (z, v)) e ∙ ap (λ (z : ℕ). (key, z)) w)),
)
one_pair m at None is key value = (
  (λ (k, low, same). let short : length (one_row at None) ≡ 0 = refl in absurd (omega (arith, low, short))),
  (λ (has, (low, high)). let e : at ≡ key = omega (arith, low, high) in let no : None ≡ Some value = sym is ∙ (ap m e ∙ has) in let never : ⊥ = cc in absurd never),
)

one_part : (m : Map) (at : ℕ) → MayAnswer m (Part at) (Rows (record { items = one_row at (m at) }) (More (suc at)))
one_part m at = (omega arith, record { rising = one_rises at (m at); pairs = one_pair m at (m at) refl })

-- none, where the map has no key from there on
no_part : (m : Map) (at : ℕ) → ((key : ℕ) → at ≤ key → m key ≡ None) → MayAnswer m (Part at) (Rows (record { items = [] }) End)
no_part m at none = record {
  rising = λ i j low within. absurd (omega (arith, low, within));
  pairs = λ key value. (
    λ c. absurd (let within = c.1 in omega (arith, within)),
    λ is. let gone = none key is.1 in let there = is.0 in let never : ⊥ = cc in absurd never,
  );
}

-- the same downwards
reversed_one : (at : ℕ) (there : Option ℕ) → reverse (one_row at there) ≡ one_row at there
reversed_one at (Some value) = refl
reversed_one at None = refl

one_part_down : (m : Map) (at : ℕ) → MayAnswer m (PartDown (suc at)) (Rows (record { items = one_row (suc at) (m (suc at)) }) (More at))
one_part_down m at = (
  omega arith,
  subst (ListsPairs m (λ key. (at < key) × (key ≤ suc at))) (sym (reversed_one (suc at) (m (suc at)))) (record {
    rising = one_rises (suc at) (m (suc at));
    pairs = λ key value. let both = one_pair m (suc at) (m (suc at)) refl key value in (
      λ c. let is = both.0 c in (is.0, (let low = is.1.0 in omega arith, let high = is.1.1 in omega arith)),
      λ is. both.1 (is.0, (let low = is.1.0 in omega arith, let high = is.1.1 in omega arith)),
    );
  }),
)

last_part_down : (m : Map) → MayAnswer m (PartDown 0) (Rows (record { items = one_row 0 (m 0) }) End)
last_part_down m = subst (ListsPairs m (λ key. key ≤ 0)) (sym (reversed_one 0 (m 0))) (record {
  rising = one_rises 0 (m 0);
  pairs = λ key value. let both = one_pair m 0 (m 0) refl key value in (
    λ c. let is = both.0 c in (is.0, let high = is.1.1 in omega arith),
    λ is. both.1 (is.0, (omega arith, let high = is.1 in omega arith)),
  );
})

-- parts of one key each
pub record LawfulParts (m : Map) (its : scan.Scan) : Type 0 where
  pub parts : List Entry
  pub are : AreParts its parts
  pub legal : IsLegalFrom m parts

cases_bool : (b : Bool) → (b ≡ true) ⊎ (b ≡ false)
cases_bool true = inl refl
cases_bool false = inr refl

-- where the scan does not go on, there is none
parts_none : (m : Map) (until : Until) (tells : Tells) (from : ℕ) → (is_before until from && wants_more tells) ≡ false → LawfulParts m (record { from = Some from; until = until; tells = tells })
parts_none m until tells from fails = record { parts = []; are = ap (λ (b : Bool). if b then Some from else None) fails; legal = tt }

goes_there : (until : Until) (tells : Tells) (from : ℕ) → (is_before until from && wants_more tells) ≡ true → place_in until tells (Some from) ≡ Some from
goes_there until tells from holds = ap (λ (b : Bool). if b then Some from else None) holds

not_behind : (low high : ℕ) (wanted : Bool) → high ≤ low → (nat_lt low high && wanted) ≡ true → ⊥
not_behind low high wanted over holds = let test : nat_lt low high ≡ false = grind (arith, nat_tests, over) in let fails : false ≡ true = sym (ap (λ (b : Bool). b && wanted) test) ∙ holds in let never : ⊥ = cc in never

abbrev row_reply : Map → ℕ → Reply
row_reply m low = Rows (record { items = one_row low (m low) }) (More (suc low))

parts_below : (m : Map) (n : ℕ) (tells : Tells) (low high : ℕ) → high ≤ low + n → LawfulParts m (record { from = Some low; until = Below high; tells = tells })
parts_below m zero tells low high within = ⊎_elim
    (λ (holds : (nat_lt low high && wants_more tells) ≡ true). absurd (not_behind low high (wants_more tells) (omega (arith, within)) holds))
    (λ (fails : (nat_lt low high && wants_more tells) ≡ false). parts_none m (Below high) tells low fails)
    (cases_bool (nat_lt low high && wants_more tells))
parts_below m (suc n) tells low high within = ⊎_elim
    (λ (holds : (nat_lt low high && wants_more tells) ≡ true).
    let r = parts_below m n (less tells (length (rows_before (Below high) (one_row low (m low))))) (suc low) high (omega (arith, within)) in record {
      parts = record { pass = 0; op = Part low; reply = row_reply m low } ∷ r.parts;
      are = (low, goes_there (Below high) tells low holds, refl, r.are);
      legal = (one_part m low, r.legal);
    })
    (λ (fails : (nat_lt low high && wants_more tells) ≡ false). parts_none m (Below high) tells low fails)
    (cases_bool (nat_lt low high && wants_more tells))

-- up to the end of the map, behind which a part has fails row
parts_up : (m : Map) (f : IsFinite m) (n : ℕ) (tells : Tells) (low : ℕ) → f.0 ≤ low + n → LawfulParts m (record { from = Some low; until = Top; tells = tells })
parts_up m f zero tells low within = ⊎_elim
    (λ (holds : (true && wants_more tells) ≡ true). record {
      parts = record { pass = 0; op = Part low; reply = Rows (record { items = [] }) End } ∷ [];
      are = (low, goes_there Top tells low holds, refl, refl);
      legal = (no_part m low (λ key least. f.1 key (omega (arith, within, least))), tt);
    })
    (λ (fails : (true && wants_more tells) ≡ false). parts_none m Top tells low fails)
    (cases_bool (true && wants_more tells))
parts_up m f (suc n) tells low within = ⊎_elim
    (λ (holds : (true && wants_more tells) ≡ true). let r = parts_up m f n (less tells (length (rows_before Top (one_row low (m low))))) (suc low) (omega (arith, within)) in record {
      parts = record { pass = 0; op = Part low; reply = row_reply m low } ∷ r.parts;
      are = (low, goes_there Top tells low holds, refl, r.are);
      legal = (one_part m low, r.legal);
    })
    (λ (fails : (true && wants_more tells) ≡ false). parts_none m Top tells low fails)
    (cases_bool (true && wants_more tells))

-- and downwards
parts_down : (m : Map) (tells : Tells) (from low : ℕ) → LawfulParts m (record { from = Some from; until = DownTo low; tells = tells })
parts_down m tells zero low = ⊎_elim
    (λ (holds : (nat_le low 0 && wants_more tells) ≡ true). record {
      parts = record { pass = 0; op = PartDown 0; reply = Rows (record { items = one_row 0 (m 0) }) End } ∷ [];
      are = (0, goes_there (DownTo low) tells 0 holds, refl, refl);
      legal = (last_part_down m, tt);
    })
    (λ (fails : (nat_le low 0 && wants_more tells) ≡ false). parts_none m (DownTo low) tells 0 fails)
    (cases_bool (nat_le low 0 && wants_more tells))
parts_down m tells (suc at) low = ⊎_elim
    (λ (holds : (nat_le low (suc at) && wants_more tells) ≡ true). let r = parts_down m (less tells (length (rows_before (DownTo low) (one_row (suc at) (m (suc at)))))) at low in record {
      parts = record { pass = 0; op = PartDown (suc at); reply = Rows (record { items = one_row (suc at) (m (suc at)) }) (More at) } ∷ r.parts;
      are = (suc at, goes_there (DownTo low) tells (suc at) holds, refl, r.are);
      legal = (one_part_down m at, r.legal);
    })
    (λ (fails : (nat_le low (suc at) && wants_more tells) ≡ false). parts_none m (DownTo low) tells (suc at) fails)
    (cases_bool (nat_le low (suc at) && wants_more tells))

lawful_scan : (m : Map) → IsFinite m → (from : Option ℕ) (until : Until) (tells : Tells) → LawfulParts m (record { from = from; until = until; tells = tells })
lawful_scan m f None until tells = record { parts = []; are = refl; legal = tt }
lawful_scan m f (Some from) Top tells = parts_up m f f.0 tells from (omega arith)
lawful_scan m f (Some from) (Below high) tells = parts_below m high tells from high (omega arith)
lawful_scan m f (Some from) (DownTo low) tells = parts_down m tells from low

lawful_listing : (m : Map) → IsFinite m → (asked : Listing) → LawfulParts m (scan_of asked)
lawful_listing m f (listing.Scan low high limit) = lawful_scan m f (Some low) (Below high) (limited limit)
lawful_listing m f (listing.ScanFrom low limit) = lawful_scan m f (Some low) Top (limited limit)
lawful_listing m f (listing.ScanDown low high limit) = lawful_scan m f (key_below high) (DownTo low) (limited limit)
lawful_listing m f (listing.ScanDownFrom high limit) = lawful_scan m f (Some high) (DownTo 0) (limited limit)
lawful_listing m f listing.First = lawful_scan m f (Some 0) Top (tells.First 1)
lawful_listing m f listing.Last = lawful_scan m f (Some (2 ^ 64 - 1)) (DownTo 0) (tells.First 1)
lawful_listing m f (listing.Next key) = lawful_scan m f (key_above key) Top (tells.First 1)
lawful_listing m f (listing.Previous key) = lawful_scan m f (key_below key) (DownTo 0) (tells.First 1)
lawful_listing m f (listing.Count low high) = lawful_scan m f (Some low) (Below high) tells.Count

-- an addition that finds no room, or nothing
pub record LawfulSum (m : Map) (key number : ℕ) : Type 0 where
  pub es : List Entry
  pub reply : Reply
  pub adds : Adds key number None es reply
  pub legal : IsLegalFrom m es

lawful_sum : (m : Map) (key number : ℕ) → LawfulSum m key number
lawful_sum m key number = go (m key) refl
  where
    go : (o : Option ℕ) → m key ≡ o → LawfulSum m key number
    go None is = record { es = record { pass = 0; op = Find key; reply = Absent } ∷ []; reply = Absent; adds = (refl, (refl, refl)); legal = (is, tt) }
    go (Some value) is = record {
      es = record { pass = 0; op = Find key; reply = Found value } ∷ record { pass = 0; op = Change key value ((value + number) % 2 ^ 64); reply = NoRoom } ∷ [];
      reply = NoRoom;
      adds = (refl, (refl, (refl, refl)));
      legal = (is, (is, tt));
    }

pub record Lawful (pages : ℕ × ℕ) (m : Map) (asked : List (Option Request)) : Type 0 where
  pub answers : List Answer
  pub each : AllZip (IsFor pages) asked answers
  pub legal : IsLegalFrom m (flat_map entries answers)

pub lawful : (pages : ℕ × ℕ) → pages.0 ≤ pages.1 → (m : Map) → IsFinite m → (asked : List (Option Request)) (texts : List (List ℕ)) → AllZip IsReadAs asked texts → Lawful pages m asked
lawful pages some m f [] texts h = record { answers = []; each = tt; legal = tt }
lawful pages some m f (a ∷ asked) [] h = absurd h
lawful pages some m f (None ∷ asked) (text ∷ texts) h = let r = lawful pages some m f asked texts h.1 in record { answers = Malformed ∷ r.answers; each = (Refuses, r.each); legal = r.legal }
lawful pages some m f (Some Save ∷ asked) (text ∷ texts) h = let p = lawful_listing m f (listing.ScanFrom 0 None) in let r = lawful pages some (final_map m p.parts) (finite_history m p.parts f) asked texts h.1 in
    record { answers = Saved p.parts false ∷ r.answers; each = (Saves p.parts false p.are, r.each); legal = legal_append m p.parts (flat_map entries r.answers) p.legal r.legal }
lawful pages some m f (Some Stat ∷ asked) (text ∷ texts) h = let r = lawful pages some m f asked texts h.1 in record { answers = Stated pages.0 0 0 ∷ r.answers; each = (States pages.0 0 0 (omega arith, some, omega arith), r.each); legal = r.legal }
lawful pages some m f (Some Sync ∷ asked) (text ∷ texts) h = let r = lawful pages some m f asked texts h.1 in record { answers = Synced ∷ r.answers; each = (Syncs, r.each); legal = r.legal }
lawful pages some m f (Some (Ask op) ∷ asked) (text ∷ texts) h = let one = some_reply m text op h.0.means in let e : Entry = record { pass = 0; op = op; reply = one.0 } in
    let r = lawful pages some (map_step op one.0 m) (finite_step op one.0 m f) asked texts h.1 in record { answers = Replied e ∷ r.answers; each = (Replies e, r.each); legal = (one.1, r.legal) }
lawful pages some m f (Some (Add key number) ∷ asked) (text ∷ texts) h = let p = lawful_sum m key number in let r = lawful pages some (final_map m p.es) (finite_history m p.es f) asked texts h.1 in
    record { answers = Added key number p.es p.reply ∷ r.answers; each = (Sums key number p.es p.reply p.adds, r.each); legal = legal_append m p.es (flat_map entries r.answers) p.legal r.legal }
lawful pages some m f (Some (Scan its) ∷ asked) (text ∷ texts) h = let p = lawful_listing m f its in let r = lawful pages some (final_map m p.parts) (finite_history m p.parts f) asked texts h.1 in
    record { answers = Scanned its p.parts ∷ r.answers; each = (Scans its p.parts p.are, r.each); legal = legal_append m p.parts (flat_map entries r.answers) p.legal r.legal }
