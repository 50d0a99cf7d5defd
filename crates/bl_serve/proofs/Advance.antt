-- How far the server has come: finished sections, and what all passes have seen.
use Rattle.std.proofs.Common.{◌≡◌, ◌≢◌, ℕ, suc, ◌+◌, ◌<◌, ◌≤◌, List, [], ◌∷◌, ◌++◌, length, map, refl, sym, ap, ◌∙◌, subst, append_assoc, append-nil, arith, length-append}
use Rattle.std.specs.Prelude.{All, Option, flat_map, sum_by}
use Rattle.std.proofs.lemmas.List.{flat_map_more}
use Rattle.std.proofs.lemmas.List.Sums.{sum_by-append}
use Rattle.std.proofs.lemmas.List.Concat.{flat_map-cons, flat_map-append}
use Rattle.std.proofs.lemmas.List.Elements.{All-nil, All-cons, All-append}
use Rattle.bl_model.specs.declared.operation.Entry.{Entry}
use Rattle.bl_serve_lines.specs.declared.request.Request.{Request}
use Rattle.bl_serve_lines.specs.declared.serving.Sectioning.{Sectioning}
use Rattle.bl_serve_lines.specs.declared.serving.ServeFault.{ServeFault}
use Rattle.bl_serve_lines.specs.declared.serving.ServeFault.TheVariants.{Read, Write}
use Rattle.bl_serve_lines.specs.declared.serving.Totals.{Totals}
use Rattle.bl_serve_worker.proofs.Lines.{history_append}
use Rattle.bl_serve_reading.specs.declared.section_reader.SectionEnd.{SectionEnd}
use Rattle.bl_serve_reading.specs.declared.section_reader.SectionEnd.TheVariants as section_end
use Rattle.bl_model.specs.History.{IsLegalFrom, final_map}
use Rattle.bl_model.proofs.Histories.{legal_append, legal_rest}
use Rattle.bl_serve_lines.specs.Lines.{Line, IsLine, Answer, entries, input_of, output_of, rest_text, text_of, HasNoLf}
use Rattle.bl_serve_lines.specs.Served.{Section, IsSection, IsFinished, HasNoEndInside, Interleaves, on_key, lines_of, malformed_of, syncs_of, one_if_any, Served, Stopped, Stops, Leaves, ComesFrom}
use Rattle.bl_serve_lines.specs.Served.Interleaves.{Done, Takes}
use Rattle.bl_serve_lines.specs.Served as served
use Rattle.bl_serve_reading.specs.Reading.{AskNoEnd, AskEndLast, ReadsLines}
use Rattle.bl_serve.specs.Sections.{rests, end_text, CountsSection, Held}
use Rattle.bl_serve.specs.Serving.{ServedBy}
use Rattle.bl_page.specs.declared.page.Page.{Page}
use Rattle.bl_claims.specs.Trails.{Trail, history_of}
use Rattle.bl_claims.specs.Seeing.{first_map, rows_in}
use Rattle.bl_index.specs.Calls.{map_after}
use Rattle.bl_serve_lines.proofs.Sections.{output_append, no_end_inside, no_end_any, no_end_none}
use Rattle.bl_serve.proofs.Finite.{finite_rows, finite_history}
use Rattle.bl_serve.proofs.Spelled.{lines_with, AreLines, are_lines, no_end_lines, end_lines, lawful}

-- a section that was answered: its lines and its part of the history
abbrev pub section_of : List Line → Trail → Section
section_of lines more = record { lines = lines; history = history_of more }

lines_more : (s : List Section) (t : Section) → lines_of (s ++ t ∷ []) ≡ lines_of s ++ t.lines
lines_more s t = sym (flat_map_more (λ x. x.lines) [] s t)

history_more : (s : List Section) (t : Section) → served.history_of (s ++ t ∷ []) ≡ served.history_of s ++ t.history
history_more s t = sym (flat_map_more (λ x. x.history) [] s t)

pub input_append : (xs ys : List Line) → input_of (xs ++ ys) ≡ input_of xs ++ input_of ys
input_append xs ys = flat_map-append (λ l. l.bytes ++ 10 ∷ []) xs ys

-- the finished sections, which began where the passes had seen old and have led to now
pub record Progress (how : Sectioning) (pages : ℕ × ℕ) (old now : Trail) (totals : Totals) (input output : List ℕ) : Type 0 where
  pub sections : List Section
  pub more : Trail
  pub begins : now ≡ old ++ more
  pub each : All (IsFinished how pages) sections
  pub history : history_of more ≡ served.history_of sections
  pub read : input ≡ input_of (lines_of sections)
  pub written : output ≡ output_of 1 (lines_of sections)
  pub requests : totals.requests ≡ length (lines_of sections)
  pub malformed : totals.malformed ≡ sum_by (λ line. malformed_of line.answer) (lines_of sections)
  pub syncs : totals.sections ≡ sum_by (λ line. syncs_of line.answer) (lines_of sections)

pub no_progress : (how : Sectioning) (pages : ℕ × ℕ) (old : Trail) (totals : Totals) → (totals.requests ≡ 0) × (totals.malformed ≡ 0) × (totals.sections ≡ 0) → Progress how pages old old totals [] []
no_progress how pages old totals none = record { sections = []; more = []; begins = sym (append-nil old); each = All-nil (IsFinished how pages); history = refl; read = refl; written = refl; requests = none.0; malformed = none.1; syncs = none.2 }

-- a history goes on lawfully behind the one that was seen
pub legal_on : (first : List (Option Page)) (old now more : Trail) (h : List Entry) → IsLegalFrom (first_map first) (history_of (now ++ more)) → (begun : Trail) → now ≡ old ++ begun → history_of begun ≡ h → IsLegalFrom (map_after first old) (h ++ history_of more)
legal_on first old now more h seen begun is same =
    subst (λ (z : List Entry). IsLegalFrom (map_after first old) (z ++ history_of more)) same
    (legal_rest (first_map first) (history_of old) (history_of begun ++ history_of more)
    (subst (IsLegalFrom (first_map first)) (history_append now more ∙ (ap (λ (z : Trail). history_of z ++ history_of more) is ∙ (ap (λ (z : List Entry). z ++ history_of more) (history_append old begun) ∙ append_assoc (history_of old) (history_of begun) (history_of more)))) seen))

pub legal_so_far : (first : List (Option Page)) (old now : Trail) (h : List Entry) → IsLegalFrom (first_map first) (history_of now) → (begun : Trail) → now ≡ old ++ begun → history_of begun ≡ h → IsLegalFrom (map_after first old) h
legal_so_far first old now h seen begun is same = subst (IsLegalFrom (map_after first old)) same
    (legal_rest (first_map first) (history_of old) (history_of begun) (subst (IsLegalFrom (first_map first)) (ap history_of is ∙ history_append old begun) seen))

-- ---- a section

module _ (pages : ℕ × ℕ) (unread left : List ℕ) (asked : List (Option Request)) (rest : List ℕ) (r : ReadsLines unread left asked rest) (done : ℕ) (text : List ℕ) (more : Trail) (h : Held pages done asked text more) where
  abbrev pub the_lines : List Line
  the_lines = lines_with r.texts h.answers

  pub the_are : AreLines pages asked r.texts h.answers
  the_are = are_lines pages asked r.texts h.answers r.each h.each

  pub whole_section : IsSection pages (section_of the_lines more)
  whole_section = record { lines = the_are.good; history = subst (λ (z : List (List Entry)). Interleaves z (history_of more)) (sym the_are.entries_are) h.interleaves; order = λ key. h.order key ∙ ap (on_key key) (sym the_are.all_entries) }

  pub read_is : unread ≡ input_of the_lines ++ rest ++ left
  read_is = r.read ∙ ap (λ (z : List ℕ). z ++ rest ++ left) (sym the_are.input)

  pub text_is : text ≡ output_of (suc done) the_lines
  text_is = h.prints ∙ the_are.output (suc done)

-- the output of the finished sections and the open one
written_more : (s : List Section) (lines : List Line) (n : ℕ) (output text : List ℕ) → output ≡ output_of 1 (lines_of s) → n ≡ length (lines_of s) → text ≡ output_of (suc n) lines → output ++ text ≡ output_of 1 (lines_of s ++ lines)
written_more s lines n output text is at e = ap (λ x. x ++ text) is ∙ ap (λ x. output_of 1 (lines_of s) ++ x) e
    ∙ ap (λ k. output_of 1 (lines_of s) ++ output_of k lines) (let same : suc n ≡ 1 + length (lines_of s) = omega (arith, at) in same) ∙ sym (output_append 1 (lines_of s) lines)

pub add_section : (how : Sectioning) (pages : ℕ × ℕ) (old now : Trail) (before totals : Totals) (input output unread left text : List ℕ) (asked : List (Option Request)) (more : Trail)
    → Progress how pages old now before input output → ReadsLines unread left asked [] → AskEndLast how asked → Held pages before.requests asked text more → CountsSection before totals asked section_end.ByLine
    → (consumed : List ℕ) × (unread ≡ consumed ++ left) × Progress how pages old (now ++ more) totals (input ++ consumed) (output ++ text)
add_section how pages old now before totals input output unread left text asked more p r last h counts =
    let lines : List Line = the_lines pages unread left asked [] r before.requests text more h in
    let are = the_are pages unread left asked [] r before.requests text more h in
    let section : Section = section_of lines more in
    let end = end_lines how pages asked r.texts h.answers r.each h.each last in
    let finished : IsFinished how pages section = record { front = end.front; end = end.end; lines = end.ends; last = end.is_end; no_end = end.no_end; whole = whole_section pages unread left asked [] r before.requests text more h } in
    let s = p.sections in (
      input_of lines,
      read_is pages unread left asked [] r before.requests text more h ∙ ap (λ (z : List ℕ). z ++ left) (append-nil (input_of lines)),
      record {
        sections = s ++ section ∷ [];
        more = p.more ++ more;
        begins = ap (λ (z : Trail). z ++ more) p.begins ∙ append_assoc old p.more more;
        each = All-append (IsFinished how pages) s (section ∷ []) p.each (All-cons (IsFinished how pages) section [] finished (All-nil (IsFinished how pages)));
        history = history_append p.more more ∙ (ap (λ (z : List Entry). z ++ history_of more) p.history ∙ sym (history_more s section));
        read = ap (λ t. t ++ input_of lines) p.read ∙ sym (input_append (lines_of s) lines) ∙ ap input_of (sym (lines_more s section));
        written = written_more s lines before.requests output text p.written p.requests (text_is pages unread left asked [] r before.requests text more h) ∙ ap (output_of 1) (sym (lines_more s section));
        requests = let a = length-append (lines_of s) lines in let b : length (lines_of (s ++ section ∷ [])) ≡ length (lines_of s ++ lines) = ap length (lines_more s section) in
            let c = p.requests in let d = counts.requests in let e = are.long in omega (arith, a, b, c, d, e);
        malformed = let f : Line → ℕ = λ x. malformed_of x.answer in let a = sum_by-append f (lines_of s) lines in let b : sum_by f (lines_of (s ++ section ∷ [])) ≡ sum_by f (lines_of s ++ lines) = ap (sum_by f) (lines_more s section) in
            let c = p.malformed in let d = counts.malformed in let e = are.malformed in omega (arith, a, b, c, d, e);
        syncs = let f : Line → ℕ = λ x. syncs_of x.answer in let a = sum_by-append f (lines_of s) lines in let b : sum_by f (lines_of (s ++ section ∷ [])) ≡ sum_by f (lines_of s ++ lines) = ap (sum_by f) (lines_more s section) in
            let c = p.syncs in let d = counts.sections in let e = are.syncs in omega (arith, a, b, c, d, e);
      },
    )

-- ---- the ends

numbers_more : (s : List Section) (lines : List Line) (n k : ℕ) → n ≡ length (lines_of s) → length lines ≡ k → n + k + 1 ≡ 1 + length (lines_of s ++ lines)
numbers_more s lines n k e long = let a = length-append (lines_of s) lines in omega (arith, a, e, long)

-- the input has ended
pub record EndsWith (end : SectionEnd) (rest : List ℕ) : Type 0 where
  pub one : rests end ≡ one_if_any rest
  pub prints : (n : ℕ) → end_text end n ≡ rest_text n rest

pub ends_rest : (rest : List ℕ) → 0 < length rest → EndsWith section_end.Rest rest
ends_rest [] some = absurd (omega arith)
ends_rest (b ∷ rest) some = record { one = refl; prints = λ n. refl }

pub ends_finished : (rest : List ℕ) → rest ≡ [] → EndsWith section_end.Finished rest
ends_finished [] is = record { one = refl; prints = λ n. refl }
ends_finished (b ∷ rest) is = absurd (let no : ⊥ = cc in no)

pub open_text : (s : List Section) (lines : List Line) (rest text tail : List ℕ) (n k : ℕ) → n ≡ length (lines_of s) → length lines ≡ k → text ≡ output_of (suc n) lines → tail ≡ rest_text (n + k + 1) rest
    → text ++ tail ≡ text_of (suc (length (lines_of s))) lines rest
open_text s lines rest text tail n k e long is ends = ap (λ (z : List ℕ). z ++ tail) is ∙ (ap (λ (z : List ℕ). output_of (suc n) lines ++ z) ends
    ∙ (ap (λ (z : ℕ). output_of (suc z) lines ++ rest_text (n + k + 1) rest) e ∙ ap (λ (z : ℕ). output_of (suc (length (lines_of s))) lines ++ rest_text z rest) (let at : n + k + 1 ≡ suc (length (lines_of s)) + length lines = omega (arith, e, long) in at)))

pub serves_end : (how : Sectioning) (pages : ℕ × ℕ) (first : List (Option Page)) (old now : Trail) (before totals : Totals) (input output unread left text rest : List ℕ) (asked : List (Option Request)) (more : Trail) (end : SectionEnd)
    → Progress how pages old now before input output → ReadsLines unread left asked rest → AskNoEnd how asked → Held pages before.requests asked text more → CountsSection before totals asked end → EndsWith end rest → IsLegalFrom (first_map first) (history_of (now ++ more))
    → (consumed : List ℕ) × (unread ≡ consumed ++ left) × (length asked + length rest ≤ length consumed) × ServedBy how pages first old (now ++ more) (input ++ consumed) (output ++ (text ++ end_text end (before.requests + length asked + 1))) totals
serves_end how pages first old now before totals input output unread left text rest asked more end p r no_end h counts ends seen =
    let lines : List Line = the_lines pages unread left asked rest r before.requests text more h in
    let are = the_are pages unread left asked rest r before.requests text more h in
    let s = p.sections in let n : ℕ = before.requests + length asked + 1 in
    let at : n ≡ 1 + length (lines_of s ++ lines) = numbers_more s lines before.requests (length asked) p.requests are.long in
    let serves : Served how pages (map_after first old) (input ++ (input_of lines ++ rest)) (output ++ (text ++ end_text end n)) totals = record {
      sections = s;
      last = section_of lines more;
      rest = rest;
      each = p.each;
      whole = whole_section pages unread left asked rest r before.requests text more h;
      no_end = no_end_lines how pages asked r.texts h.answers r.each h.each no_end;
      cut = r.cut;
      legal = legal_on first old now more (served.history_of s) seen p.more p.begins p.history;
      read = ap (λ t. t ++ (input_of lines ++ rest)) p.read ∙ sym (append_assoc (input_of (lines_of s)) (input_of lines) rest) ∙ ap (λ t. t ++ rest) (sym (input_append (lines_of s) lines));
      written = sym (append_assoc output text (end_text end n)) ∙ (ap (λ t. t ++ end_text end n) (written_more s lines before.requests output text p.written p.requests (text_is pages unread left asked rest r before.requests text more h))
          ∙ (ap (λ t. output_of 1 (lines_of s ++ lines) ++ t) (ends.prints n) ∙ ap (λ (z : ℕ). output_of 1 (lines_of s ++ lines) ++ rest_text z rest) at));
      requests = let a = length-append (lines_of s) lines in let b = are.long in let c = p.requests in let d = counts.requests in let e = ends.one in omega (arith, a, b, c, d, e);
      malformed = let f : Line → ℕ = λ x. malformed_of x.answer in let a = sum_by-append f (lines_of s) lines in let b = are.malformed in let c = p.malformed in let d = counts.malformed in let e = ends.one in omega (arith, a, b, c, d, e);
      syncs = let f : Line → ℕ = λ x. syncs_of x.answer in let a = sum_by-append f (lines_of s) lines in let b = are.syncs in let c = p.syncs in let d = counts.sections in omega (arith, a, b, c, d);
    } in (
      input_of lines ++ rest,
      read_is pages unread left asked rest r before.requests text more h,
      (let a = lines_short lines in let b = are.long in let c = length-append (input_of lines) rest in omega (arith, a, b, c)),
      record {
        served = serves;
        more = p.more ++ more;
        begins = ap (λ (z : Trail). z ++ more) p.begins ∙ append_assoc old p.more more;
        history = history_append p.more more ∙ ap (λ (z : List Entry). z ++ history_of more) p.history;
      },
    )
  where
    lines_short : (lines : List Line) → length lines ≤ length (input_of lines)
    lines_short [] = omega arith
    lines_short (line ∷ lines) = let e = ap length (flat_map-cons (λ (l : Line). l.bytes ++ 10 ∷ []) line lines) in
        let a = length-append (line.bytes ++ 10 ∷ []) (input_of lines) in let lf : List ℕ = 10 ∷ [] in let b = length-append line.bytes lf in let c : length lf ≡ 1 = refl in
        let d = lines_short lines in omega (arith, a, b, c, d, e)

-- ---- faults

-- in the open section: nothing of it is written
pub stops_inside : (how : Sectioning) (pages : ℕ × ℕ) (first : List (Option Page)) (old now : Trail) (before : Totals) (input output ahead : List ℕ) (fault : ServeFault) (ReaderFailed WriterFailed : Type 0) → (p : Progress how pages old now before input output) → IsLegalFrom (first_map first) (history_of now)
    → Leaves how fault (length (lines_of p.sections)) [] ahead [] → ComesFrom fault ReaderFailed WriterFailed → Stops how pages (map_after first old) (input ++ ahead) output fault ReaderFailed WriterFailed
stops_inside how pages first old now before input output ahead fault ReaderFailed WriterFailed p seen leaves comes = (
  record {
    sections = p.sections;
    last = record { lines = []; history = [] };
    rest = [];
    ahead = ahead;
    begun = [];
    unwritten = [];
    each = p.each;
    whole = record { lines = All-nil (IsLine pages); history = Done [] (All-nil (λ (list : List Entry). list ≡ [])); order = λ key. refl };
    open_lines = no_end_any how [] (no_end_none how);
    cut = All-nil (λ b. b ≢ 10);
    legal = subst (IsLegalFrom (map_after first old)) (sym (append-nil (served.history_of p.sections))) (legal_so_far first old now (served.history_of p.sections) seen p.more p.begins p.history);
    read = ap (λ t. t ++ ahead) (p.read ∙ (ap input_of (sym (append-nil (lines_of p.sections))) ∙ sym (append-nil (input_of (lines_of p.sections ++ [])))));
    open_output = refl;
    written = p.written ∙ sym (append-nil (output_of 1 (lines_of p.sections)));
    leaves = leaves;
  },
  comes,
)

-- lists that are taken one after another
pub interleaves_skip : {lists : List (List Entry)} {history : List Entry} → Interleaves lists history → Interleaves ([] ∷ lists) history
interleaves_skip (Done lists none) = Done ([] ∷ lists) (All-cons (λ list. list ≡ []) [] lists refl none)
interleaves_skip (Takes before e list after history more) = Takes ([] ∷ before) e list after history (interleaves_skip more)

interleaves_front : (list : List Entry) (lists : List (List Entry)) (history : List Entry) → Interleaves lists history → Interleaves (list ∷ lists) (list ++ history)
interleaves_front [] lists history h = interleaves_skip h
interleaves_front (e ∷ list) lists history h = Takes [] e list lists (list ++ history) (interleaves_front list lists history h)

interleaves_all : (answers : List Answer) → Interleaves (map entries answers) (flat_map entries answers)
interleaves_all [] = Done [] (All-nil (λ list. list ≡ []))
interleaves_all (answer ∷ answers) = interleaves_front (entries answer) (map entries answers) (flat_map entries answers) (interleaves_all answers)

-- the lines behind the finished sections were read, and a beginning of what would be their output is out
abbrev pub stopped : (how : Sectioning) (pages : ℕ × ℕ) (first : List (Option Page)) (old now : Trail) (before : Totals) (input output unread left rest begun unwritten : List ℕ) (fault : ServeFault) (p : Progress how pages old now before input output) (last : Section) → IsSection pages last → HasNoEndInside how last.lines → HasNoLf rest
    → IsLegalFrom (map_after first old) (served.history_of p.sections ++ last.history) → unread ≡ input_of last.lines ++ rest ++ left
    → text_of (suc (length (lines_of p.sections))) last.lines rest ≡ begun ++ unwritten → Leaves how fault (length (lines_of p.sections)) begun left last.lines
    → Stopped how pages (map_after first old) (input ++ unread) (output ++ begun) fault
stopped how pages first old now before input output unread left rest begun unwritten fault p last whole inside cut legal read is leaves = let s = p.sections in let lines : List Line = last.lines in record {
  sections = s;
  last = last;
  rest = rest;
  ahead = left;
  begun = begun;
  unwritten = unwritten;
  each = p.each;
  whole = whole;
  open_lines = inside;
  cut = cut;
  legal = legal;
  read = ap (λ t. t ++ unread) p.read ∙ (ap (λ t. input_of (lines_of s) ++ t) (read ∙ append_assoc (input_of lines) rest left) ∙ (sym (append_assoc (input_of (lines_of s)) (input_of lines) (rest ++ left))
      ∙ (ap (λ t. t ++ (rest ++ left)) (sym (input_append (lines_of s) lines)) ∙ sym (append_assoc (input_of (lines_of s ++ lines)) rest left))));
  open_output = is;
  written = ap (λ t. t ++ begun) p.written;
  leaves = leaves;
}

-- a read failed. The lines of the open section were not answered; they could have been so.
pub stops_reading : (how : Sectioning) (pages : ℕ × ℕ) (first : List (Option Page)) (old now : Trail) (before : Totals) (input output unread left rest : List ℕ) (asked : List (Option Request)) (ReaderFailed WriterFailed : Type 0) → pages.0 ≤ pages.1 → Progress how pages old now before input output → IsLegalFrom (first_map first) (history_of now)
    → ReadsLines unread left asked rest → AskNoEnd how asked → left ≡ [] → ReaderFailed → Stops how pages (map_after first old) (input ++ unread) output Read ReaderFailed WriterFailed
stops_reading how pages first old now before input output unread left rest asked ReaderFailed WriterFailed some p seen r no_end none failed =
    let s = p.sections in
    let so_far = legal_so_far first old now (served.history_of s) seen p.more p.begins p.history in
    let finite = finite_history (map_after first old) (served.history_of s) (finite_history (first_map first) (history_of old) (finite_rows (rows_in first))) in
    let l = lawful pages some (final_map (map_after first old) (served.history_of s)) finite asked r.texts r.each in
    let are = are_lines pages asked r.texts l.answers r.each l.each in
    let lines : List Line = lines_with r.texts l.answers in
    let last : Section = record { lines = lines; history = flat_map entries l.answers } in
    let quiet = no_end_lines how pages asked r.texts l.answers r.each l.each no_end in (
      subst (λ o. Stopped how pages (map_after first old) (input ++ unread) o Read) (append-nil output)
          (stopped how pages first old now before input output unread left rest [] _ Read p last
          (record { lines = are.good; history = subst (λ (z : List (List Entry)). Interleaves z (flat_map entries l.answers)) (sym are.entries_are) (interleaves_all l.answers); order = λ key. ap (on_key key) (sym are.all_entries) })
          (no_end_any how lines quiet) r.cut (legal_append (map_after first old) (served.history_of s) (flat_map entries l.answers) so_far l.legal)
          (r.read ∙ ap (λ (z : List ℕ). z ++ rest ++ left) (sym are.input)) refl (refl, none, quiet)),
      failed,
    )

-- a write of the section's output failed
pub stops_writing : (how : Sectioning) (pages : ℕ × ℕ) (first : List (Option Page)) (old now : Trail) (before : Totals) (input output unread left text rest out unwritten : List ℕ) (asked : List (Option Request)) (more : Trail) (end : SectionEnd) (ReaderFailed WriterFailed : Type 0)
    → Progress how pages old now before input output → (r : ReadsLines unread left asked rest) → (h : Held pages before.requests asked text more) → HasNoEndInside how (lines_with r.texts h.answers) → ((n : ℕ) → end_text end n ≡ rest_text n rest) → IsLegalFrom (first_map first) (history_of (now ++ more))
    → text ++ end_text end (before.requests + length asked + 1) ≡ out ++ unwritten → WriterFailed → Stops how pages (map_after first old) (input ++ unread) (output ++ out) Write ReaderFailed WriterFailed
stops_writing how pages first old now before input output unread left text rest out unwritten asked more end ReaderFailed WriterFailed p r h inside prints seen split failed =
    let s = p.sections in let lines : List Line = the_lines pages unread left asked rest r before.requests text more h in
    let are = the_are pages unread left asked rest r before.requests text more h in (
      stopped how pages first old now before input output unread left rest out unwritten Write p (section_of lines more) (whole_section pages unread left asked rest r before.requests text more h) inside r.cut
          (legal_on first old now more (served.history_of s) seen p.more p.begins p.history) (read_is pages unread left asked rest r before.requests text more h)
          (sym (open_text s lines rest text (end_text end (before.requests + length asked + 1)) before.requests (length asked) p.requests are.long (text_is pages unread left asked rest r before.requests text more h) (prints (before.requests + length asked + 1))) ∙ split)
          tt,
      failed,
    )

-- no line before the last one ends a section
pub inside_no_end : (how : Sectioning) (pages : ℕ × ℕ) (unread left rest : List ℕ) (asked : List (Option Request)) (r : ReadsLines unread left asked rest) (done : ℕ) (text : List ℕ) (more : Trail) (h : Held pages done asked text more) → AskNoEnd how asked → HasNoEndInside how (lines_with r.texts h.answers)
inside_no_end how pages unread left rest asked r done text more h no_end = no_end_any how (lines_with r.texts h.answers) (no_end_lines how pages asked r.texts h.answers r.each h.each no_end)

pub inside_end_last : (how : Sectioning) (pages : ℕ × ℕ) (unread left rest : List ℕ) (asked : List (Option Request)) (r : ReadsLines unread left asked rest) (done : ℕ) (text : List ℕ) (more : Trail) (h : Held pages done asked text more) → AskEndLast how asked → HasNoEndInside how (lines_with r.texts h.answers)
inside_end_last how pages unread left rest asked r done text more h last = let e = end_lines how pages asked r.texts h.answers r.each h.each last in subst (HasNoEndInside how) (sym e.ends) (no_end_inside how e.front e.end e.no_end)

lines_short : (lines : List Line) → length lines ≤ length (input_of lines)
lines_short [] = omega arith
lines_short (line ∷ lines) = let e = ap length (flat_map-cons (λ (l : Line). l.bytes ++ 10 ∷ []) line lines) in
    let a = length-append (line.bytes ++ 10 ∷ []) (input_of lines) in let lf : List ℕ = 10 ∷ [] in let b = length-append line.bytes lf in let c : length lf ≡ 1 = refl in
    let d = lines_short lines in omega (arith, a, b, c, d, e)

-- the input has a byte for each line
pub input_long : (how : Sectioning) (pages : ℕ × ℕ) (old now : Trail) (totals : Totals) (input output : List ℕ) → Progress how pages old now totals input output → totals.requests ≤ length input
input_long how pages old now totals input output p = let a = lines_short (lines_of p.sections) in let e : length input ≡ length (input_of (lines_of p.sections)) = ap length p.read in omega (arith, a, e, p.requests)
