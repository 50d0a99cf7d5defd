-- What is known of a section that was read, at its end, and where it stopped.
use Rattle.std.proofs.Common.{◌≡◌, ◌≢◌, ℕ, ◌+◌, ◌-◌, ◌<◌, ◌≤◌, ◌^◌, ◌⊎◌, List, [], ◌∷◌, ◌++◌, length, refl, sym, ap, ◌∙◌, subst, append-nil, arith, length-append, inl, inr}
use Rattle.std.specs.Prelude.{Option, Ok, Err, is_none}
use Rattle.std.specs.Prelude.{◌==◌, cond}
use Rattle.std.specs.List.{AllZip}
use Rattle.std.proofs.lemmas.List.Sums.{count_by-le-length, sum_by-append}
use Rattle.std.proofs.lemmas.List.Concat.{flat_map-cons}
use Rattle.std.proofs.lemmas.List.Elements.{All-nil}
use Rattle.bl_model.specs.declared.operation.Entry.{Entry}
use Rattle.bl_serve_lines.specs.declared.request.Request.{Request}
use Rattle.bl_serve_lines.specs.declared.serving.Sectioning.{Sectioning}
use Rattle.bl_serve_lines.specs.declared.serving.ServeFault.{ServeFault}
use Rattle.bl_serve_lines.specs.declared.serving.ServeFault.TheVariants.{Read, Write, Memory, Lost}
use Rattle.bl_serve_lines.specs.declared.serving.Totals.{Totals}
use Rattle.bl_serve_lines.specs.Lines.{rest_text}
use Rattle.bl_serve_lines.specs.Served.Interleaves.{Done}
use Rattle.bl_serve_lines.specs.Served.{Stops, HasNoEndInside, whole_lines}
use Rattle.bl_serve_lines.specs.Streams.{EndsRead}
use Rattle.bl_page.specs.declared.page.Page.{Page}
use Rattle.bl_claims.specs.Trails.{Trail, history_of}
use Rattle.bl_claims.specs.Seeing.{first_map}
use Rattle.bl_model.specs.History.{IsLegalFrom}
use Rattle.bl_index.specs.declared.index.Pass.{Pass}
use Rattle.bl_index.specs.Calls.{first_of, map_after}
use Rattle.bl_serve_reading.specs.declared.section_reader.SectionEnd.{SectionEnd}
use Rattle.bl_serve_reading.specs.declared.section_reader.SectionEnd.TheVariants as section_end
use Rattle.bl_serve_reading.specs.Reading.{ReadsLines, AskEndLast, EndsReading, IsReadAs, bytes_of}
use Rattle.bl_serve.specs.Sections.{Held, CountsSection, end_text, rests}
use Rattle.bl_serve_ground.specs.declared.ground.Ground.{Ground}
use Rattle.bl_serve.specs.Holding.{ServesSection}
use Rattle.bl_serve.specs.Serving.{FailsSection, ServedBy, IsInside}
use Rattle.bl_serve_ground.specs.Standing.{StandsAt, index_in}
use Rattle.bl_serve.proofs.Spelled.{lines_with}
use Rattle.bl_serve.proofs.Advance.{Progress, add_section, serves_end, stops_inside, stops_reading, stops_writing, ends_rest, ends_finished, inside_no_end, inside_end_last, input_long}
use Rattle.bl_serve_reading.proofs.Cutting.{asks_none}

-- ---- how many lines there may be

pub room : (how : Sectioning) (end : SectionEnd) (before : Totals) (asked : List (Option Request)) (rest unread left : List ℕ) (AtEnd Failed : Type 0) → EndsReading how (Ok end) (2 ^ 64 - 1 - before.requests) asked rest unread left AtEnd Failed → before.requests < 2 ^ 64
    → before.requests + length asked + rests end < 2 ^ 64
room how section_end.ByLine before asked rest unread left AtEnd Failed e low = let a = e.1 in omega arith
room how section_end.Rest before asked rest unread left AtEnd Failed e low = let a = e.1 in omega arith
room how section_end.Finished before asked rest unread left AtEnd Failed e low = let a = e.1 in omega arith

-- ---- faults

-- the section could not be read whole
pub stops_at_read : (how : Sectioning) (pages : ℕ × ℕ) (first : List (Option Page)) (fault : ServeFault) (old now : Trail) (before : Totals) (input output unread left rest : List ℕ) (asked : List (Option Request)) (most : ℕ) (AtEnd ReaderFailed WriterFailed : Type 0) → pages.0 ≤ pages.1 → Progress how pages old now before input output → IsLegalFrom (first_map first) (history_of now)
    → EndsReading how (Err fault) most asked rest unread left AtEnd ReaderFailed → Stops how pages (map_after first old) (input ++ unread) output fault ReaderFailed WriterFailed
stops_at_read how pages first Read old now before input output unread left rest asked most AtEnd ReaderFailed WriterFailed some p seen e = stops_reading how pages first old now before input output unread left rest asked ReaderFailed WriterFailed some p seen e.0 e.1 e.2 e.3
stops_at_read how pages first Write old now before input output unread left rest asked most AtEnd ReaderFailed WriterFailed some p seen e = absurd e
stops_at_read how pages first Memory old now before input output unread left rest asked most AtEnd ReaderFailed WriterFailed some p seen e = stops_inside how pages first old now before input output unread Memory ReaderFailed WriterFailed p seen refl tt
stops_at_read how pages first (Lost number) old now before input output unread left rest asked most AtEnd ReaderFailed WriterFailed some p seen e = absurd e

-- each line that was read has its LF
whole_texts : (asked : List (Option Request)) (texts : List (List ℕ)) → AllZip IsReadAs asked texts → length asked ≤ whole_lines (bytes_of texts)
whole_texts [] [] each = omega arith
whole_texts (a ∷ asked) (bytes ∷ texts) each =
    let lf : List ℕ = 10 ∷ [] in let cons = ap whole_lines (flat_map-cons (λ (t : List ℕ). t ++ 10 ∷ []) bytes texts) in let front = sum_by-append (λ (b : ℕ). cond (b == 10) 1 0) (bytes ++ lf) (bytes_of texts) in
    let line = sum_by-append (λ (b : ℕ). cond (b == 10) 1 0) bytes lf in let one : whole_lines lf ≡ 1 = refl in let rest = whole_texts asked texts each.1 in omega (arith, cons, front, line, one, rest)
whole_texts asked texts each = absurd each

read_whole : (asked : List (Option Request)) (unread left rest : List ℕ) → ReadsLines unread left asked rest → length asked ≤ whole_lines unread
read_whole asked unread left rest r = let a = whole_texts asked r.texts r.each in let b = ap whole_lines r.read in let c = sum_by-append (λ (b : ℕ). cond (b == 10) 1 0) (bytes_of r.texts ++ rest) left in
    let d = sum_by-append (λ (b : ℕ). cond (b == 10) 1 0) (bytes_of r.texts) rest in omega (arith, a, b, c, d)

pub reads_of : (how : Sectioning) (end : SectionEnd) (most : ℕ) (asked : List (Option Request)) (rest unread left : List ℕ) (AtEnd Failed : Type 0) → EndsReading how (Ok end) most asked rest unread left AtEnd Failed → ReadsLines unread left asked rest
reads_of how section_end.ByLine most asked rest unread left AtEnd Failed e = e.0
reads_of how section_end.Rest most asked rest unread left AtEnd Failed e = e.0
reads_of how section_end.Finished most asked rest unread left AtEnd Failed e = e.0

-- it could not be answered
pub stops_at_answers : (how : Sectioning) (pages : ℕ × ℕ) (first : List (Option Page)) (fault : ServeFault) (old now : Trail) (before : Totals) (input output unread left rest : List ℕ) (asked : List (Option Request)) (ReaderFailed WriterFailed : Type 0) → Progress how pages old now before input output → IsLegalFrom (first_map first) (history_of now)
    → ReadsLines unread left asked rest → IsInside before.requests (length asked) fault → Stops how pages (map_after first old) (input ++ unread) output fault ReaderFailed WriterFailed
stops_at_answers how pages first Memory old now before input output unread left rest asked ReaderFailed WriterFailed p seen r inside = stops_inside how pages first old now before input output unread Memory ReaderFailed WriterFailed p seen refl tt
stops_at_answers how pages first (Lost number) old now before input output unread left rest asked ReaderFailed WriterFailed p seen r inside =
    let whole = read_whole asked unread left rest r in let done = p.requests in let low = inside.0 in let high = inside.1 in
    stops_inside how pages first old now before input output unread (Lost number) ReaderFailed WriterFailed p seen (refl, omega (arith, done, low), omega (arith, done, high, whole)) tt
stops_at_answers how pages first fault old now before input output unread left rest asked ReaderFailed WriterFailed p seen r inside = absurd inside

-- it was not served
pub stops_at_section : (how : Sectioning) (pages : ℕ × ℕ) (first : List (Option Page)) (fault : ServeFault) (old now : Trail) (before : Totals) (input output unread left rest : List ℕ) (asked : List (Option Request)) (most : ℕ) (AtEnd ReaderFailed WriterFailed : Type 0) → pages.0 ≤ pages.1 → Progress how pages old now before input output → IsLegalFrom (first_map first) (history_of now)
    → FailsSection how fault before.requests most asked rest unread left AtEnd ReaderFailed → Stops how pages (map_after first old) (input ++ unread) output fault ReaderFailed WriterFailed
stops_at_section how pages first fault old now before input output unread left rest asked most AtEnd ReaderFailed WriterFailed some p seen (inl e) = stops_at_read how pages first fault old now before input output unread left rest asked most AtEnd ReaderFailed WriterFailed some p seen e
stops_at_section how pages first fault old now before input output unread left rest asked most AtEnd ReaderFailed WriterFailed some p seen (inr f) = stops_at_answers how pages first fault old now before input output unread left rest asked ReaderFailed WriterFailed p seen f.0 f.1

-- ---- a section that was answered

-- a section that was read and answered, however it ended
pub record Ended (how : Sectioning) (pages : ℕ × ℕ) (unread left : List ℕ) (asked : List (Option Request)) (rest : List ℕ) (done : ℕ) (text : List ℕ) (more : Trail) (h : Held pages done asked text more) (end : SectionEnd) : Type 0 where
  pub reads : ReadsLines unread left asked rest
  pub inside : HasNoEndInside how (lines_with reads.texts h.answers)
  pub prints : (n : ℕ) → end_text end n ≡ rest_text n rest

pub ended : (how : Sectioning) (pages : ℕ × ℕ) (unread left : List ℕ) (asked : List (Option Request)) (rest : List ℕ) (done : ℕ) (text : List ℕ) (more : Trail) (h : Held pages done asked text more) (end : SectionEnd) (most : ℕ) (AtEnd Failed : Type 0) → EndsReading how (Ok end) most asked rest unread left AtEnd Failed → Ended how pages unread left asked rest done text more h end
ended how pages unread left asked rest done text more h section_end.ByLine most AtEnd Failed e = record { reads = e.0; inside = inside_end_last how pages unread left rest asked e.0 done text more h e.3; prints = (ends_finished rest e.2).prints }
ended how pages unread left asked rest done text more h section_end.Rest most AtEnd Failed e = record { reads = e.0; inside = inside_no_end how pages unread left rest asked e.0 done text more h e.3; prints = (ends_rest rest e.2).prints }
ended how pages unread left asked rest done text more h section_end.Finished most AtEnd Failed e = record { reads = e.0; inside = inside_no_end how pages unread left rest asked e.0 done text more h e.3; prints = (ends_finished rest e.2).prints }

-- what was served to the end
pub record AtLast (how : Sectioning) (pages : ℕ × ℕ) (first : List (Option Page)) (old now : Trail) (input output unread left text : List ℕ) (totals : Totals) (AtEnd : Type 0) : Type 0 where
  pub consumed : List ℕ
  pub read : unread ≡ consumed ++ left
  pub served : ServedBy how pages first old now (input ++ consumed) (output ++ text) totals
  pub ends : EndsRead (input ++ consumed) left AtEnd

-- what is known when a line has ended a section
pub record GoesOn (how : Sectioning) (pages : ℕ × ℕ) (old now : Trail) (before totals : Totals) (input output unread left text : List ℕ) : Type 0 where
  pub consumed : List ℕ
  pub read : unread ≡ consumed ++ left
  pub progress : Progress how pages old now totals (input ++ consumed) (output ++ text)
  pub malformed : before.malformed ≤ before.requests → totals.malformed ≤ totals.requests
  pub requests : before.requests + 1 ≤ totals.requests

some_line : (how : Sectioning) (asked : List (Option Request)) → AskEndLast how asked → 1 ≤ length asked
some_line how asked e = let a = ap length e.ends in let b = length-append e.front (e.last ∷ []) in let c : length (e.last ∷ []) ≡ 1 = refl in omega (arith, a, b, c)

module _ (how : Sectioning) (from : Ground) (pages : ℕ × ℕ) (seen : Trail) (before : Totals) (asked : List (Option Request)) (end : SectionEnd) (text : List ℕ) (old_ground : Ground) (olds : List Pass) (new_ground : Ground) (news : List Pass) (t : StandsAt from pages seen old_ground olds) (s : ServesSection pages old_ground before.requests asked end text olds new_ground news) where
  abbrev first : List (Option Page)
  first = first_of (index_in from)

  abbrev pub now_seen : Trail
  now_seen = seen ++ s.holds.more

  pub stands_now : StandsAt from pages now_seen new_ground news
  stands_now = s.holds.goes from pages seen t

  -- its output was not written whole
  pub stops_at_write : (old : Trail) (input output unread left rest out unwritten : List ℕ) (most : ℕ) (AtEnd ReaderFailed WriterFailed : Type 0) → Progress how pages old seen before input output → EndsReading how (Ok end) most asked rest unread left AtEnd ReaderFailed
      → text ≡ out ++ unwritten → WriterFailed → Stops how pages (map_after first old) (input ++ unread) (output ++ out) Write ReaderFailed WriterFailed
  stops_at_write old input output unread left rest out unwritten most AtEnd ReaderFailed WriterFailed p e split failed =
      let w = ended how pages unread left asked rest before.requests s.answers s.holds.more s.holds.held end most AtEnd ReaderFailed e in
      stops_writing how pages first old seen before input output unread left s.answers rest out unwritten asked s.holds.more end ReaderFailed WriterFailed p w.reads s.holds.held w.inside w.prints stands_now.legal (sym s.ends ∙ split) failed

  pub goes_on_behind_end : (old : Trail) (totals : Totals) (input output unread left rest : List ℕ) (most : ℕ) (AtEnd Failed : Type 0) → end ≡ section_end.ByLine → Progress how pages old seen before input output → EndsReading how (Ok end) most asked rest unread left AtEnd Failed
      → CountsSection before totals asked end → GoesOn how pages old now_seen before totals input output unread left text
  goes_on_behind_end old totals input output unread left rest most AtEnd Failed is p e' counts' =
      let e = subst (λ (z : SectionEnd). EndsReading how (Ok z) most asked rest unread left AtEnd Failed) is e' in
      let counts : CountsSection before totals asked section_end.ByLine = subst (CountsSection before totals asked) is counts' in
      let r : ReadsLines unread left asked [] = subst (ReadsLines unread left asked) e.2 e.0 in
      let a = add_section how pages old seen before totals input output unread left s.answers asked s.holds.more p r e.3 s.holds.held counts in
      let plain : text ≡ s.answers = s.ends ∙ (ap (λ (z : SectionEnd). s.answers ++ end_text z (before.requests + length asked + 1)) is ∙ append-nil s.answers) in record {
        consumed = a.0;
        read = a.1;
        progress = subst (λ (z : List ℕ). Progress how pages old now_seen totals (input ++ a.0) (output ++ z)) (sym plain) a.2;
        malformed = λ few. let x = counts.malformed in let y = counts.requests in let z = count_by-le-length is_none asked in omega (arith, x, y, z, few);
        requests = let y = counts.requests in let z = some_line how asked e.3 in omega (arith, y, z);
      }

  pub serves_at_end : (old : Trail) (totals : Totals) (input output unread left rest : List ℕ) (AtEnd Failed : Type 0) → end ≢ section_end.ByLine → Progress how pages old seen before input output → EndsReading how (Ok end) (2 ^ 64 - 1 - before.requests) asked rest unread left AtEnd Failed
      → before.requests < 2 ^ 64 → CountsSection before totals asked end → AtLast how pages first old now_seen input output unread left text totals AtEnd
  serves_at_end old totals input output unread left rest AtEnd Failed other p e low counts = go end other e counts s.ends
    where
      go : (end : SectionEnd) → end ≢ section_end.ByLine → EndsReading how (Ok end) (2 ^ 64 - 1 - before.requests) asked rest unread left AtEnd Failed → CountsSection before totals asked end → text ≡ s.answers ++ end_text end (before.requests + length asked + 1)
          → AtLast how pages first old now_seen input output unread left text totals AtEnd
      go section_end.ByLine other e counts is = absurd (other refl)
      go section_end.Rest other e counts is =
          let v = serves_end how pages first old seen before totals input output unread left s.answers rest asked s.holds.more section_end.Rest p e.0 e.3 s.holds.held counts (ends_rest rest e.2) stands_now.legal in record {
            consumed = v.0;
            read = v.1;
            served = subst (λ (z : List ℕ). ServedBy how pages first old now_seen (input ++ v.0) (output ++ z) totals) (sym is) v.3;
            ends = reads_to_end v.0 v.2 e.4;
          }
        where
          reads_to_end : (consumed : List ℕ) → length asked + length rest ≤ length consumed → EndsRead rest left AtEnd → EndsRead (input ++ consumed) left AtEnd
          reads_to_end consumed long (inl here) = inl here
          reads_to_end consumed long (inr many) = inr (let a = length-append input consumed in omega (arith, a, long, many))
      go section_end.Finished other e counts is =
          let v = serves_end how pages first old seen before totals input output unread left s.answers rest asked s.holds.more section_end.Finished p e.0 e.3 s.holds.held counts (ends_finished rest e.2) stands_now.legal in record {
            consumed = v.0;
            read = v.1;
            served = subst (λ (z : List ℕ). ServedBy how pages first old now_seen (input ++ v.0) (output ++ z) totals) (sym is) v.3;
            ends = takes_all v.0 v.2 e.4;
          }
        where
          takes_all : (consumed : List ℕ) → length asked + length rest ≤ length consumed → ((left ≡ []) × AtEnd) ⊎ (2 ^ 64 - 1 - before.requests ≤ length asked) → EndsRead (input ++ consumed) left AtEnd
          takes_all consumed long (inl here) = inl here
          takes_all consumed long (inr many) = inr (let a = length-append input consumed in let b = input_long how pages old seen before input output p in omega (arith, a, b, long, many, low))

-- ---- as many sections as there are numbers

pub serves_no_more : (how : Sectioning) (pages : ℕ × ℕ) (first : List (Option Page)) (old now : Trail) (totals : Totals) (input output left : List ℕ) (AtEnd : Type 0) → Progress how pages old now totals input output → IsLegalFrom (first_map first) (history_of now) → 2 ^ 64 - 1 ≤ totals.requests → AtLast how pages first old now input output left left [] totals AtEnd
serves_no_more how pages first old now totals input output left AtEnd p seen many =
    let none : Held pages totals.requests [] [] [] = record { answers = []; each = tt; prints = refl; interleaves = Done [] (All-nil (λ (list : List Entry). list ≡ [])); order = λ key. refl } in
    let r : ReadsLines left left [] [] = record { texts = []; each = tt; cut = All-nil (λ b. b ≢ 10); read = refl } in
    let counts : CountsSection totals totals [] section_end.Finished = record { requests = omega arith; malformed = omega arith; sections = omega arith } in
    let v = serves_end how pages first old now totals totals input output left left [] [] [] [] section_end.Finished p r (asks_none how) none counts (ends_finished [] refl) (subst (λ (z : Trail). IsLegalFrom (first_map first) (history_of z)) (sym (append-nil now)) seen) in record {
      consumed = v.0;
      read = v.1;
      served = subst (λ (z : Trail). ServedBy how pages first old z (input ++ v.0) (output ++ []) totals) (append-nil now) v.3;
      ends = inr (let a = length-append input v.0 in let b = input_long how pages old now totals input output p in omega (arith, a, b, many));
    }
