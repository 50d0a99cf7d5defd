-- A section that is read and answered in chunks: two chunks that follow each other are one.
use Rattle.std.proofs.Common.{◌≡◌, ◌≢◌, ℕ, suc, ◌+◌, ◌≤◌, ◌<◌, ◌^◌, ◌-◌, List, [], ◌∷◌, ◌++◌, length, map, refl, sym, ap, ◌∙◌, subst, append_assoc, append-nil, arith, length-append, inl, inr}
use Rattle.std.specs.Prelude.{All, flat_map, Option, Some, Result, Ok, Err, is_none, cond, min}
use Rattle.std.proofs.lemmas.List.{map-append}
use Rattle.std.proofs.lemmas.List.Concat.{flat_map-append}
use Rattle.std.proofs.lemmas.List.Sums.{sum_by-append}
use Rattle.std.proofs.lemmas.List.Elements.{All-nil, All-head, All-tail, All-append}
use Rattle.bl_model.specs.declared.operation.Entry.{Entry}
use Rattle.bl_serve_lines.specs.declared.request.Request.{Request}
use Rattle.bl_serve_lines.specs.declared.request.Request.TheVariants.{Sync}
use Rattle.bl_serve_lines.specs.declared.serving.Sectioning.{Sectioning}
use Rattle.bl_serve_lines.specs.declared.serving.Sectioning.TheVariants.{BySync, AtMost}
use Rattle.bl_serve_lines.specs.declared.serving.ServeFault.{ServeFault}
use Rattle.bl_serve_lines.specs.declared.serving.ServeFault.TheVariants.{Read, Write, Memory, Lost}
use Rattle.bl_serve_lines.specs.declared.serving.Totals.{Totals}
use Rattle.bl_serve_lines.specs.Lines.{entries}
use Rattle.bl_serve_lines.specs.Served.{Interleaves, IsShort, after_lines, on_key}
use Rattle.bl_serve_lines.proofs.Keys.{on_key_append}
use Rattle.bl_serve_lines.proofs.Sections.{short_then}
use Rattle.bl_serve_lines.specs.Served.Interleaves.{Done, Takes}
use Rattle.bl_claims.specs.Trails.{Trail, history_of}
use Rattle.bl_index.specs.declared.index.Pass.{Pass}
use Rattle.bl_serve_ground.specs.declared.ground.Ground.{Ground}
use Rattle.bl_serve_reading.specs.declared.section_reader.SectionEnd.{SectionEnd}
use Rattle.bl_serve_reading.specs.declared.section_reader.SectionEnd.TheVariants.{ByLine, Rest, Finished}
use Rattle.bl_serve_worker.specs.Answering.{IsFor, answers_text}
use Rattle.bl_serve_reading.specs.Syncs.{is_sync}
use Rattle.bl_serve_reading.specs.Reading.{IsReadAs, bytes_of, AsksEnd, AskNoEnd, AskEndLast, ReadsLines, EndsReading}
use Rattle.bl_serve.specs.Sections.{Held, CountsSection, end_text, rests}
use Rattle.bl_serve.specs.Holding.{ServesSection}
use Rattle.bl_serve_ground.specs.Together.{seen_by}
use Rattle.bl_serve.specs.Serving.{FailsSection, IsInside}
use Rattle.bl_serve_ground.specs.Standing.{IsAtRest, StandsAt, sizes_in}
use Rattle.bl_serve_lines.proofs.Known.{zip_append}
use Rattle.bl_serve_worker.proofs.Lines.{history_append, zip_length, text_append}
use Rattle.bl_serve_ground.proofs.Rests.{stands_first}
use Rattle.bl_serve_reading.proofs.Cutting.{asks_none}
use Rattle.bl_serve.proofs.Faults.{reads_of}
use Rattle.bl_serve.proofs.Advance.{interleaves_skip}

-- ---- reading

-- more was read, and not cut
pub reads_ahead : (unread left more : List ℕ) (asked : List (Option Request)) (rest : List ℕ) → ReadsLines unread left asked rest → ReadsLines (unread ++ more) (left ++ more) asked rest
reads_ahead unread left more asked rest r = record {
  texts = r.texts;
  each = r.each;
  cut = r.cut;
  read = ap (λ (z : List ℕ). z ++ more) r.read ∙ append_assoc (bytes_of r.texts ++ rest) left more;
}

pub reads_then : (unread mid left : List ℕ) (xs ys : List (Option Request)) (rest : List ℕ) → ReadsLines unread mid xs [] → ReadsLines mid left ys rest → ReadsLines unread left (xs ++ ys) rest
reads_then unread mid left xs ys rest r s = record {
  texts = r.texts ++ s.texts;
  each = zip_append IsReadAs xs ys r.texts s.texts r.each s.each;
  cut = s.cut;
  read = r.read ∙ (ap (λ (z : List ℕ). z ++ mid) (append-nil (bytes_of r.texts)) ∙ (ap (λ (z : List ℕ). bytes_of r.texts ++ z) s.read
      ∙ (sym (append_assoc (bytes_of r.texts) (bytes_of s.texts ++ rest) left) ∙ (ap (λ (z : List ℕ). z ++ left) (sym (append_assoc (bytes_of r.texts) (bytes_of s.texts) rest))
      ∙ ap (λ (z : List ℕ). (z ++ rest) ++ left) (sym (flat_map-append (λ (t : List ℕ). t ++ 10 ∷ []) r.texts s.texts))))));
}

no_end_then : (how : Sectioning) (xs ys : List (Option Request)) → AskNoEnd how xs → AskNoEnd (after_lines how (length xs)) ys → AskNoEnd how (xs ++ ys)
no_end_then how xs ys a b = (All-append (λ z. z ≢ Some Sync) xs ys a.0 b.0, subst (IsShort how) (sym (length-append xs ys)) (short_then how (length xs) (length ys) a.1 b.1))

asks_end_then : (how : Sectioning) (n m k : ℕ) (asked : Option Request) → k ≡ n + m → AsksEnd (after_lines how n) m asked → AsksEnd how k asked
asks_end_then BySync n m k asked is a = a
asks_end_then (AtMost most) n m k asked is (inl a) = inl a
asks_end_then (AtMost most) n m k asked is (inr many) = inr (omega (arith, is, many))

end_last_then : (how : Sectioning) (xs ys : List (Option Request)) → AskNoEnd how xs → AskEndLast (after_lines how (length xs)) ys → AskEndLast how (xs ++ ys)
end_last_then how xs ys a b = record {
  front = xs ++ b.front;
  last = b.last;
  ends = ap (λ (z : List (Option Request)). xs ++ z) b.ends ∙ sym (append_assoc xs b.front (b.last ∷ []));
  is_end = asks_end_then how (length xs) (length ys) (length (xs ++ ys)) b.last (length-append xs ys) b.is_end;
  no_end = no_end_then how xs b.front a b.no_end;
}

-- lines that end no section, and how the reading of those behind them ended
pub ends_then : (how : Sectioning) (ended : Result SectionEnd ServeFault) (most few : ℕ) (unread mid left : List ℕ) (xs ys : List (Option Request)) (rest : List ℕ) (AtEnd Failed : Type 0) → ReadsLines unread mid xs [] → AskNoEnd how xs → length xs + few ≤ most → (ended ≡ Ok Finished → few ≤ length ys → most ≤ length xs + length ys)
    → EndsReading (after_lines how (length xs)) ended few ys rest mid left AtEnd Failed → EndsReading how ended most (xs ++ ys) rest unread left AtEnd Failed
ends_then how (Ok ByLine) most few unread mid left xs ys rest AtEnd Failed r none within full e = let long = length-append xs ys in let b = e.1 in
    (reads_then unread mid left xs ys rest r e.0, omega (arith, long, within, b), e.2, end_last_then how xs ys none e.3)
ends_then how (Ok Rest) most few unread mid left xs ys rest AtEnd Failed r none within full e = let long = length-append xs ys in let b = e.1 in
    (reads_then unread mid left xs ys rest r e.0, omega (arith, long, within, b), e.2, no_end_then how xs ys none e.3, e.4)
ends_then how (Ok Finished) most few unread mid left xs ys rest AtEnd Failed r none within full e = let long = length-append xs ys in let b = e.1 in
    (reads_then unread mid left xs ys rest r e.0, omega (arith, long, within, b), e.2, no_end_then how xs ys none e.3, elim e.4 [ inl here ↦ inl here | inr many ↦ inr (let c = full refl many in omega (arith, long, c)) ])
ends_then how (Err Read) most few unread mid left xs ys rest AtEnd Failed r none within full e = (reads_then unread mid left xs ys rest r e.0, no_end_then how xs ys none e.1, e.2, e.3)
ends_then how (Err Write) most few unread mid left xs ys rest AtEnd Failed r none within full e = absurd e
ends_then how (Err Memory) most few unread mid left xs ys rest AtEnd Failed r none within full e = tt
ends_then how (Err (Lost number)) most few unread mid left xs ys rest AtEnd Failed r none within full e = absurd e

-- that reading failed does not matter where it did not
pub any_failed : (how : Sectioning) (end : SectionEnd) (most : ℕ) (asked : List (Option Request)) (rest unread left : List ℕ) (AtEnd Failed Failed' : Type 0) → EndsReading how (Ok end) most asked rest unread left AtEnd Failed → EndsReading how (Ok end) most asked rest unread left AtEnd Failed'
any_failed how ByLine most asked rest unread left AtEnd Failed Failed' e = e
any_failed how Rest most asked rest unread left AtEnd Failed Failed' e = e
any_failed how Finished most asked rest unread left AtEnd Failed Failed' e = e

-- ---- answering

all_empty : (xs ys : List (List Entry)) (k : List Entry) → All (λ list. list ≡ []) xs → Interleaves ys k → Interleaves (xs ++ ys) k
all_empty [] ys k none w = w
all_empty (x ∷ xs) ys k none w = subst (λ (z : List Entry). Interleaves (z ∷ (xs ++ ys)) k) (sym (All-head (λ (list : List Entry). list ≡ []) x xs none))
    (interleaves_skip (all_empty xs ys k (All-tail (λ (list : List Entry). list ≡ []) x xs none) w))

-- one history behind another
interleaves_then : {xs : List (List Entry)} {h : List Entry} → Interleaves xs h → (ys : List (List Entry)) (k : List Entry) → Interleaves ys k → Interleaves (xs ++ ys) (h ++ k)
interleaves_then (Done xs none) ys k b = all_empty xs ys k none b
interleaves_then (Takes before e list after h more) ys k b =
    subst (λ (z : List (List Entry)). Interleaves z (e ∷ (h ++ k))) (sym (append_assoc before ((e ∷ list) ∷ after) ys))
    (Takes before e list (after ++ ys) (h ++ k) (subst (λ (z : List (List Entry)). Interleaves z (h ++ k)) (append_assoc before (list ∷ after) ys) (interleaves_then more ys k b)))

held_then : (pages : ℕ × ℕ) (done : ℕ) (xs ys : List (Option Request)) (text text' : List ℕ) (more more' : Trail) → Held pages done xs text more → Held pages (done + length xs) ys text' more' → Held pages done (xs ++ ys) (text ++ text') (more ++ more')
held_then pages done xs ys text text' more more' a b = record {
  answers = a.answers ++ b.answers;
  each = zip_append (IsFor pages) xs ys a.answers b.answers a.each b.each;
  prints = ap (λ (z : List ℕ). z ++ text') a.prints ∙ (ap (λ (z : List ℕ). answers_text (suc done) a.answers ++ z) b.prints
      ∙ (ap (λ (n : ℕ). answers_text (suc done) a.answers ++ answers_text n b.answers) (let long = zip_length (IsFor pages) xs a.answers a.each in let e : suc (done + length xs) ≡ suc done + length a.answers = omega (arith, long) in e)
      ∙ sym (text_append (suc done) a.answers b.answers)));
  interleaves = subst (λ (z : List (List Entry) × List Entry). Interleaves z.0 z.1) (λ i. (sym (map-append entries a.answers b.answers) i, sym (history_append more more') i))
      (interleaves_then a.interleaves (map entries b.answers) (history_of more') b.interleaves);
  order = λ key. ap (on_key key) (history_append more more') ∙ (on_key_append key (history_of more) (history_of more') ∙ ((λ i. a.order key i ++ b.order key i)
      ∙ (sym (on_key_append key (flat_map entries a.answers) (flat_map entries b.answers)) ∙ ap (on_key key) (sym (flat_map-append entries a.answers b.answers)))));
}

pub serves_nothing : (pages : ℕ × ℕ) (done : ℕ) (ground : Ground) (olds : List Pass) → ServesSection pages ground done [] Finished [] olds ground olds
serves_nothing pages done ground olds = record {
  answers = [];
  holds = record {
    more = [];
    held = record { answers = []; each = tt; prints = refl; interleaves = Done [] (All-nil (λ (list : List Entry). list ≡ [])); order = λ key. refl };
    goes = λ from its seen t. subst (λ (z : Trail). StandsAt from its z ground olds) (sym (append-nil seen)) t;
  };
  ends = refl;
}

pub serves_then : (pages : ℕ × ℕ) (old mid new : Ground) (done now : ℕ) (xs ys : List (Option Request)) (end : SectionEnd) (text text' : List ℕ) (olds mids news : List Pass) → now ≡ done + length xs
    → ServesSection pages old done xs Finished text olds mid mids → ServesSection pages mid now ys end text' mids new news → ServesSection pages old done (xs ++ ys) end (text ++ text') olds new news
serves_then pages old mid new done now xs ys end text text' olds mids news at a b' = let b = subst (λ (n : ℕ). ServesSection pages mid n ys end text' mids new news) at b' in record {
  answers = a.answers ++ b.answers;
  holds = record {
    more = a.holds.more ++ b.holds.more;
    held = held_then pages done xs ys a.answers b.answers a.holds.more b.holds.more a.holds.held b.holds.held;
    goes = λ from its seen t. subst (λ (z : Trail). StandsAt from its z new news) (append_assoc seen a.holds.more b.holds.more) (b.holds.goes from its (seen ++ a.holds.more) (a.holds.goes from its seen t));
  };
  ends = ap (λ (z : List ℕ). z ++ text') (a.ends ∙ append-nil a.answers) ∙ (ap (λ (z : List ℕ). a.answers ++ z) b.ends ∙ (sym (append_assoc a.answers b.answers (end_text end (done + length xs + length ys + 1)))
      ∙ ap (λ (n : ℕ). (a.answers ++ b.answers) ++ end_text end n) (let long = length-append xs ys in let e : done + length xs + length ys + 1 ≡ done + length (xs ++ ys) + 1 = omega (arith, long) in e)));
}

pub counts_nothing : (totals : Totals) → CountsSection totals totals [] Finished
counts_nothing totals = record { requests = omega arith; malformed = omega arith; sections = omega arith }

pub counts_then : (old mid new : Totals) (xs ys : List (Option Request)) (end : SectionEnd) → CountsSection old mid xs Finished → CountsSection mid new ys end → CountsSection old new (xs ++ ys) end
counts_then old mid new xs ys end a b = record {
  requests = (let long = length-append xs ys in let c = a.requests in let d = b.requests in omega (arith, long, c, d));
  malformed = (let many = sum_by-append (λ (x : Option Request). cond (is_none x) 1 0) xs ys in let c = a.malformed in let d = b.malformed in omega (arith, many, c, d));
  sections = (let many = sum_by-append (λ (x : Option Request). cond (is_sync x) 1 0) xs ys in let c = a.sections in let d = b.sections in omega (arith, many, c, d));
}

-- it was not answered
pub inside_then : (done now : ℕ) (xs ys : List (Option Request)) (fault : ServeFault) → now ≡ done + length xs → IsInside now (length ys) fault → IsInside done (length (xs ++ ys)) fault
inside_then done now xs ys Read at i = absurd i
inside_then done now xs ys Write at i = absurd i
inside_then done now xs ys Memory at i = tt
inside_then done now xs ys (Lost number) at i = let long = length-append xs ys in let a = i.0 in let b = i.1 in (omega (arith, at, a), omega (arith, at, long, b))

-- ---- from chunk to chunk

-- lines of a section were read and answered, and it goes on
pub record HasServed (how : Sectioning) (old : Ground) (olds : List Pass) (ground : Ground) (passes : List Pass) (start now : Totals) (unread mid : List ℕ) (asked : List (Option Request)) (text : List ℕ) : Type 0 where
  pub front : ReadsLines unread mid asked []
  pub no_end : AskNoEnd how asked
  pub counts : CountsSection start now asked Finished
  pub serves : ServesSection (sizes_in old) old start.requests asked Finished text olds ground passes
  pub first : IsAtRest old olds
  pub room : now.requests < 2 ^ 64

pub served_nothing : (how : Sectioning) (ground : Ground) (passes : List Pass) (totals : Totals) (unread : List ℕ) (text : List ℕ) → text ≡ [] → IsAtRest ground passes → totals.requests < 2 ^ 64 → HasServed how ground passes ground passes totals totals unread unread [] text
served_nothing how ground passes totals unread text none t room = subst (HasServed how ground passes ground passes totals totals unread unread []) (sym none) (record {
  front = record { texts = []; each = tt; cut = All-nil (λ b. b ≢ 10); read = refl };
  no_end = asks_none how;
  counts = counts_nothing totals;
  serves = serves_nothing (sizes_in ground) totals.requests ground passes;
  first = t;
  room = room;
})

module _ (how : Sectioning) (old : Ground) (olds : List Pass) (ground : Ground) (passes : List Pass) (start now : Totals) (unread mid : List ℕ) (asked : List (Option Request)) (text : List ℕ) (h : HasServed how old olds ground passes start now unread mid asked text) where
  -- where the server stands
  abbrev place : StandsAt old (sizes_in old) (seen_by olds ++ h.serves.holds.more) ground passes
  place = h.serves.holds.goes old (sizes_in old) (seen_by olds) (stands_first old olds h.first)

  pub rests_here : IsAtRest ground passes
  rests_here = place.rests

  -- its index has no fewer pages than at the section's beginning
  as_before : (lines : List (Option Request)) (end : SectionEnd) (text' : List ℕ) (new : Ground) (news : List Pass) → ServesSection (sizes_in ground) ground now.requests lines end text' passes new news → ServesSection (sizes_in old) ground now.requests lines end text' passes new news
  as_before lines end text' new news s = subst (λ (z : ℕ × ℕ). ServesSection z ground now.requests lines end text' passes new news) place.sizes s

  now_is : now.requests ≡ start.requests + length asked
  now_is = let a = h.counts.requests in omega (arith, a)

  -- the section's last lines
  pub ends_section : (ended : Result SectionEnd ServeFault) (few : ℕ) (lines : List (Option Request)) (rest left : List ℕ) (AtEnd Failed : Type 0) → (ended ≡ Ok Finished → length lines < few) → EndsReading (after_lines how (length asked)) ended (min few (2 ^ 64 - 1 - now.requests)) lines rest mid left AtEnd Failed
      → EndsReading how ended (2 ^ 64 - 1 - start.requests) (asked ++ lines) rest unread left AtEnd Failed
  ends_section ended few lines rest left AtEnd Failed last e = let a = now_is in let b = h.room in
      ends_then how ended (2 ^ 64 - 1 - start.requests) (min few (2 ^ 64 - 1 - now.requests)) unread mid left asked lines rest AtEnd Failed h.front h.no_end (omega (arith, a, b)) (λ is full. let c = last is in omega (arith, a, b, c, full)) e

  pub counts_all : (new : Totals) (lines : List (Option Request)) (end : SectionEnd) → CountsSection now new lines end → CountsSection start new (asked ++ lines) end
  counts_all new lines end c = counts_then start now new asked lines end h.counts c

  pub serves_all : (lines : List (Option Request)) (end : SectionEnd) (text' : List ℕ) (new : Ground) (news : List Pass) → ServesSection (sizes_in ground) ground now.requests lines end text' passes new news → ServesSection (sizes_in old) old start.requests (asked ++ lines) end (text ++ text') olds new news
  serves_all lines end text' new news s = serves_then (sizes_in old) old ground new start.requests now.requests asked lines end text text' olds passes news now_is h.serves (as_before lines end text' new news s)

  -- its next lines could not be answered, while more was read
  pub fails_answering : (fault : ServeFault) (end : SectionEnd) (few most : ℕ) (lines : List (Option Request)) (rest left more : List ℕ) (AtEnd Failed AtEnd' Failed' : Type 0) → EndsReading (after_lines how (length asked)) (Ok end) few lines rest mid left AtEnd Failed → IsInside now.requests (length lines) fault
      → FailsSection how fault start.requests most (asked ++ lines) rest (unread ++ more) (left ++ more) AtEnd' Failed'
  fails_answering fault end few most lines rest left more AtEnd Failed AtEnd' Failed' e inside = inr (
    reads_ahead unread left more (asked ++ lines) rest (reads_then unread mid left asked lines rest h.front (reads_of (after_lines how (length asked)) end few lines rest mid left AtEnd Failed e)),
    inside_then start.requests now.requests asked lines fault now_is inside,
  )

  -- they were answered, while more was read, and it goes on
  pub goes_on : (new : Totals) (end : SectionEnd) (few : ℕ) (lines : List (Option Request)) (rest left more text' : List ℕ) (next : Ground) (news : List Pass) (AtEnd Failed : Type 0) → end ≡ Finished → EndsReading (after_lines how (length asked)) (Ok end) few lines rest mid left AtEnd Failed → few ≤ 2 ^ 64 - 1 - now.requests
      → CountsSection now new lines end → ServesSection (sizes_in ground) ground now.requests lines end text' passes next news → HasServed how old olds next news start new (unread ++ more) (left ++ more) (asked ++ lines) (text ++ text')
  goes_on new end few lines rest left more text' next news AtEnd Failed is e' low c' s' =
      let e = subst (λ (z : SectionEnd). EndsReading (after_lines how (length asked)) (Ok z) few lines rest mid left AtEnd Failed) is e' in let c = subst (CountsSection now new lines) is c' in
      let s = subst (λ (z : SectionEnd). ServesSection (sizes_in ground) ground now.requests lines z text' passes next news) is s' in record {
        front = reads_ahead unread left more (asked ++ lines) [] (reads_then unread mid left asked lines [] h.front (subst (ReadsLines mid left lines) e.2 e.0));
        no_end = no_end_then how asked lines h.no_end e.3;
        counts = counts_all new lines Finished c;
        serves = serves_all lines Finished text' next news s;
        first = h.first;
        room = (let a = c.requests in let b = e.1 in let d = h.room in omega (arith, a, b, d, low));
      }

pub finished_by : (end : SectionEnd) → ◌≡◌ {A = Result SectionEnd ServeFault} (Ok end) (Ok Finished) → end ≡ Finished
finished_by ByLine is = absurd (let no : ⊥ = cc in no)
finished_by Rest is = absurd (let no : ⊥ = cc in no)
finished_by Finished is = refl

pub finished_none : (end : SectionEnd) → end ≡ Finished → rests end ≡ 0
finished_none end is = ap rests is
