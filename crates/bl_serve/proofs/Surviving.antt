-- What a crash leaves of a server, from section to section.
use Rattle.std.proofs.Common.{◌≡◌, ◌≢◌, ℕ, ◌+◌, ◌<◌, List, [], ◌++◌, length, refl, sym, ap, ◌∙◌, subst, append_assoc, append-nil, inl, inr}
use Rattle.std.specs.Prelude.{Option, Ok}
use Rattle.std.specs.Io.KnownBytes.{Appends, Keeps}
use Rattle.std.proofs.KnownBytes.{Appends-kept}
use Rattle.std.proofs.lemmas.List.Elements.{All-nil}
use Rattle.bl_model.specs.declared.operation.Entry.{Entry}
use Rattle.bl_model.specs.History.{IsLegalFrom, final_map}
use Rattle.bl_model.specs.Map.{Map}
use Rattle.bl_model.proofs.Histories.{final_map-append}
use Rattle.bl_journal.specs.Logs.{IsLogOf}
use Rattle.bl_journal.specs.Rows.{Leads}
use Rattle.bl_outside.specs.Crashes.{FindsOnly, KeepsFirst}
use Rattle.bl_outside.proofs.Finding.{finds_less, finds_then}
use Rattle.bl_serve_lines.specs.declared.request.Request.{Request}
use Rattle.bl_serve_lines.specs.declared.serving.Sectioning.{Sectioning}
use Rattle.bl_serve_lines.specs.declared.serving.ServeFault.TheVariants.{Write}
use Rattle.bl_serve_lines.specs.declared.serving.Totals.{Totals}
use Rattle.bl_serve_lines.specs.Lines.{IsLine}
use Rattle.bl_serve_lines.specs.Served.{IsFinished, Section, Stopped, lines_of}
use Rattle.bl_serve_lines.specs.Served.Interleaves.{Done}
use Rattle.bl_serve_lines.specs.Served as served
use Rattle.bl_serve_lines.proofs.Known.{appends_more, appends_start}
use Rattle.bl_serve_lines.proofs.Sections.{no_end_any, no_end_none}
use Rattle.bl_page.specs.declared.page.Page.{Page}
use Rattle.bl_claims.specs.Trails.{Trail, history_of}
use Rattle.bl_claims.specs.Seeing.{first_map}
use Rattle.bl_index.specs.declared.index.Pass.{Pass}
use Rattle.bl_index.specs.Calls.{first_of, map_after}
use Rattle.bl_serve_ground.specs.declared.ground.Ground.{Ground}
use Rattle.bl_serve_reading.specs.declared.section_reader.SectionEnd.{SectionEnd}
use Rattle.bl_serve_reading.specs.Reading.{EndsReading}
use Rattle.bl_serve.specs.Sections.{end_text}
use Rattle.bl_serve.specs.Holding.{ServesSection}
use Rattle.bl_serve_ground.specs.Standing.{StandsAt, index_in, map_in}
use Rattle.bl_serve.specs.Surviving.{Survives}
use Rattle.bl_serve_worker.proofs.Lines.{history_append}
use Rattle.bl_serve.proofs.Advance.{Progress, no_progress, section_of, stopped, the_lines, the_are, whole_section, read_is, text_is, open_text, legal_on, legal_so_far}
use Rattle.bl_serve.proofs.Faults.{ended, now_seen, stands_now}

-- more was read, of which nothing is answered
pub survives_more : (how : Sectioning) (pages : ℕ × ℕ) (start : Map) (input more : List ℕ) (before told : Option (List ℕ)) (left : List ℕ) → Survives how pages start input before told left → Survives how pages start (input ++ more) before told left
survives_more how pages start input more before told left s = let a = s.answered in record {
  output = s.output;
  printed = s.printed;
  answered = record {
    sections = a.sections;
    last = a.last;
    rest = a.rest;
    ahead = a.ahead ++ more;
    begun = a.begun;
    unwritten = a.unwritten;
    each = a.each;
    whole = a.whole;
    open_lines = a.open_lines;
    cut = a.cut;
    legal = a.legal;
    read = ap (λ (z : List ℕ). z ++ more) a.read ∙ longer _ a.rest a.ahead more;
    open_output = a.open_output;
    written = a.written;
    leaves = tt;
  };
  logged = s.logged;
  all_or_none = s.all_or_none;
  not_behind = s.not_behind;
  log = s.log;
}
  where
    longer : (a b c d : List ℕ) → (a ++ b ++ c) ++ d ≡ a ++ b ++ (c ++ d)
    longer a b c d = append_assoc (a ++ b) c d

-- the map after finished sections, and after more
map_then : (first : List (Option Page)) (old now : Trail) (h : List Entry) (begun more : Trail) → now ≡ old ++ begun → history_of begun ≡ h → final_map (map_after first old) (h ++ history_of more) ≡ map_after first (now ++ more)
map_then first old now h begun more is same =
    ap (λ (z : List Entry). final_map (map_after first old) (z ++ history_of more)) (sym same)
    ∙ (sym (final_map-append (first_map first) (history_of old) (history_of begun ++ history_of more))
    ∙ ap (final_map (first_map first)) (sym (append_assoc (history_of old) (history_of begun) (history_of more))
    ∙ (ap (λ (z : List Entry). z ++ history_of more) (sym (history_append old begun) ∙ ap history_of (sym is)) ∙ sym (history_append now more))))

-- between two sections
pub survives_between : (how : Sectioning) (pages : ℕ × ℕ) (first : List (Option Page)) (old now : Trail) (totals : Totals) (input output ahead : List ℕ) (before told : Option (List ℕ)) (left : List ℕ)
    → Progress how pages old now totals input output → IsLegalFrom (first_map first) (history_of now) → Appends before told output → IsLogOf left (map_after first now) → Survives how pages (map_after first old) (input ++ ahead) before told left
survives_between how pages first old now totals input output ahead before told left p seen printed log = record {
  output = output ++ [];
  printed = subst (Appends before told) (sym (append-nil output)) printed;
  answered = stopped how pages first old now totals input output ahead ahead [] [] [] Write p (record { lines = []; history = [] })
      (record { lines = All-nil (IsLine pages); history = Done [] (All-nil (λ (list : List Entry). list ≡ [])); order = λ key. refl })
      (no_end_any how [] (no_end_none how)) (All-nil (λ b. b ≢ 10))
      (subst (IsLegalFrom (map_after first old)) (sym (append-nil (served.history_of p.sections))) (legal_so_far first old now (served.history_of p.sections) seen p.more p.begins p.history))
      refl refl tt;
  logged = [];
  all_or_none = inl refl;
  not_behind = λ some. absurd (some refl);
  log = subst (IsLogOf left) (sym (map_then first old now (served.history_of p.sections) p.more [] p.begins p.history ∙ ap (map_after first) (append-nil now))) log;
}

-- nothing was read
pub survives_nothing : (how : Sectioning) (pages : ℕ × ℕ) (start : Map) (before told : Option (List ℕ)) (left : List ℕ) → Keeps before told × IsLogOf left start → Survives how pages start [] before told left
survives_nothing how pages start before told left (same, log) = record {
  output = [];
  printed = Appends-kept before before told [] (appends_start before) same;
  answered = record {
    sections = [];
    last = record { lines = []; history = [] };
    rest = [];
    ahead = [];
    begun = [];
    unwritten = [];
    each = All-nil (IsFinished how pages);
    whole = record { lines = All-nil (IsLine pages); history = Done [] (All-nil (λ (list : List Entry). list ≡ [])); order = λ key. refl };
    open_lines = no_end_any how [] (no_end_none how);
    cut = All-nil (λ b. b ≢ 10);
    legal = tt;
    read = refl;
    open_output = refl;
    written = refl;
    leaves = tt;
  };
  logged = [];
  all_or_none = inl refl;
  not_behind = λ some. absurd (some refl);
  log = log;
}

-- before the first one
pub survives_first : (how : Sectioning) (pages : ℕ × ℕ) (first : List (Option Page)) (old : Trail) (totals : Totals) (before told : Option (List ℕ)) (left : List ℕ) → (totals.requests ≡ 0) × (totals.malformed ≡ 0) × (totals.sections ≡ 0)
    → IsLegalFrom (first_map first) (history_of old) → Keeps before told × IsLogOf left (map_after first old) → Survives how pages (map_after first old) [] before told left
survives_first how pages first old totals before told left none seen now =
    survives_between how pages first old old totals [] [] [] before told left (no_progress how pages old totals none) seen (Appends-kept before before told [] (appends_start before) now.0) now.1

-- while what a section has changed is kept, and then its replies are printed
pub survives_section : (how : Sectioning) (from : Ground) (pages : ℕ × ℕ) (seen : Trail) (totals : Totals) (asked : List (Option Request)) (end : SectionEnd) (text : List ℕ) (old_ground : Ground) (olds : List Pass) (new_ground : Ground) (news : List Pass) (t : StandsAt from pages seen old_ground olds) (s : ServesSection pages old_ground totals.requests asked end text olds new_ground news)
    → (old : Trail) (input output unread ahead rest : List ℕ) (most : ℕ) (AtEnd Failed : Type 0) → Progress how pages old seen totals input output → EndsReading how (Ok end) most asked rest unread ahead AtEnd Failed
    → (before so_far told : Option (List ℕ)) (left : List ℕ) → Appends before so_far output → KeepsFirst so_far text (map_after (first_of (index_in from)) seen) (map_after (first_of (index_in from)) (now_seen how from pages seen totals asked end text old_ground olds new_ground news t s)) told left
    → Survives how pages (map_after (first_of (index_in from)) old) (input ++ unread) before told left
survives_section how from pages seen totals asked end text old_ground olds new_ground news t s old input output unread ahead rest most AtEnd Failed p e before so_far told left printed (inl (same, log)) =
    survives_between how pages (first_of (index_in from)) old seen totals input output unread before told left p t.legal (Appends-kept before so_far told output printed same) log
survives_section how from pages seen totals asked end text old_ground olds new_ground news t s old input output unread ahead rest most AtEnd Failed p e before so_far told left printed (inr (starts, log)) =
    let first : List (Option Page) = first_of (index_in from) in let more : Trail = s.holds.more in let held = s.holds.held in
    let w = ended how pages unread ahead asked rest totals.requests s.answers more held end most AtEnd Failed e in
    let linear : IsLegalFrom (first_map first) (history_of (seen ++ more)) = (stands_now how from pages seen totals asked end text old_ground olds new_ground news t s).legal in record {
      output = output ++ starts.0;
      printed = appends_more before so_far told output starts.0 printed starts.3;
      answered = stopped how pages first old seen totals input output unread ahead rest starts.0 starts.1 Write p (section_of (the_lines pages unread ahead asked rest w.reads totals.requests s.answers more held) more)
          (whole_section pages unread ahead asked rest w.reads totals.requests s.answers more held) w.inside w.reads.cut
          (legal_on first old seen more (served.history_of p.sections) linear p.more p.begins p.history) (read_is pages unread ahead asked rest w.reads totals.requests s.answers more held)
          (sym (open_text p.sections (the_lines pages unread ahead asked rest w.reads totals.requests s.answers more held) rest s.answers (end_text end (totals.requests + length asked + 1)) totals.requests (length asked) p.requests
          (the_are pages unread ahead asked rest w.reads totals.requests s.answers more held).long (text_is pages unread ahead asked rest w.reads totals.requests s.answers more held) (w.prints (totals.requests + length asked + 1))) ∙ (sym s.ends ∙ starts.2))
          tt;
      logged = history_of more;
      all_or_none = inr refl;
      not_behind = λ any. refl;
      log = subst (IsLogOf left) (sym (map_then first old seen (served.history_of p.sections) p.more more p.begins p.history)) log;
    }

-- ---- from section to section

module _ (how : Sectioning) (from : Ground) (pages : ℕ × ℕ) (seen : Trail) (totals : Totals) (asked : List (Option Request)) (end : SectionEnd) (text : List ℕ) (old_ground : Ground) (olds : List Pass) (new_ground : Ground) (news : List Pass) (t : StandsAt from pages seen old_ground olds) (s : ServesSection pages old_ground totals.requests asked end text olds new_ground news) where
  abbrev now : Trail
  now = now_seen how from pages seen totals asked end text old_ground olds new_ground news t s

  -- what was noted leads from the map that it had come to, to that to which it has come
  pub leads_on : (came went : List (ℕ × ℕ)) → Leads came went (map_in old_ground olds) (map_in new_ground news) → Leads came went (map_after (first_of (index_in from)) seen) (map_after (first_of (index_in from)) now)
  leads_on came went leads = subst (λ (z : Map × Map). Leads came went z.0 z.1) (λ i. (t.map i, (stands_now how from pages seen totals asked end text old_ground olds new_ground news t s).map i)) leads

  -- it was read and answered, what it has changed is kept, and its replies are printed
  pub lives_on : {O : Type 0} (moment : O → ℕ) (finds : O → ℕ → Option (List ℕ) → List ℕ → Type 0) (first mid last : O) (old : Trail) (input output ahead more left rest given : List ℕ) (most : ℕ) (AtEnd Failed : Type 0)
      → Progress how pages old seen totals input output → EndsReading how (Ok end) most asked rest (ahead ++ more) left AtEnd Failed → (before so_far : Option (List ℕ)) → Appends before so_far output → given ≡ text
      → FindsOnly moment finds first mid (Survives how pages (map_after (first_of (index_in from)) old) (input ++ ahead) before)
      → FindsOnly moment finds mid last (KeepsFirst so_far given (map_after (first_of (index_in from)) seen) (map_after (first_of (index_in from)) now))
      → FindsOnly moment finds first last (Survives how pages (map_after (first_of (index_in from)) old) (input ++ (ahead ++ more)) before)
  lives_on moment finds first mid last old input output ahead more left rest given most AtEnd Failed p e before so_far printed is run keeps =
      finds_then moment finds first mid last _
      (finds_less moment finds first mid _ _ run (λ told log h. subst (λ (z : List ℕ). Survives how pages (map_after (first_of (index_in from)) old) z before told log) (append_assoc input ahead more) (survives_more how pages (map_after (first_of (index_in from)) old) (input ++ ahead) more before told log h)))
      (finds_less moment finds mid last _ _ keeps (λ told log h. survives_section how from pages seen totals asked end text old_ground olds new_ground news t s old input output (ahead ++ more) left rest most AtEnd Failed p e before so_far told log printed
      (subst (λ (z : List ℕ). KeepsFirst so_far z (map_after (first_of (index_in from)) seen) (map_after (first_of (index_in from)) now) told log) is h)))

-- it was read, and not answered
pub lives_reading : {O : Type 0} (moment : O → ℕ) (finds : O → ℕ → Option (List ℕ) → List ℕ → Type 0) (first mid : O) (how : Sectioning) (pages : ℕ × ℕ) (start : Map) (input ahead more : List ℕ) (before : Option (List ℕ))
    → FindsOnly moment finds first mid (Survives how pages start (input ++ ahead) before) → FindsOnly moment finds first mid (Survives how pages start (input ++ (ahead ++ more)) before)
lives_reading moment finds first mid how pages start input ahead more before run =
    finds_less moment finds first mid _ _ run (λ told log h. subst (λ (z : List ℕ). Survives how pages start z before told log) (append_assoc input ahead more) (survives_more how pages start (input ++ ahead) more before told log h))
