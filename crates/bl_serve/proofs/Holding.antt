-- A section that was answered, after which all passes have met.
use Rattle.std.proofs.Common.{◌≡◌, ◌≢◌, ℕ, suc, ◌+◌, ◌<◌, List, [], ◌∷◌, ◌++◌, length, map, refl, sym, ap, ◌∙◌, subst, append-nil, arith}
use Rattle.std.specs.Prelude.{All, Option, codes}
use Rattle.std.specs.List.{AllZip}
use Rattle.std.proofs.lemmas.List.{length-map}
use Rattle.std.proofs.lemmas.List.Elements.{All-nil, All-cons, All-head, All-tail}
use Rattle.bl_serve_lines.specs.declared.request.Request.{Request}
use Rattle.bl_page.specs.declared.page.Page.{Page}
use Rattle.bl_layout.specs.declared.layout.Layout.{Layout}
use Rattle.bl_claims.specs.Trails.{Trail}
use Rattle.bl_claims.specs.Seeing.{IsLinearizable, AreWithin, own, GoesOnFrom}
use Rattle.bl_index.specs.declared.index.Index.{Index}
use Rattle.bl_index.specs.declared.index.Pass.{Pass}
use Rattle.bl_index.specs.Calls.{first_of, pages_of, IsPassOf, number_of, trail, passes_of}
use Rattle.bl_index.proofs.Taken.{same_of}
use Rattle.bl_serve.specs.Chunks.{Taken, IsTaken, IsChunk}
use Rattle.bl_map.specs.Meetings.{Comes}
use Rattle.bl_serve.specs.Meetings.{AllMeet}
use Rattle.bl_serve_reading.specs.declared.section_reader.SectionEnd.{SectionEnd}
use Rattle.bl_serve_reading.specs.declared.section_reader.SectionEnd.TheVariants.{ByLine, Rest, Finished}
use Rattle.bl_serve_lines.specs.Text.{numbered}
use Rattle.bl_serve.specs.Sections.{end_text}
use Rattle.bl_serve_ground.specs.declared.ground.Ground.{Ground}
use Rattle.bl_serve.specs.Holding.{HoldsChunk, HoldsSection, ServesSection}
use Rattle.bl_serve_ground.specs.Together.{AreFrom, AreTogether, seen_by}
use Rattle.bl_serve_worker.proofs.Lines.{goes_on}
use Rattle.bl_serve.proofs.Sections.{FitsFrom, section}

abbrev olds_of : List Taken → List Pass
olds_of taken = map (λ t. t.old) taken

abbrev news_of : List Taken → List Pass
news_of taken = map (λ t. t.new) taken

-- ---- the passes meet

all_seen : (first : List (Option Page)) (index : Index) (old : Trail) (from : ℕ) (taken : List Taken) → IsLinearizable first old → AreFrom index old from (olds_of taken) → All (IsTaken first) taken → All (λ p. IsLinearizable first (trail p)) (news_of taken)
all_seen first index old from [] seen h each = All-nil (λ (p : Pass). IsLinearizable first (trail p))
all_seen first index old from (t ∷ ts) seen h each = All-cons (λ (p : Pass). IsLinearizable first (trail p)) t.new (news_of ts) ((All-head (IsTaken first) t ts each).seen (subst (IsLinearizable first) (sym h.2) seen)) (all_seen first index old (suc from) ts seen h.3 (All-tail (IsTaken first) t ts each))

come_from : (first : List (Option Page)) (index : Index) (old now : Trail) (from : ℕ) (taken : List Taken) (met : List Pass) → AreFrom index old from (olds_of taken) → All (IsTaken first) taken → AllZip (Comes now) (news_of taken) met → AreFrom index now from met × FitsFrom old now from taken
come_from first index old now from [] [] h each come = (tt, tt)
come_from first index old now from [] (q ∷ qs) h each come = absurd come
come_from first index old now from (t ∷ ts) [] h each come = absurd come
come_from first index old now from (t ∷ ts) (q ∷ qs) h each come =
    let here = All-head (IsTaken first) t ts each in let r = come_from first index old now (suc from) ts qs h.3 (All-tail (IsTaken first) t ts each) come.1 in
    let number : number_of t.new ≡ from = here.same.2 ∙ h.1 in (
      (same_of index t.new q come.0.same (same_of index t.old t.new here.same h.0), come.0.same.2 ∙ number, come.0.is, r.0),
      (h.1, h.2, subst (λ (z : ℕ). own z now ≡ own z (trail t.new)) number come.0.none, r.1),
    )

-- all that the passes have seen was done by passes of the index
pub all_within : (index : Index) (now : Trail) (from : ℕ) (passes : List Pass) → 0 < length passes → AreFrom index now from passes → AreWithin (passes_of index) now
all_within index now from [] some h = absurd (omega arith)
all_within index now from (p ∷ ps) some h = subst (AreWithin (passes_of index)) h.2 (subst (λ (z : Layout). AreWithin z.passes (trail p)) h.0.1 p.within)

goes_to : (first : List (Option Page)) (index : Index) (old now : Trail) (from : ℕ) (taken : List Taken) (met : List Pass) → 0 < length taken → AreFrom index old from (olds_of taken) → All (IsTaken first) taken → AllZip (Comes now) (news_of taken) met → GoesOnFrom old now
goes_to first index old now from [] met some h each come = absurd (omega arith)
goes_to first index old now from (t ∷ ts) [] some h each come = absurd come
goes_to first index old now from (t ∷ ts) (q ∷ qs) some h each come = goes_on old (trail t.new) now (subst (λ (z : Trail). GoesOnFrom z (trail t.new)) h.2 (All-head (IsTaken first) t ts each).begins) come.0.begins

zip_long : {A B : Type 0} (R : A → B → Type 0) (xs : List A) (ys : List B) → AllZip R xs ys → length ys ≡ length xs
zip_long R [] [] h = refl
zip_long R [] (y ∷ ys) h = absurd h
zip_long R (x ∷ xs) [] h = absurd h
zip_long R (x ∷ xs) (y ∷ ys) h = ap suc (zip_long R xs ys h.1)

pub holds : (index : Index) (done : ℕ) (lines : List (Option Request)) (text : List ℕ) (olds news met : List Pass) → 0 < length olds → AreTogether index (seen_by olds) olds → IsChunk (first_of index) (pages_of index) (suc done) lines text olds news → AllMeet (first_of index) news met → HoldsChunk index done lines text olds met
holds index done lines text olds news met some t r m =
    let first : List (Option Page) = first_of index in
    let old : Trail = seen_by olds in
    let each : AreFrom index old 0 (olds_of r.taken) = subst (AreFrom index old 0) (sym r.old_are) t.each in
    let come : AllZip (Comes m.seen) (news_of r.taken) met = subst (λ (z : List Pass). AllZip (Comes m.seen) z met) (sym r.new_are) m.each in
    let count : length r.taken ≡ length olds = sym (length-map r.taken (λ (x : Taken). x.old)) ∙ ap length r.old_are in
    let long : length met ≡ length olds = zip_long (Comes m.seen) (news_of r.taken) met come ∙ (length-map r.taken (λ (x : Taken). x.new) ∙ count) in
    let parts = come_from first index old m.seen 0 r.taken met each r.each_taken come in
    let seen : IsLinearizable first m.seen = m.may_be (subst (All (λ (p : Pass). IsLinearizable first (trail p))) r.new_are (all_seen first index old 0 r.taken t.may_be each r.each_taken)) in
    let on : GoesOnFrom old m.seen = goes_to first index old m.seen 0 r.taken met (omega (arith, count)) each r.each_taken come in
    let within : AreWithin (length r.taken) m.seen = subst (λ (z : ℕ). AreWithin z m.seen) (sym (count ∙ t.count)) (all_within index m.seen 0 met (omega (arith, long)) parts.0) in
    let s = section first (pages_of index) (suc done) lines text olds news old m.seen r on seen within parts.1 in record {
      more = s.more;
      held = record { answers = r.answers; each = r.each; prints = r.prints; interleaves = s.interleaves; order = s.order };
      together = subst (λ (z : Trail). AreTogether index z met) s.on (record { count = long ∙ t.count; each = parts.0; may_be = seen });
    }

-- ---- how the section ended

-- it ended by its last line, or with the input
pub plain_section : (pages : ℕ × ℕ) (old : Ground) (done : ℕ) (lines : List (Option Request)) (end : SectionEnd) (text : List ℕ) (olds : List Pass) (new : Ground) (news : List Pass) → end ≢ Rest → HoldsSection pages old done lines text olds new news → ServesSection pages old done lines end text olds new news
plain_section pages old done lines ByLine text olds new news other h = record { answers = text; holds = h; ends = sym (append-nil text) }
plain_section pages old done lines Rest text olds new news other h = absurd (other refl)
plain_section pages old done lines Finished text olds new news other h = record { answers = text; holds = h; ends = sym (append-nil text) }

-- with bytes behind the last LF, which are one line more
pub rest_section : (pages : ℕ × ℕ) (old : Ground) (done number : ℕ) (lines : List (Option Request)) (end : SectionEnd) (text : List ℕ) (olds : List Pass) (new : Ground) (news : List Pass) → end ≡ Rest → number ≡ done + length lines + 1 → HoldsSection pages old done lines text olds new news
    → ServesSection pages old done lines end (text ++ numbered number (codes "malformed")) olds new news
rest_section pages old done number lines end text olds new news is at h = record {
  answers = text;
  holds = h;
  ends = ap (λ (z : ℕ). text ++ numbered z (codes "malformed")) at ∙ ap (λ (z : SectionEnd). text ++ end_text z (done + length lines + 1)) (sym is);
}
