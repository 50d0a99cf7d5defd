-- Where each line is a section, the history is in the order of the lines; where a sync ends one, there are as many sections as syncs.
use Rattle.std.proofs.Common.{◌≡◌, ℕ, suc, ◌+◌, List, [], ◌∷◌, ◌++◌, length, map, refl, ap, sym, ◌∙◌, subst, length-append, append-nil, arith}
use Rattle.std.specs.Prelude.{All, flat_map, sum_by}
use Rattle.std.proofs.lemmas.List.Sums.{sum_by-append}
use Rattle.std.proofs.lemmas.List.Concat.{flat_map-append, flat_map-cons}
use Rattle.std.proofs.lemmas.List.Elements.{All-head, All-tail}
use Rattle.bl_model.specs.declared.operation.Entry.{Entry}
use Rattle.bl_model.specs.Map.{Map}
use Rattle.bl_serve_lines.specs.declared.serving.Sectioning.TheVariants.{BySync, AtMost}
use Rattle.bl_serve_lines.specs.declared.serving.Totals.{Totals}
use Rattle.bl_serve_lines.specs.Lines.{Answer, Line, Replied, Added, Scanned, Saved, Stated, Synced, Malformed, entries}
use Rattle.bl_serve_lines.specs.Served.{Interleaves, Section, HasNoEnd, IsFinished, Served, lines_of, history_of, syncs_of, whole_history, entries_in, LinesAloneKeepOrder}
use Rattle.bl_serve_lines.specs.Served.Interleaves.{Done, Takes}

-- ---- each line is a section

-- a history of one list is that list, and of none it is empty
of_one : {lists : List (List Entry)} {history : List Entry} → Interleaves lists history → (list : List Entry) → lists ≡ list ∷ [] → history ≡ list
of_one (Done lists none) list is = sym (All-head (λ (l : List Entry). l ≡ []) list [] (subst (All (λ (l : List Entry). l ≡ [])) is none))
of_one (Takes [] e rest after history more) list is =
    let front : e ∷ rest ≡ list = cc in let none : after ≡ [] = cc in
    ap (λ (z : List Entry). e ∷ z) (of_one more rest (ap (λ (z : List (List Entry)). rest ∷ z) none)) ∙ front
of_one (Takes (b ∷ before) e rest after history more) list is =
    let long = length-append before ((e ∷ rest) ∷ after) in let same = ap length is in absurd (omega (arith, long, same))

of_none : {lists : List (List Entry)} {history : List Entry} → Interleaves lists history → lists ≡ [] → history ≡ []
of_none (Done lists none) is = refl
of_none (Takes before e rest after history more) is = let long = length-append before ((e ∷ rest) ∷ after) in let same = ap length is in absurd (omega (arith, long, same))

-- no line stands where none may
no_lines : (lines : List Line) → HasNoEnd (AtMost 1) lines → lines ≡ []
no_lines [] h = refl
no_lines (line ∷ lines) h = let short = h.1 in absurd (omega (arith, short))

one_section : (pages : ℕ × ℕ) (section : Section) → IsFinished (AtMost 1) pages section → section.history ≡ entries_in section.lines
one_section pages section f =
    let alone : section.lines ≡ f.end ∷ [] = f.lines ∙ ap (λ (z : List Line). z ++ f.end ∷ []) (no_lines f.front f.no_end) in
    of_one f.whole.history (entries f.end.answer) (ap (map (λ (l : Line). entries l.answer)) alone)
    ∙ (sym (append-nil (entries f.end.answer)) ∙ ap entries_in (sym alone))

all_sections : (pages : ℕ × ℕ) (sections : List Section) → All (IsFinished (AtMost 1) pages) sections → history_of sections ≡ entries_in (lines_of sections)
all_sections pages [] each = refl
all_sections pages (s ∷ ss) each = flat_map-cons (λ (x : Section). x.history) s ss
    ∙ (ap (λ (z : List Entry). z ++ history_of ss) (one_section pages s (All-head (IsFinished (AtMost 1) pages) s ss each))
    ∙ (ap (λ (z : List Entry). entries_in s.lines ++ z) (all_sections pages ss (All-tail (IsFinished (AtMost 1) pages) s ss each))
    ∙ (sym (flat_map-append (λ (l : Line). entries l.answer) s.lines (lines_of ss)) ∙ ap entries_in (sym (flat_map-cons (λ (x : Section). x.lines) s ss)))))

-- the history has the entries of the lines in their order
pub in_line_order : LinesAloneKeepOrder
in_line_order pages start input output totals s =
    let none = no_lines s.last.lines s.no_end in
    ap (λ (z : List Entry). history_of s.sections ++ z) (of_none s.whole.history (ap (map (λ (l : Line). entries l.answer)) none))
    ∙ (append-nil (history_of s.sections) ∙ (all_sections pages s.sections s.each ∙ ap entries_in (sym (ap (λ (z : List Line). lines_of s.sections ++ z) none ∙ append-nil (lines_of s.sections)))))

-- ---- a sync ends a section

not_one : (answer : Answer) → ¬ (answer ≡ Synced) → syncs_of answer ≡ 0
not_one (Replied entry) other = refl
not_one (Added key number es reply) other = refl
not_one (Scanned asked parts) other = refl
not_one (Saved parts done) other = refl
not_one (Stated all used free) other = refl
not_one Synced other = absurd (other refl)
not_one Malformed other = refl

no_syncs : (lines : List Line) → HasNoEnd BySync lines → sum_by (λ line. syncs_of line.answer) lines ≡ 0
no_syncs [] h = refl
no_syncs (line ∷ lines) h = let f : Line → ℕ = λ x. syncs_of x.answer in
    let more = no_syncs lines (All-tail (λ (l : Line). ¬ (l.answer ≡ Synced)) line lines h.0, tt) in
    let one = not_one line.answer (All-head (λ (l : Line). ¬ (l.answer ≡ Synced)) line lines h.0) in
    let front = sum_by-append f (line ∷ []) lines in let alone : sum_by f (line ∷ []) ≡ 0 + syncs_of line.answer = refl in omega (arith, more, one, front, alone)

one_sync : (pages : ℕ × ℕ) (section : Section) → IsFinished BySync pages section → sum_by (λ line. syncs_of line.answer) section.lines ≡ 1
one_sync pages section f = let g : Line → ℕ = λ x. syncs_of x.answer in
    let none = no_syncs f.front f.no_end in let front = sum_by-append g f.front (f.end ∷ []) in
    let alone : sum_by g (f.end ∷ []) ≡ 0 + syncs_of f.end.answer = refl in let one : syncs_of f.end.answer ≡ 1 = ap syncs_of f.last in
    ap (sum_by g) f.lines ∙ (let sum : sum_by g (f.front ++ f.end ∷ []) ≡ 1 = omega (arith, none, front, alone, one) in sum)

all_syncs : (pages : ℕ × ℕ) (sections : List Section) → All (IsFinished BySync pages) sections → sum_by (λ line. syncs_of line.answer) (lines_of sections) ≡ length sections
all_syncs pages [] each = refl
all_syncs pages (s ∷ ss) each = let g : Line → ℕ = λ x. syncs_of x.answer in
    let one = one_sync pages s (All-head (IsFinished BySync pages) s ss each) in let more = all_syncs pages ss (All-tail (IsFinished BySync pages) s ss each) in
    let front = sum_by-append g s.lines (lines_of ss) in
    ap (sum_by g) (flat_map-cons (λ (x : Section). x.lines) s ss) ∙ (let sum : sum_by g (s.lines ++ lines_of ss) ≡ suc (length ss) = omega (arith, one, more, front) in sum)

-- there are as many syncs as finished sections
pub as_many_sections : {pages : ℕ × ℕ} {start : Map} {input output : List ℕ} {totals : Totals} (s : Served BySync pages start input output totals) → totals.sections ≡ length s.sections
as_many_sections {pages} s = let g : Line → ℕ = λ x. syncs_of x.answer in
    let front = sum_by-append g (lines_of s.sections) s.last.lines in let all = all_syncs pages s.sections s.each in let none = no_syncs s.last.lines s.no_end in
    let is = s.syncs in omega (arith, front, all, none, is)
