-- How far a section was read.
use Rattle.std.proofs.Common.{◌≡◌, ◌≢◌, ℕ, zero, suc, ◌+◌, List, [], ◌∷◌, ◌++◌, length, drop, refl, sym, ap, ◌∙◌, subst, append_assoc, append-nil, arith, ◌<◌, ◌≤◌, inl, inr, ⊎_elim}
use Rattle.std.specs.Prelude.{All, Option, Some}
use Rattle.std.proofs.lemmas.Bool.{cases_lt}
use Rattle.std.proofs.lemmas.List.{flat_map_more}
use Rattle.std.proofs.lemmas.List.Elements.{All-nil, All-push}
use Rattle.bl_serve_lines.specs.declared.request.Request.{Request}
use Rattle.bl_serve_lines.specs.declared.request.Request.TheVariants.{Sync}
use Rattle.bl_serve_lines.specs.declared.serving.Sectioning.{Sectioning}
use Rattle.bl_serve_lines.specs.declared.serving.Sectioning.TheVariants.{BySync, AtMost}
use Rattle.bl_serve_lines.proofs.Sections.{short_none}
use Rattle.bl_serve_lines.proofs.Known.{zip_append}
use Rattle.bl_serve_lines.specs.Lines.{HasNoLf}
use Rattle.bl_serve_reading.specs.Reading.{IsReadAs, bytes_of, AsksEnd, AskNoEnd, AskEndLast, ReadsLines}

no_lf : HasNoLf []
no_lf = All-nil (λ b. b ≢ 10)

pub asks_none : (how : Sectioning) → AskNoEnd how []
asks_none how = (All-nil (λ a. a ≢ Some Sync), short_none how)

pub asks_more : (how : Sectioning) (asked new : List (Option Request)) (a : Option Request) → AskNoEnd how asked → new ≡ asked ++ a ∷ [] → ¬ AsksEnd how (length new) a → AskNoEnd how new
asks_more BySync asked new a h is other = (subst (All (λ z. z ≢ Some Sync)) (sym is) (All-push (λ z. z ≢ Some Sync) asked a h.0 other), tt)
asks_more (AtMost most) asked new a h is other = (
  subst (All (λ z. z ≢ Some Sync)) (sym is) (All-push (λ z. z ≢ Some Sync) asked a h.0 (λ e. other (inl e))),
  ⊎_elim (λ (low : length new < most). omega (arith, low)) (λ (high : most ≤ length new). absurd (other (inr high))) (cases_lt (length new) most),
)

pub asks_end : (how : Sectioning) (asked new : List (Option Request)) (a : Option Request) → AskNoEnd how asked → new ≡ asked ++ a ∷ [] → AsksEnd how (length new) a → AskEndLast how new
asks_end how asked new a h is end = record { front = asked; last = a; ends = is; is_end = end; no_end = h }

pub reads_none : (source : List ℕ) (lines : List (Option Request)) → lines ≡ [] → ReadsLines (source ++ []) source lines []
reads_none source lines is = subst (λ z. ReadsLines (source ++ []) source z []) (sym is) (record { texts = []; each = tt; cut = no_lf; read = append-nil source })

pub reads_more : (source more x left new bytes : List ℕ) (lines lines' : List (Option Request)) (asked : Option Request) → ReadsLines (source ++ more) left lines [] → IsReadAs asked bytes → left ++ x ≡ bytes ++ 10 ∷ new → lines' ≡ lines ++ asked ∷ []
    → ReadsLines (source ++ (more ++ x)) new lines' []
reads_more source more x left new bytes lines lines' asked r one is grown = subst (λ z. ReadsLines (source ++ (more ++ x)) new z []) (sym grown) (record {
  texts = r.texts ++ bytes ∷ [];
  each = zip_append IsReadAs lines (asked ∷ []) r.texts (bytes ∷ []) r.each (one, tt);
  cut = no_lf;
  read = sym (append_assoc source more x) ∙ (ap (λ z. z ++ x) (r.read ∙ ap (λ z. z ++ left) (append-nil (bytes_of r.texts))) ∙ (append_assoc (bytes_of r.texts) left x
      ∙ (ap (λ z. bytes_of r.texts ++ z) (is ∙ sym (append_assoc bytes (10 ∷ []) new)) ∙ (sym (append_assoc (bytes_of r.texts) (bytes ++ 10 ∷ []) new)
      ∙ (ap (λ z. z ++ new) (flat_map_more (λ (t : List ℕ). t ++ 10 ∷ []) [] r.texts bytes) ∙ ap (λ z. z ++ new) (sym (append-nil (bytes_of (r.texts ++ bytes ∷ [])))))))));
})

pub reads_rest : (source more x left new rest : List ℕ) (lines : List (Option Request)) → ReadsLines (source ++ more) left lines [] → left ++ x ≡ rest ++ new → HasNoLf rest → ReadsLines (source ++ (more ++ x)) new lines rest
reads_rest source more x left new rest lines r is cut = record {
  texts = r.texts;
  each = r.each;
  cut = cut;
  read = sym (append_assoc source more x) ∙ (ap (λ z. z ++ x) (r.read ∙ ap (λ z. z ++ left) (append-nil (bytes_of r.texts))) ∙ (append_assoc (bytes_of r.texts) left x
      ∙ (ap (λ z. bytes_of r.texts ++ z) is ∙ sym (append_assoc (bytes_of r.texts) rest new))));
}

-- the reader is at its end
pub reads_end : (source more x left new : List ℕ) (lines : List (Option Request)) → ReadsLines (source ++ more) left lines [] → left ++ x ≡ [] → new ≡ [] → ReadsLines (source ++ (more ++ x)) new lines []
reads_end source more x left new lines r is none = reads_rest source more x left new [] lines r (is ∙ sym none) no_lf

-- it failed
pub reads_failed : (source more x left new bytes : List ℕ) (lines : List (Option Request)) → ReadsLines (source ++ more) left lines [] → left ++ x ≡ bytes → new ≡ [] → HasNoLf bytes → ReadsLines (source ++ (more ++ x)) new lines bytes
reads_failed source more x left new bytes lines r is none cut = reads_rest source more x left new bytes lines r (is ∙ (sym (append-nil bytes) ∙ ap (λ z. bytes ++ z) (sym none))) cut

-- what stands behind a line and its LF
pub behind_line : (line rest : List ℕ) (n : ℕ) → n ≡ length line + 1 → drop n (line ++ 10 ∷ rest) ≡ rest
behind_line [] rest zero is = absurd (omega arith)
behind_line [] rest (suc zero) is = refl
behind_line [] rest (suc (suc n)) is = absurd (omega arith)
behind_line (b ∷ line) rest zero is = absurd (omega arith)
behind_line (b ∷ line) rest (suc n) is = behind_line line rest n (omega arith)
