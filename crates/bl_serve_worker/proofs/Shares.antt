-- Shares that a pass answers one after another.
use Rattle.std.proofs.Common.{◌≡◌, ℕ, Bool, List, [], ◌∷◌, ◌++◌, length, map, sym, ap, ◌∙◌, append_assoc, append-nil}
use Rattle.std.specs.Prelude.{Option, flat_map}
use Rattle.std.proofs.lemmas.List.{map-append}
use Rattle.std.proofs.lemmas.List.Concat.{flat_map-append}
use Rattle.std.proofs.lemmas.List.Elements.{All-nil, All-cons, All-append}
use Rattle.bl_model.specs.declared.operation.Entry.{Entry}
use Rattle.bl_serve_lines.specs.declared.request.Request.{Request}
use Rattle.bl_serve_lines.specs.Lines.{entries}
use Rattle.bl_serve_lines.specs.Dealt.{dealt, numbers}
use Rattle.bl_page.specs.declared.page.Page.{Page}
use Rattle.bl_claims.specs.Trails.{Trail}
use Rattle.bl_claims.specs.Seeing.{own}
use Rattle.bl_serve_worker.specs.declared.chunk.ShareOutput.{ShareOutput}
use Rattle.bl_serve_worker.specs.declared.chunk.Slot.{Slot}
use Rattle.bl_map.specs.declared.handle.Handle.{Handle}
use Rattle.bl_map.specs.Handles.{IsSameHandle, HasKeptUp, first_map_of, pages_of_map, number_of_seat, seen_by}
use Rattle.bl_map_calls.specs.Works.{Adds}
use Rattle.bl_map.proofs.AllMet.{same_again}
use Rattle.bl_map.proofs.Same.{kept_as}
use Rattle.bl_serve_worker.specs.Answering.{AnswersLines}
use Rattle.bl_serve_worker.specs.Shares.{Piece, IsPiece, Logs, WorksOn}
use Rattle.bl_serve_worker.proofs.Lines.{by_same_map, goes_on, stays}
use Rattle.bl_serve_worker.proofs.Noting.{noted_idle}

pub no_logs : (first : List (Option Page)) (pages number : ℕ) (deals : List ℕ) (lines : List (Option Request)) (pass : ℕ) (old : Trail) (log : List ShareOutput) → Logs first pages number deals lines pass old old log log
no_logs first pages number deals lines pass old log = record { pieces = []; log = sym (append-nil log); each = All-nil (IsPiece pages number deals lines); begins = stays old; seen = λ s. s; mine = sym (append-nil (own pass old)) }

pub one_log : (first : List (Option Page)) (pages number : ℕ) (deals : List ℕ) (lines : List (Option Request)) (pass : ℕ) (old new : Trail) (log log' : List ShareOutput) (w : ShareOutput)
    → AnswersLines first pages pass (dealt w.share deals (numbers number (length lines))) (dealt w.share deals lines) w.text.items w.lengths.items old new → log' ≡ log ++ w ∷ [] → Logs first pages number deals lines pass old new log log'
one_log first pages number deals lines pass old new log log' w a is = let piece : Piece = record { output = w; answers = a.answers } in record {
  pieces = piece ∷ [];
  log = is;
  each = All-cons (IsPiece pages number deals lines) piece [] (record { each = a.each; prints = a.prints; cuts = a.cuts }) (All-nil (IsPiece pages number deals lines));
  begins = a.begins;
  seen = a.seen;
  mine = a.mine ∙ ap (λ (z : List Entry). own pass old ++ z) (sym (append-nil (flat_map entries a.answers)));
}

pub then_logs : (one two : Handle) (number : ℕ) (deals : List ℕ) (lines : List (Option Request)) (old mid new : Trail) (a b c : List ShareOutput) → IsSameHandle one two → Logs (first_map_of one) (pages_of_map one) number deals lines (number_of_seat one) old mid a b
    → Logs (first_map_of two) (pages_of_map two) number deals lines (number_of_seat two) mid new b c → Logs (first_map_of one) (pages_of_map one) number deals lines (number_of_seat one) old new a c
then_logs one two number deals lines old mid new a b c same x y' = let pass = number_of_seat one in let pages = pages_of_map one in let y = by_same_map (λ first pages pass. Logs first pages number deals lines pass mid new b c) one two same y' in let f : Piece → List Entry = λ p. flat_map entries p.answers in record {
  pieces = x.pieces ++ y.pieces;
  log = y.log ∙ (ap (λ (z : List ShareOutput). z ++ map (λ p. p.output) y.pieces) x.log ∙ (append_assoc a (map (λ p. p.output) x.pieces) (map (λ p. p.output) y.pieces) ∙ ap (λ (z : List ShareOutput). a ++ z) (sym (map-append (λ (p : Piece). p.output) x.pieces y.pieces))));
  each = All-append (IsPiece pages number deals lines) x.pieces y.pieces x.each y.each;
  begins = goes_on old mid new x.begins y.begins;
  seen = λ s. y.seen (x.seen s);
  mine = y.mine ∙ (ap (λ (z : List Entry). z ++ flat_map f y.pieces) x.mine ∙ (append_assoc (own pass old) (flat_map f x.pieces) (flat_map f y.pieces) ∙ ap (λ (z : List Entry). own pass old ++ z) (sym (flat_map-append f x.pieces y.pieces))));
}

pub idle_logs : (first : List (Option Page)) (pages number : ℕ) (deals : List ℕ) (lines : List (Option Request)) (pass : ℕ) (old new : Trail) (log : List ShareOutput) → log ≡ [] → Adds first pass old new → Logs first pages number deals lines pass old new [] log
idle_logs first pages number deals lines pass old new log is a = record { pieces = []; log = is; each = All-nil (IsPiece pages number deals lines); begins = a.begins; seen = a.seen; mine = a.none ∙ sym (append-nil (own pass old)) }

-- a turn, and then what adds no entry
pub turn_idle : (a b c : Handle) (keeps : Bool) (number : ℕ) (deals : List ℕ) (lines : List (Option Request)) (slot : Slot) → WorksOn keeps number deals lines a b slot → IsSameHandle b c → HasKeptUp b c → WorksOn keeps number deals lines a c slot
turn_idle a b c keeps number deals lines slot t same kept = let k = kept_as a b c t.0 kept in (
  same_again a b c t.0 same,
  λ ok. let x = t.1 ok in record {
    pieces = x.pieces;
    log = x.log;
    each = x.each;
    begins = goes_on (seen_by a) (seen_by b) (seen_by c) x.begins k.begins;
    seen = λ s. k.seen (x.seen s);
    mine = k.none ∙ x.mine;
  },
  λ ok kept_so. noted_idle a b c slot.changes t.0 kept (t.2 ok kept_so),
)
