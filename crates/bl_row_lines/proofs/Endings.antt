-- What is left and begins with no row.
use Rattle.std.proofs.Common.{◌≡◌, ℕ, ◌+◌, ◌<◌, List, [], ◌∷◌, ◌++◌, length, ap, sym, subst, ◌∙◌, append-nil, append_assoc, length-append, inl, inr, arith}
use Rattle.bl_serve_lines.specs.Lines.{HasNoLf}
use Rattle.bl_serve_lines.specs.Streams.{EndsRead}
use Rattle.bl_row_lines.specs.RowLines.{row_text, line_text, IsRow, BeginsBadly}
use Rattle.bl_row_lines.specs.RowLines.BeginsBadly.{Long, Cut, NoSense}

some_unread : (unread bytes left : List ℕ) → 0 < length bytes → unread ≡ bytes ++ left → 0 < length unread
some_unread unread bytes left some is = let same : length unread ≡ length bytes + length left = ap length is ∙ length-append bytes left in omega arith

pub long_bad : (unread bytes left : List ℕ) (End : Type 0) → HasNoLf bytes → 69 < length bytes → unread ≡ bytes ++ left → (0 < length unread) × BeginsBadly unread End
long_bad unread bytes left End cut long is = (some_unread unread bytes left (omega arith) is, Long bytes left cut long is)

pub rest_bad : (unread bytes left : List ℕ) (End : Type 0) → HasNoLf bytes → 0 < length bytes → unread ≡ bytes ++ left → EndsRead bytes left End → (0 < length unread) × BeginsBadly unread End
rest_bad unread bytes left End cut some is (inl end) =
    let all : bytes ≡ unread = sym (append-nil bytes) ∙ ap (λ t. bytes ++ t) (sym end.0) ∙ sym is in
    (some_unread unread bytes left some is, Cut (subst HasNoLf all cut) end.1)
rest_bad unread bytes left End cut some is (inr many) = (some_unread unread bytes left some is, Long bytes left cut (omega (arith, many)) is)

pub senseless : (unread line slice left : List ℕ) (End : Type 0) → HasNoLf line → unread ≡ line ++ 10 ∷ left → slice ≡ line → ¬ IsRow slice → (0 < length unread) × BeginsBadly unread End
senseless unread line slice left End cut is same none =
    ((let size : length unread ≡ length line + length (10 ∷ left) = ap length is ∙ length-append line (10 ∷ left) in omega (arith, size)), NoSense line left cut is (subst (λ t. ¬ IsRow t) same none))

pub row_read : (unread line slice left : List ℕ) (row : ℕ × ℕ) → unread ≡ line ++ 10 ∷ left → slice ≡ line → slice ≡ row_text row → unread ≡ line_text row ++ left
row_read unread line slice left row is same spelled = is ∙ ap (λ t. t ++ 10 ∷ left) (sym same ∙ spelled) ∙ sym (append_assoc (row_text row) (10 ∷ []) left)
