-- What is left of a script and begins with no line, and what a line says.
use Rattle.std.proofs.Common.{◌≡◌, ◌≢◌, ℕ, ◌+◌, ◌<◌, List, ◌∷◌, ◌++◌, length, ap, sym, subst, ◌∙◌, append-nil, length-append, Option, Some, None, Ok, inl, inr, arith}
use Rattle.std.specs.Prelude.{MatchOption}
use Rattle.bl_serve_lines.specs.Lines.{HasNoLf}
use Rattle.bl_serve_lines.specs.Streams.{EndsRead}
use Rattle.bl_replay_script.specs.declared.command.Command.{Command}
use Rattle.bl_replay_script.specs.declared.command.Kinds.{Kinds}
use Rattle.bl_replay_script.specs.Commands.{command_text, head_text, IsPageCount, MayStand}
use Rattle.bl_replay_script.specs.Scripts.{HasNoLine, BeginsBadly, IsNext}
use Rattle.bl_replay_script.specs.Scripts.HasNoLine.{Long, Cut}
use Rattle.bl_replay_script.specs.Scripts.BeginsBadly.{NoSense}
use Rattle.bl_replay_script.specs.Steps.{GivesHead}

some_unread : (unread bytes left : List ℕ) → 0 < length bytes → unread ≡ bytes ++ left → 0 < length unread
some_unread unread bytes left some is = let same : length unread ≡ length bytes + length left = ap length is ∙ length-append bytes left in omega arith

pub long_no_line : (unread bytes left : List ℕ) (End : Type 0) → HasNoLf bytes → 69 < length bytes → unread ≡ bytes ++ left → HasNoLine unread End × (0 < length unread)
long_no_line unread bytes left End cut long is = (Long bytes left cut long is, some_unread unread bytes left (omega arith) is)

pub rest_no_line : (unread bytes left : List ℕ) (End : Type 0) → HasNoLf bytes → 0 < length bytes → unread ≡ bytes ++ left → EndsRead bytes left End → HasNoLine unread End × (0 < length unread)
rest_no_line unread bytes left End cut some is (inl end) =
    let all : bytes ≡ unread = sym (append-nil bytes) ∙ ap (λ t. bytes ++ t) (sym end.0) ∙ sym is in
    (Cut (subst HasNoLf all cut) end.1, some_unread unread bytes left some is)
rest_no_line unread bytes left End cut some is (inr many) = (Long bytes left cut (omega (arith, many)) is, some_unread unread bytes left some is)

pub head_given : (E : Type 0) (unread line slice left : List ℕ) (End Failed : Type 0) (r : Option ℕ) → HasNoLf line → unread ≡ line ++ 10 ∷ left → slice ≡ line
    → MatchOption r ((pages : ℕ) → IsPageCount pages → slice ≢ head_text pages) (λ pages. IsPageCount pages × (slice ≡ head_text pages)) → GivesHead {E = E} unread (Ok r) left End Failed
head_given E unread line slice left End Failed None cut is same h = NoSense line left cut is (λ may. h may.0 may.1 (same ∙ may.2))
head_given E unread line slice left End Failed (Some pages) cut is same h = (h.0, is ∙ ap (λ t. t ++ 10 ∷ left) (sym same ∙ h.1))

pub no_command : (kinds : Kinds) (pages started : ℕ) (unread line slice left : List ℕ) (End : Type 0) → HasNoLf line → unread ≡ line ++ 10 ∷ left → slice ≡ line
    → ((c : Command) → MayStand kinds pages started c → slice ≢ command_text c) → BeginsBadly (IsNext kinds pages started) unread End × (0 < length unread)
no_command kinds pages started unread line slice left End cut is same h =
    (NoSense line left cut is (λ may. h may.0 may.1 (same ∙ may.2)), (let size : length unread ≡ length line + length (10 ∷ left) = ap length is ∙ length-append line (10 ∷ left) in omega (arith, size)))
