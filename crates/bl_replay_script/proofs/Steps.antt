-- Scripts that grow by a line.
use Rattle.std.proofs.Common.{◌≡◌, ℕ, ◌+◌, ◌<◌, List, [], ◌∷◌, ◌++◌, length, refl, ap, sym, subst, ◌∙◌, append-nil, append_assoc, arith}
use Rattle.std.proofs.lemmas.List.Concat.{flat_map-append}
use Rattle.std.specs.Prelude.{flat_map, Option}
use Rattle.std.specs.Io.KnownBytes.{Consumes}
use Rattle.bl_replay_script.specs.declared.command.Command.{Command}
use Rattle.bl_replay_script.specs.declared.command.Kinds.{Kinds}
use Rattle.bl_replay_script.specs.Commands.{command_text, head_text, IsPageCount, MayStand, starts, started_by}
use Rattle.bl_replay_script.specs.Scripts.{script_text, AllStand, IsScript, BeginsBadly, IsHead, IsNext, IsBadAt}
use Rattle.bl_replay_script.specs.Scripts.IsBadAt.{First, Later}

pub started_more : (commands : List Command) (c : Command) → started_by (commands ++ c ∷ []) ≡ started_by commands + starts c
started_more [] c = omega arith
started_more (d ∷ commands) c = let more = started_more commands c in omega (arith, more)

stand_more : (kinds : Kinds) (pages started : ℕ) (commands : List Command) (c : Command) → AllStand kinds pages started commands → MayStand kinds pages (started + started_by commands) c
    → AllStand kinds pages started (commands ++ c ∷ [])
stand_more kinds pages started [] c h may = (subst (λ n. MayStand kinds pages n c) (let e : started + 0 ≡ started = omega arith in e) may, tt)
stand_more kinds pages started (d ∷ commands) c h may =
    (h.0, stand_more kinds pages (started + starts d) commands c h.1 (subst (λ n. MayStand kinds pages n c) (let e : started + started_by (d ∷ commands) ≡ started + starts d + started_by commands = omega arith in e) may))

abbrev line_of : Command → List ℕ
line_of c = command_text c ++ 10 ∷ []

text_more : (pages : ℕ) (commands : List Command) (c : Command) → script_text pages (commands ++ c ∷ []) ≡ script_text pages commands ++ line_of c
text_more pages commands c =
    ap (λ t. head_text pages ++ 10 ∷ t) (flat_map-append line_of commands (c ∷ []) ∙ ap (λ t. flat_map line_of commands ++ t) (append-nil (line_of c)))
    ∙ sym (append_assoc (head_text pages) (10 ∷ flat_map line_of commands) (line_of c))

-- the line is behind the others, and left is behind it
pub script_more : (kinds : Kinds) (pages started : ℕ) (commands : List Command) (c : Command) (good : List ℕ) → IsScript kinds pages commands good → started ≡ started_by commands → MayStand kinds pages started c
    → IsScript kinds pages (commands ++ c ∷ []) (good ++ line_of c)
script_more kinds pages started commands c good script is may = record {
  count = script.count;
  stand = stand_more kinds pages 0 commands c script.stand (subst (λ n. MayStand kinds pages n c) (let e : started ≡ 0 + started_by commands = omega arith in e) may);
  spelled = ap (λ t. t ++ line_of c) script.spelled ∙ sym (text_more pages commands c);
}

pub script_head : (kinds : Kinds) (pages : ℕ) → IsPageCount pages → IsScript kinds pages [] (head_text pages ++ 10 ∷ [])
script_head kinds pages count = record { count = count; stand = tt; spelled = refl }

-- the first bytes of the reader are the first line
pub head_consumed : (a b : Option (List ℕ)) (source more head left : List ℕ) → source ≡ [] → Consumes a b more → source ++ more ≡ head ++ 10 ∷ left → Consumes a b ((head ++ 10 ∷ []) ++ left)
head_consumed a b source more head left none h is = subst (Consumes a b) (ap (λ t. t ++ more) (sym none) ∙ is ∙ sym (append_assoc head (10 ∷ []) left)) h

pub first_bad : (kinds : Kinds) (source more : List ℕ) (End : Type 0) → source ≡ [] → BeginsBadly IsHead (source ++ more) End → IsBadAt kinds more End 1
first_bad kinds source more End none bad = First (subst (λ t. BeginsBadly IsHead (t ++ more) End) none bad)

pub later_bad : (kinds : Kinds) (pages started number : ℕ) (commands : List Command) (good unread : List ℕ) (End : Type 0) → IsScript kinds pages commands good → started ≡ started_by commands → number ≡ length commands + 2
    → BeginsBadly (IsNext kinds pages started) unread End × (0 < length unread) → IsBadAt kinds (good ++ unread) End number
later_bad kinds pages started number commands good unread End script is count bad = subst (IsBadAt kinds (good ++ unread) End) (sym count)
    (Later pages commands good unread script refl bad.1 (subst (λ n. BeginsBadly (IsNext kinds pages n) unread End) is bad.0))
