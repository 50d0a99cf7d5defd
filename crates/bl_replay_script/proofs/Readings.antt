-- Bytes are one script at most, and a script has no bad line.
use Rattle.std.proofs.Common.{◌≡◌, ℕ, ◌+◌, ◌<◌, List, [], ◌∷◌, ◌++◌, length, refl, ap, sym, subst, ◌∙◌, append-nil, append_assoc, length-append, codes, arith}
use Rattle.std.specs.Prelude.{flat_map}
use Rattle.std.proofs.lemmas.List.{append_cancel_left}
use Rattle.bl_serve_lines.specs.Lines.{HasNoLf}
use Rattle.bl_replay_script.specs.declared.command.Command.{Command}
use Rattle.bl_replay_script.specs.declared.command.Kinds.{Kinds}
use Rattle.bl_replay_script.specs.Commands.{command_text, head_text, IsPageCount, MayStand, starts, started_by}
use Rattle.bl_replay_script.specs.Scripts.{AllStand, IsScript, BeginsBadly, IsHead, IsNext, IsBadAt}
use Rattle.bl_replay_script.specs.Scripts.HasNoLine.{Long, Cut}
use Rattle.bl_replay_script.specs.Scripts.BeginsBadly.{NoLine, NoSense}
use Rattle.bl_replay_script.specs.Scripts.IsBadAt.{First, Later}
use Rattle.bl_replay_script.proofs.Numbers.{one_same}
use Rattle.bl_replay_script.proofs.Plain.{IsPlain, plain_one, cut_same, no_lf_there}
use Rattle.bl_replay_script.proofs.Same.{line_text, text_same}

-- a bad beginning stays one, whatever stands behind what was read
pub bad_longer : (May : List ℕ → Type 0) (left more : List ℕ) → BeginsBadly May left (more ≡ []) → BeginsBadly May (left ++ more) (more ≡ [])
bad_longer May left more (NoLine (Long line rest cut long is)) = NoLine (Long line (rest ++ more) cut long (ap (λ t. t ++ more) is ∙ append_assoc line rest more))
bad_longer May left more (NoLine (Cut cut end)) = NoLine (Cut (subst HasNoLf (sym (ap (λ t. left ++ t) end ∙ append-nil left)) cut) end)
bad_longer May left more (NoSense line rest cut is senseless) = NoSense line (rest ++ more) cut (ap (λ t. t ++ more) is ∙ append_assoc line (10 ∷ rest) more) senseless

-- and is no good line
pub good_line : (May : List ℕ → Type 0) (End : Type 0) (left text rest : List ℕ) → IsPlain text → May text → left ≡ text ++ 10 ∷ rest → BeginsBadly May left End → ⊥
good_line May End left text rest plain may is (NoLine (Long line more cut long at)) = no_lf_there line more text rest cut (omega (arith, plain.short)) (sym at ∙ is)
good_line May End left text rest plain may is (NoLine (Cut cut end)) = no_lf_there left [] text rest cut
    (let size : length left ≡ length text + length (10 ∷ rest) = ap length is ∙ length-append text (10 ∷ rest) in omega (arith, size)) (append-nil left ∙ is)
good_line May End left text rest plain may is (NoSense line more cut at senseless) = let same = cut_same line text more rest cut plain.cut (sym at ∙ is) in senseless (subst May (sym same.0) may)

abbrev lines : List Command → List ℕ
lines commands = flat_map (λ c. command_text c ++ 10 ∷ []) commands

-- the first line of some, and what stands behind it
first_line : (c : Command) (commands : List Command) (left : List ℕ) → lines (c ∷ commands) ++ left ≡ command_text c ++ 10 ∷ (lines commands ++ left)
first_line c commands left = append_assoc (command_text c ++ 10 ∷ []) (lines commands) left ∙ append_assoc (command_text c) (10 ∷ []) (lines commands ++ left)

some_line : (c : Command) (commands : List Command) (left : List ℕ) → lines (c ∷ commands) ++ left ≡ [] → ⊥
some_line c commands left e = let size : 0 ≡ length (command_text c) + length (10 ∷ (lines commands ++ left)) = sym (ap length e) ∙ ap length (first_line c commands left) ∙ length-append (command_text c) (10 ∷ (lines commands ++ left)) in absurd (omega (arith, size))

module _ (kinds : Kinds) (pages : ℕ) (count : IsPageCount pages) where
  -- two lists of commands from one place on, of which the one has more bytes behind it
  heads : (started : ℕ) (c d : Command) (cs ds : List Command) (left right : List ℕ) → MayStand kinds pages started c → MayStand kinds pages started d
      → lines (c ∷ cs) ++ left ≡ lines (d ∷ ds) ++ right → (c ≡ d) × (lines cs ++ left ≡ lines ds ++ right)
  heads started c d cs ds left right h k e =
      let cut = cut_same (command_text c) (command_text d) (lines cs ++ left) (lines ds ++ right) (line_text kinds pages started count c h).cut (line_text kinds pages started count d k).cut
      (sym (first_line c cs left) ∙ e ∙ first_line d ds right) in
      (text_same kinds pages started count c d h k cut.0, cut.1)

  pub same_commands : (started : ℕ) (cs ds : List Command) → AllStand kinds pages started cs → AllStand kinds pages started ds → lines cs ++ [] ≡ lines ds ++ [] → ds ≡ cs
  same_commands started [] [] h k e = refl
  same_commands started [] (d ∷ ds) h k e = absurd (some_line d ds [] (sym e))
  same_commands started (c ∷ cs) [] h k e = absurd (some_line c cs [] e)
  same_commands started (c ∷ cs) (d ∷ ds) h k e =
      let first = heads started c d cs ds [] [] h.0 k.0 e in
      let rest = same_commands (started + starts c) cs ds h.1 (subst (λ z. AllStand kinds pages (started + starts z) ds) (sym first.0) k.1) first.1 in
      ap (λ z. z ∷ ds) (sym first.0) ∙ ap (λ t. c ∷ t) rest

  pub no_clash : (started : ℕ) (cs ds : List Command) (left : List ℕ) (End : Type 0) → AllStand kinds pages started cs → AllStand kinds pages started ds → lines cs ++ left ≡ lines ds ++ []
      → BeginsBadly (IsNext kinds pages (started + started_by cs)) left End → 0 < length left → ⊥
  no_clash started [] [] left End h k e bad some = absurd (let none : length left ≡ 0 = ap length e in omega (arith, none, some))
  no_clash started [] (d ∷ ds) left End h k e bad some = good_line (IsNext kinds pages (started + 0)) End left (command_text d) (lines ds ++ []) (line_text kinds pages started count d k.0)
      (d, subst (λ n. MayStand kinds pages n d) (let same : started ≡ started + 0 = omega arith in same) k.0, refl) (e ∙ first_line d ds []) bad
  no_clash started (c ∷ cs) [] left End h k e bad some = some_line c cs left e
  no_clash started (c ∷ cs) (d ∷ ds) left End h k e bad some =
      let first = heads started c d cs ds left [] h.0 k.0 e in
      no_clash (started + starts c) cs ds left End h.1 (subst (λ z. AllStand kinds pages (started + starts z) ds) (sym first.0) k.1) first.1
      (subst (λ n. BeginsBadly (IsNext kinds pages n) left End) (let same : started + started_by (c ∷ cs) ≡ started + starts c + started_by cs = omega arith in same) bad) some

-- first lines

head_plain : (pages : ℕ) → IsPageCount pages → IsPlain (head_text pages)
head_plain pages count = plain_one (codes "pages ") pages refl (omega arith) (omega (arith, count.1))

head_same : (p q : ℕ) (x y : List ℕ) → IsPageCount p → IsPageCount q → head_text p ++ 10 ∷ x ≡ head_text q ++ 10 ∷ y → (p ≡ q) × (x ≡ y)
head_same p q x y count other e =
    let cut = cut_same (head_text p) (head_text q) x y (head_plain p count).cut (head_plain q other).cut e in
    (one_same p q (omega (arith, count.1)) (omega (arith, other.1)) (append_cancel_left (codes "pages ") _ _ cut.0), cut.1)

pub one_reading : (kinds : Kinds) (pages other : ℕ) (commands others : List Command) (bytes : List ℕ) → IsScript kinds pages commands bytes → IsScript kinds other others bytes → (other ≡ pages) × (others ≡ commands)
one_reading kinds pages other commands others bytes s t =
    let head = head_same pages other (lines commands) (lines others) s.count t.count (sym s.spelled ∙ t.spelled) in (
      sym head.0,
      same_commands kinds pages s.count 0 commands others s.stand (subst (λ n. AllStand kinds n 0 others) (sym head.0) t.stand) (append-nil (lines commands) ∙ head.1 ∙ sym (append-nil (lines others))),
    )

pub no_bad_line : (kinds : Kinds) (pages : ℕ) (commands : List Command) (bytes more : List ℕ) (number : ℕ) → IsScript kinds pages commands (bytes ++ more) → IsBadAt kinds bytes (more ≡ []) number → ⊥
no_bad_line kinds pages commands bytes more number s (First bad) =
    good_line IsHead (more ≡ []) (bytes ++ more) (head_text pages) (lines commands) (head_plain pages s.count) (pages, s.count, refl) s.spelled (bad_longer IsHead bytes more bad)
no_bad_line kinds pages commands bytes more number s (Later other others good left t is some bad) =
    let whole : head_text other ++ 10 ∷ (lines others ++ (left ++ more)) ≡ head_text pages ++ 10 ∷ lines commands =
    sym (append_assoc (head_text other) (10 ∷ lines others) (left ++ more)) ∙ ap (λ g. g ++ (left ++ more)) (sym t.spelled) ∙ sym (append_assoc good left more) ∙ ap (λ b. b ++ more) (sym is) ∙ s.spelled in
    let head = head_same other pages (lines others ++ (left ++ more)) (lines commands) t.count s.count whole in
    no_clash kinds pages s.count 0 others commands (left ++ more) (more ≡ []) (subst (λ n. AllStand kinds n 0 others) head.0 t.stand) s.stand (head.1 ∙ sym (append-nil (lines commands)))
    (subst (λ n. BeginsBadly (IsNext kinds pages n) (left ++ more) (more ≡ [])) (let same : started_by others ≡ 0 + started_by others = omega arith in same)
    (subst (λ n. BeginsBadly (IsNext kinds n (started_by others)) (left ++ more) (more ≡ [])) head.0 (bad_longer (IsNext kinds other (started_by others)) left more bad)))
    (let size = length-append left more in omega (arith, some, size))
