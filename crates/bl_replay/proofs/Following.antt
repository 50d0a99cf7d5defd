-- Commands, one after the other.
use Rattle.std.proofs.Common.{ℕ, Bool, ◌≡◌, ◌⊎◌, ◌<◌, ◌≤◌, ◌+◌, ◌++◌, zero, suc, Some, None, List, [], ◌∷◌, take, drop, slice_get, arith, ap, sym, ◌∙◌, subst, inl, inr, append_assoc, append-nil}
use Rattle.std.proofs.lemmas.Option.{slice_get_within}
use Rattle.bl_replay_script.specs.declared.command.Command.{Command}
use Rattle.bl_replay_script.specs.declared.command.Kinds.{Kinds}
use Rattle.bl_replay_script.specs.Commands.{MayStand, starts, started_by}
use Rattle.bl_replay_script.specs.Scripts.{AllStand}
use Rattle.bl_world.specs.Views.{View}
use Rattle.bl_world.specs.Turns.{IsStarted}
use Rattle.bl_world.specs.Waits.{MayGoOn}
use Rattle.bl_replay.specs.Plays.{HasAnswer, PrintsChosen, PrintsTurns, PrintsSettling, Does, Plays, BreaksOff}
use Rattle.bl_replay.specs.Plays.PrintsTurns.{More}
use Rattle.bl_replay.specs.Plays.PrintsSettling.{Onward}
use Rattle.bl_replay.specs.Plays.Plays.{Then}
use Rattle.bl_replay.specs.Plays.BreaksOff.{Behind, Within, Unsettled}
use Rattle.bl_replay.specs.Emits.{Partly}

-- a list, split at one of its places
split : {A : Type 0} (xs : List A) (i : ℕ) (x : A) → slice_get xs i ≡ Some x → xs ≡ take i xs ++ x ∷ drop (suc i) xs
split [] i x e = absurd (let f : None ≡ Some x = e in cc)
split (y ∷ xs) zero x e = (let f : y ≡ x = cc in ap (λ z. z ∷ xs) f)
split (y ∷ xs) (suc i) x e = ap (λ z. y ∷ z) (split xs i x e)

further_suc : {A : Type 0} (xs : List A) (i : ℕ) (x : A) → slice_get xs i ≡ Some x → take (suc i) xs ≡ take i xs ++ x ∷ []
further_suc [] i x e = absurd (let f : None ≡ Some x = e in cc)
further_suc (y ∷ xs) zero x e = (let f : y ≡ x = cc in ap (λ z. z ∷ []) f)
further_suc (y ∷ xs) (suc i) x e = ap (λ z. y ∷ z) (further_suc xs i x e)

one_more : (i : ℕ) → i + 1 ≡ suc i
one_more i = omega arith

pub further : {A : Type 0} (xs : List A) (i : ℕ) (x : A) → slice_get xs i ≡ Some x → take (i + 1) xs ≡ take i xs ++ x ∷ []
further xs i x e = rw (one_more i) (further_suc xs i x e)

-- one more command of a script
pub plays_further : (with_pages : Bool) (v mid v' : View) (commands : List Command) (i : ℕ) (c : Command) (text more : List ℕ) → slice_get commands i ≡ Some c → Plays with_pages v (take i commands) text mid → Does with_pages mid c more v' → Plays with_pages v (take (i + 1) commands) (text ++ more) v'
plays_further with_pages v mid v' commands i c text more e p d = rw (further commands i c e) (Then (take i commands) c text more mid v' p d)

-- the command at a place may stand behind those before it
pub stands_at : (kinds : Kinds) (pages s : ℕ) (commands : List Command) (i : ℕ) (c : Command) → AllStand kinds pages s commands → slice_get commands i ≡ Some c → MayStand kinds pages (s + started_by (take i commands)) c
stands_at kinds pages s [] i c h e = absurd (let f : None ≡ Some c = e in cc)
stands_at kinds pages s (d ∷ commands) zero c h e = (let f : d ≡ c = cc in let z : s + 0 ≡ s = omega arith in rw (z, sym f) h.0)
stands_at kinds pages s (d ∷ commands) (suc i) c h e =
    let n : s + starts d + started_by (take i commands) ≡ s + (starts d + started_by (take i commands)) = omega arith in
    subst (λ z. MayStand kinds pages z c) n (stands_at kinds pages (s + starts d) commands i c h.1 e)

-- the same, where so many processes stand there
stands_here : (kinds : Kinds) (pages s n : ℕ) (commands : List Command) (i : ℕ) (c : Command) → n ≡ s + started_by (take i commands) → AllStand kinds pages s commands → slice_get commands i ≡ Some c → MayStand kinds pages n c
stands_here kinds pages s n commands i c count h e = subst (λ z. MayStand kinds pages z c) (sym count) (stands_at kinds pages s commands i c h e)

-- and where so many pages are there
pub stands_sized : (kinds : Kinds) (pages size s n : ℕ) (commands : List Command) (i : ℕ) (c : Command) → size ≡ pages → n ≡ s + started_by (take i commands) → AllStand kinds pages s commands → slice_get commands i ≡ Some c → MayStand kinds size n c
stands_sized kinds pages size s n commands i c same count h e = subst (λ z. MayStand kinds z n c) (sym same) (stands_here kinds pages s n commands i c count h e)

started_push : (commands : List Command) (c : Command) → started_by (commands ++ c ∷ []) ≡ started_by commands + starts c
started_push [] c = omega arith
started_push (d ∷ commands) c = (let e = started_push commands c in omega (arith, e))

pub started_further : (commands : List Command) (i : ℕ) (c : Command) → slice_get commands i ≡ Some c → started_by (take (i + 1) commands) ≡ started_by (take i commands) + starts c
started_further commands i c e = ap started_by (further commands i c e) ∙ started_push (take i commands) c

-- a command was broken off
pub breaks_off : (with_pages : Bool) (v mid : View) (commands : List Command) (i : ℕ) (c : Command) (text more : List ℕ) → slice_get commands i ≡ Some c → Plays with_pages v (take i commands) text mid → Partly with_pages mid c more → BreaksOff with_pages v commands (text ++ more)
breaks_off with_pages v mid commands i c text more e p part =
    let is = split commands i c e in
    elim part [
      | inl none ↦ Behind (take i commands) (c ∷ drop (suc i) commands) (text ++ more) mid is (subst (λ t. Plays with_pages v (take i commands) t mid) (sym (ap (λ t. text ++ t) none ∙ append-nil text)) p)
      | inr some ↦ elim some [
        | inl d ↦ Behind (take i commands ++ c ∷ []) (drop (suc i) commands) (text ++ more) d.0 (is ∙ sym (append_assoc (take i commands) (c ∷ []) (drop (suc i) commands))) (Then (take i commands) c text more mid d.0 p d.1)
        | inr some ↦ elim some [
          | inl (number, most, count, v', run, few, turns) ↦ Within (take i commands) (drop (suc i) commands) number most count text more mid v' (is ∙ ap (λ z. take i commands ++ z ∷ drop (suc i) commands) run) p few turns
          | inr (most, count, v', rest, few, turns) ↦ Unsettled (take i commands) (drop (suc i) commands) most count text more mid v' (is ∙ ap (λ z. take i commands ++ z ∷ drop (suc i) commands) rest) p few turns
        ]
      ]
    ]

-- a command of one turn was broken off
pub partly_one : (with_pages : Bool) (v : View) (c : Command) (text : List ℕ) → (text ≡ []) ⊎ ((after : View) × Does with_pages v c text after) → Partly with_pages v c text
partly_one with_pages v c text (inl none) = inl none
partly_one with_pages v c text (inr all) = inr (inl all)

-- a run was broken off, before a turn or behind it
pub run_breaks : (with_pages : Bool) (number most count : ℕ) (v mid : View) (text more : List ℕ) → count < most → PrintsTurns with_pages number v count text mid → HasAnswer mid number None → (more ≡ []) ⊎ ((after : View) × PrintsChosen with_pages mid number None more after)
    → (n : ℕ) × (after : View) × (n ≤ most) × PrintsTurns with_pages number v n (text ++ more) after
run_breaks with_pages number most count v mid text more few p unanswered (inl none) = (count, mid, omega (arith, few), subst (λ t. PrintsTurns with_pages number v count t mid) (sym (ap (λ t. text ++ t) none ∙ append-nil text)) p)
run_breaks with_pages number most count v mid text more few p unanswered (inr (after, d)) = (count + 1, after, omega (arith, few), More count text more mid after p unanswered d)

-- who may go on was started
pub goer_started : (v : View) (number : ℕ) → MayGoOn v number → IsStarted v number
goer_started v number go =
    let counts = go.runs.counts in
    let within = slice_get_within v.processes go.runs.place go.runs.process go.runs.stood in
    (omega (arith, counts), omega (arith, counts, within))

-- a world that was left to itself was broken off, before a turn or behind it
pub settle_breaks : (with_pages : Bool) (number most count : ℕ) (v mid : View) (text more : List ℕ) → count < most → PrintsSettling with_pages v count text mid → MayGoOn mid number → (more ≡ []) ⊎ ((after : View) × PrintsChosen with_pages mid number None more after)
    → (n : ℕ) × (after : View) × (n ≤ most) × PrintsSettling with_pages v n (text ++ more) after
settle_breaks with_pages number most count v mid text more few p go (inl none) = (count, mid, omega (arith, few), subst (λ t. PrintsSettling with_pages v count t mid) (sym (ap (λ t. text ++ t) none ∙ append-nil text)) p)
settle_breaks with_pages number most count v mid text more few p go (inr (after, d)) = (count + 1, after, omega (arith, few), Onward count number text more mid after p go d)
