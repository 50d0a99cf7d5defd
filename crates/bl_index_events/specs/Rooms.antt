-- What a hand was refused that found no room.
use Rattle.std.specs.Prelude.{◌≡◌, ℕ, Some}
use Rattle.atomic_table.specs.declared.shared.Seat.{Seat}
use Rattle.bl_proc_steps.specs.declared.acts.Action.TheVariants as act
use Rattle.bl_proc_steps.specs.declared.acts.Seen.{Seen}
use Rattle.bl_proc_steps.specs.declared.acts.Seen.TheVariants as seen
use Rattle.bl_model.specs.declared.deciding.KeyWrite.{KeyWrite}
use Rattle.bl_proc.specs.declared.kinds.Proc.{Proc}
use Rattle.bl_proc.specs.Processes.{next_of, needs_of}
use Rattle.bl_proc_deterministic.specs.Refusals.{MayAsk}
use Rattle.bl_store_rule.specs.declared.view.View.{View}
use Rattle.bl_store.specs.Hands.{known, WasRefused, IsSameRefusal}
use Rattle.bl_index_rule.specs.declared.known.PassState.{PassState}
use Rattle.bl_index_events.specs.Refused.{LacksForPage, LacksForWrite, LacksForPost}
use Rattle.bl_index_events.specs.Held.{own_marks, AsksFor}

abbrev H : Type 0
H = Seat (Unit {0}) (View PassState)

-- for the page of that level that it held, which covers the key
abbrev pub LacksPage : ℕ → ℕ → H → Type 0
LacksPage level key h = LacksForPage level key (own_marks (known h)) (WasRefused h)

-- for the leaf of that key, by what is written there
abbrev pub LacksWrite : ℕ → KeyWrite → H → Type 0
LacksWrite key does h = LacksForWrite key does (own_marks (known h)) (WasRefused h)

-- for a post of that key to that level
abbrev pub LacksPost : ℕ → ℕ → H → Type 0
LacksPost level key h = LacksForPost level key (own_marks (known h)) (WasRefused h)

-- for a process of this kind
abbrev pub LacksAsked : H → Proc → Type 0
LacksAsked h p = (ask : ℕ × ℕ) × MayAsk p ask × WasRefused h ask.0 ask.1 × AsksFor p ask (own_marks (known h))

-- One event of the process p, by which it was told that: where it was refused, the hand was refused what it had asked for; and
-- at an open nothing changes of what the hand was refused.
abbrev pub TellsRoom : H → H → Proc → Seen → Type 0
TellsRoom h h' p what =
    (what ≡ seen.Refused → (ask : ℕ × ℕ) × (needs_of p ≡ Some ask) × WasRefused h' ask.0 ask.1) × ((x : ℕ) → next_of p ≡ act.Open x → IsSameRefusal h h')
