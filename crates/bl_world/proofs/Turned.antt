-- One turn, told by what stood before it, from what was found of the process.
use Rattle.std.proofs.Common.{ℕ, ◌≡◌, ◌≢◌, ◌-◌, ◌<◌, ◌≤◌, Option, Some, None, IsSome, List, slice_get, get_or, length, arith, ap, sym, ◌∙◌, subst, inl, inr, ◌⊎◌}
use Rattle.std.proofs.lemmas.Option.{slice_get_within}
use Rattle.bl_proc_steps.specs.declared.acts.Action.{Action}
use Rattle.bl_proc_steps.specs.declared.acts.Action.TheVariants as act
use Rattle.bl_proc_steps.specs.declared.acts.Seen.TheVariants as seen
use Rattle.bl_proc_steps.specs.Given.{Gives}
use Rattle.bl_page.specs.Pairs.{IsChild}
use Rattle.bl_answers.specs.declared.answers.Answer.{Answer}
use Rattle.bl_proc.specs.declared.kinds.Proc.{Proc}
use Rattle.bl_proc.specs.Processes.{next_of, needs_of, answer_of}
use Rattle.bl_world.specs.declared.turns.Turn.TheVariants as turn
use Rattle.bl_world.specs.Views.{View}
use Rattle.bl_world.specs.Turns.{Idles, Carries, MayTake, StepsTo, TakesTo, RefusesTo, TurnsTo}
use Rattle.bl_world.specs.Choices.{IsToTake}
use Rattle.bl_world.proofs.Arms.{stands, stood_is, none_left}
use Rattle.bl_world.proofs.Reserving.{Reserves, reserves}

-- the turn of a process that was started
module _ (v v' : View) (number : ℕ) (some : 0 < number) (within : number ≤ length v.processes) where
  place_of : (p : Proc) × (slice_get v.processes (number - 1) ≡ Some p)
  place_of = stands v.processes (number - 1) (omega (arith, some, within))

  pub turns_step : ((p : Proc) → slice_get v.processes (number - 1) ≡ Some p → StepsTo v (number - 1) p v') → TurnsTo v (turn.Step number) v'
  turns_step does = record { place = number - 1; number = omega (arith, some); process = place_of.0; stood = place_of.1; does = does place_of.0 place_of.1 }

  pub turns_take : (x : ℕ) → ((p : Proc) → slice_get v.processes (number - 1) ≡ Some p → TakesTo v (number - 1) p x v') → TurnsTo v (turn.Take number x) v'
  turns_take x does = record { place = number - 1; number = omega (arith, some); process = place_of.0; stood = place_of.1; does = does place_of.0 place_of.1 }

  pub turns_refuse : ((p : Proc) → slice_get v.processes (number - 1) ≡ Some p → RefusesTo v (number - 1) p v') → TurnsTo v (turn.Refuse number) v'
  turns_refuse does = record { place = number - 1; number = omega (arith, some); process = place_of.0; stood = place_of.1; does = does place_of.0 place_of.1 }

-- A process was read that stands there: what it was asked is said of who stands there.
module _ (processes : List Proc) (n : ℕ) (p read : Proc) (stood : slice_get processes n ≡ Some p) (is : read ≡ get_or processes n read) where
  pub none_answered : (answer : Option Answer) → answer ≡ answer_of read → ((a : Answer) → answer ≡ Some a → ⊥) → answer_of p ≡ None
  none_answered answer observed none = ap answer_of (stood_is processes n p read stood is) ∙ (sym observed ∙ none_left answer none)

  pub has_answered : (answer : Option Answer) (a : Answer) → answer ≡ answer_of read → answer ≡ Some a → answer_of p ≢ None
  has_answered answer a observed some none = (let e : Some a ≡ None = sym some ∙ (observed ∙ (sym (ap answer_of (stood_is processes n p read stood is)) ∙ none)) in cc)

  pub next_observed : (action : Action) → action ≡ next_of read → next_of p ≡ action
  next_observed action observed = ap next_of (stood_is processes n p read stood is) ∙ sym observed

  pub needs_observed : (needs : Option (ℕ × ℕ)) → needs ≡ needs_of read → needs_of p ≡ needs
  needs_observed needs observed = ap needs_of (stood_is processes n p read stood is) ∙ sym observed

-- it was read twice: it had not answered, and its next action is this
pub goes_on : (processes : List Proc) (n : ℕ) (p first second : Proc) (answer : Option Answer) (action : Action) → slice_get processes n ≡ Some p → first ≡ get_or processes n first → answer ≡ answer_of first
    → ((a : Answer) → answer ≡ Some a → ⊥) → second ≡ get_or processes n second → action ≡ next_of second → (answer_of p ≡ None) × (next_of p ≡ action)
goes_on processes n p first second answer action stood is observed none is_too next = (none_answered processes n p first stood is answer observed none, next_observed processes n p second stood is_too action next)

-- it may be told of a page that it takes, and that it was refused
pub may_give_page : (p : Proc) (x : ℕ) → next_of p ≡ act.Take → IsChild x → Gives (next_of p) (needs_of p) (seen.Took x)
may_give_page p x next small = subst (λ a. Gives a (needs_of p) (seen.Took x)) (sym next) small

may_miss : (action : Action) (needs : Option (ℕ × ℕ)) → Reserves action → IsSome needs → Gives action needs seen.Refused
may_miss (act.Put x c) needs reserves some = some
may_miss act.Take needs reserves some = some
may_miss action needs reserves some = absurd reserves

pub may_be_refused : (p : Proc) → IsSome (needs_of p) → Gives (next_of p) (needs_of p) seen.Refused
may_be_refused p some = may_miss (next_of p) (needs_of p) (reserves p some) some

-- what it was told, where its next action is told of itself
pub may_begin : (p : Proc) → next_of p ≡ act.Begin → Gives (next_of p) (needs_of p) seen.Done
may_begin p next = subst (λ a. Gives a (needs_of p) seen.Done) (sym next) tt

pub may_end : (p : Proc) → next_of p ≡ act.End → Gives (next_of p) (needs_of p) seen.Done
may_end p next = subst (λ a. Gives a (needs_of p) seen.Done) (sym next) tt

-- the step of a process that has not answered and whose next action is this
module _ (v v' : View) (n : ℕ) (p : Proc) (action : Action) (goes : (answer_of p ≡ None) × (next_of p ≡ action)) where
  pub carried : action ≢ act.Take → Carries v n p action v' → StepsTo v n p v'
  carried ne carries = inl ((goes.0, λ e. ne (sym goes.1 ∙ e)), subst (λ a. Carries v n p a v') (sym goes.1) carries)

  pub waited : action ≡ act.Take → Idles v n v' → StepsTo v n p v'
  waited e idles = inr (λ m. m.1 (goes.1 ∙ e), idles)

-- whether the process with a number is to take a page, by what was found of it
module _ (v : View) (number : ℕ) where
  pub none_there : (number ≡ 0) ⊎ (length v.processes < number) → ¬ IsToTake v number
  none_there (inl zero) h = let e = h.counts in omega (arith, e, zero)
  none_there (inr far) h = let e = h.counts in let low = slice_get_within v.processes h.place h.process h.stood in omega (arith, e, far, low)

  module _ (some : number ≢ 0) (within : number ≤ length v.processes) where
    place_is : (h : IsToTake v number) → slice_get v.processes (number - 1) ≡ Some h.process
    place_is h = subst (λ i. slice_get v.processes i ≡ Some h.process) (let e = h.counts in omega (arith, e)) h.stood

    pub none_takes : ((p : Proc) → slice_get v.processes (number - 1) ≡ Some p → MayTake p → ⊥) → ¬ IsToTake v number
    none_takes not h = not h.process (place_is h) h.may

    pub is_taking : ((p : Proc) → slice_get v.processes (number - 1) ≡ Some p → MayTake p) → IsToTake v number
    is_taking may =
        let p = stands v.processes (number - 1) (omega (arith, some, within)) in
        record { place = number - 1; counts = omega (arith, some); process = p.0; stood = p.1; may = may p.0 p.1 }
