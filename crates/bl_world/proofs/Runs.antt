-- Lists of turns, one turn at a time.
use Rattle.std.proofs.Common.{ℕ, ◌≡◌, ◌+◌, ◌++◌, zero, suc, Some, None, List, [], ◌∷◌, length, take, drop, slice_get, arith, ap, sym, ◌∙◌, refl, subst, inl, inr}
use Rattle.std.proofs.lemmas.List.{length-set}
use Rattle.bl_proc_steps.specs.declared.acts.Action.{Action}
use Rattle.bl_proc_steps.specs.declared.acts.Action.TheVariants as act
use Rattle.bl_proc.specs.declared.kinds.Proc.{Proc}
use Rattle.bl_proc.specs.Processes.{next_of}
use Rattle.bl_world.specs.declared.turns.Turn.{Turn}
use Rattle.bl_world.specs.declared.turns.Turn.TheVariants as turn
use Rattle.bl_world.specs.Views.{View, number_in}
use Rattle.bl_world.proofs.Places.{push_cases}
use Rattle.bl_world.specs.Turns.{Tells, Idles, Carries, TurnsAt, TurnsTo, RunsTo, RunsInto, IsStarted, AllStarted}

pub runs_on : (v mid v' : View) (turns : List Turn) (t : Turn) → RunsTo v turns mid → TurnsTo mid t v' → RunsTo v (turns ++ t ∷ []) v'
runs_on v mid v' [] t e d = (v', subst (λ z. TurnsTo z t v') e d, refl)
runs_on v mid v' (s ∷ turns) t r d = (r.0, r.1, runs_on r.0 mid v' turns t r.2 d)

-- no turn makes or ends a process
module _ (v v' : View) (n : ℕ) (p : Proc) where
  observed_count : {a : _} {what : _} → Tells v n p a what v' → length v'.processes ≡ length v.processes
  observed_count t = ap length t.processes ∙ length-set v.processes n t.new

  idle_count : Idles v n v' → length v'.processes ≡ length v.processes
  idle_count e = ap (λ z. length z.processes) e

  carried_count : (action : Action) → Carries v n p action v' → length v'.processes ≡ length v.processes
  carried_count act.Begin c = observed_count c.1
  carried_count act.End c = observed_count c.1
  carried_count (act.Get x) c = observed_count c.3
  carried_count (act.Put x d) c = observed_count c.1
  carried_count (act.Latch x) c = elim c [ inl l ↦ observed_count l.2 | inr m ↦ observed_count m.2 ]
  carried_count (act.Open x) c = observed_count c.1
  carried_count act.Take c = absurd c
  carried_count (act.Retire x) c = observed_count c.1
  carried_count (act.Look q) c = observed_count c.7
  carried_count (act.See x) c = observed_count c.3
  carried_count (act.Probe x) c = observed_count c.1
  carried_count (act.Release x) c = elim c [ inl l ↦ observed_count l.2 | inr m ↦ observed_count m.2 ]

  at_count : (t : Turn) → TurnsAt v n p t v' → length v'.processes ≡ length v.processes
  at_count (turn.Step number) d = elim d [ inl l ↦ carried_count (next_of p) l.1 | inr i ↦ idle_count i.1 ]
  at_count (turn.Take number x) d = elim d [ inl l ↦ observed_count l.3 | inr i ↦ idle_count i.1 ]
  at_count (turn.Refuse number) d = elim d [ inl l ↦ observed_count l.2 | inr i ↦ idle_count i.1 ]

-- no turn makes or ends a page
module _ (v v' : View) (n : ℕ) (p : Proc) where
  carried_size : (action : Action) → Carries v n p action v' → length v'.pages ≡ length v.pages
  carried_size act.Begin c = ap length c.0.0
  carried_size act.End c = ap length c.0.0
  carried_size (act.Get x) c = ap length c.2.0
  carried_size (act.Put x d) c = ap length c.0.0 ∙ length-set v.pages x d
  carried_size (act.Latch x) c = elim c [ inl l ↦ ap length l.1.0 | inr m ↦ ap length m.1.0 ]
  carried_size (act.Open x) c = ap length c.0.0
  carried_size act.Take c = absurd c
  carried_size (act.Retire x) c = ap length c.0.0
  carried_size (act.Look q) c = ap length c.6.0
  carried_size (act.See x) c = ap length c.2.0
  carried_size (act.Probe x) c = ap length c.0.0
  carried_size (act.Release x) c = elim c [ inl l ↦ ap length l.1.0 | inr m ↦ ap length m.1.0 ]

  idle_size : Idles v n v' → length v'.pages ≡ length v.pages
  idle_size e = ap (λ z. length z.pages) e

  at_size : (t : Turn) → TurnsAt v n p t v' → length v'.pages ≡ length v.pages
  at_size (turn.Step number) d = elim d [ inl l ↦ carried_size (next_of p) l.1 | inr i ↦ idle_size i.1 ]
  at_size (turn.Take number x) d = elim d [ inl l ↦ ap length l.2.0 | inr i ↦ idle_size i.1 ]
  at_size (turn.Refuse number) d = elim d [ inl l ↦ ap length l.1.0 | inr i ↦ idle_size i.1 ]

pub turn_size : (v v' : View) (t : Turn) → TurnsTo v t v' → length v'.pages ≡ length v.pages
turn_size v v' t r = at_size v v' r.place r.process t r.does

pub runs_count : (v v' : View) (turns : List Turn) → RunsTo v turns v' → length v'.processes ≡ length v.processes
runs_count v v' [] e = ap (λ z. length z.processes) e
runs_count v v' (t ∷ turns) r = runs_count r.0 v' turns r.2 ∙ at_count v r.0 r.1.place r.1.process t r.1.does

-- a list, split at one of its places
split_suc : {A : Type 0} (xs : List A) (i : ℕ) (x : A) → slice_get xs i ≡ Some x → xs ≡ take i xs ++ x ∷ drop (suc i) xs
split_suc [] i x e = absurd (let f : None ≡ Some x = e in cc)
split_suc (y ∷ xs) zero x e = (let f : y ≡ x = cc in ap (λ z. z ∷ xs) f)
split_suc (y ∷ xs) (suc i) x e = ap (λ z. y ∷ z) (split_suc xs i x e)

further_suc : {A : Type 0} (xs : List A) (i : ℕ) (x : A) → slice_get xs i ≡ Some x → take (suc i) xs ≡ take i xs ++ x ∷ []
further_suc [] i x e = absurd (let f : None ≡ Some x = e in cc)
further_suc (y ∷ xs) zero x e = (let f : y ≡ x = cc in ap (λ z. z ∷ []) f)
further_suc (y ∷ xs) (suc i) x e = ap (λ z. y ∷ z) (further_suc xs i x e)

one_more : (i : ℕ) → i + 1 ≡ suc i
one_more i = omega arith

-- the turns up to a place are carried out, and then the one at that place
pub runs_further : (v mid v' : View) (turns : List Turn) (i : ℕ) (t : Turn) → slice_get turns i ≡ Some t → RunsTo v (take i turns) mid → TurnsTo mid t v' → RunsTo v (take (i + 1) turns) v'
runs_further v mid v' turns i t e r d = rw (one_more i, further_suc turns i t e) (runs_on v mid v' (take i turns) t r d)

-- memory failed at that place
pub runs_into : (v v' : View) (turns : List Turn) (i : ℕ) (t : Turn) → slice_get turns i ≡ Some t → RunsTo v (take i turns) v' → RunsInto v turns v'
runs_into v v' turns i t e r = (take i turns, t, drop (suc i) turns, split_suc turns i t e, r)

-- all turns up to a place are of processes that were started, and so is the one at that place
pub all_further : (v : View) (turns : List Turn) (i : ℕ) (t : Turn) → slice_get turns i ≡ Some t → AllStarted v (take i turns) → IsStarted v (number_in t) → AllStarted v (take (i + 1) turns)
all_further v turns i t e all here j s is =
    let is' : slice_get (take i turns ++ t ∷ []) j ≡ Some s = rw (one_more i, further_suc turns i t e) at is in
    elim (push_cases (take i turns) t j s is') [
      | inl old ↦ all j s old
      | inr new ↦ subst (λ z. IsStarted v (number_in z)) (sym new.1) here
    ]
