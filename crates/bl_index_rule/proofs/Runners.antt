-- Which hand runs which process, after a turn of one of them.
use Rattle.std.proofs.Common.{ℕ, ◌≡◌, ◌≢◌, ◌≤◌, List, set, inl, inr, sym, ap, ◌∙◌, subst}
use Rattle.std.proofs.lemmas.Bool.{cases_eq}
use mathlib.Core.Option.{some, some-injective}
use mathlib.Core.Option as lists
use lib.ListN.{get_elem?}
use Rattle.atomic_table.proofs.Lists.{set_else}
use Rattle.bl_page.specs.Machine.{Name, Phase}
use Rattle.bl_page.specs.Machine as machine
use Rattle.bl_tree_worlds.proofs.Pushes.{name_cases}
use Rattle.bl_store_rule.specs.Pages.{Stage, Running}
use Rattle.bl_index_rule.specs.declared.known.PassState.{PassState}
use Rattle.bl_claims.specs.Seeing.{name}
use Rattle.bl_index_rule.specs.Simulation.{IsRun}
use Rattle.bl_index_rule.proofs.Shown.{set_there}

-- two hands at one place
pub one_hand : (hands : List (Stage × PassState)) (n : ℕ) (a b : Stage × PassState) → get_elem? hands n ≡ some a → get_elem? hands n ≡ some b → a ≡ b
one_hand hands n a b x y = (let both : ◌≡◌ {A = lists.Option (Stage × PassState)} (some a) (some b) = sym x ∙ y in some-injective {A = Stage × PassState} a b both)

module _ (hands : List (Stage × PassState)) (n m : ℕ) (st st' : Stage) (d e : PassState) (at : get_elem? hands n ≡ some (st, d)) (count : e.number ≡ m) where
  abbrev then_hands : List (Stage × PassState)
  then_hands = set hands n (st', e)

  acting : (p : Name) (since : ℕ) → p ≡ name n m → (from : ℕ) × (from ≤ since) × (st' ≡ Running from) → IsRun then_hands p since
  acting p since is on =
      let here : get_elem? then_hands n ≡ some (st', e) = set_there hands n (st, d) (st', e) at in
      let there : get_elem? then_hands p.pass ≡ some (st', e) = ap (λ (q : Name). get_elem? then_hands q.pass) is ∙ here in
      (e, (on.0, on.1, subst (λ (z : Stage). get_elem? then_hands p.pass ≡ some (z, e)) on.2 there), ap (λ (q : Name). q.number) is ∙ sym count)

  -- the hand's turn is by the process that it runs, if it runs one
  other : (p : Name) (since : ℕ) → p ≢ name n m → ((s : ℕ) → st ≡ Running s → m ≡ d.number) → IsRun hands p since → IsRun then_hands p since
  other p since ne current r = elim (cases_eq p.pass n) [
    | inl i ↦
        let there : get_elem? hands n ≡ some (Running r.1.0, r.0) = ap (λ (z : ℕ). get_elem? hands z) (sym i) ∙ r.1.2 in
        let one : ◌≡◌ {A = Stage × PassState} (st, d) (Running r.1.0, r.0) = one_hand hands n (st, d) (Running r.1.0, r.0) at there in
        let same : m ≡ r.0.number = current r.1.0 (ap (λ (z : Stage × PassState). z.0) one) ∙ ap (λ (z : Stage × PassState). z.1.number) one in
        absurd (ne (λ j. name (i j) ((r.2 ∙ sym same) j)))
    | inr away ↦ (r.0, (r.1.0, r.1.1, set_else hands n p.pass (st', e) away ∙ r.1.2), r.2)
  ]

  pub runs_after : (before after : Name → Phase) → ((p : Name) → p ≢ name n m → after p ≡ before p) → ((p : Name) (since : ℕ) → before p ≡ machine.Running since → IsRun hands p since)
      → ((since : ℕ) → st ≡ Running since → m ≡ d.number) → ((since : ℕ) → after (name n m) ≡ machine.Running since → (from : ℕ) × (from ≤ since) × (st' ≡ Running from))
      → (p : Name) (since : ℕ) → after p ≡ machine.Running since → IsRun then_hands p since
  runs_after before after others busy current on p since runs = elim (name_cases p (name n m)) [
    | inl is ↦ acting p since is (on since (ap after (sym is) ∙ runs))
    | inr ne ↦ other p since ne current (busy p since (sym (others p ne) ∙ runs))
  ]
