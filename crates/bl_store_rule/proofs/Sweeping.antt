-- A sweep looks at each process word.
use Rattle.std.proofs.Common.{◌≡◌, ◌≢◌, ◌⊎◌, ℕ, zero, suc, ◌+◌, ◌-◌, ◌<◌, ◌≤◌, Bool, true, inl, inr, min, get_or, sym, refl, ap, ◌∙◌, subst, arith, le_refl}
use mathlib.Core.Logic.{dite}
use mathlib.Core.Option.{none}
use native.Mathlib.Decide.{ℕ_discrete}
use Rattle.atomic_table.specs.Table.{State, Me, step, keeps, Allows}
use Rattle.bl_layout.specs.declared.layout.Layout.{Layout}
use Rattle.bl_store_rule.specs.Pages.{Running, Pages}
use Rattle.bl_store_rule.specs.Frames.{process_at, ProcessIs, Swept, SweepIs, IsLive, Kept}
use Rattle.bl_store_rule.specs.Observed.{lower, horizoned, passed}
use Rattle.bl_store_rule.specs.declared.view.View.{View}
use Rattle.bl_store_rule.specs.declared.view.Sweep.{Sweep}
use Rattle.bl_store_rule.specs.declared.view.Sweep.TheVariants.{Still, Over}
use Rattle.bl_store_rule.proofs.Lists.{at_below}
use Rattle.std.proofs.Math.Nat.{min-le_left, min-le_right}
use Rattle.bl_store_rule.proofs.Reserving.{silent_load}

abbrev time_of : Sweep → ℕ
time_of Still = 0
time_of (Over m k) = m

pub lower_none : (m n : ℕ) → n ≡ 0 → lower m n ≡ m
lower_none m zero e = refl
lower_none m (suc c) e = absurd (omega arith)

pub lower_some : (m n : ℕ) → n ≢ 0 → lower m n ≡ min m (n - 1)
lower_some m zero e = absurd (e refl)
lower_some m (suc c) e = let same : c ≡ suc c - 1 = omega arith in ap (λ (z : ℕ). min m z) same

lower_both : (m n : ℕ) → lower m n ≤ m
lower_both m zero = le_refl m
lower_both m (suc c) = min-le_left m c

-- a process whose word is n began at the lower time or after it
lower_began : (m n b : ℕ) → 0 < n → n ≤ b + 1 → lower m n ≤ b
lower_began m zero b some_word near = absurd (omega arith)
lower_began m (suc c) b some_word near = let low = min-le_right m c in omega arith

module _ {D : Type 0} (l : Layout) (first : D) (holds : Pages D → Type 0) where
  abbrev St : Type 0
  St = State (Unit {0}) (View D)

  abbrev M : Type 0
  M = Me (Unit {0}) (View D)

  abbrev Rule : St → Type 0
  Rule = Kept l first holds

  -- a load of the clock by which a round of looks begins
  pub horizons : (slots id i : ℕ) (me : M) → i ≡ 0 → IsLive me.0 → Allows Rule slots id me i (λ n. n) (horizoned (step slots i 0 0 none) me)
  horizons slots id i me i_is live st r _ at _ = let mine = r.seats id me.0 at live in let s : Pages D = r.pages in let n : ℕ = get_or st.words i 0 in
      let is : n ≡ s.clock = ap (λ (z : ℕ). get_or st.words z 0) i_is ∙ r.shows.clock in (
        record me.0 { puts = me.0.puts; retires = me.0.retires; sweep = Over n 0 },
        keeps,
        tt,
        silent_load l first holds st r i id me.1 me.0 me.0.puts me.0.retires (Over n 0) me.0.seen me.0.got r.budgets at live r.budgeted (λ k _. refl) mine.budget record { past = omega arith; later = λ k b d stands low. absurd (omega arith) },
        (((refl, refl, refl, refl), refl, (refl, refl, refl), refl), refl, refl, refl),
      )

  pub passes : (slots id i m k : ℕ) (me : M) → i ≡ process_at l k → me.0.sweep ≡ Over m k → IsLive me.0 → Allows Rule slots id me i (λ n. n) (passed (step slots i 0 0 none) me)
  passes slots id i m k me i_is is live st r _ at _ = let mine = r.seats id me.0 at live in let s : Pages D = r.pages in let n : ℕ = get_or st.words i 0 in let orderly = r.orderly in let hands = orderly.hands in
      let so_far : Swept s m k = subst (SweepIs s) is mine.sweeps in let past = so_far.past in let both = lower_both m n in
      let further : Swept s (lower m n) (k + 1) = record {
        past = omega arith;
        later = λ j b d stands low. dite (ℕ_discrete j k)
            (λ e. let inside = at_below s.hands j (Running b, d) stands in let now : ProcessIs (get_or st.words (process_at l j) 0) (Running b) = r.shows.process j (Running b) d (omega arith) stands in
            let same : get_or st.words (process_at l j) 0 ≡ n = ap (λ (z : ℕ). get_or st.words (process_at l z) 0) e ∙ ap (λ (z : ℕ). get_or st.words z 0) (sym i_is) in let some_word = now.0 in let near = now.1 in lower_began m n b (omega arith) (omega arith))
            (λ ne. let soon = so_far.later j b d stands (omega arith) in omega arith);
      } in (
        record me.0 { puts = me.0.puts; retires = me.0.retires; sweep = Over (lower m n) (k + 1) },
        keeps,
        tt,
        silent_load l first holds st r i id me.1 me.0 me.0.puts me.0.retires (Over (lower m n) (k + 1)) me.0.seen me.0.got r.budgets at live r.budgeted (λ j _. refl) mine.budget further,
        (((refl, refl, refl, refl), refl, (refl, refl, refl), refl), refl, (λ m' k' e equal. let here : i ≡ process_at l k' = subst (λ (z : Layout). i ≡ process_at z k') mine.layout equal in let is_k : k ≡ k' = omega arith in let is_m : m ≡ m' = ap time_of (sym is ∙ e) in λ z. Over (lower (is_m z) n) (is_k z + 1)), refl),
      )

-- how many pages were released by some releases, and then by one more, which may have been of a page
pub counts_on : {D : Type 0} (then : D → ℕ → D → Type 0) (d e f now : D) (result : Bool) (many total : ℕ) → ((e f : D) (k : ℕ) → then d k e → then e 1 f → then d (k + 1) f) → now ≡ f → many ≤ total → (result ≡ true → many + 1 ≤ total) → (pages : ℕ) × (pages ≤ many) × then d pages e → ((result ≡ true) × then e 1 f) ⊎ (f ≡ e) → (pages : ℕ) × (pages ≤ total) × then d pages now
counts_on then d e f now result many total on is le one was (inl by) = (was.0 + 1, (let up = one by.0 in omega arith), subst (then d (was.0 + 1)) (sym is) (on e f was.0 was.2 by.1))
counts_on then d e f now result many total on is le one was (inr same) = (was.0, (let low = was.1 in omega arith), subst (then d was.0) (sym (is ∙ same)) was.2)
