-- How a run of calls on a file goes on.
use Rattle.std.proofs.Common.{◌≡◌, inl, inr, ℕ, List, subst, arith}
use Rattle.std.proofs.lemmas.Bool.{cases_lt}
use Rattle.bl_journal.specs.Files.{Goes, LeavesOnly}

module _ {D : Type 0} (moment : D → ℕ) (leaves : D → ℕ → List ℕ → Type 0) where
  -- before the first call
  pub started : (old : D) (P : List ℕ → Type 0) → ((c : List ℕ) → leaves old (moment old) c → P c) → LeavesOnly moment leaves old old P
  started old P here = record {
    later = omega arith;
    each = λ t c from upto left. here c (subst (λ (n : ℕ). leaves old n c) (let e : t ≡ moment old = omega (arith, from, upto) in e) left);
    past = λ t c before left. left;
  }

  -- one call more
  pub goes_on : (old mid new : D) (P : List ℕ → Type 0) (does : List ℕ → List ℕ → Type 0) → LeavesOnly moment leaves old mid P
      → Goes (moment mid) (moment new) (leaves mid) (leaves new) does → ((was c : List ℕ) → leaves mid (moment mid) was → does was c → P c)
      → LeavesOnly moment leaves old new P
  goes_on old mid new P does so_far goes here = record {
    later = omega (arith, so_far.later, goes.later);
    each = λ t c from upto left. elim (cases_lt t (moment mid)) [
      | inl before ↦ so_far.each t c from (omega (arith, before)) (goes.past t c before left)
      | inr since ↦ let was = goes.since t c since upto left in here was.0 c was.1 was.2
    ];
    past = λ t c before left. so_far.past t c before (goes.past t c (omega (arith, before, so_far.later)) left);
  }

  -- a call alone
  pub by_call : (old new : D) (P : List ℕ → Type 0) (does : List ℕ → List ℕ → Type 0)
      → Goes (moment old) (moment new) (leaves old) (leaves new) does → ((was c : List ℕ) → leaves old (moment old) was → does was c → P c)
      → LeavesOnly moment leaves old new P
  by_call old new P does goes here = record {
    later = goes.later;
    each = λ t c from upto left. let was = goes.since t c from upto left in here was.0 c was.1 was.2;
    past = goes.past;
  }

  -- less is left to say
  pub leaves_less : (old new : D) (P Q : List ℕ → Type 0) → LeavesOnly moment leaves old new P → ((c : List ℕ) → P c → Q c) → LeavesOnly moment leaves old new Q
  leaves_less old new P Q run less = record { later = run.later; each = λ t c from upto left. less c (run.each t c from upto left); past = run.past }

  -- one run after another
  pub leaves_then : (old mid new : D) (P : List ℕ → Type 0) → LeavesOnly moment leaves old mid P → LeavesOnly moment leaves mid new P → LeavesOnly moment leaves old new P
  leaves_then old mid new P one other = record {
    later = omega (arith, one.later, other.later);
    each = λ t c from upto left. elim (cases_lt t (moment mid)) [
      | inl before ↦ one.each t c from (omega (arith, before)) (other.past t c before left)
      | inr since ↦ other.each t c since upto left
    ];
    past = λ t c before left. one.past t c before (other.past t c (omega (arith, before, one.later)) left);
  }
