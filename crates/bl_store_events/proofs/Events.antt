-- Each event of a store is that of the machine.
use Rattle.std.proofs.Common.{◌≡◌, ◌≢◌, ◌⊎◌, ℕ, zero, suc, ◌+◌, ◌<◌, Bool, eqb, if◌then◌else◌, List, [], ◌∷◌, length, set, sym, refl, ap, ◌∙◌, inl, inr, ⊎_elim, arith, le_refl, lt_of_not-le, get_or-set_other, get_or-set_same}
use Rattle.std.specs.Prelude.{nat_lt}
use Rattle.std.proofs.lemmas.Bool.{eq-eqb, ne_eqb, lt-ltb, le-ltb}
use mathlib.Core.Logic.{dite}
use mathlib.Core.Option.{Option, none, some, some-ne-none}
use native.Mathlib.Decide.{dec_le, ℕ_discrete}
use lib.ListN.{get_elem?}
use Rattle.atomic_table.proofs.Lists.{set_here, set_else}
use Rattle.bl_page.specs.Machine.{Name, IsAt}
use Rattle.bl_page.specs.Machine as machine
use Rattle.bl_store_rule.specs.Pages.{Owner, Released, Open, Held, Retired, Stage, Idle, Running, Pages, Stands, AllBeganAfter, observed, owned, written, later}
use Rattle.bl_store_events.specs.Shown.{name, owner_in, phase_of, phase_in, seen, one_more, IsTied}

at_below : {A : Type 0} (l : List A) (i : ℕ) (a : A) → get_elem? l i ≡ some a → i < length l
at_below [] i a e = absurd (some-ne-none a (sym e))
at_below (x ∷ xs) zero a e = omega arith
at_below (x ∷ xs) (suc i) a e = let h = at_below xs i a e in omega arith

set_there : {A : Type 0} (l : List A) (i : ℕ) (a b : A) → get_elem? l i ≡ some a → get_elem? (set l i b) i ≡ some b
set_there l i a b e = set_here l i b (at_below l i a e)

-- one number is below, at or above another
side : (a b : ℕ) → (a < b) ⊎ (a ≡ b) ⊎ (b < a)
side a b = dite (ℕ_discrete a b) (λ e. inr (inl e)) (λ ne. dite (dec_le a b) (λ h. inl (omega arith)) (λ h. inr (inr (lt_of_not-le h))))

owner_at : (ended : ℕ → ℕ) (os : List Owner) (x : ℕ) (o o' : Owner) → get_elem? os x ≡ some o → IsAt x (owner_in ended (some o')) (λ y. owner_in ended (get_elem? os y)) (λ y. owner_in ended (get_elem? (set os x o') y))
owner_at ended os x o o' here = record { at = ap (owner_in ended) (set_there os x o o' here); others = λ y other. ap (owner_in ended) (set_else os x y o' other) }

holds_none : (ended : ℕ → ℕ) (n : ℕ) (o : Option Owner) → o ≢ some (Held n) → owner_in ended o ≢ machine.Held (name ended n)
holds_none ended n none not e = cc
holds_none ended n (some Released) not e = cc
holds_none ended n (some Open) not e = cc
holds_none ended n (some (Held k)) not e = let same : name ended k ≡ name ended n = cc in not (ap (λ (z : Name). some (Held z.pass)) same)
holds_none ended n (some (Retired t)) not e = cc

not_released : (ended : ℕ → ℕ) (o : Owner) → o ≢ Released → owner_in ended (some o) ≢ machine.Released
not_released ended Released not e = not refl
not_released ended Open not e = cc
not_released ended (Held k) not e = cc
not_released ended (Retired t) not e = cc

more_here : (ended : ℕ → ℕ) (n k : ℕ) → k ≡ n → one_more ended n k ≡ ended k + 1
more_here ended n k e = ap (λ (b : Bool). if b then ended k + 1 else ended k) (eq-eqb k n e)

more_else : (ended : ℕ → ℕ) (n k : ℕ) → k ≢ n → one_more ended n k ≡ ended k
more_else ended n k ne = ap (λ (b : Bool). if b then ended k + 1 else ended k) (ne_eqb k n ne)

owner_ended : (ended : ℕ → ℕ) (n : ℕ) (o : Option Owner) → o ≢ some (Held n) → owner_in (one_more ended n) o ≡ owner_in ended o
owner_ended ended n none not = refl
owner_ended ended n (some Released) not = refl
owner_ended ended n (some Open) not = refl
owner_ended ended n (some (Held k)) not = ap (λ (z : ℕ). machine.Held record { pass = k; number = z }) (more_else ended n k (λ e. not (ap (λ (z : ℕ). some (Held z)) e)))
owner_ended ended n (some (Retired t)) not = refl

module _ {D : Type 0} where
  -- the process that a hand has now, those that it has ended, and those to come
  now : (ended : ℕ → ℕ) (s : Pages D) (p : Name) → p.number ≡ ended p.pass → phase_in ended s p ≡ phase_of (get_elem? s.hands p.pass)
  now ended s p e = ap (λ (b : Bool). if b then phase_of (get_elem? s.hands p.pass) else if (nat_lt p.number (ended p.pass)) then machine.Ended else machine.Waiting) (eq-eqb p.number (ended p.pass) e)

  past : (ended : ℕ → ℕ) (s : Pages D) (p : Name) → p.number < ended p.pass → phase_in ended s p ≡ machine.Ended
  past ended s p low = ap (λ (b : Bool). if b then phase_of (get_elem? s.hands p.pass) else if (nat_lt p.number (ended p.pass)) then machine.Ended else machine.Waiting) (ne_eqb p.number (ended p.pass) (λ e. omega arith))
      ∙ ap (λ (b : Bool). if b then machine.Ended else machine.Waiting) (lt-ltb p.number (ended p.pass) low)

  next : (ended : ℕ → ℕ) (s : Pages D) (p : Name) → ended p.pass < p.number → phase_in ended s p ≡ machine.Waiting
  next ended s p high = ap (λ (b : Bool). if b then phase_of (get_elem? s.hands p.pass) else if (nat_lt p.number (ended p.pass)) then machine.Ended else machine.Waiting) (ne_eqb p.number (ended p.pass) (λ e. omega arith))
      ∙ ap (λ (b : Bool). if b then machine.Ended else machine.Waiting) (le-ltb p.number (ended p.pass) (omega arith))

  phase_observed : (st : Stage) (d d' : D) → phase_of (some (st, d')) ≡ phase_of (some (st, d))
  phase_observed Idle d d' = refl
  phase_observed (Running b) d d' = refl

  -- a hand goes on as it was, whatever it is told
  stays : (ended : ℕ → ℕ) (s s' : Pages D) (n : ℕ) (st : Stage) (d d' : D) → Stands s n st d → s'.hands ≡ set s.hands n (st, d') → (p : Name) → phase_in ended s' p ≡ phase_in ended s p
  stays ended s s' n st d d' at is p = ap (λ (z : machine.Phase). if (eqb p.number (ended p.pass)) then z else if (nat_lt p.number (ended p.pass)) then machine.Ended else machine.Waiting)
      (ap (λ (z : List (Stage × D)). phase_of (get_elem? z p.pass)) is ∙ dite (ℕ_discrete p.pass n)
      (λ e. ap (λ (z : ℕ). phase_of (get_elem? (set s.hands n (st, d')) z)) e ∙ (ap phase_of (set_there s.hands n (st, d) (st, d') at) ∙ (phase_observed st d d' ∙ (ap phase_of (sym at) ∙ ap (λ (z : ℕ). phase_of (get_elem? s.hands z)) (sym e)))))
      (λ ne. ap phase_of (set_else s.hands n p.pass (st, d') ne)))

  -- the process of the hand n is the only one that may change with it
  others : (ended : ℕ → ℕ) (s : Pages D) (n : ℕ) (v : Stage × D) (p : Name) → p ≢ name ended n → phase_in ended (record s { hands = set s.hands n v }) p ≡ phase_in ended s p
  others ended s n v p other = let s' : Pages D = record s { hands = set s.hands n v } in ⊎_elim (λ low. past ended s' p low ∙ sym (past ended s p low))
      (⊎_elim (λ e. now ended s' p e ∙ (ap phase_of (set_else s.hands n p.pass v (λ pass. other (λ i. record { pass = pass i; number = (e ∙ ap ended pass) i }))) ∙ sym (now ended s p e)))
      (λ high. next ended s' p high ∙ sym (next ended s p high))) (side p.number (ended p.pass))

  running : (at : Option (Stage × D)) (since : ℕ) → phase_of at ≡ machine.Running since → (d : D) × (at ≡ some (Running since, d))
  running none since e = absurd (cc)
  running (some (Idle, d)) since e = absurd (cc)
  running (some (Running b, d)) since e = let same : b ≡ since = cc in (d, ap (λ (z : ℕ). some (Running z, d)) same)

  after : (ended : ℕ → ℕ) (s : Pages D) (time : ℕ) → AllBeganAfter s time → machine.AllBeganAfter (seen ended s) time
  after ended s time all q since e = ⊎_elim (λ low. let no : machine.Ended ≡ machine.Running since = sym (past ended s q low) ∙ e in absurd cc)
      (⊎_elim (λ is. let r = running (get_elem? s.hands q.pass) since (sym (now ended s q is) ∙ e) in all q.pass since r.0 r.1)
      (λ high. let no : machine.Waiting ≡ machine.Running since = sym (next ended s q high) ∙ e in absurd cc)) (side q.number (ended q.pass))

  ended_else : (ended : ℕ → ℕ) (s : Pages D) (n : ℕ) (d' : D) (st : Stage) (d : D) → Stands s n st d → (p : Name) → p ≢ name ended n → phase_in (one_more ended n) (observed s n Idle d') p ≡ phase_in ended s p
  ended_else ended s n d' st d at p other = let s' : Pages D = observed s n Idle d' in let more = one_more ended n in dite (ℕ_discrete p.pass n)
      (λ pass. let up = more_here ended n p.pass pass in ⊎_elim (λ low. past more s' p (omega arith) ∙ sym (past ended s p low))
      (⊎_elim (λ e. absurd (other (λ i. record { pass = pass i; number = (e ∙ ap ended pass) i })))
      (λ high. dite (ℕ_discrete p.number (ended p.pass + 1))
      (λ e. now more s' p (e ∙ sym up) ∙ (ap (λ (z : ℕ). phase_of (get_elem? s'.hands z)) pass ∙ ap phase_of (set_there s.hands n (st, d) (Idle, d') at)) ∙ sym (next ended s p high))
      (λ ne. next more s' p (omega arith) ∙ sym (next ended s p high)))) (side p.number (ended p.pass)))
      (λ ne. let same = more_else ended n p.pass ne in ⊎_elim (λ low. past more s' p (omega arith) ∙ sym (past ended s p low))
      (⊎_elim (λ e. now more s' p (e ∙ sym same) ∙ (ap phase_of (set_else s.hands n p.pass (Idle, d') ne) ∙ sym (now ended s p e)))
      (λ high. next more s' p (omega arith) ∙ sym (next ended s p high))) (side p.number (ended p.pass)))

pub tied : (D : Type 0) → IsTied D
tied D = record {
  begins = λ ended s n d d' at. record {
    enabled = now ended s (name ended n) refl ∙ ap phase_of at;
    changes = (
      (λ x. refl),
      (λ x. refl),
      (s.clock, le_refl s.clock, le_refl s.clock, record { at = now ended (observed s n (Running s.clock) d') (name ended n) refl ∙ ap phase_of (set_there s.hands n (Idle, d) (Running s.clock, d') at); others = λ p other. others ended s n (Running s.clock, d') p other }),
    );
    on = le_refl s.clock;
  };
  ends = λ ended s n since d d' at free. let up = more_here ended n n refl in record {
    enabled = ((since, now ended s (name ended n) refl ∙ ap phase_of at), λ x. holds_none ended n (get_elem? s.owners x) (free x));
    changes = (
      (λ x. refl),
      (λ x. owner_ended ended n (get_elem? s.owners x) (free x)),
      record { at = past (one_more ended n) (observed s n Idle d') (name ended n) (omega arith); others = λ p other. ended_else ended s n d' (Running since) d at p other },
    );
    on = le_refl s.clock;
  };
  gets = λ ended s n x since d d' words owner at page not. record {
    enabled = ((since, now ended s (name ended n) refl ∙ ap phase_of at), λ e. not_released ended owner not (ap (owner_in ended) (sym page.1) ∙ e));
    changes = ((λ y. refl), (λ y. refl), stays ended s (observed s n (Running since) d') n (Running since) d d' at refl);
    on = le_refl s.clock;
  };
  puts = λ ended s n x st d d' words new at page. record {
    enabled = ap (owner_in ended) page.1;
    changes = (
      record { at = get_or-set_same s.contents x new [] (at_below s.contents x words page.0); others = λ y other. get_or-set_other s.contents x y new [] other },
      (λ y. refl),
      stays ended s (observed (written s x new) n st d') n st d d' at refl,
    );
    on = le_refl s.clock;
  };
  takes = λ ended s n x st d d' words at page. record {
    enabled = ap (owner_in ended) page.1;
    changes = ((λ y. refl), owner_at ended s.owners x Released (Held n) page.1, stays ended s (observed (owned s x (Held n)) n st d') n st d d' at refl);
    on = le_refl s.clock;
  };
  latches = λ ended s n x st d d' words at page. record {
    enabled = ap (owner_in ended) page.1;
    changes = ((λ y. refl), owner_at ended s.owners x Open (Held n) page.1, stays ended s (observed (owned s x (Held n)) n st d') n st d d' at refl);
    on = le_refl s.clock;
  };
  opens = λ ended s n x st d d' words at page. record {
    enabled = ap (owner_in ended) page.1;
    changes = ((λ y. refl), owner_at ended s.owners x (Held n) Open page.1, stays ended s (observed (owned s x Open) n st d') n st d d' at refl);
    on = le_refl s.clock;
  };
  retires = λ ended s n x st d d' words at page. record {
    enabled = ap (owner_in ended) page.1;
    changes = (s.clock, le_refl s.clock, omega arith, ((λ y. refl), owner_at ended s.owners x (Held n) (Retired s.clock) page.1, stays ended s (observed (later (owned s x (Retired s.clock))) n st d') n st d d' at refl));
    on = omega arith;
  };
  releases = λ ended s n x time st d d' words at page all. record {
    enabled = (time, ap (owner_in ended) page.1, after ended s time all);
    changes = ((λ y. refl), owner_at ended s.owners x (Retired time) Released page.1, stays ended s (observed (owned s x Released) n st d') n st d d' at refl);
    on = le_refl s.clock;
  };
  misses = λ ended s n what st d d' at. record {
    enabled = tt;
    changes = ((λ y. refl), (λ y. refl), stays ended s (observed s n st d') n st d d' at refl);
    on = le_refl s.clock;
  };
}
