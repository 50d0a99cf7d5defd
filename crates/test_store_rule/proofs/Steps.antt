-- Each event keeps the rule.
use Rattle.std.proofs.Common.{◌≡◌, ◌≢◌, ◌⊎◌, ℕ, zero, suc, ◌+◌, ◌<◌, ◌≤◌, Bool, true, false, List, [], ◌∷◌, ◌++◌, map, length, replicate, set, sym, refl, ap, ◌∙◌, subst, ⊎_elim, arith, Some, None, if◌then◌else◌}
use mathlib.Core.Logic.{dite}
use mathlib.Core.Option.{some, some-injective, some-ne-none}
use native.Mathlib.Decide.{ℕ_discrete}
use lib.ListN.{get_elem?}
use Rattle.atomic_table.proofs.Lists.{at_set, set_here, set_else, at_last, at_longer}
use Rattle.bl_layout.specs.declared.layout.Layout.{Layout}
use Rattle.bl_store_rule.specs.Pages.{Owner, Released, Open, Held, Retired, Stage, Idle, Running, Pages, Stands, observed, owned, written, Begins, Ends, Gets, Puts, Takes, Latches, Misses, Opens, Retires, Refuses, Meets, ReleasesMany}
use Rattle.bl_room.specs.Blanks.{is_blank}
use Rattle.bl_store.specs.Opening.{first_owner, first_pages, IsDealt}
use Rattle.test_store_rule.specs.declared.Mine.{Mine}
use Rattle.std.proofs.lemmas.List.{get_or-replicate, length-replicate, length-append}
use Rattle.std.proofs.lemmas.List.Elements.{All-nil, All-cons}
use Rattle.std.specs.List.{All}
use Rattle.bl_store.specs.Closing.{left_of, HasEach, IsClosed}
use Rattle.bl_store.specs.Hands.{IsSameHand}
use Rattle.atomic_table.specs.Seated.{TableId}
use Rattle.bl_store.specs.declared.store.Hand.{Hand}
use Rattle.bl_store_rule.specs.declared.view.View.{View}
use Rattle.test_store_rule.specs.Holding.{first_words, IsFresh, AllSame, holding, IsUsed, Fits, same_at_time, saw, took, tried, lost, lost_at_time, same_after, same_apart}

module _ {A : Type 0} where
  at_below : (l : List A) (i : ℕ) (a : A) → get_elem? l i ≡ some a → i < length l
  at_below [] i a e = absurd (some-ne-none a (sym e))
  at_below (x ∷ xs) zero a e = omega arith
  at_below (x ∷ xs) (suc i) a e = let h = at_below xs i a e in omega arith

  one_there : (l : List A) (i : ℕ) (a b : A) → get_elem? l i ≡ some a → get_elem? l i ≡ some b → a ≡ b
  one_there l i a b e f = some-injective a b (sym e ∙ f)

  set_there : (l : List A) (i : ℕ) (a b : A) → get_elem? l i ≡ some a → get_elem? (set l i b) i ≡ some b
  set_there l i a b e = set_here l i b (at_below l i a e)

-- a hand goes on with what it holds
observed_same : (s : Pages Mine) (n : ℕ) (st st' : Stage) (d : Mine) → Stands s n st d → Fits s → Fits (observed s n st' d)
observed_same s n st st' d at r = record {
  whole = r.whole;
  fixed = r.fixed;
  held = λ m x sg e at_m is. ⊎_elim (λ (t : (m ≡ n) × ((st', d) ≡ (sg, e))). r.held n x st d at (ap (λ (z : Stage × Mine). z.1.held) t.1 ∙ is) ∙ ap (λ (z : ℕ). some (Held z)) (sym t.0)) (λ (t : (m ≢ n) × (get_elem? s.hands m ≡ some (sg, e))). r.held m x sg e t.1 is)
      (at_set s.hands n m (st', d) (sg, e) at_m);
  known = λ m x sg e at_m is. ⊎_elim (λ (t : (m ≡ n) × ((st', d) ≡ (sg, e))). ap (λ (z : Stage × Mine). z.1.held) (sym t.1) ∙ r.known n x st d at (is ∙ ap (λ (z : ℕ). some (Held z)) t.0)) (λ (t : (m ≢ n) × (get_elem? s.hands m ≡ some (sg, e))). r.known m x sg e t.1 is)
      (at_set s.hands n m (st', d) (sg, e) at_m);
}

-- an owner changes that is none hand, to one that is none hand
owned_else : (s : Pages Mine) (x : ℕ) (o o' : Owner) → get_elem? s.owners x ≡ some o → ((n : ℕ) → o ≢ Held n) → ((n : ℕ) → o' ≢ Held n) → (x < 2 → IsUsed o') → Fits s → Fits (owned s x o')
owned_else s x o o' here none none2 fixed r = record {
  whole = r.whole;
  fixed = λ y p low e. ⊎_elim (λ (t : (y ≡ x) × (o' ≡ p)). let same = t.0 in subst IsUsed t.1 (fixed (omega arith))) (λ (t : (y ≢ x) × (get_elem? s.owners y ≡ some p)). r.fixed y p low t.1) (at_set s.owners x y o' p e);
  held = λ m y sg e at_m is. let was = r.held m y sg e at_m is in set_else s.owners x y o' (λ same. none m (one_there s.owners x o (Held m) here (ap (get_elem? s.owners) (sym same) ∙ was))) ∙ was;
  known = λ m y sg e at_m is. ⊎_elim (λ (t : (y ≡ x) × (o' ≡ Held m)). absurd (none2 m t.1)) (λ (t : (y ≢ x) × (get_elem? s.owners y ≡ some (Held m))). r.known m y sg e at_m t.1) (at_set s.owners x y o' (Held m) is);
}

-- a hand that holds none gains a page that nobody holds
gains : (s : Pages Mine) (n x : ℕ) (st : Stage) (d : Mine) (o : Owner) → Stands s n st d → get_elem? s.owners x ≡ some o → ((m : ℕ) → o ≢ Held m) → d.held ≡ None → Fits s → Fits (observed (owned s x (Held n)) n st (holding (Some x)))
gains s n x st d o at here none empty r = record {
  whole = r.whole;
  fixed = λ y p low e. ⊎_elim (λ (t : (y ≡ x) × (Held n ≡ p)). subst IsUsed t.1 tt) (λ (t : (y ≢ x) × (get_elem? s.owners y ≡ some p)). r.fixed y p low t.1) (at_set s.owners x y (Held n) p e);
  held = λ m y sg e at_m is. ⊎_elim
      (λ (t : (m ≡ n) × ((st, holding (Some x)) ≡ (sg, e))). let same : Some x ≡ Some y = ap (λ (z : Stage × Mine). z.1.held) t.1 ∙ is in let is_x : x ≡ y = cc in
      ap (get_elem? (set s.owners x (Held n))) (sym is_x) ∙ (set_there s.owners x o (Held n) here ∙ ap (λ (z : ℕ). some (Held z)) (sym t.0)))
      (λ (t : (m ≢ n) × (get_elem? s.hands m ≡ some (sg, e))). let was = r.held m y sg e t.1 is in set_else s.owners x y (Held n) (λ same. none m (one_there s.owners x o (Held m) here (ap (get_elem? s.owners) (sym same) ∙ was))) ∙ was)
      (at_set s.hands n m (st, holding (Some x)) (sg, e) at_m);
  known = λ m y sg e at_m is. ⊎_elim
      (λ (h : (m ≡ n) × ((st, holding (Some x)) ≡ (sg, e))). ⊎_elim (λ (t : (y ≡ x) × (Held n ≡ Held m)). ap (λ (z : Stage × Mine). z.1.held) (sym h.1) ∙ ap (λ (z : ℕ). Some z) (sym t.0))
      (λ (t : (y ≢ x) × (get_elem? s.owners y ≡ some (Held m))). let was = r.known n y st d at (t.1 ∙ ap (λ (z : ℕ). some (Held z)) h.0) in let none_is : None ≡ Some y = sym empty ∙ was in cc) (at_set s.owners x y (Held n) (Held m) is))
      (λ (h : (m ≢ n) × (get_elem? s.hands m ≡ some (sg, e))). ⊎_elim (λ (t : (y ≡ x) × (Held n ≡ Held m)). let same : n ≡ m = cc in absurd (h.0 (sym same))) (λ (t : (y ≢ x) × (get_elem? s.owners y ≡ some (Held m))). r.known m y sg e h.1 t.1) (at_set s.owners x y (Held n) (Held m) is))
      (at_set s.hands n m (st, holding (Some x)) (sg, e) at_m);
}

-- a hand loses the page that it holds
loses : (s : Pages Mine) (n x : ℕ) (st : Stage) (d : Mine) (o' : Owner) → Stands s n st d → d.held ≡ Some x → ((m : ℕ) → o' ≢ Held m) → (x < 2 → IsUsed o') → Fits s → Fits (observed (owned s x o') n st (holding None))
loses s n x st d o' at has none fixed r = let mine = r.held n x st d at has in record {
  whole = r.whole;
  fixed = λ y p low e. ⊎_elim (λ (t : (y ≡ x) × (o' ≡ p)). let same = t.0 in subst IsUsed t.1 (fixed (omega arith))) (λ (t : (y ≢ x) × (get_elem? s.owners y ≡ some p)). r.fixed y p low t.1) (at_set s.owners x y o' p e);
  held = λ m y sg e at_m is. ⊎_elim
      (λ (t : (m ≡ n) × ((st, holding None) ≡ (sg, e))). let same : None ≡ Some y = ap (λ (z : Stage × Mine). z.1.held) t.1 ∙ is in cc)
      (λ (t : (m ≢ n) × (get_elem? s.hands m ≡ some (sg, e))). let was = r.held m y sg e t.1 is in
      set_else s.owners x y o' (λ same. let both : Held n ≡ Held m = one_there s.owners x (Held n) (Held m) mine (ap (get_elem? s.owners) (sym same) ∙ was) in let one : n ≡ m = cc in t.0 (sym one)) ∙ was)
      (at_set s.hands n m (st, holding None) (sg, e) at_m);
  known = λ m y sg e at_m is. ⊎_elim (λ (t : (y ≡ x) × (o' ≡ Held m)). absurd (none m t.1))
      (λ (t : (y ≢ x) × (get_elem? s.owners y ≡ some (Held m))). ⊎_elim
      (λ (h : (m ≡ n) × ((st, holding None) ≡ (sg, e))). let was : d.held ≡ Some y = r.known n y st d at (t.1 ∙ ap (λ (z : ℕ). some (Held z)) h.0) in let both : Some x ≡ Some y = sym has ∙ was in let same : x ≡ y = cc in absurd (t.0 (sym same)))
      (λ (h : (m ≢ n) × (get_elem? s.hands m ≡ some (sg, e))). r.known m y sg e h.1 t.1) (at_set s.hands n m (st, holding None) (sg, e) at_m))
      (at_set s.owners x y o' (Held m) is);
}

module _ (l : Layout) (n : ℕ) (d : Mine) where
  pub begins : Begins Fits l n d same_at_time
  begins s r o at = (d, observed_same s n Idle (Running s.clock) d at r, refl)

  pub ends : d.held ≡ None → Ends Fits l n d same_at_time
  ends empty s since r o at = ((λ x is. let was = r.known n x (Running since) d at is in let none_is : None ≡ Some x = sym empty ∙ was in cc), d, observed_same s n (Running since) Idle d at r, refl)

  used_not_released : (o : Owner) → IsUsed o → o ≢ Released
  used_not_released o is e = subst IsUsed e is

  -- a page that the hand holds, or that is never released
  pub gets : (x : ℕ) → (x < 2) ⊎ (d.held ≡ Some x) → Gets Fits l n d x saw
  gets x near s since words owner r o at page = (
    ⊎_elim (λ (low : x < 2). used_not_released owner (r.fixed x owner low page.1)) (λ (has : d.held ≡ Some x). λ e. let none : Released ≡ Held n = sym e ∙ one_there s.owners x owner (Held n) page.1 (r.held n x (Running since) d at has) in cc) near,
    d,
    observed_same s n (Running since) (Running since) d at r,
    (refl, r.whole x words page.0),
  )

  pub puts : (x : ℕ) (new : List ℕ) → d.held ≡ Some x → AllSame new → Puts Fits l n d x new saw
  puts x new has same s st words owner r o at page = (
    one_there s.owners x owner (Held n) page.1 (r.held n x st d at has),
    d,
    observed_same (written s x new) n st st d at record {
      whole = λ y ws e. ⊎_elim (λ (t : (y ≡ x) × (new ≡ ws)). subst AllSame t.1 same) (λ (t : (y ≢ x) × (get_elem? s.contents y ≡ some ws)). r.whole y ws t.1) (at_set s.contents x y new ws e);
      fixed = r.fixed;
      held = r.held;
      known = r.known;
    },
    (refl, r.whole x words page.0),
  )

  pub takes : (x : ℕ) → d.held ≡ None → Takes Fits l n d x took
  takes x empty s st words r o at page = (holding (Some x), gains s n x st d Released at page.1 (λ m e. cc) empty r, refl)

  pub latches : (x : ℕ) → d.held ≡ None → Latches Fits l n d x tried
  latches x empty s st words r o at page = (holding (Some x), gains s n x st d Open at page.1 (λ m e. cc) empty r, ((λ e. refl), λ other. absurd (other refl)))

  pub misses : (x : ℕ) → Misses Fits l n d x tried
  misses x s st words owner r o at page not = (d, observed_same s n st st d at r, ((λ e. absurd (not e)), λ _. refl))

  pub opens : (x : ℕ) → d.held ≡ Some x → Opens Fits l n d x lost
  opens x has s st words owner r o at page = (one_there s.owners x owner (Held n) page.1 (r.held n x st d at has), holding None, loses s n x st d Open at has (λ m e. cc) (λ low. tt) r, refl)

  pub retires : (x : ℕ) → 2 ≤ x → d.held ≡ Some x → Retires Fits l n d x lost_at_time
  retires x high has s st words owner r o at page = let t = loses s n x st d (Retired s.clock) at has (λ m e. cc) (λ low. absurd (omega arith)) r in (
    one_there s.owners x owner (Held n) page.1 (r.held n x st d at has),
    holding None,
    record { whole = t.whole; fixed = t.fixed; held = t.held; known = t.known },
    refl,
  )

  pub refuses : Refuses Fits l n d same_at_time
  refuses s st r o at = (d, observed_same s n st st d at r, refl)

pub sweeps : (l : Layout) (n : ℕ) (d : Mine) → ReleasesMany Fits l n d same_after
sweeps l n d = (
  refl,
  (λ e f k is next. next ∙ is),
  λ e k x time is s st words r o at page after. (
    e,
    observed_same (owned s x Released) n st st e at (owned_else s x (Retired time) Released page.1 (λ m e. cc) (λ m e. cc) (λ low. r.fixed x (Retired time) low page.1) r),
    refl,
  ),
)

pub same_words : (n w : ℕ) → 0 < n → AllSame (replicate n w)
same_words n w some_word k low = let size = length-replicate n w in get_or-replicate n k w 0 (omega arith) ∙ sym (get_or-replicate n 0 w 0 some_word)

pub first_low : (n : ℕ) → n < 2 → replicate 32 1 ≡ first_words n
first_low zero low = refl
first_low (suc zero) low = refl
first_low (suc (suc n)) low = absurd (omega arith)

pub first_high : (n : ℕ) → 2 ≤ n → replicate 32 0 ≡ first_words n
first_high zero high = absurd (omega arith)
first_high (suc zero) high = absurd (omega arith)
first_high (suc (suc n)) high = refl

first_same : (n : ℕ) → AllSame (first_words n)
first_same zero = same_words 32 1 (omega arith)
first_same (suc zero) = same_words 32 1 (omega arith)
first_same (suc (suc n)) = same_words 32 0 (omega arith)

first_open : (n : ℕ) → n < 2 → IsUsed (first_owner (first_words n))
first_open zero low = tt
first_open (suc zero) low = tt
first_open (suc (suc n)) low = absurd (omega arith)

not_held : (b : Bool) (n : ℕ) → (if b then Released else Open) ≢ Held n
not_held true n e = cc
not_held false n e = cc

unmap : {A B : Type 0} (f : A → B) (l : List A) (i : ℕ) (y : B) → get_elem? (map f l) i ≡ some y → (x : A) × (get_elem? l i ≡ some x) × (f x ≡ y)
unmap f [] i y e = absurd (some-ne-none y (sym e))
unmap f (x ∷ xs) zero y e = (x, refl, some-injective (f x) y e)
unmap f (x ∷ xs) (suc i) y e = unmap f xs i y e

of_all : {A : Type 0} (n : ℕ) (a : A) (k : ℕ) (b : A) → get_elem? (replicate n a) k ≡ some b → a ≡ b
of_all zero a k b e = absurd (some-ne-none b (sym e))
of_all (suc n) a zero b e = some-injective a b e
of_all (suc n) a (suc k) b e = of_all n a k b e

-- the rule at the start
pub starts : (cs : List (List ℕ)) (passes : ℕ) → ((k : ℕ) → k < length cs → get_elem? cs k ≡ some (first_words k)) → Fits (first_pages cs passes (holding None))
starts cs passes each = record {
  whole = λ x words e. subst AllSame (one_there cs x (first_words x) words (each x (at_below cs x words e)) e) (first_same x);
  fixed = λ x o low e. let t = unmap first_owner cs x o e in let is : first_words x ≡ t.0 = one_there cs x (first_words x) t.0 (each x (at_below cs x t.0 t.1)) t.1 in subst IsUsed (ap first_owner is ∙ t.2) (first_open x low);
  held = λ n x st d at is. let same : holding None ≡ d = ap (λ (z : Stage × Mine). z.1) (of_all passes (Idle, holding None) n (st, d) at) in let empty : None ≡ Some x = ap (λ (z : Mine). z.held) same ∙ is in cc;
  known = λ n x st d at is. let t = unmap first_owner cs x (Held n) is in absurd (not_held (is_blank t.0) n t.2);
}

-- one page more is listed
pub listed : (cs : List (List ℕ)) (n : ℕ) (words : List ℕ) → length cs ≡ n → words ≡ first_words n → ((k : ℕ) → k < n → get_elem? cs k ≡ some (first_words k)) → (k : ℕ) → k < n + 1 → get_elem? (cs ++ words ∷ []) k ≡ some (first_words k)
listed cs n words size is each k low = dite (ℕ_discrete k n)
    (λ e. ap (get_elem? (cs ++ words ∷ [])) e ∙ (at_last cs words n size ∙ ap (λ (z : List ℕ). some z) (is ∙ ap first_words (sym e))))
    (λ ne. at_longer cs (words ∷ []) k (first_words k) (each k (omega arith)))

-- the hands that `new` gives have done nothing
fresh : (t : TableId) (l : Layout) (passes : ℕ) (hands : List (Hand Mine)) (hand : Hand Mine) → IsDealt t l (holding None) passes hands → (n : ℕ) → get_elem? hands n ≡ some hand → IsFresh t l hand × (hand.number ≡ n)
fresh t l passes hands hand dealt n at = let e = dealt.each n hand at in let view = e.2 in (
  (
    (e.1, ap (λ (v : View Mine). v.layout) view),
    ap (λ (v : View Mine). v.stamp) view,
    ap (λ (v : View Mine). v.stock) view,
    ap (λ (v : View Mine). v.known) view,
  ),
  e.0,
)

all_at : (P : Hand Mine → Type 0) (hands : List (Hand Mine)) → ((n : ℕ) (hand : Hand Mine) → get_elem? hands n ≡ some hand → P hand) → All P hands
all_at P [] each = All-nil P
all_at P (h ∷ hs) each = All-cons P h hs (each 0 h refl) (all_at P hs (λ n hand at. each (suc n) hand at))

pub all_fresh : (t : TableId) (l : Layout) (passes : ℕ) (hands : List (Hand Mine)) → IsDealt t l (holding None) passes hands → All (IsFresh t l) hands
all_fresh t l passes hands dealt = all_at (IsFresh t l) hands (λ n hand at. (fresh t l passes hands hand dealt n at).0)

pub last_fresh : (t : TableId) (l : Layout) (hands rest more : List (Hand Mine)) (one two : Hand Mine) → hands ≡ rest ++ two ∷ [] → rest ≡ more ++ one ∷ [] → IsDealt t l (holding None) 2 hands → IsFresh t l two × (two.number ≡ 1)
last_fresh t l hands rest more one two is next dealt = let count = dealt.count in let a = ap length is in let b = length-append rest (two ∷ []) in let size : length rest ≡ 1 = omega arith in
    fresh t l 2 hands two dealt 1 (ap (λ (z : List (Hand Mine)). get_elem? z 1) is ∙ at_last rest two 1 size)

pub next_fresh : (t : TableId) (l : Layout) (hands rest more : List (Hand Mine)) (one two : Hand Mine) → hands ≡ rest ++ two ∷ [] → rest ≡ more ++ one ∷ [] → IsDealt t l (holding None) 2 hands → IsFresh t l one × (one.number ≡ 0)
next_fresh t l hands rest more one two is next dealt = let count = dealt.count in let a = ap length is in let b = length-append rest (two ∷ []) in let c = ap length next in let d = length-append more (one ∷ []) in let size : length more ≡ 0 = omega arith in
    fresh t l 2 hands one dealt 0 (ap (λ (z : List (Hand Mine)). get_elem? z 0) is ∙ at_longer rest (two ∷ []) 0 one (ap (λ (z : List (Hand Mine)). get_elem? z 0) next ∙ at_last more one 0 size))

-- hands that meet
pub meets : (l : Layout) (n : ℕ) (d : Mine) (m : ℕ) (e : Mine) → Meets Fits l n d m e same_apart
meets l n d m e s st r o at other apart = (
  d,
  observed_same s n st st d at r,
  (refl, λ x has also. let mine = r.held n x st d at has in let theirs = r.held m x Idle e other also in let both : Held n ≡ Held m = one_there s.owners x (Held n) (Held m) mine theirs in let same : n ≡ m = cc in apart (sym same)),
)

-- the pages at the end
pub whole_at_end : (l : Layout) (hands : List (Hand Mine)) (result : List (List ℕ)) → IsClosed Fits l hands result → (x : ℕ) (words : List ℕ) → get_elem? result x ≡ some words → AllSame words
whole_at_end l hands result c x words at = let orderly = c.orderly in let a = orderly.contents in let b = orderly.owners in let size = c.count in let low = at_below result x words at in let page = there c.pages.contents x (omega arith) in let owner = there c.pages.owners x (omega arith) in
    subst AllSame (one_there result x (left_of owner.0 page.0) words (c.words x page.0 owner.0 (page.1, owner.1)) at) (left_same owner.0 page.0 (c.kept.whole x page.0 page.1))
  where
    there : {A : Type 0} (xs : List A) (i : ℕ) → i < length xs → (a : A) × (get_elem? xs i ≡ some a)
    there [] i h = absurd (omega arith)
    there (y ∷ ys) zero h = (y, refl)
    there (y ∷ ys) (suc i) h = there ys i (omega arith)

    left_same : (owner : Owner) (words : List ℕ) → AllSame words → AllSame (left_of owner words)
    left_same Released words same = same_words 32 0 (omega arith)
    left_same Open words same = same
    left_same (Held n) words same = same
    left_same (Retired t) words same = same_words 32 0 (omega arith)

-- two hands are all hands of a store of two passes
pub both_there : (passes : ℕ) (hands : List (Hand Mine)) (one two : Hand Mine) → passes ≡ 2 → hands ≡ one ∷ two ∷ [] → one.number ≡ 0 → two.number ≡ 1 → HasEach passes hands
both_there passes hands one two count is first second zero low = (0, one, ap (λ (z : List (Hand Mine)). get_elem? z 0) is, first)
both_there passes hands one two count is first second (suc zero) low = (1, two, ap (λ (z : List (Hand Mine)). get_elem? z 1) is, second)
both_there passes hands one two count is first second (suc (suc n)) low = absurd (omega arith)

-- a hand keeps its number
pub same_number : (h h' : Hand Mine) → IsSameHand h.seat h'.seat → h'.number ≡ h.number
same_number h h' same = h'.own.0 ∙ (same.2 ∙ sym h.own.0)
