-- Waits of a world's processes, told by its lists.
use Rattle.std.proofs.Common.{ℕ, suc, ◌≡◌, ◌≢◌, ◌<◌, ◌+◌, ◌-◌, Bool, true, false, Option, Some, None, length, slice_get, arith, ap, sym, ◌∙◌, refl, subst, inl, inr}
use mathlib.Core.Logic.{∥∥₁_map}
use Rattle.std.proofs.Math.Logic.{∥∥₁_elim}
use Rattle.std.specs.Coded.{le_prop}
use Rattle.std.proofs.lemmas.Bool.{false≢true}
use Rattle.bl_page.specs.Machine.{Name}
use Rattle.bl_page.specs.Machine.Owner.{Released, Held}
use Rattle.bl_tree_worlds.specs.Worlds.{HoldsPage}
use Rattle.bl_proc_steps.specs.declared.acts.Action.TheVariants as act
use Rattle.bl_answers.specs.declared.answers.Answer.{Answer}
use Rattle.bl_proc.specs.declared.kinds.Proc.{Proc}
use Rattle.bl_proc.specs.Processes.{next_of, answer_of}
use Rattle.bl_proc_invariant.specs.Knowing.{know_of, know}
use Rattle.bl_proc_progress.specs.Waits.{Waits, EndsAt as ModelEndsAt}
use Rattle.bl_proc_progress.specs.Waits.EndsAt.{Here as ModelHere, Behind as ModelBehind}
use Rattle.bl_proc_progress.proofs.Alone.{answered_holds}
use Rattle.bl_proc_progress.proofs.Chains.{ends, some_goer}
use Rattle.bl_world.specs.declared.owners.Owner.{Owner}
use Rattle.bl_world.specs.declared.owners.Owner.TheVariants as own
use Rattle.bl_world.specs.Views.{View, name_of, owner_of}
use Rattle.bl_world.specs.Worlds.{IsWorld}
use Rattle.bl_world.specs.Waits.{IsGoing, WaitsFor, MayGoOn, WaitEnds, NoneHeld, is_held}
use Rattle.bl_world.specs.Waits.EndsAt.{Here, Behind}
use Rattle.bl_world.proofs.Arms.{stands, none_left}
use Rattle.bl_world.proofs.ReclaimArms.{named}
use Rattle.bl_world.proofs.Keeping.{Has}

held_is : (o : Owner) (n : ℕ) → owner_of o ≡ Held (name_of (suc n)) → o ≡ own.Held (suc n)
held_is own.Released n e = absurd (cc e)
held_is own.Open n e = absurd (cc e)
held_is (own.Held number) n e = (let names : name_of number ≡ name_of (suc n) = cc in ap own.Held (ap (λ (z : Name). z.pass) names))
held_is (own.Retired place) n e = absurd (cc e)

one_more : (n : ℕ) → suc n ≡ n + 1
one_more n = omega arith

same_place : (n m : ℕ) → suc n ≡ m + 1 → m ≡ n
same_place n m e = omega (arith, e)

module _ (v : View) (h : Has v) where
  -- who holds a page was started
  holder_started : (x : ℕ) (q : Name) → h.world.now.owner x ≡ Held q → (n : ℕ) × (n < length v.processes) × (q ≡ name_of (suc n))
  holder_started x q held = elim (named (length v.processes) q) [
    | inl k ↦ k
    | inr far ↦ absurd (subst (λ hs. HoldsPage hs x) (h.others q far).1.holds (h.good.owned.held x q held))
  ]

  page_within : (x : ℕ) (q : Name) → h.world.now.owner x ≡ Held q → x < length v.owners
  page_within x q held = (let small = h.good.owned.small x (λ f. (let o : Released ≡ Held q = sym (h.good.owned.free x f) ∙ held in cc)) in omega (arith, small, h.size, h.paired))

  -- the holder that the lists show
  shown_holder : (x n : ℕ) → h.world.now.owner x ≡ Held (name_of (suc n)) → slice_get v.owners x ≡ Some (own.Held (suc n))
  shown_holder x n held = (let o = stands v.owners x (page_within x (name_of (suc n)) held) in o.1 ∙ ap Some (held_is o.0 n (sym (h.owner x o.0 o.1) ∙ held)))

  -- who holds a page has not answered
  holder_goes : (x n : ℕ) (p : Proc) → h.world.now.owner x ≡ Held (name_of (suc n)) → slice_get v.processes n ≡ Some p → answer_of p ≡ None
  holder_goes x n p held stood = by_answer (answer_of p) refl
    where
      by_answer : (a : Option Answer) → answer_of p ≡ a → answer_of p ≡ None
      by_answer None e = e
      by_answer (Some a) e =
          let q = name_of (suc n) in
          let r = h.world.proc q in
          let is : know r ≡ know_of r.got r.child r.time p = ap (know_of r.got r.child r.time) (h.runs n p stood) in
          let holds : HoldsPage (know_of r.got r.child r.time p).holds x = subst (λ k. HoldsPage k.holds x) is (h.good.owned.held x q held) in
          absurd (subst (λ hs. HoldsPage hs x) (answered_holds r.got r.child r.time p a e) holds)

  -- who waits by the lists waits in the world
  waits_there : (n other : ℕ) → WaitsFor v (suc n) other → Waits h.world (name_of (suc n))
  waits_there n other s = record {
    page = s.page;
    by = name_of other;
    latches = ap next_of (h.runs n s.process (ap (slice_get v.processes) (sym (same_place n s.place s.counts)) ∙ s.stood)) ∙ s.latches;
    held = h.owner s.page (own.Held other) s.held;
  }

  goes_on : (n : ℕ) (p : Proc) → slice_get v.processes n ≡ Some p → answer_of p ≡ None → (Waits h.world (name_of (suc n)) → ⊥) → MayGoOn v (suc n)
  goes_on n p stood going free = record { runs = record { place = n; counts = one_more n; process = p; stood = stood; going = going }; free = λ other s. free (waits_there n other s) }

  shown : (q last : Name) → ModelEndsAt h.world q last → (n : ℕ) (p : Proc) → q ≡ name_of (suc n) → slice_get v.processes n ≡ Some p → answer_of p ≡ None → WaitEnds v (suc n)
  shown q last (ModelHere free) n p is stood going = record { last = suc n; ends = Here (goes_on n p stood going (subst (λ z. ¬ Waits h.world z) is free)) }
  shown q last (ModelBehind {last = l} s on) n p is stood going =
      let k = holder_started s.page s.by s.held in
      let there = stands v.processes k.0 k.1 in
      let held : h.world.now.owner s.page ≡ Held (name_of (suc k.0)) = s.held ∙ ap Held k.2 in
      let rest = shown s.by l on k.0 there.0 k.2 there.1 (holder_goes s.page k.0 there.0 held there.1) in
      record {
        last = rest.last;
        ends = Behind (suc k.0) (record {
          place = n;
          counts = one_more n;
          process = p;
          stood = stood;
          page = s.page;
          latches = ap next_of (sym (h.runs n p stood)) ∙ (ap (λ z. next_of (h.world.proc z).state) (sym is) ∙ s.latches);
          held = shown_holder s.page k.0 held;
        }) rest.ends;
      }

  wait_ends : (number : ℕ) → IsGoing v number → WaitEnds v number
  wait_ends number g =
      let r = ends h.world h.good (name_of (suc g.place)) in
      subst (WaitEnds v) (one_more g.place ∙ sym g.counts) (shown (name_of (suc g.place)) r.last r.ends g.place g.process refl g.stood g.going)

  -- who holds a page has a place among the processes, and goes on
  holder_place : (x number : ℕ) → slice_get v.owners x ≡ Some (own.Held number) → (n : ℕ) × (n < length v.processes) × (number ≡ suc n)
  holder_place x number e =
      let k = holder_started x (name_of number) (h.owner x (own.Held number) e) in
      (k.0, k.1, ap (λ (z : Name). z.pass) k.2)

  -- not all who hold pages wait
  some_ready : (x number : ℕ) → slice_get v.owners x ≡ Some (own.Held number) → ((y other : ℕ) → slice_get v.owners y ≡ Some (own.Held other) → (one : ℕ) × WaitsFor v other one) → ⊥
  some_ready x number e all =
      let g = some_goer h.world (name_of number) x h.good (h.owner x (own.Held number) e) in
      let k = holder_started g.page g.by g.held in
      let held : h.world.now.owner g.page ≡ Held (name_of (suc k.0)) = g.held ∙ ap Held k.2 in
      let s = all g.page (suc k.0) (shown_holder g.page k.0 held) in
      g.free (subst (Waits h.world) (sym k.2) (waits_there k.0 s.0 s.1))

pub all_wait_ends : (v : View) → IsWorld v → (number : ℕ) → IsGoing v number → ∥ WaitEnds v number ∥₁
all_wait_ends v h number g = ∥∥₁_map h (λ h. wait_ends v h number g)

-- Whether a process waits, by what it is to do next and by who has the page.

holder_of : (o : Owner) → is_held o ≡ true → (n : ℕ) × (o ≡ own.Held n)
holder_of own.Released e = absurd (cc e)
holder_of own.Open e = absurd (cc e)
holder_of (own.Held n) e = (n, refl)
holder_of (own.Retired place) e = absurd (cc e)

module _ (v : View) (index : ℕ) (p : Proc) (stood : slice_get v.processes index ≡ Some p) where
  -- who is meant
  the_one : (other : ℕ) (s : WaitsFor v (index + 1) other) → s.process ≡ p
  the_one other s =
      let place : s.place ≡ index = (let e = s.counts in omega (arith, e)) in
      let there : slice_get v.processes index ≡ Some s.process = ap (slice_get v.processes) (sym place) ∙ s.stood in
      (let same : Some s.process ≡ Some p = sym there ∙ stood in cc)

  pub waits_where : (x : ℕ) (o : Owner) (b : Bool) → next_of p ≡ act.Latch x → slice_get v.owners x ≡ Some o → b ≡ is_held o → (b ≡ true → (other : ℕ) × WaitsFor v (index + 1) other) × (((other : ℕ) × WaitsFor v (index + 1) other) → b ≡ true)
  waits_where x o b next owns is = (
    λ e. (let n = holder_of o (sym is ∙ e) in (n.0, record { place = index; counts = refl; process = p; stood = stood; page = x; latches = next; held = owns ∙ ap Some n.1 })),
    λ s.
        let latch : act.Latch s.1.page ≡ act.Latch x = sym s.1.latches ∙ (ap next_of (the_one s.0 s.1) ∙ next) in
        let page : s.1.page ≡ x = cc in
        let held : Some o ≡ Some (own.Held s.0) = sym owns ∙ (ap (slice_get v.owners) (sym page) ∙ s.1.held) in
        let owner : o ≡ own.Held s.0 = cc in
        is ∙ ap is_held owner,
  )

  pub waits_nowhere : ((x : ℕ) → next_of p ≢ act.Latch x) → ((other : ℕ) × WaitsFor v (index + 1) other) → ⊥
  waits_nowhere none s = none s.1.page (ap next_of (sym (the_one s.0 s.1)) ∙ s.1.latches)

-- A world whose lists these are

module _ (v : View) (h : IsWorld v) where
  pub holder_first : (x number : ℕ) → slice_get v.owners x ≡ Some (own.Held number) → 0 < number
  holder_first x number e = ∥∥₁_elim h le_prop (λ h. (let k = holder_place v h x number e in let n = k.2 in omega (arith, n)))

  pub holder_within : (x number : ℕ) → slice_get v.owners x ≡ Some (own.Held number) → number - 1 < length v.processes
  holder_within x number e = ∥∥₁_elim h le_prop (λ h. (let k = holder_place v h x number e in let l = k.1 in let n = k.2 in omega (arith, l, n)))

  pub holder_going : (x number : ℕ) (p : Proc) → slice_get v.owners x ≡ Some (own.Held number) → slice_get v.processes (number - 1) ≡ Some p → answer_of p ≡ None
  holder_going x number p e stood = none_left (answer_of p) (λ a i. ∥∥₁_elim h (λ y z. absurd y) (λ h.
      (let k = holder_place v h x number e in
      let n = k.2 in
      let place : number - 1 ≡ k.0 = omega (arith, n) in
      let there : slice_get v.processes k.0 ≡ Some p = subst (λ j. slice_get v.processes j ≡ Some p) place stood in
      let held = h.owner x (own.Held number) e ∙ ap (λ j. Held (name_of j)) n in
      let none = holder_goes v h x k.0 p held there in
      let f : None ≡ Some a = sym none ∙ i in cc)))

  -- a holder of which it was found that it does not wait
  pub may_go : (x number : ℕ) (b : Bool) → slice_get v.owners x ≡ Some (own.Held number) → (((other : ℕ) × WaitsFor v (number - 1 + 1) other) → b ≡ true) → b ≡ false → MayGoOn v number
  may_go x number b e found is =
      let p = stands v.processes (number - 1) (holder_within x number e) in
      let first = holder_first x number e in
      let counts : number ≡ number - 1 + 1 = omega (arith, first) in
      record {
        runs = record { place = number - 1; counts = counts; process = p.0; stood = p.1; going = holder_going x number p.0 e p.1 };
        free = λ other s. false≢true (sym is ∙ found (other, subst (λ j. WaitsFor v j other) counts s));
      }

  -- and one of which it was found that it waits
  pub does_wait : (x number : ℕ) → slice_get v.owners x ≡ Some (own.Held number) → (other : ℕ) × WaitsFor v (number - 1 + 1) other → (other : ℕ) × WaitsFor v number other
  does_wait x number e s = (let first = holder_first x number e in let counts : number - 1 + 1 ≡ number = omega (arith, first) in (s.0, subst (λ j. WaitsFor v j s.0) counts s.1))

  -- if all holders wait there is none
  pub none_held : ((y other : ℕ) → slice_get v.owners y ≡ Some (own.Held other) → (one : ℕ) × WaitsFor v other one) → NoneHeld v
  none_held all number s = ∥∥₁_elim h (λ y z. absurd y) (λ h. some_ready v h s.0 number s.1 all)

-- where no page is held, whoever has not answered may go on
pub may_go_free : (v : View) (number : ℕ) → NoneHeld v → IsGoing v number → MayGoOn v number
may_go_free v number none going = record { runs = going; free = λ other s. none other (s.page, s.held) }

pub is_going_here : (v : View) (index : ℕ) (p : Proc) → slice_get v.processes index ≡ Some p → answer_of p ≡ None → IsGoing v (index + 1)
is_going_here v index p stood going = record { place = index; counts = refl; process = p; stood = stood; going = going }

pub not_going : (v : View) (index : ℕ) (p : Proc) (a : Answer) → slice_get v.processes index ≡ Some p → answer_of p ≡ Some a → IsGoing v (index + 1) → ⊥
not_going v index p a stood answered g =
    let place : g.place ≡ index = (let e = g.counts in omega (arith, e)) in
    let there : slice_get v.processes index ≡ Some g.process = ap (slice_get v.processes) (sym place) ∙ g.stood in
    let same : Some g.process ≡ Some p = sym there ∙ stood in
    let is : g.process ≡ p = cc in
    let f : None ≡ Some a = sym g.going ∙ (ap answer_of is ∙ answered) in cc
