-- Each turn of a process that may go on brings its world nearer to rest.
use Rattle.std.proofs.Common.{ℕ, suc, ◌≡◌, ◌≢◌, ◌⊎◌, ◌+◌, ◌*◌, ◌<◌, ◌≤◌, Some, None, List, [], ◌∷◌, length, slice_get, arith, ap, sym, ◌∙◌, refl, subst, inl, inr}
use Rattle.std.proofs.lemmas.Bool.{cases_lt}
use Rattle.std.proofs.lemmas.Option.{slice_get_within}
use Rattle.std.proofs.Math.Path.{fun_ext}
use mathlib.Core.Logic.{∥∥₁_map}
use Rattle.std.proofs.Math.Logic.{∥∥₁_elim}
use Rattle.std.specs.Coded.{le_prop}
use Rattle.bl_page.specs.declared.page.Page.{Page}
use Rattle.bl_page.specs.Machine.{Name}
use Rattle.bl_tree.specs.Trees.Status.{Free, Gone}
use Rattle.bl_proc_steps.specs.declared.acts.Action.{Action}
use Rattle.bl_proc_steps.specs.declared.acts.Action.TheVariants as act
use Rattle.bl_proc_steps.specs.declared.acts.Seen.{Seen}
use Rattle.bl_proc_steps.specs.declared.acts.Seen.TheVariants as seen
use Rattle.bl_proc.specs.declared.kinds.Proc.{Proc}
use Rattle.bl_proc.specs.Processes.{next_of, answer_of, Takes}
use Rattle.bl_proc_invariant.specs.Turns.{IsObserved}
use Rattle.bl_proc_invariant.proofs.Near.{IsNear, near}
use Rattle.bl_proc_ends.specs.Left.{IsMeant}
use Rattle.bl_proc_ends.specs.Budget.{room_above, puts_of}
use Rattle.bl_proc_rest.specs.Rests.{patient, IsCounted, SeesStarted, most_left, Rests}
use Rattle.bl_proc_rest.proofs.Resting.{rests_few, rests_falls}
use Rattle.bl_proc_rest.proofs.Levels.{put_falls, puts_kept}
use Rattle.bl_world.specs.declared.turns.Act.{Act}
use Rattle.bl_world.specs.declared.turns.Turn.{Turn}
use Rattle.bl_world.specs.declared.turns.Turn.TheVariants as turn
use Rattle.bl_world.specs.declared.owners.Owner.{Owner}
use Rattle.bl_world.specs.declared.owners.Owner.TheVariants as own
use Rattle.bl_world.specs.Views.{View, name_of, number_in}
use Rattle.bl_world.specs.Turns.{Puts, Tells, Carries, TurnsAt, TurnsTo}
use Rattle.bl_world.specs.Choices.{IsToTake, Chooses}
use Rattle.bl_world.specs.WorldSteps.{Way}
use Rattle.bl_world.specs.Worlds.{IsWorld}
use Rattle.bl_world.specs.Waits.{MayGoOn}
use Rattle.bl_world.specs.Settles.{Settles, turns_to_rest}
use Rattle.bl_world.specs.Settles.Settles.{Rests as RestsThere, Goes}
use Rattle.bl_world.proofs.Arms.{set_here, set_other, stands, open_there}
use Rattle.bl_world.proofs.Counted.{AllCounted, counted_turn, all_counted}
use Rattle.bl_world.proofs.Keeping.{Has, GrowsTo, turn_grows, runs_keep}
use Rattle.bl_world.proofs.Looks.{IsOfTree, reclaims}
use Rattle.bl_world.proofs.Near.{within}
use Rattle.bl_world.proofs.Needing.{take_needs}
use Rattle.bl_world.proofs.Runs.{turn_size, runs_count}
use Rattle.bl_world.proofs.Weights.{Each2, total, puts_in, set_each, all_each, set_puts, puts_most, weight, fewer_turns, fewer_puts, weight_less}

-- one more than all turns between two puts
abbrev unit_of : View → ℕ
unit_of v = length v.processes * most_left (length v.pages) (length v.processes) + 1

-- What is left to do in a world: puts and levels to come, and the turns of each process.
pub record Weighs (v : View) (m : ℕ) : Type 0 where
  pub has : Has v
  pub counted : AllCounted v
  pub lefts : List ℕ
  pub rests : Each2 (Rests has.world.size has.world.now.contents (length v.processes)) v.processes lefts
  pub is : m ≡ weight (unit_of v) (puts_in v.processes + room_above has.world.now.contents) (total lefts)

-- a turn leaves less
abbrev Lighter : View → ℕ → Type 0
Lighter v m = (m' : ℕ) × Weighs v m' × (m' < m)

same_proc : (a b : Proc) → Some a ≡ Some b → a ≡ b
same_proc a b e = cc

module _ (v v' : View) (h : Has v) (g : GrowsTo h v') (pages : v'.pages ≡ v.pages) where
  size_same : g.0.world.size ≡ h.world.size
  size_same = g.0.size ∙ (ap length pages ∙ sym h.size)

  -- without a put no page has changed
  contents_same : g.0.world.now.contents ≡ h.world.now.contents
  contents_same = fun_ext (λ x. elim (cases_lt x (length v.pages)) [
    | inl shown ↦ (let c = stands v.pages x shown in g.0.contents x c.0 (ap (λ z. slice_get z x) pages ∙ c.1) ∙ sym (h.contents x c.0 c.1))
    | inr far ↦ (let size = h.size in g.2 x (omega (arith, far, size)))
  ])

-- all processes of a world have few turns left
all_few : (v : View) (h : Has v) → AllCounted v → (ns : List ℕ) × Each2 (Rests h.world.size h.world.now.contents (length v.processes)) v.processes ns × (total ns < unit_of v)
all_few v h counted =
    let all = all_each (Rests h.world.size h.world.now.contents (length v.processes)) (most_left (length v.pages) (length v.processes)) v.processes (λ i p is.
    (let state : (h.world.proc (name_of (suc i))).state ≡ p = h.runs i p is in
    let n = rests_few h.world (name_of (suc i)) (length v.processes) h.good (subst (IsCounted (length v.processes)) (sym state) (counted i p is)) in
    let few = n.2 in
    let size = h.size in
    (n.0, subst (λ z. Rests h.world.size h.world.now.contents (length v.processes) z n.0) state n.1, omega (arith, few, size)))) in
    let less = all.2 in
    (all.0, all.1, omega (arith, less))

module _ (v v' : View) (t : Turn) (m : ℕ) (w : Weighs v m) (r : TurnsTo v t v') where
  abbrev q : Name
  q = name_of (suc r.place)

  g : GrowsTo w.has v'
  g = turn_grows v v' t w.has r

  state : (w.has.world.proc (name_of (suc r.place))).state ≡ r.process
  state = w.has.runs r.place r.process r.stood

  many : length v'.processes ≡ length v.processes
  many = runs_count v v' (t ∷ []) (v', r, refl)

  unit_same : unit_of v' ≡ unit_of v
  unit_same = λ i. many i * most_left (turn_size v v' t r i) (many i) + 1

  counted : AllCounted v'
  counted = counted_turn v v' t w.counted r

  -- what was left to put
  abbrev puts_before : ℕ
  puts_before = puts_in v.processes + room_above w.has.world.now.contents

  abbrev puts_after : ℕ
  puts_after = puts_in v'.processes + room_above g.0.world.now.contents

  lighter : (lefts : List ℕ) → Each2 (Rests g.0.world.size g.0.world.now.contents (length v'.processes)) v'.processes lefts → weight (unit_of v) puts_after (total lefts) < weight (unit_of v) puts_before (total w.lefts) → Lighter v' m
  lighter lefts each less = (
    weight (unit_of v) puts_after (total lefts),
    record { has = g.0; counted = counted; lefts = lefts; rests = each; is = ap (λ z. weight z puts_after (total lefts)) (sym unit_same) },
    subst (λ z. weight (unit_of v) puts_after (total lefts) < z) (sym w.is) less,
  )

  module _ (a : Act) (what : Seen) (tells : Tells v r.place r.process a what v') where
    stands_new : slice_get v'.processes r.place ≡ Some tells.new
    stands_new = ap (λ z. slice_get z r.place) tells.processes ∙ set_here v.processes r.place tells.new (slice_get_within v.processes r.place r.process r.stood)

    new_state : (g.0.world.proc q).state ≡ tells.new
    new_state = g.0.runs r.place tells.new stands_new

    takes : Takes (w.has.world.proc q).state what (g.0.world.proc q).state
    takes = subst (λ (z : Proc × Proc). Takes z.0 what z.1) (λ i. (sym state i, sym new_state i)) tells.takes

    puts_set : puts_in v'.processes + puts_of r.process ≡ puts_in v.processes + puts_of tells.new
    puts_set = ap (λ z. puts_in z + puts_of r.process) tells.processes ∙ set_puts v.processes r.place r.process tells.new r.stood

    -- a turn by which no page is put
    quiet : (action : Action) → next_of r.process ≡ action → v'.pages ≡ v.pages → ((x : ℕ) (c : Page) → action ≢ act.Put x c) → IsObserved w.has.world.now w.has.world.size action what → SeesStarted (length v.processes) what
        → ((what ≢ seen.Missed) ⊎ ((what ≡ seen.Missed) × (IsMeant (patient (w.has.world.proc q).state) → (x : ℕ) × (next_of (w.has.world.proc q).state ≡ act.Latch x) × (w.has.world.status x ≡ Gone)))) → Lighter v' m
    quiet action next pages not_put observed sees missed =
        let world = w.has.world in
        let after = g.0.world in
        let size = size_same v v' w.has g pages in
        let same = contents_same v v' w.has g pages in
        let acts : next_of (world.proc q).state ≡ action = ap next_of state ∙ next in
        let here : IsObserved world.now world.size (next_of (world.proc q).state) what = subst (λ z. IsObserved world.now world.size z what) (sym acts) observed in
        let none : (x : ℕ) (c : Page) → what ≡ seen.Done → next_of (world.proc q).state ≢ act.Put x c = λ x c d e. not_put x c (sym acts ∙ e) in
        let f = set_each (Rests world.size world.now.contents (length v.processes)) v.processes w.lefts r.place r.process tells.new w.rests r.stood (λ k left.
        (let o = rests_falls world after q what (length v.processes) k w.has.good g.0.good w.has.logs size same takes here none sees missed (subst (λ z. Rests world.size world.now.contents (length v.processes) z k) (sym state) left) in
        (o.0, subst (λ z. Rests world.size world.now.contents (length v.processes) z o.0) new_state o.1, o.2))) in
        let each : Each2 (Rests after.size after.now.contents (length v'.processes)) v'.processes f.0 =
        subst (λ (z : ℕ × (ℕ → Page) × ℕ × List Proc). Each2 (Rests z.0 z.1 z.2) z.3 f.0) (λ i. (sym size i, sym same i, sym many i, sym tells.processes i)) f.1 in
        let kept = puts_kept r.process tells.new what tells.takes (λ x c d e. not_put x c (sym next ∙ e)) in
        let set = puts_set in
        let room : room_above after.now.contents ≡ room_above world.now.contents = ap room_above same in
        lighter f.0 each (fewer_turns (unit_of v) puts_before puts_after (total w.lefts) (total f.0) (omega (arith, kept, set, room)) f.2)

  -- a turn that puts a page
  put : (x : ℕ) (c : Page) (a : Act) → next_of r.process ≡ act.Put x c → Puts v x c v' → Tells v r.place r.process a seen.Done v' → Lighter v' m
  put x c a next puts tells =
      let world = w.has.world in
      let after = g.0.world in
      let small = within v.pages v.owners v.processes v.events r.place r.process (act.Put x c) r.stood next w.has in
      let at : after.now.contents x ≡ c = g.0.contents x c (ap (λ z. slice_get z x) puts.0 ∙ set_here v.pages x c small) in
      let first = stands v.pages 0 (omega (arith, small)) in
      let rest : x ≢ 0 → after.now.contents 0 ≡ world.now.contents 0 = λ ne. g.0.contents 0 first.0 (ap (λ z. slice_get z 0) puts.0 ∙ (set_other v.pages x 0 c (λ e. ne (sym e)) ∙ first.1)) ∙ sym (w.has.contents 0 first.0 first.1) in
      let falls = put_falls world after q x c w.has.good (ap next_of state ∙ next) (takes a seen.Done tells) at rest in
      let falls_too : puts_of tells.new + room_above after.now.contents < puts_of r.process + room_above world.now.contents = subst (λ (z : Proc × Proc). puts_of z.1 + room_above after.now.contents < puts_of z.0 + room_above world.now.contents) (λ i. (state i, new_state a seen.Done tells i)) falls in
      let set = puts_set a seen.Done tells in
      let few = all_few v' g.0 counted in
      lighter few.0 few.1 (fewer_puts (unit_of v) puts_before puts_after (total w.lefts) (total few.0) (omega (arith, falls_too, set)) (subst (λ z. total few.0 < z) unit_same few.2))

  module _ (number : ℕ) (go : MayGoOn v number) (counts : number ≡ r.place + 1) where
    -- who may go on misses only the latch of a page that is dead
    missed_dead : (x : ℕ) → next_of r.process ≡ act.Latch x → slice_get v.owners x ≢ Some own.Open → w.has.world.status x ≡ Gone
    missed_dead x next shut = by_owner o.0 o.1
      where
        small : x < length v.pages
        small = within v.pages v.owners v.processes v.events r.place r.process (act.Latch x) r.stood next w.has

        o : (it : Owner) × (slice_get v.owners x ≡ Some it)
        o = stands v.owners x (let paired = w.has.paired in let s = small in omega (arith, s, paired))

        not_free : w.has.world.status x ≢ Free
        not_free = subst (IsNear w.has.world q) (ap next_of state ∙ next) (near w.has.world q w.has.good)

        by_owner : (it : Owner) → slice_get v.owners x ≡ Some it → w.has.world.status x ≡ Gone
        by_owner own.Released e = absurd (not_free (w.has.good.owned.released x (w.has.owner x own.Released e)))
        by_owner own.Open e = absurd (shut e)
        by_owner (own.Held k) e = absurd (go.free k (record { place = r.place; counts = counts; process = r.process; stood = r.stood; page = x; latches = next; held = e }))
        by_owner (own.Retired k) e = (w.has.good.owned.retired x k (w.has.owner x (own.Retired k) e)).0

    -- only what releases a page misses that
    not_meant : (x : ℕ) → next_of r.process ≡ act.Release x → IsMeant (patient (w.has.world.proc q).state) → ⊥
    not_meant x next meant =
        let it = reclaims r.process (λ tree. (let f : IsOfTree (act.Release x) = subst IsOfTree next tree in f)) in
        subst (λ z. IsMeant (patient z)) (state ∙ it.1) meant

    carries : (action : Action) → next_of r.process ≡ action → Carries v r.place r.process action v' → Lighter v' m
    carries act.Begin next c = quiet _ _ c.1 act.Begin next c.0.0 (λ x d e. cc) tt tt (inl (λ e. cc))
    carries act.End next c = quiet _ _ c.1 act.End next c.0.0 (λ x d e. cc) tt tt (inl (λ e. cc))
    carries (act.Get x) next c = quiet _ _ c.3 (act.Get x) next c.2.0 (λ y d e. cc) (sym (w.has.contents x c.0 c.1)) tt (inl (λ e. cc))
    carries (act.Put x d) next c = put x d _ next c.0 c.1
    carries (act.Latch x) next c = elim c [
      | inl l ↦ quiet _ _ l.2 (act.Latch x) next l.1.0 (λ y d e. cc) (w.has.owner x own.Open l.0) tt (inl (λ e. cc))
      | inr k ↦ quiet _ _ k.2 (act.Latch x) next k.1.0 (λ y d e. cc) tt tt (inr (refl, λ meant. (x, ap next_of state ∙ next, missed_dead x next k.0)))
    ]
    carries (act.Open x) next c = quiet _ _ c.1 (act.Open x) next c.0.0 (λ y d e. cc) tt tt (inl (λ e. cc))
    carries act.Take next c = absurd c
    carries (act.Retire x) next c = quiet _ _ c.1 (act.Retire x) next c.0.0 (λ y d e. cc) tt tt (inl (λ e. cc))
    carries (act.Look k) next c = quiet _ _ c.7 (act.Look k) next c.6.0 (λ y d e. cc) tt tt (inl (λ e. cc))
    carries (act.See x) next c = quiet _ _ c.3 (act.See x) next c.2.0 (λ y d e. cc) tt refl (inl (λ e. cc))
    carries (act.Probe x) next c = quiet _ _ c.1 (act.Probe x) next c.0.0 (λ y d e. cc) (λ e. w.has.owner x own.Open (open_there (slice_get v.owners x) e)) tt (inl (λ e. cc))
    carries (act.Release x) next c = elim c [
      | inl l ↦ quiet _ _ l.2 (act.Release x) next l.1.0 (λ y d e. cc) tt tt (inl (λ e. cc))
      | inr k ↦ quiet _ _ k.2 (act.Release x) next k.1.0 (λ y d e. cc) tt tt (inr (refl, λ meant. absurd (not_meant x next meant)))
    ]

    -- it has not answered
    going : answer_of r.process ≡ None
    going =
        let place : go.runs.place ≡ r.place = (let one = go.runs.counts in omega (arith, one, counts)) in
        let there : slice_get v.processes r.place ≡ Some go.runs.process = ap (slice_get v.processes) (sym place) ∙ go.runs.stood in
        ap answer_of (same_proc r.process go.runs.process (sym r.stood ∙ there)) ∙ go.runs.going

    to_take : IsToTake v number → next_of r.process ≡ act.Take
    to_take k =
        let place : k.place ≡ r.place = (let one = k.counts in omega (arith, one, counts)) in
        let there : slice_get v.processes r.place ≡ Some k.process = ap (slice_get v.processes) (sym place) ∙ k.stood in
        ap next_of (same_proc r.process k.process (sym r.stood ∙ there)) ∙ k.may.1

    by_turn : (turn : Turn) → Chooses v number None turn → TurnsAt v r.place r.process turn v' → Lighter v' m
    by_turn (turn.Step k) chosen does = elim does [
      | inl d ↦ carries (next_of r.process) refl d.1
      | inr d ↦ absurd (d.0 (going, λ e. chosen.1 (record { place = r.place; counts = counts; process = r.process; stood = r.stood; may = (going, e) })))
    ]
    by_turn (turn.Take k x) chosen does = elim does [
      | inl d ↦ (let free = w.has.owner x own.Released d.1.1 in let small = slice_get_within v.owners x own.Released d.1.1 in let paired = w.has.paired in let size = w.has.size in quiet _ _ d.3 act.Take d.0.1 d.2.0 (λ y c e. cc) (free, omega (arith, small, paired, size)) tt (inl (λ e. cc)))
      | inr d ↦ absurd (d.0 ((going, to_take chosen.1), chosen.2.0))
    ]
    by_turn (turn.Refuse k) chosen does = elim does [
      | inl d ↦ quiet _ _ d.2 act.Take (to_take chosen.1) d.1.0 (λ y c e. cc) tt tt (inl (λ e. cc))
      | inr d ↦ absurd (d.0 (going, take_needs r.process (to_take chosen.1)))
    ]

number_chosen : (v : View) (number : ℕ) (t : Turn) → Chooses v number None t → number_in t ≡ number
number_chosen v number (turn.Step k) c = c.0
number_chosen v number (turn.Take k x) c = c.0
number_chosen v number (turn.Refuse k) c = c.0

nears_rest : (v v' : View) (t : Turn) (number m : ℕ) → Weighs v m → MayGoOn v number → Chooses v number None t → TurnsTo v t v' → Lighter v' m
nears_rest v v' t number m w go chosen r = by_turn v v' t m w r number go (sym (number_chosen v number t chosen) ∙ r.number) t chosen r.does

weighs_first : (v : View) (h : Has v) → Way v → (m : ℕ) × Weighs v m × (m < turns_to_rest (length v.pages) (length v.processes))
weighs_first v h way =
    let few = all_few v h (all_counted v way) in
    let puts = puts_in v.processes + room_above h.world.now.contents in
    let most = puts_most v.processes in
    let less = weight_less (unit_of v) puts (26 * length v.processes + 24) (total few.0) (omega (arith, most)) few.2 in
    let one : suc (26 * length v.processes + 24) ≡ 26 * length v.processes + 25 = omega arith in (
      weight (unit_of v) puts (total few.0),
      record { has = h; counted = all_counted v way; lefts = few.0; rests = few.1; is = refl },
      subst (λ z. weight (unit_of v) puts (total few.0) < z * unit_of v) one less,
    )

-- After so many turns so much is left at most, that with them it is below the bound.
abbrev pub Nears : View → ℕ → ℕ → Type 0
Nears v done bound = ∥ ((m : ℕ) × Weighs v m × (m + done < bound)) ∥₁

pub nears_first : (v : View) → IsWorld v → ∥ Way v ∥₁ → Nears v 0 (turns_to_rest (length v.pages) (length v.processes))
nears_first v h way = ∥∥₁_elim h squash₁ (λ h. ∥∥₁_map way (λ way. (let m = weighs_first v h way in let less = m.2 in (m.0, m.1, omega (arith, less)))))

pub nears_on : (v v' : View) (t : Turn) (number done bound : ℕ) → Nears v done bound → MayGoOn v number → Chooses v number None t → TurnsTo v t v' → Nears v' (suc done) bound
nears_on v v' t number done bound near go chosen r = ∥∥₁_map near (λ m. (let n = nears_rest v v' t number m.0 m.1 go chosen r in let less = n.2 in let below = m.2 in (n.0, n.1, omega (arith, less, below))))

pub nears_end : (v : View) (done bound : ℕ) → Nears v done bound → bound ≤ done → ⊥
nears_end v done bound near past = ∥∥₁_elim near (λ a b. absurd a) (λ m. (let below = m.2 in omega (arith, below, past)))

-- However the turns are given to those that may go on, there are few.
always_near : (v v' : View) (count : ℕ) → IsWorld v → ∥ Way v ∥₁ → Settles v count v' → IsWorld v' × Nears v' count (turns_to_rest (length v.pages) (length v.processes))
always_near v v' count h way RestsThere = (h, nears_first v h way)
always_near v v' count h way (Goes {count = before} {mid = mid} number t s go chosen to) =
    let r = always_near v mid before h way s in
    (runs_keep mid v' (t ∷ []) r.0 (v', to, refl), nears_on mid v' t number before (turns_to_rest (length v.pages) (length v.processes)) r.1 go chosen to)

pub always_few : (v v' : View) (count : ℕ) → IsWorld v → ∥ Way v ∥₁ → Settles v count v' → count < turns_to_rest (length v.pages) (length v.processes)
always_few v v' count h way s = ∥∥₁_elim (always_near v v' count h way s).1 le_prop (λ m. (let below = m.2 in omega (arith, below)))

-- one more turn, of a process that may go on
pub settles_on : (v mid v' : View) (done number bound : ℕ) → Settles v done mid × IsWorld mid × Nears mid done bound → MayGoOn mid number → (turn : Turn) × Chooses mid number None turn × TurnsTo mid turn v' → Settles v (done + 1) v' × IsWorld v' × Nears v' (done + 1) bound
settles_on v mid v' done number bound s go t =
    let one : suc done ≡ done + 1 = omega arith in (
      subst (λ z. Settles v z v') one (Goes number t.0 s.0 go t.1 t.2),
      runs_keep mid v' (t.0 ∷ []) s.1 (v', t.2, refl),
      subst (λ z. Nears v' z bound) one (nears_on mid v' t.0 number done bound s.2 go t.1 t.2),
    )
