-- The one lemma of all events: a turn of a process of a hand, where the pages go on as the store's do.
use Rattle.std.proofs.Common.{ℕ, Bool, true, ◌≡◌, ◌≢◌, ◌⊎◌, ◌≤◌, ◌+◌, ◌++◌, Option, List, [], ◌∷◌, length, set, refl, sym, ap, ◌∙◌, subst, ⊎_elim, append_assoc}
use mathlib.Core.Option.{some}
use lib.ListN.{get_elem?}
use Rattle.std.proofs.Math.ListN.{length-set}
use Rattle.atomic_table.proofs.Lists.{at_set}
use Rattle.bl_model.specs.declared.operation.Entry.{Entry}
use Rattle.bl_model.specs.declared.operation.Reply.{Reply}
use Rattle.bl_page.specs.declared.page.Page.{Page}
use Rattle.bl_page.specs.Machine.{Name, State, Act}
use Rattle.bl_page.specs.Machine as machine
use Rattle.bl_claims.specs.Trails.{Trail, entries_at, marks_of}
use Rattle.bl_claims.specs.States.{HasMoments}
use Rattle.bl_tree_worlds.proofs.States.{moments_on}
use Rattle.bl_proc.specs.Processes.{next_of}
use Rattle.bl_proc_invariant.specs.Logs.{proc_log}
use Rattle.bl_proc_invariant.specs.Turns.{Turned}
use Rattle.bl_proc_invariant.specs.Knowing.{Run, know}
use Rattle.bl_proc_invariant.proofs.Near.{near}
use Rattle.bl_proc_invariant.proofs.Middles.{KeepsLogs}
use Rattle.bl_claims.specs.Bounds.{IsWithinBound, IsBelowBound}
use Rattle.bl_proc_bounds.specs.Searches.{IsSearch, IsUnderWay}
use Rattle.bl_proc_bounds.specs.Latches.{IsTidy}
use Rattle.bl_proc_bounds.specs.Paces.{AllKept}
use Rattle.bl_proc_bounds.proofs.Bounded.{search_within, search_below}
use Rattle.bl_one_moment.specs.Moments.{put_of, puts_at}
use Rattle.bl_one_moment.proofs.Counting.{puts_push}
use Rattle.bl_one_moment.proofs.Worlds.{firm_push, firm_on}
use Rattle.bl_tree_worlds.specs.Worlds.{MayGet}
use Rattle.bl_store_rule.specs.Pages.{Owner, Stage, Running, Pages, Stands, HasVersion}
use Rattle.bl_index_rule.specs.declared.known.PassState.{PassState}
use Rattle.bl_claims.specs.Seeing.{first_map, BeginsFrom, IsSeen, AreWithin, own, name}
use Rattle.bl_index_rule.specs.Simulation.{Shows, owner_in, IsAtStage, IsHand, IsRun, Simulates}
use Rattle.bl_index_rule.specs.Observed.{IsNear, HasOwn, Notes}
use Rattle.bl_index_rule.proofs.Stages.{turn_mark, after, own_after, hand_self, hand_else}
use Rattle.bl_index_rule.proofs.Sights.{world_moment, firm_moment, world_seen, near_pages}
use Rattle.bl_index_rule.proofs.Shown.{at_below}
use Rattle.bl_index_rule.proofs.Within.{within_push}
use Rattle.bl_index_rule.proofs.Runners.{runs_after}

module _ (s : Pages PassState) (f : Simulates s) (n m : ℕ) (st : Stage) (d : PassState) (at : Stands s n st d) (a : Act Page Reply) (s1 : State Page) (b : Run) (t : Turned know f.world (name n m) a s1 b) (runs : Bool) (past : List Entry) where
  abbrev pub next_known : PassState
  next_known = after f.world f.good n m a s1 b t (length s.hands) d.first runs past

  -- the new event is of a pass that there is
  next_within : AreWithin (length s.hands) t.next.trail
  next_within = subst (AreWithin (length s.hands)) (sym t.extends.trail) (within_push (length s.hands) f.world.trail (turn_mark f.world f.good n m a s1 b t) f.within (at_below s.hands n (st, d) at))

  hands_same : (s' : Pages PassState) (st' : Stage) → s'.hands ≡ set s.hands n (st', next_known) → length s'.hands ≡ length s.hands
  hands_same s' st' hands = ap length hands ∙ length-set s.hands n (st', next_known)

  -- one state more has the laws of the tree
  next_moments : KeepsLogs t.next → HasMoments (first_map f.image) t.next.start t.next.trail
  next_moments logs = moments_on (first_map f.image) f.world.start t.next.start f.world.trail t.next.trail (turn_mark f.world f.good n m a s1 b t) t.extends.start t.extends.trail f.moments (world_moment t.next f.image t.good logs (t.extends.first ∙ f.first))

  pub advance : KeepsLogs t.next → AllKept t.next → (s' : Pages PassState) (st' : Stage) → s'.hands ≡ set s.hands n (st', next_known) → length s'.contents ≡ length s.contents → d.number ≤ m → s1.clock ≤ s'.clock
      → ((q : Name) → q ≢ name n m → s1.phase q ≡ f.world.now.phase q)
      → ((x : ℕ) (q : Name) → q ≢ name n m → s1.owner x ≡ machine.Held q → f.world.now.owner x ≡ machine.Held q)
      → ((x : ℕ) (words : List ℕ) → get_elem? s'.contents x ≡ some words → Shows x words (s1.contents x))
      → ((x : ℕ) (o : Owner) → get_elem? s'.owners x ≡ some o → s1.owner x ≡ owner_in s'.hands o)
      → IsAtStage t.next n st' next_known
      → ((since : ℕ) → st ≡ Running since → m ≡ d.number)
      → ((since : ℕ) → s1.phase (name n m) ≡ machine.Running since → (from : ℕ) × (from ≤ since) × (st' ≡ Running from))
      → ((x version : ℕ) → HasVersion s' x version → version ≡ puts_at x f.world.trail + put_of x a)
      → ((x : ℕ) → a ≡ Act.Get x → (x ≡ 0) ⊎ MayGet f.world (name n m) x)
      → Simulates s'
  advance logs all_kept s' st' hands size le clock others kept pages owners stage current on versions may = record {
    world = t.next;
    good = t.good;
    kept = all_kept;
    image = f.image;
    opening = subst (BeginsFrom f.image) (sym t.extends.start) f.opening;
    first = t.extends.first ∙ f.first;
    moments = next_moments logs;
    size = t.extends.size ∙ (f.size ∙ sym size);
    clock = subst (λ (z : State Page). z.clock ≤ s'.clock) (sym t.now) clock;
    pages = λ x words e. subst (λ (z : State Page). Shows x words (z.contents x)) (sym t.now) (pages x words e);
    owners = λ x o e. ap (λ (z : State Page). z.owner x) t.now ∙ owners x o e;
    hands = λ k sg g at_k. ⊎_elim
        (λ (z : (k ≡ n) × ((st', next_known) ≡ (sg, g))). subst (λ (u : ℕ × (Stage × PassState)). IsHand t.next u.0 u.1.0 u.1.1) (λ i. (sym z.0 i, z.1 i)) (hand_self f.world f.good n m a s1 b t others kept st st' d (length s.hands) d.first runs past (f.hands n st d at) le stage))
        (λ (z : (k ≢ n) × (get_elem? s.hands k ≡ some (sg, g))). hand_else f.world f.good n m a s1 b t others kept k sg g z.0 (f.hands k sg g z.1))
        (at_set s.hands n k (st', next_known) (sg, g) (ap (λ (z : List (Stage × PassState)). get_elem? z k) (sym hands) ∙ at_k));
    within = subst (λ (z : ℕ). AreWithin z t.next.trail) (sym (hands_same s' st' hands)) next_within;
    counts = λ k sg g at_k begun. ⊎_elim
        (λ (z : (k ≡ n) × ((st', next_known) ≡ (sg, g))). ap (λ (u : Stage × PassState). u.1.passes) (sym z.1) ∙ sym (hands_same s' st' hands))
        (λ (z : (k ≢ n) × (get_elem? s.hands k ≡ some (sg, g))). f.counts k sg g z.1 begun ∙ sym (hands_same s' st' hands))
        (at_set s.hands n k (st', next_known) (sg, g) (ap (λ (z : List (Stage × PassState)). get_elem? z k) (sym hands) ∙ at_k));
    firsts = λ k sg g at_k. ⊎_elim
        (λ (z : (k ≡ n) × ((st', next_known) ≡ (sg, g))). ap (λ (u : Stage × PassState). u.1.first) (sym z.1) ∙ f.firsts n st d at)
        (λ (z : (k ≢ n) × (get_elem? s.hands k ≡ some (sg, g))). f.firsts k sg g z.1)
        (at_set s.hands n k (st', next_known) (sg, g) (ap (λ (z : List (Stage × PassState)). get_elem? z k) (sym hands) ∙ at_k));
    busy = λ p since runs. subst (λ (z : List (Stage × PassState)). IsRun z p since) (sym hands) (runs_after s.hands n m st st' d next_known at refl f.world.now.phase s1.phase others f.busy current on p since (ap (λ (z : State Page). z.phase p) (sym t.now) ∙ runs));
    versions = λ x version e. versions x version e ∙ sym (ap (puts_at x) t.extends.trail ∙ puts_push x f.world.trail (turn_mark f.world f.good n m a s1 b t));
    firm = firm_on (first_map f.image) f.world.start t.next.start f.world.trail t.next.trail (turn_mark f.world f.good n m a s1 b t) t.extends.start t.extends.trail f.firm
        (firm_moment t.next f.image t.good logs (t.extends.first ∙ f.first) (firm_push know f.world t.next (turn_mark f.world f.good n m a s1 b t) f.good t.good t.extends.steps t.extends.trail may));
  }

  pub next_seen : KeepsLogs t.next → IsSeen d.first next_known.trail
  next_seen logs =
      let seen : IsSeen f.image t.next.trail = world_seen t.next f.image t.good (subst (BeginsFrom f.image) (sym t.extends.start) f.opening) (t.extends.first ∙ f.first) (next_moments logs) in
      subst (λ (z : List (Option Page)). IsSeen z next_known.trail) (sym (f.firsts n st d at)) seen

  pub next_notes : KeepsLogs t.next → AllKept t.next → Notes n m a d next_known
  next_notes logs all_kept =
      let h = f.hands n st d at in
      let mk = turn_mark f.world f.good n m a s1 b t in
      record {
        between = h.begins.0;
        last = mk;
        trail = t.extends.trail ∙ (ap (λ (l : Trail). l ++ mk ∷ []) h.begins.1 ∙ append_assoc d.trail h.begins.0 (mk ∷ []));
        event = refl;
        first = refl;
        seen = next_seen logs;
        within = next_within;
        pass = refl;
        number = refl;
        others = h.begins.2;
        bounded = λ search. subst (λ (z : ℕ). IsWithinBound z (name n m) t.next.trail) t.extends.size (search_within t.next (name n m) t.good all_kept.paced (subst (λ (r : Run). IsSearch r.state) (sym t.extends.proc.at) search));
        below = λ search. subst (λ (z : ℕ). IsBelowBound z (name n m) t.next.trail) t.extends.size (search_below t.next (name n m) all_kept.paced (subst (λ (r : Run). IsUnderWay r.state) (sym t.extends.proc.at) search));
        tidy = subst (λ (r : Run). IsTidy r.state (marks_of (name n m) next_known.trail)) t.extends.proc.at (all_kept.tidy (name n m));
      }

  -- the mark of the event shows what it saw
  pub next_saw : (logs : KeepsLogs t.next) (all_kept : AllKept t.next) → (next_notes logs all_kept).last.saw ≡ t.saw
  unfolding next_notes
  next_saw logs all_kept = refl

  pub next_near : IsNear next_known.pages (next_of next_known.state)
  next_near =
      let p = name n m in
      let here : IsNear t.next.size (next_of (t.next.proc p).state) = near_pages t.next t.good p (next_of (t.next.proc p).state) (near t.next p t.good) in
      let sized : IsNear f.world.size (next_of (t.next.proc p).state) = subst (λ (z : ℕ). IsNear z (next_of (t.next.proc p).state)) t.extends.size here in
      subst (λ (r : Run). IsNear f.world.size (next_of r.state)) t.extends.proc.at sized

  pub next_own : own n f.world.trail ≡ past ++ entries_at (name n m) (know (f.world.proc (name n m))).said → HasOwn next_known
  next_own was = record {
    run = t.next.proc (name n m);
    state = ap (λ (r : Run). r.state) t.extends.proc.at;
    own = own_after f.world f.good n m a s1 b t past was;
  }

  -- where it runs on
  pub next_stage : (since start : ℕ) → since ≤ start → runs ≡ true → m ≢ 0 → s1.phase (name n m) ≡ machine.Running start → own n f.world.trail ≡ past ++ entries_at (name n m) (know (f.world.proc (name n m))).said → proc_log b.state (marks_of (name n m) t.next.trail) → IsAtStage t.next n (Running since) next_known
  next_stage since start le on begun phase was log = (
    on,
    begun,
    (start, le, ap (λ (z : State Page). z.phase (name n m)) t.now ∙ phase),
    ap (λ (r : Run). r.state) t.extends.proc.at,
    own_after f.world f.good n m a s1 b t past was,
    log,
  )
