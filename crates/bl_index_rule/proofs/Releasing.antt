-- Pages are released by a process of a pass that runs none: this keeps the rule, and the pass knows it.
use Rattle.std.proofs.Common.{ℕ, ◌≡◌, ◌≢◌, ◌⊎◌, ◌+◌, ◌≤◌, ◌++◌, false, Option, None, List, [], ◌∷◌, length, set, refl, sym, ap, ◌∙◌, subst, ⊎_elim, inl, inr, arith, append-nil, append_assoc}
use Rattle.std.proofs.lemmas.Bool.{cases_eq, false≢true}
use mathlib.Core.Option.{some}
use lib.ListN.{get_elem?}
use Rattle.atomic_table.proofs.Lists.{at_set}
use Rattle.bl_page.specs.declared.page.Page.{Page}
use Rattle.bl_page.specs.Machine.{Name, State, Act, AllBeganAfter as AllBeganAfterIn}
use Rattle.bl_page.specs.Machine as machine
use Rattle.bl_claims.specs.Trails.{Said, Mark, Trail, entries_at}
use Rattle.bl_tree_worlds.proofs.Pushes.{marks_of-own}
use Rattle.bl_tree_worlds.specs.Worlds.{HoldsPage}
use Rattle.bl_tree_worlds.proofs.Frames.{Each-map}
use Rattle.bl_tree_worlds.proofs.After.{put_at, is_put_at}
use Rattle.bl_proc_invariant.specs.Turns.{Does, Turned}
use Rattle.bl_proc_invariant.specs.Knowing.{know}
use Rattle.bl_proc_invariant.proofs.Releasing.{release}
use Rattle.bl_proc_invariant.proofs.Middles.{KeepsLogs}
use Rattle.bl_proc_bounds.specs.Paces.{AllKept}
use Rattle.bl_proc_bounds.proofs.Kept.{idle_kept}
use Rattle.bl_layout.specs.declared.layout.Layout.{Layout}
use Rattle.bl_store_rule.specs.Pages.{Owner, Released, Held, Retired, Stage, Idle, Running, Pages, Stands, IsPage, AllBeganAfter, observed, owned, Releases, ReleasesMany as SweepsIn}
use Rattle.bl_index_rule.specs.declared.known.PassState.{PassState}
use Rattle.bl_claims.specs.Seeing.{own, name}
use Rattle.bl_index_rule.specs.Simulation.{owner_in, Simulates}
use Rattle.bl_index_rule.specs.Observed.{ReleasesPages, sweeps}
use Rattle.bl_index_rule.proofs.Entries.{own-mine}
use Rattle.bl_index_rule.proofs.Marks.{each_append, no_marks, many-append}
use Rattle.bl_index_rule.proofs.Stages.{turn_mark, pass_of, number_of}
use Rattle.bl_index_rule.proofs.Runners.{one_hand}
use Rattle.bl_index_rule.proofs.Shown.{other_owner, held_by}
use Rattle.bl_index_rule.proofs.Logs.{next_logs}
use Rattle.bl_index_rule.proofs.Advance.{next_known, advance, next_notes, next_seen}

-- the process is the last of the pass, or the next one
abbrev IsNext : PassState → ℕ → Type 0
IsNext d m = (d.number + 1 ≡ m) ⊎ (d.number ≡ m)

module _ (s : Pages PassState) (f : Simulates s) (n m : ℕ) (d : PassState) (at : Stands s n Idle d) (next : IsNext d m) where
  abbrev p : Name
  p = name n m

  -- it holds no page
  empty : (y : ℕ) → f.world.now.owner y ≢ machine.Held p
  empty y o = elim next [
    | inl e ↦ (let blank = ((f.hands n Idle d at).later m (omega arith)).1 in subst (λ hs. HoldsPage hs y) blank.holds (f.good.owned.held y p o))
    | inr e ↦ (f.hands n Idle d at).stage.1 y (o ∙ ap (λ (z : ℕ). machine.Held (name n z)) (sym e))
  ]

  module _ (x time : ℕ) (words : List ℕ) (page : IsPage s x words (Retired time)) (all : AllBeganAfter s time) where
    abbrev freed : State Page
    freed = record f.world.now { owner = put_at x machine.Released f.world.now.owner }

    does : Does f.world.now p (Act.Release x) freed
    does = record { changes = (λ z. refl, is_put_at x machine.Released f.world.now.owner, λ q. refl); on = omega arith }

    can : (z : ℕ) × (f.world.now.owner x ≡ machine.Retired z) × AllBeganAfterIn f.world.now z
    can = (time, f.owners x (Retired time) page.1, λ q since runs. (let r = f.busy q since runs in let began = all q.pass r.1.0 r.0 r.1.2 in let before = r.1.1 in omega (arith, began, before)))

    abbrev turned : Turned know f.world p (Act.Release x) freed (f.world.proc p)
    turned = (release f.world p x freed f.good can does).0

    -- each process keeps what it kept
    then_kept : AllKept turned.next
    then_kept = idle_kept f.world turned.next _ turned.extends f.good turned.good refl refl (λ y e. cc) f.kept

    abbrev then_known : PassState
    then_known = next_known s f n m Idle d at (Act.Release x) freed (f.world.proc p) turned false d.past

    -- who holds a page held it before
    held_before : (y : ℕ) (q : Name) → freed.owner y ≡ machine.Held q → f.world.now.owner y ≡ machine.Held q
    held_before y q e = elim (cases_eq y x) [
      | inl i ↦ absurd (let is = does.changes.1.at in let both : machine.Released ≡ machine.Held q = sym is ∙ (ap freed.owner (sym i) ∙ e) in cc)
      | inr ne ↦ sym (does.changes.1.others y ne) ∙ e
    ]

    -- the hand has no page
    not_its : (y : ℕ) (o : Owner) → f.world.now.owner y ≡ owner_in s.hands o → o ≢ Held n
    not_its y o e is = (f.hands n Idle d at).stage.1 y (e ∙ (ap (owner_in s.hands) is ∙ held_by s.hands n (Idle, d) at))

    owners_after : (y : ℕ) (o : Owner) → get_elem? (set s.owners x Released) y ≡ some o → freed.owner y ≡ owner_in (set s.hands n (Idle, then_known)) o
    owners_after y o e = ⊎_elim
        (λ (z : (y ≡ x) × (Released ≡ o)). ap freed.owner z.0 ∙ (does.changes.1.at ∙ ap (owner_in (set s.hands n (Idle, then_known))) z.1))
        (λ (z : (y ≢ x) × (get_elem? s.owners y ≡ some o)). (let was = f.owners y o z.1 in does.changes.1.others y z.0 ∙ (was ∙ sym (other_owner s.hands n (Idle, then_known) o (not_its y o was)))))
        (at_set s.owners x y Released o e)

    -- nor does it run
    idle : (z : ℕ) → f.world.now.phase p ≢ machine.Running z
    idle z runs = (
        let r = f.busy p z runs in
        let one : ◌≡◌ {A = Stage × PassState} (Idle, d) (Running r.1.0, r.0) = one_hand s.hands n (Idle, d) (Running r.1.0, r.0) at r.1.2 in
        let both : Idle ≡ Running r.1.0 = ap (λ (v : Stage × PassState). v.0) one in
        cc)

    then_logs : KeepsLogs turned.next
    then_logs = next_logs s f n m (Act.Release x) freed (f.world.proc p) turned (λ z runs. absurd (idle z (ap (λ (v : State Page). v.phase p) (sym turned.now) ∙ runs)))

    then_fits : Simulates (observed (owned s x Released) n Idle then_known)
    then_fits = advance s f n m Idle d at (Act.Release x) freed (f.world.proc p) turned false d.past then_logs then_kept (observed (owned s x Released) n Idle then_known) Idle refl refl (elim next [ inl e ↦ omega arith | inr e ↦ omega arith ]) f.clock
        (λ q ne. refl) (λ y q ne e. held_before y q e) f.pages owners_after
        (refl, λ y z. empty y (held_before y p (ap (λ (v : State Page). v.owner y) (sym turned.now) ∙ z)))
        (λ z i. absurd (let both : Idle ≡ Running z = i in cc))
        (λ z runs. absurd (idle z runs))
        (λ y v e. let was = f.versions y v e in omega arith)
        (λ y e. absurd cc)

    then_sweeps : ReleasesPages n m (length s.hands) 1 d then_known
    then_sweeps =
        let h = f.hands n Idle d at in
        let mk = turn_mark f.world f.good n m (Act.Release x) freed (f.world.proc p) turned in
        let silent : turned.said ≡ None = (release f.world p x freed f.good can does).1 in
        let trail : then_known.trail ≡ f.world.trail ++ mk ∷ [] = turned.extends.trail in
        record {
          more = h.begins.0 ++ mk ∷ [];
          trail = trail ∙ (ap (λ (l : Trail). l ++ mk ∷ []) h.begins.1 ∙ append_assoc d.trail h.begins.0 (mk ∷ []));
          many = ap (λ (l : Trail). length l) (marks_of-own p h.begins.0 mk refl) ∙ ap (λ (l : Trail). length (l ++ mk ∷ [])) (no_marks p h.begins.0 (Each-map _ _ h.begins.0 (λ (k : Mark) (ne : k.event.process.pass ≢ n) (e : k.event.process ≡ p). ne (pass_of _ _ e)) h.begins.2));
          mine = each_append _ h.begins.0 (mk ∷ []) (Each-map _ _ h.begins.0 (λ (k : Mark) (ne : k.event.process.pass ≢ n) (e : k.event.process.pass ≡ n). absurd (ne e)) h.begins.2) ((λ e. (x, refl, silent)), tt);
          fresh = λ low. Each-map _ _ d.trail (λ (k : Mark) (up : k.event.process.pass ≡ n → k.event.process.number ≤ d.number) (e : k.event.process ≡ p). (let few = up (pass_of _ _ e) in let is : k.event.process.number ≡ m = number_of _ _ e in omega arith)) h.counted;
          first = refl;
          seen = next_seen s f n m Idle d at (Act.Release x) freed (f.world.proc p) turned false d.past then_logs;
          within = (next_notes s f n m Idle d at (Act.Release x) freed (f.world.proc p) turned false d.past then_logs then_kept).within;
          own = ap (own n) trail ∙ (own-mine n f.world.trail mk refl ∙ (ap (λ (z : Option Said). own n f.world.trail ++ entries_at p z) silent ∙ (append-nil (own n f.world.trail) ∙ h.mine)));
          number = refl;
          runs = refl;
        }

releases_page : (l : Layout) (n m : ℕ) (d : PassState) (x time : ℕ) → d.runs ≡ false → IsNext d m → Releases Simulates l n d x time (sweeps n m l.passes d 1)
releases_page l n m d x time rests next s Idle words f o at page all = (
  then_known s f n m d at next x time words page all,
  then_fits s f n m d at next x time words page all,
  inr (subst (λ (z : ℕ). ReleasesPages n m z 1 d (then_known s f n m d at next x time words page all)) o.hands (then_sweeps s f n m d at next x time words page all)),
)
releases_page l n m d x time rests next s (Running since) words f o at page all = absurd (false≢true (sym rests ∙ (f.hands n (Running since) d at).stage.0))

sweeps_more : (n m k i j : ℕ) (d e g : PassState) → ReleasesPages n m k i d e → ReleasesPages n m k j e g → ReleasesPages n m k (i + j) d g
sweeps_more n m k i j d e g a b = record {
  more = a.more ++ b.more;
  trail = b.trail ∙ (ap (λ (l : Trail). l ++ b.more) a.trail ∙ append_assoc d.trail a.more b.more);
  many = many-append (name n m) a.more b.more ∙ ap (λ (z : ℕ × ℕ). z.0 + z.1) (λ t. (a.many t, b.many t));
  mine = each_append _ a.more b.more a.mine b.mine;
  fresh = a.fresh;
  first = b.first ∙ a.first;
  seen = b.seen;
  within = b.within;
  own = b.own ∙ a.own;
  number = b.number;
  runs = b.runs;
}

sweeps_on : (n m k i : ℕ) (d e g : PassState) → sweeps n m k d i e → sweeps n m k e 1 g → sweeps n m k d (i + 1) g
sweeps_on n m k i d e g (inl a) t = subst (λ (z : PassState × ℕ). sweeps n m k z.0 (z.1 + 1) g) (λ at. (a.0 at, sym a.1 at)) t
sweeps_on n m k i d e g (inr a) (inl b) = absurd (let one : 1 ≡ 0 = b.1 in omega arith)
sweeps_on n m k i d e g (inr a) (inr b) = inr (sweeps_more n m k i 1 d e g a b)

-- any number of releases, by the next process of a pass that runs none
pub sweeps_pages : (l : Layout) (n m : ℕ) (d : PassState) → d.runs ≡ false → d.number + 1 ≡ m → SweepsIn Simulates l n d (sweeps n m l.passes)
sweeps_pages l n m d rests next = (
  inl (refl, refl),
  λ e g i. sweeps_on n m l.passes i d e g,
  λ e i x time by. elim by [
    | inl is ↦ releases_page l n m e x time (ap (λ (z : PassState). z.runs) is.0 ∙ rests) (inl (ap (λ (z : PassState). z.number + 1) is.0 ∙ next))
    | inr t ↦ releases_page l n m e x time t.runs (inr t.number)
  ],
)
