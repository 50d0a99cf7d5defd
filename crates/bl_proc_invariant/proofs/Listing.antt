-- Every turn of a part keeps a world good.
use Rattle.std.proofs.Common.{ℕ, ◌≡◌, ◌<◌, ◌≤◌, zero, suc, Bool, true, false, None, Some, List, [], reverse, sym, ◌∙◌, refl, inl, inr, arith}
use Rattle.bl_model.specs.declared.operation.Next.{Next}
use Rattle.bl_model.specs.declared.operation.Next.TheVariants.{More, End}
use Rattle.bl_model.specs.declared.operation.Reply.TheVariants as reply
use Rattle.bl_model.specs.Map.{Map, SameMap, ListsPairs, IsPart, IsPartDown, MayAnswer, map_step}
use Rattle.bl_page.specs.declared.page.Page.{Page}
use Rattle.bl_page.specs.Machine.{Name, Owner, State}
use Rattle.bl_page.specs.Machine.Act.{Look as Looks}
use Rattle.bl_page.specs.Machine.Looked.{Page as OfPage}
use Rattle.bl_claims.specs.Trails.{Mark}
use Rattle.bl_claims.specs.Walks.{Each}
use Rattle.bl_tree.specs.Trees.{IsLive}
use Rattle.bl_tree.specs.Trees.Status.{Live, Uprooted}
use Rattle.bl_tree.proofs.Statuses.{live_live}
use Rattle.bl_tree.proofs.SoundPages.{sound_node}
use Rattle.bl_tree_worlds.specs.Worlds.{Stage, Know, World, nodes, IsStage, MayGet, IsGoes, IsSure, IsBounded, IsGood, silent}
use Rattle.bl_tree_worlds.proofs.Pushes.{HasSaid-silent}
use Rattle.bl_tree_worlds.proofs.Descents.{leaf_says, may_live}
use Rattle.bl_proc_steps.specs.declared.acts.Seen.{Seen}
use Rattle.bl_proc_steps.specs.declared.acts.Seen.TheVariants as seen
use Rattle.bl_proc_routes.specs.declared.routes.Step.TheVariants.{Here}
use Rattle.bl_proc_routes.specs.Routes.{Leads}
use Rattle.bl_proc_steps.specs.Descents.{descent_page}
use Rattle.bl_proc.specs.declared.parts.Direction.{Direction}
use Rattle.bl_proc.specs.declared.parts.Direction.TheVariants.{Up, Down}
use Rattle.bl_proc.specs.declared.parts.PartRows.{PartRows}
use Rattle.bl_proc.specs.declared.parts.PartStage.{PartStage}
use Rattle.bl_proc.specs.declared.parts.PartStart.{PartStart}
use Rattle.bl_proc.specs.declared.parts.PartStage.TheVariants.{New, Near, Probing, Descending, Ending, Over}
use Rattle.bl_proc.specs.Parts.{GoesOnAt, GoesOnBelow, IsPartToward, IsPartBy, op_toward, part_next_in, way_by, PartGoes}
use Rattle.bl_proc_invariant.specs.Turns.{event_of, IsObserved, Does, Turned}
use Rattle.bl_proc_invariant.specs.Knowing.{listed, know_part, part_end}
use Rattle.bl_proc_invariant.specs.Tables.{alone, descent_goes}
use Rattle.bl_proc_invariant.proofs.Acts.{watched}
use Rattle.bl_proc_invariant.proofs.Descending.{descent_turn, leaf_turn}
use Rattle.bl_proc_invariant.proofs.Ends.{begin_turn, end_turn}

-- What a page lists from a key on that it covers is a part of the map, where it lists what the map has at the keys that it
-- covers.
pub is_part : (m : Map) (look : Map) (low end from : ℕ) (rows : List (ℕ × ℕ)) (next : Next) → ((k : ℕ) → low ≤ k → k < end → look k ≡ m k) → ((k v : ℕ) → look k ≡ Some v → (low ≤ k) × (k < end)) → low ≤ from → from < end → IsBounded m → ListsPairs look (λ key. from ≤ key) rows → GoesOnAt end next → IsPart m from rows next
is_part m look low end from rows (More key) agree covered above below bounded lists goes = (
  omega (arith, goes.1),
  record {
    rising = lists.rising;
    pairs = λ k v. (
      λ c. let p = (lists.pairs k v).0 c in let i = covered k v p.0 in (sym (agree k i.0 i.1) ∙ p.0, (p.1, omega (arith, goes.1, i.1))),
      λ p. let in_page : k < end = omega (arith, goes.1, p.1.1) in (lists.pairs k v).1 (agree k (omega (arith, p.1.0)) in_page ∙ p.0, p.1.0),
    );
  },
)
is_part m look low end from rows End agree covered above below bounded lists goes = record {
  rising = lists.rising;
  pairs = λ k v. (
    λ c. let p = (lists.pairs k v).0 c in let i = covered k v p.0 in (sym (agree k i.0 i.1) ∙ p.0, p.1),
    λ p. let in_page : k < end = omega (arith, goes, bounded k v p.0) in (lists.pairs k v).1 (agree k (omega (arith, p.1)) in_page ∙ p.0, p.1),
  );
}

-- And what it lists up to such a key is a part downwards.
pub is_part_down : (m : Map) (look : Map) (low end from : ℕ) (rows : List (ℕ × ℕ)) (next : Next) → ((k : ℕ) → low ≤ k → k < end → look k ≡ m k) → ((k v : ℕ) → look k ≡ Some v → (low ≤ k) × (k < end)) → low ≤ from → from < end → ListsPairs look (λ key. key ≤ from) (reverse rows) → GoesOnBelow low next → IsPartDown m from rows next
is_part_down m look low end from rows (More key) agree covered above below lists goes = (
  omega (arith, goes),
  record {
    rising = lists.rising;
    pairs = λ k v. (
      λ c. let p = (lists.pairs k v).0 c in let i = covered k v p.0 in (sym (agree k i.0 i.1) ∙ p.0, (omega (arith, goes, i.0), p.1)),
      λ p. (lists.pairs k v).1 (agree k (omega (arith, goes, p.1.0)) (omega (arith, p.1.1)) ∙ p.0, p.1.1),
    );
  },
)
is_part_down m look low end from rows End agree covered above below lists goes = record {
  rising = lists.rising;
  pairs = λ k v. (
    λ c. let p = (lists.pairs k v).0 c in let i = covered k v p.0 in (sym (agree k i.0 i.1) ∙ p.0, p.1),
    λ p. (lists.pairs k v).1 (agree k (omega (arith, goes)) (omega (arith, p.1)) ∙ p.0, p.1),
  );
}

module _ {P : Type 0} (know : P → Know) (w : World P) (g : IsGood know w) (p : Name) (b : P) where
  -- what its leaf lists, in page x, is an answer on the map, which stays
  lists : (direction : Direction) (from x : ℕ) (r : PartRows) → IsPartToward direction (w.now.contents x) from r → MayGet w p x → Leads (w.now.contents x) from 0 Here
      → MayAnswer (w.map 0) (op_toward direction from) (reply.Rows r.rows r.next) × SameMap (map_step (op_toward direction from) (reply.Rows r.rows r.next) (w.map 0)) (w.map 0)
  lists Up from x r part may l =
      let sound = sound_node (w.now.contents x) l.0 in (
        is_part (w.map 0) (nodes w.now x).look (nodes w.now x).shape.low (nodes w.now x).shape.end from r.rows.items r.next (λ k low high. leaf_says know w g p x k may l.0 l.2 (low, high)) sound.covered l.1.0 l.1.1 g.bounded part.rows part.next,
        λ k. refl,
      )
  lists Down from x r part may l =
      let sound = sound_node (w.now.contents x) l.0 in (
        is_part_down (w.map 0) (nodes w.now x).look (nodes w.now x).shape.low (nodes w.now x).shape.end from r.rows.items r.next (λ k low high. leaf_says know w g p x k may l.0 l.2 (low, high)) sound.covered l.1.0 l.1.1 part.rows part.next,
        λ k. refl,
      )

  -- an open page, but for the anchor, is one of the tree, which it may get
  pub probed : (x : ℕ) (free : Bool) → IsStage Stage.Busy (w.now.phase p) → (free ≡ true → w.now.owner x ≡ Owner.Open) → Each (IsGoes w p) (descent_goes (way_by x free))
  probed zero free busy observed = tt
  probed (suc x) false busy observed = tt
  probed (suc x) true busy observed =
      let is : w.status (suc x) ≡ Live = elim (g.owned.opened (suc x) (observed refl)) [
        | inl h ↦ h
        | inr h ↦ absurd (let z = g.owned.one_anchor (suc x) h in omega (arith, z))
      ] in
      let live : IsLive (w.status (suc x)) = rw is live_live in
      let above = g.tree.below (suc x) live (λ e. let no : Live ≡ Uprooted = sym is ∙ e in absurd (cc no)) in
      let few = g.tree.few_levels in
      (record { may = may_live know w g p busy.0 (suc x) busy.1 live; least = omega arith; most = omega (arith, above, few) }, tt)

module _ {P : Type 0} (know : P → Know) (w : World P) (g : IsGood know w) (p : Name) (b : P) (from : PartStart) where
  pub part_turn : (a a' : PartStage) (what : Seen) (s : State Page) → know (w.proc p) ≡ know_part from a → know b ≡ know_part from a' → PartGoes from a what a' → IsObserved w.now w.size (part_next_in a) what → Does w.now p (event_of (part_end a) (part_next_in a) what) s → Turned know w p (event_of (part_end a) (part_next_in a) what) s b
  part_turn New (Descending d) seen.Done s before then t observed does = begin_turn know w g p b alone from.key s before (rw t at then) does
  part_turn (Near x) (Probing y) seen.Done s before then t observed does = begin_turn know w g p b alone from.key s before then does
  part_turn (Probing x) (Descending d) (seen.Probed free) s before then t observed does =
      let is : IsSure w p (know_part from (Probing x)) = rw before at (g.sure p) in
      let m : Mark = silent p (Looks (OfPage x)) in
      watched know w g p b _ _ before then (Looks (OfPage x)) None None s tt tt does tt refl (λ y h. h) (λ it e. cc) (λ k. refl)
      (record { stage = is.stage; said = HasSaid-silent w.trail m p None refl is.said; holds = tt; goes = rw t (probed know w g p b x free is.stage observed); children = tt; passed = tt; sound = is.sound })
  part_turn (Descending d) (Descending e) (seen.Words c) s before then t observed does = descent_turn know w g p b from.key d c s before observed does e then t
  part_turn (Descending d) (Ending r) (seen.Words c) s before then t observed does =
      let part : IsPartBy from (w.now.contents (descent_page d)) r = rw observed at t.1 in
      leaf_turn know w g p b from.key d c s before observed does (listed from r) then t.0 (λ may l. lists know w g p b from.direction from.key (descent_page d) r part may l)
  part_turn (Ending r) (Over last) seen.Done s before then t observed does =
      end_turn know w g p b (listed from r) [] (Unit {0}) s before (rw t at then) does
  part_turn a a' (seen.Words page) s before then t observed does = absurd t
  part_turn a a' old s before then t observed does = absurd t
