-- Every turn of a search keeps a world good.
use Rattle.std.proofs.Common.{ℕ, ◌≡◌, Option, Some, None, [], sym, ◌∙◌, refl}
use Rattle.bl_page.specs.declared.page.Page.{Page}
use Rattle.bl_page.specs.Machine.{Name, State}
use Rattle.bl_page.specs.Machine.Act.{Look as Looks}
use Rattle.bl_page.specs.Machine.Looked.{Page as OfPage}
use Rattle.bl_claims.specs.Trails.{Mark}
use Rattle.bl_tree_worlds.specs.Worlds.{Know, World, nodes, MapsTo, IsSure, IsGood, silent}
use Rattle.bl_tree_worlds.proofs.Pushes.{HasSaid-silent}
use Rattle.bl_tree_worlds.proofs.Descents.{leaf_says}
use Rattle.bl_proc_steps.specs.declared.acts.Seen.{Seen}
use Rattle.bl_proc_steps.specs.declared.acts.Seen.TheVariants as seen
use Rattle.bl_proc.specs.declared.searching.FindStage.{FindStage}
use Rattle.bl_proc.specs.declared.searching.FindStage.TheVariants.{New, Near, Probing, Descending, Ending, Over}
use Rattle.bl_proc_steps.specs.Descents.{descent_page}
use Rattle.bl_proc.specs.Searches.{find_next_in, FindGoes}
use Rattle.bl_proc_invariant.specs.Turns.{event_of, IsObserved, Does, Turned}
use Rattle.bl_proc_invariant.specs.Tables.{alone}
use Rattle.bl_proc_invariant.specs.Knowing.{found, know_find, find_end}
use Rattle.bl_proc_invariant.proofs.Acts.{watched}
use Rattle.bl_proc_invariant.proofs.Descending.{descent_turn, leaf_turn}
use Rattle.bl_proc_invariant.proofs.Listing.{probed}
use Rattle.bl_proc_invariant.proofs.Ends.{begin_turn, end_turn}

module _ {P : Type 0} (know : P → Know) (w : World P) (g : IsGood know w) (p : Name) (b : P) (key : ℕ) where
  answers : (value : Option ℕ) → value ≡ w.map 0 key → MapsTo (w.map 0) (w.map 0) (found key value)
  answers (Some v) e = (sym e, λ k. refl)
  answers None e = (sym e, λ k. refl)

  pub find_turn : (a a' : FindStage) (what : Seen) (s : State Page) → know (w.proc p) ≡ know_find key a → know b ≡ know_find key a' → FindGoes key a what a' → IsObserved w.now w.size (find_next_in a) what → Does w.now p (event_of (find_end a) (find_next_in a) what) s → Turned know w p (event_of (find_end a) (find_next_in a) what) s b
  find_turn New (Descending d) seen.Done s before then t observed does = begin_turn know w g p b alone key s before (rw t at then) does
  find_turn (Near x) (Probing y) seen.Done s before then t observed does = begin_turn know w g p b alone key s before then does
  find_turn (Probing x) (Descending d) (seen.Probed free) s before then t observed does =
      let is : IsSure w p (know_find key (Probing x)) = rw before at (g.sure p) in
      let m : Mark = silent p (Looks (OfPage x)) in
      watched know w g p b _ _ before then (Looks (OfPage x)) None None s tt tt does tt refl (λ y h. h) (λ it e. cc) (λ k. refl)
      (record { stage = is.stage; said = HasSaid-silent w.trail m p None refl is.said; holds = tt; goes = rw t (probed know w g p b x free is.stage observed); children = tt; passed = tt; sound = is.sound })
  find_turn (Descending d) (Descending e) (seen.Words c) s before then t observed does = descent_turn know w g p b key d c s before observed does e then t
  find_turn (Descending d) (Ending value) (seen.Words c) s before then t observed does =
      let look : value ≡ (nodes w.now (descent_page d)).look key = rw observed at t.1 in
      leaf_turn know w g p b key d c s before observed does (found key value) then t.0 (λ may l. answers value (look ∙ leaf_says know w g p (descent_page d) key may l.0 l.2 l.1))
  find_turn (Ending value) (Over last) seen.Done s before then t observed does =
      end_turn know w g p b (found key value) [] (Unit {0}) s before (rw t at then) does
  find_turn a a' (seen.Words page) s before then t observed does = absurd t
  find_turn a a' old s before then t observed does = absurd t
