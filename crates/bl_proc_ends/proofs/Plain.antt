-- Each turn of a search, a write of one key and a lowering that puts nothing leaves fewer turns, but for a missed latch.
use Rattle.std.proofs.Common.{ℕ, Bool, ◌≡◌, ◌⊎◌, ◌+◌, ◌*◌, ◌<◌, ◌≤◌, List, arith, ap, sym, refl, inl, inr, subst}
use Rattle.bl_model.specs.declared.deciding.KeyWrite.{KeyWrite}
use Rattle.bl_page.specs.declared.page.Page.{Page}
use Rattle.bl_page.specs.Machine.{Name}
use Rattle.bl_page.specs.Nodes.{unbounded, roots_of}
use Rattle.bl_tree_worlds.specs.Worlds.{Know, World, IsSure, IsGood}
use Rattle.bl_proc_steps.specs.declared.acts.Action.TheVariants as act
use Rattle.bl_proc_steps.specs.declared.acts.Seen.{Seen}
use Rattle.bl_proc_steps.specs.declared.acts.Seen.TheVariants as seen
use Rattle.bl_proc_steps.specs.declared.approach.Approach.{Approach}
use Rattle.bl_proc_steps.specs.declared.approach.Approach.TheVariants as way
use Rattle.bl_proc_steps.specs.declared.approach.Approached.TheVariants as came
use Rattle.bl_proc_steps.specs.declared.descent.Descent.{Descent}
use Rattle.bl_proc_steps.specs.declared.descent.Descent.TheVariants.{AtAnchor}
use Rattle.bl_proc_steps.specs.declared.descent.Descended.TheVariants as descended
use Rattle.bl_proc_steps.specs.declared.edit.Edited.TheVariants as changed
use Rattle.bl_proc_steps.specs.declared.lowering.Lowering.{Lowering}
use Rattle.bl_proc_steps.specs.declared.lowering.Lowering.TheVariants as lowering
use Rattle.bl_proc_steps.specs.declared.lowering.Sank.TheVariants as sank
use Rattle.bl_proc_steps.specs.Approaches.{approach_next, HasLevel, Approaches}
use Rattle.bl_proc_steps.specs.Descents.{descent_page, Descends}
use Rattle.bl_proc_steps.specs.Lowerings.{Lowers}
use Rattle.bl_proc.specs.declared.searching.FindStage.{FindStage}
use Rattle.bl_proc.specs.declared.searching.FindStage.TheVariants as find
use Rattle.bl_proc.specs.declared.parts.PartStage.{PartStage}
use Rattle.bl_proc.specs.declared.parts.PartStart.{PartStart}
use Rattle.bl_proc.specs.declared.parts.PartStage.TheVariants as part
use Rattle.bl_proc.specs.declared.lowering.LowerStage.{LowerStage}
use Rattle.bl_proc.specs.Searches.{find_next_in}
use Rattle.bl_proc.specs.Parts.{part_next_in, way_by}
use Rattle.bl_proc_writes.specs.declared.writing.WriteStage.{WriteStage}
use Rattle.bl_proc_writes.specs.declared.writing.WriteStage.TheVariants as write
use Rattle.bl_proc_writes.specs.Writes.{write_next_in}
use Rattle.bl_proc_deterministic.proofs.WayCases.{edit_case}
use Rattle.bl_proc_deterministic.proofs.KindCases.{FindCase, PartCase, WriteCase, LowerCase}
use Rattle.bl_proc_deterministic.proofs.KindCases.FindCase.{Began as FindBegan, BeganNear as FindBeganNear, Ended as FindEnded, Found as FindFound, Looked as FindLooked, Went as FindWent}
use Rattle.bl_proc_deterministic.proofs.KindCases.PartCase.{Began as PartBegan, BeganNear as PartBeganNear, Ended as PartEnded, Listed as PartListed, Looked as PartLooked, Went as PartWent}
use Rattle.bl_proc_deterministic.proofs.KindCases.WriteCase.{Began as WriteBegan, Came as WriteCame, Changed as WriteChanged, Edited as WriteEdited, Ended as WriteEnded, Finished as WriteFinished, Kept as WriteKept, Opened as WriteOpened}
use Rattle.bl_proc_deterministic.proofs.KindCases.LowerCase.{Began as LowerBegan, Ended as LowerEnded, Finished as LowerFinished, Sank as LowerSank}
use Rattle.bl_proc_invariant.specs.Tables.{Carried, unsaid, know_approach}
use Rattle.bl_tree_worlds.specs.Worlds.{Goes}
use Rattle.bl_proc_invariant.specs.Turns.{IsObserved}
use Rattle.bl_proc_invariant.specs.Knowing.{Run, know_find, know_part, know_write, know}
use Rattle.bl_proc_bounds.proofs.Ahead.{ahead_on, ahead_some}
use Rattle.bl_proc_bounds.proofs.Reach.{Near, anchor_near, probed_near}
use Rattle.bl_proc_progress.specs.Holds.{edit_hold}
use Rattle.bl_proc_progress.specs.Ways.{IsLeft}
use Rattle.bl_proc_progress.proofs.Nearing.{edit_near, edit_most, edit_some}
use Rattle.bl_proc_progress.proofs.Shortening.{shortens}
use Rattle.bl_proc_ends.specs.Left.{most_turns, IsOnWay, find_left, part_left, write_left, lowering_turns, lower_left}

-- so many turns are left then: fewer, or one more after a missed latch
pub record Fewer (P : ℕ → Type 0) (what : Seen) (turns : ℕ) : Type 0 where
  pub then : ℕ
  pub left : P then
  pub less : (then < turns) ⊎ ((what ≡ seen.Missed) × (then ≤ turns + 1))

pub fewer : (P : ℕ → Type 0) (what : Seen) (turns then : ℕ) → P then → then < turns → Fewer P what turns
fewer P what turns then left l = record { then = then; left = left; less = inl l }

-- on a search
pub search_on : (contents : ℕ → Page) (key : ℕ) (d e : Descent) (c : Page) (what : Seen) (turns : ℕ) → c ≡ contents (descent_page d) → Descends key d c (descended.On e) → IsLeft contents key d 1 0 turns → Fewer (λ n. IsLeft contents key e 1 0 n) what turns
search_on contents key d e c what turns is h l =
    let r = ahead_on contents key d e l.gets (subst (λ v. Descends key d v (descended.On e)) is h) l.ahead in
    let count = l.count in
    let one = r.less in
    fewer (λ n. IsLeft contents key e 1 0 n) what turns (4 * r.left + 1) (record { gets = r.left; ahead = r.ahead; count = omega arith }) (omega (arith, count, one))

pub left_some : (contents : ℕ → Page) (key : ℕ) (d : Descent) (turns : ℕ) → IsLeft contents key d 1 0 turns → 1 < turns
left_some contents key d turns l = (let some = ahead_some contents key d l.gets l.ahead in let count = l.count in omega (arith, some, count))

lowering_some : (l : Lowering) → 1 < lowering_turns l
lowering_some lowering.Looking = omega arith
lowering_some lowering.LatchingAnchor = omega arith
lowering_some lowering.LatchedAnchor = omega arith
lowering_some (lowering.LatchingTop t) = omega arith
lowering_some (lowering.LatchedTop t) = omega arith
lowering_some (lowering.PuttingAnchor s) = omega arith
lowering_some (lowering.PuttingDead s) = omega arith
lowering_some (lowering.Retiring x) = omega arith
lowering_some (lowering.OpeningTop x what) = omega arith
lowering_some (lowering.OpeningAnchor what) = omega arith

module _ (w : World Run) (g : IsGood know w) (p : Name) where
  -- a tree has the level of the leaves
  pub level_there : (a : Approach) (what : Seen) → IsObserved w.now w.size (approach_next a) what → HasLevel 0 a what
  level_there way.Start (seen.Words c) observed = subst (λ v. 0 < (roots_of v).levels) (sym observed) g.tree.some_level
  level_there a what observed = tt

  pub sure_of : (k : Know) → know (w.proc p) ≡ k → IsSure w p k
  sure_of k is = subst (λ (z : Know). IsSure w p z) is (g.sure p)

  -- a search begins
  set_off : (key : ℕ) (d : Descent) (what : Seen) (turns : ℕ) → Near w.now.contents key d (2 * w.size) → 8 * w.size + 1 < turns → Fewer (λ n. IsLeft w.now.contents key d 1 0 n) what turns
  set_off key d what turns n many =
      let few = n.few in
      fewer (λ m. IsLeft w.now.contents key d 1 0 m) what turns (4 * n.gets + 1) (record { gets = n.gets; ahead = n.ahead; count = omega arith }) (omega (arith, few, many))

  pub from_anchor : (key : ℕ) → key < unbounded → Near w.now.contents key AtAnchor (2 * w.size)
  from_anchor key small = (let n = anchor_near know w g key small in let few = n.few in record { gets = n.gets; ahead = n.ahead; few = omega (arith, few) })

  -- a search has looked at the page that it has in mind
  probed_off : (key x : ℕ) (free : Bool) (d : Descent) (turns : ℕ) → key < unbounded → IsObserved w.now w.size (act.Probe x) (seen.Probed free) → d ≡ way_by x free → turns + 1 ≡ most_turns w.size → Fewer (λ n. IsLeft w.now.contents key d 1 0 n) (seen.Probed free) turns
  probed_off key x free d turns small observed e l =
      let n = probed_near know w g key small x free observed in
      let few = n.few in
      subst (λ v. Fewer (λ m. IsLeft w.now.contents key v 1 0 m) (seen.Probed free) turns) (sym e) (set_off key (way_by x free) (seen.Probed free) turns (record { gets = n.gets; ahead = n.ahead; few = omega (arith, few) }) (omega (arith, l)))

  pub find_fewer : {key : ℕ} {a b : FindStage} {what : Seen} (turns : ℕ) → FindCase key a what b → know (w.proc p) ≡ know_find key a → IsObserved w.now w.size (find_next_in a) what → find_left w.size w.now.contents key a turns → Fewer (find_left w.size w.now.contents key b) what turns
  find_fewer {key} turns (FindBegan d e) is observed l = subst (λ v. Fewer (λ n. IsLeft w.now.contents key v 1 0 n) seen.Done turns) (sym e) (set_off key AtAnchor seen.Done turns (from_anchor key (sure_of (know_find key find.New) is).sound) (omega (arith, l)))
  find_fewer {key} turns (FindBeganNear x y e) is observed l = fewer _ seen.Done turns (8 * w.size + 39) (omega arith) (omega (arith, l))
  find_fewer {key} turns (FindLooked x free d e) is observed l = probed_off key x free d turns (sure_of (know_find key (find.Probing x)) is).sound observed e l
  find_fewer {key} turns (FindWent d c e h) is observed l = search_on w.now.contents key d e c (seen.Words c) turns observed h l
  find_fewer {key} turns (FindFound d c value h) is observed l = fewer _ (seen.Words c) turns 1 refl (left_some w.now.contents key d turns l)
  find_fewer {key} turns (FindEnded value last e) is observed l = fewer _ seen.Done turns 0 refl (omega (arith, l))

  pub part_fewer : {from : PartStart} {a b : PartStage} {what : Seen} (turns : ℕ) → PartCase from a what b → know (w.proc p) ≡ know_part from a → IsObserved w.now w.size (part_next_in a) what → part_left w.size w.now.contents from.key a turns → Fewer (part_left w.size w.now.contents from.key b) what turns
  part_fewer {from} turns (PartBegan d e) is observed l = subst (λ v. Fewer (λ n. IsLeft w.now.contents from.key v 1 0 n) seen.Done turns) (sym e) (set_off from.key AtAnchor seen.Done turns (from_anchor from.key (sure_of (know_part from part.New) is).sound) (omega (arith, l)))
  part_fewer {from} turns (PartBeganNear x y e) is observed l = fewer _ seen.Done turns (8 * w.size + 39) (omega arith) (omega (arith, l))
  part_fewer {from} turns (PartLooked x free d e) is observed l = probed_off from.key x free d turns (sure_of (know_part from (part.Probing x)) is).sound observed e l
  part_fewer {from} turns (PartWent d c e h) is observed l = search_on w.now.contents from.key d e c (seen.Words c) turns observed h l
  part_fewer {from} turns (PartListed d c r h) is observed l = fewer _ (seen.Words c) turns 1 refl (left_some w.now.contents from.key d turns l)
  part_fewer {from} turns (PartEnded r last e) is observed l = fewer _ seen.Done turns 0 refl (omega (arith, l))

  -- a writer begins its way
  pub way_off : (key more : ℕ) (what : Seen) (turns : ℕ) → key < unbounded → 8 * w.size + more < turns → Fewer (λ n. IsOnWay w.now.contents key way.Start more n) what turns
  way_off key more what turns small many =
      let n = from_anchor key small in
      let few = n.few in
      fewer (λ m. IsOnWay w.now.contents key way.Start more m) what turns (4 * n.gets + more) (record { way = 4 * n.gets; left = record { gets = n.gets; ahead = n.ahead; count = omega arith }; count = refl }) (omega (arith, few, many))

  -- it goes on
  pub way_on : (carried : Carried) (level key more : ℕ) (a b : Approach) (what : Seen) (turns : ℕ) → know (w.proc p) ≡ know_approach carried level key a → HasLevel level a what → IsObserved w.now w.size (approach_next a) what → Approaches level key a what (came.On b) → IsOnWay w.now.contents key a more turns → Fewer (λ n. IsOnWay w.now.contents key b more n) what turns
  way_on carried level key more a b what turns is some observed t l =
      let s = shortens w g p carried level key a b what l.way is some observed t l.left in
      let count = l.count in
      record {
        then = s.then + more;
        left = record { way = s.then; left = s.left; count = refl };
        less = elim s.less [
          | inl fewer ↦ inl (omega (arith, fewer, count))
          | inr miss ↦ inr (miss.0, (let more = miss.1 in omega (arith, more, count)))
        ];
      }

  pub write_fewer : {key : ℕ} {does : KeyWrite} {a b : WriteStage} {what : Seen} (goes : List Goes) (got : ℕ → Page) (turns : ℕ) → WriteCase key does a what b → know (w.proc p) ≡ know_write goes key does got a → IsObserved w.now w.size (write_next_in a) what → write_left w.size w.now.contents key a turns → Fewer (write_left w.size w.now.contents key b) what turns
  write_fewer {key} {does} goes got turns (WriteBegan a e) is observed l = subst (λ v. Fewer (λ n. IsOnWay w.now.contents key v 12 n) seen.Done turns) (sym e) (way_off key 12 seen.Done turns (sure_of (know_write goes key does got write.New) is).sound (omega (arith, l)))
  write_fewer {key} goes got turns (WriteCame a what b t) is observed l = way_on (unsaid goes) 0 key 12 a b what turns is (level_there a what observed) observed t l
  write_fewer {key} goes got turns (WriteKept x c y there h t) is observed l = fewer _ (seen.Words c) turns 2 refl (let count = l.count in omega (arith, count))
  write_fewer {key} goes got turns (WriteChanged x c noted d h t) is observed l = fewer _ (seen.Words c) turns (edit_hold d + 1) refl (let count = l.count in let few = edit_most d in omega (arith, count, few))
  write_fewer goes got turns (WriteOpened x there r e) is observed l = fewer _ seen.Done turns 1 refl (omega (arith, l))
  write_fewer goes got turns (WriteEdited noted c what same d t) is observed l = fewer _ what turns (edit_hold d + 1) refl (let near = edit_near (edit_case c what (changed.On d) t.1) in omega (arith, near, l))
  write_fewer goes got turns (WriteFinished noted c what r t) is observed l = fewer _ what turns 1 refl (let some = edit_some c in omega (arith, some, l))
  write_fewer goes got turns (WriteEnded r last e) is observed l = fewer _ seen.Done turns 0 refl (omega (arith, l))

  lowering_fewer : (l : Lowering) (what : Seen) (m : Lowering) → Lowers l what (sank.On m) → (lowering_turns m < lowering_turns l) ⊎ ((what ≡ seen.Missed) × (lowering_turns m ≡ lowering_turns l))
  lowering_fewer lowering.Looking (seen.Words c) m t = inl (subst (λ v. lowering_turns v < 10) (sym t.0) (omega arith))
  lowering_fewer lowering.LatchingAnchor seen.Done m t = inl (subst (λ v. lowering_turns v < 9) (sym t) (omega arith))
  lowering_fewer lowering.LatchingAnchor seen.Missed m t = inr (refl, ap lowering_turns t)
  lowering_fewer lowering.LatchedAnchor (seen.Words c) (lowering.LatchingTop s) t = inl (omega arith)
  lowering_fewer lowering.LatchedAnchor (seen.Words c) (lowering.OpeningAnchor last) t = inl (omega arith)
  lowering_fewer (lowering.LatchingTop s) seen.Done m t = inl (subst (λ v. lowering_turns v < 7) (sym t) (omega arith))
  lowering_fewer (lowering.LatchingTop s) seen.Missed m t = inr (refl, ap lowering_turns t)
  lowering_fewer (lowering.LatchedTop s) (seen.Words c) (lowering.PuttingAnchor u) t = inl (omega arith)
  lowering_fewer (lowering.LatchedTop s) (seen.Words c) (lowering.OpeningTop x last) t = inl (omega arith)
  lowering_fewer (lowering.PuttingAnchor s) seen.Done m t = inl (subst (λ v. lowering_turns v < 5) (sym t) (omega arith))
  lowering_fewer (lowering.PuttingAnchor s) seen.Refused m t = inl (subst (λ v. lowering_turns v < 5) (sym t) (omega arith))
  lowering_fewer (lowering.PuttingDead s) seen.Done m t = inl (subst (λ v. lowering_turns v < 4) (sym t) (omega arith))
  lowering_fewer (lowering.Retiring x) seen.Done m t = inl (subst (λ v. lowering_turns v < 3) (sym t) (omega arith))
  lowering_fewer (lowering.OpeningTop x last) seen.Done m t = inl (subst (λ v. lowering_turns v < 3) (sym t) (omega arith))
  lowering_fewer (lowering.OpeningAnchor last) seen.Done m t = absurd t
  lowering_fewer l what m t = absurd t

  pub lower_fewer : {a b : LowerStage} {what : Seen} (turns : ℕ) → LowerCase a what b → lower_left w.size a turns → Fewer (lower_left w.size b) what turns
  lower_fewer turns (LowerBegan x e) l = subst (λ v. Fewer (λ n. n ≡ lowering_turns v) seen.Done turns) (sym e) (fewer _ seen.Done turns 10 refl (omega (arith, l)))
  lower_fewer turns (LowerSank x what m t) l = record { then = lowering_turns m; left = refl; less = elim (lowering_fewer x what m t) [ inl few ↦ inl (omega (arith, few, l)) | inr miss ↦ inr (miss.0, (let e = miss.1 in omega (arith, e, l))) ] }
  lower_fewer turns (LowerFinished x what r t) l = fewer _ what turns 1 refl (let some = lowering_some x in omega (arith, some, l))
  lower_fewer turns (LowerEnded r last e) l = fewer _ seen.Done turns 0 refl (omega (arith, l))
