-- Where worlds of processes begin, how a process enters one, and the laws of each.
use Rattle.std.proofs.Common.{◌≡◌, ap, sym, ◌∙◌, subst, inl, inr, []}
use Rattle.bl_page.specs.Machine.{Name}
use Rattle.bl_page.specs.Machine.Phase.{Waiting}
use Rattle.bl_claims.specs.Moments.{snapshot_of, HasLaws}
use Rattle.bl_claims.specs.Trails.{marks_of, HasSaid}
use Rattle.bl_tree_worlds.proofs.Pushes.{name_cases}
use Rattle.bl_claims.specs.Meanings.{writes_of}
use Rattle.bl_tree_worlds.specs.Worlds.{World, HoldsPage, IsGood}
use Rattle.bl_tree_worlds.proofs.After.{put_name, is_put_name}
use Rattle.bl_tree_worlds.specs.Blank.{IsBlank}
use Rattle.bl_tree_worlds.proofs.WorldLaws.{laws}
use Rattle.bl_proc_invariant.specs.Logs.{proc_log, AllLogs}
use Rattle.bl_proc_invariant.specs.Knowing.{Run, know}
use Rattle.bl_proc_invariant.proofs.Instead.{with_proc, instead_good}
use Rattle.bl_proc_invariant.proofs.Middles.{KeepsLogs, tells_middles}
use Rattle.bl_proc_invariant.proofs.Logged.{early_log}

-- The laws of the tree hold in every good world of these processes.
pub run_laws : (w : World Run) → IsGood know w → KeepsLogs w → HasLaws (snapshot_of w.now w.trail) (w.map 0)
run_laws w g logs = laws know w (tells_middles w g logs) g

-- A process that has done nothing enters where none has begun.
pub enters_good : (w : World Run) (p : Name) (b : Run) → IsGood know w → w.now.phase p ≡ Waiting → IsBlank (know (w.proc p)) → IsBlank (know b) → IsGood know (with_proc w p b)
enters_good w p b g waiting old new =
    instead_good know w p b g (new.holds ∙ sym old.holds) (λ m e h. absurd (subst (λ hs. HoldsPage hs m.right) old.holds h))
    (record {
      stage = rw new.stage waiting;
      said = rw new.said (subst (HasSaid w.trail p) old.said (g.sure p).said);
      holds = rw new.holds tt;
      goes = rw new.goes tt;
      children = rw new.children tt;
      passed = rw new.passed tt;
      sound = new.sound;
    })

pub enters_logs : (w : World Run) (p : Name) (b : Run) → AllLogs w → marks_of p w.trail ≡ [] → IsBlank (know b) → AllLogs (with_proc w p b)
enters_logs w p b logs none new q =
    let put = is_put_name p b w.proc in
    elim (name_cases q p) [
      | inl e ↦ subst (λ r. proc_log r.state (marks_of q w.trail)) (sym (ap (put_name p b w.proc) e ∙ put.at)) (early_log b new.stage (marks_of q w.trail) (ap writes_of (ap (λ n. marks_of n w.trail) e ∙ none)))
      | inr n ↦ subst (λ r. proc_log r.state (marks_of q w.trail)) (sym (put.others q n)) (logs q)
    ]
