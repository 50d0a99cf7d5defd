-- A write that posts stands where it may after each turn.
use Rattle.std.proofs.Common.{ℕ, sym, subst, ◌∙◌, inl, inr}
use Rattle.bl_model.specs.declared.deciding.KeyWrite.{KeyWrite}
use Rattle.bl_proc_steps.specs.declared.acts.Seen.{Seen}
use Rattle.bl_proc_steps.specs.declared.acts.Seen.TheVariants as seen
use Rattle.bl_proc_writes.specs.declared.paths.Path.{Path}
use Rattle.bl_proc_writes.specs.declared.writing.WriteStage.{WriteStage}
use Rattle.bl_proc_writes.specs.declared.writing.WriteStage.TheVariants as write
use Rattle.bl_proc_writes.specs.declared.insert_post.Placing.{Placing}
use Rattle.bl_proc_writes.specs.declared.insert_post.ClimbStage.{ClimbStage}
use Rattle.bl_proc_writes.specs.declared.insert_post.ClimbStage.TheVariants.{Writing, Posting, Ending, Over}
use Rattle.bl_proc_writes.specs.Stands.{IsPosting, BeginsBlank, Stands}
use Rattle.bl_proc_writes.specs.Writes.{WriteGoes}
use Rattle.bl_proc_writes.specs.InsertPosts.{ClimbGoes}

-- no write is to begin after a turn
pub begun : (path : Path) (key : ℕ) (does : KeyWrite) (a : WriteStage) (what : Seen) (b : WriteStage) → WriteGoes key does a what b → BeginsBlank path b
begun path key does a what (write.Coming b) t = tt
begun path key does a what (write.Keeping x there) t = tt
begun path key does a what (write.Editing noted c) t = tt
begun path key does a what (write.Ending r) t = tt
begun path key does a what (write.Over r) t = tt
begun path key does write.New seen.Done write.New t = absurd t
begun path key does (write.Coming a) what write.New t = absurd t.3
begun path key does (write.Keeping x there) seen.Done write.New t = absurd t
begun path key does (write.Ending r) seen.Done write.New t = absurd t
begun path key does a what write.New t = absurd t

pub goes_stands : (key : ℕ) (placing : Placing) (before path : Path) (a : ClimbStage) (what : Seen) (b : ClimbStage) → Stands key placing before a → ClimbGoes path a what b → Stands key placing path b
goes_stands key placing before path (Writing w) what (Writing v) h t = (t.0.0 ∙ h.0, t.0.1 ∙ h.1, t.1, begun path w.key w.write w.stage what v.stage t.0.2)
goes_stands key placing before path (Writing w) what (Posting p) h t = subst IsPosting (sym t.4.2) tt
goes_stands key placing before path (Posting p) what (Posting q) h (inl t) = t.1
goes_stands key placing before path (Posting p) what (Posting q) h (inr t) = subst IsPosting (sym t.2.2) tt
goes_stands key placing before path a what (Ending last) h t = tt
goes_stands key placing before path a what (Over last) h t = tt
goes_stands key placing before path (Ending r) seen.Done (Writing v) h t = absurd t
goes_stands key placing before path (Ending r) seen.Done (Posting p) h t = absurd t
goes_stands key placing before path a what b h t = absurd t
