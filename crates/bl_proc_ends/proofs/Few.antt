-- How many turns a process has left at most, in every good world.
use Rattle.std.proofs.Common.{ℕ, ◌≡◌, ◌+◌, ◌-◌, ◌*◌, ◌<◌, ◌≤◌, List, [], arith, sym, ◌∙◌, refl, inl, inr, subst}
use Rattle.std.proofs.lemmas.Bool.{cases_eq, cases_lt}
use Rattle.bl_model.specs.declared.deciding.KeyWrite.{KeyWrite}
use Rattle.bl_page.specs.declared.page.Page.{Page}
use Rattle.bl_page.specs.Machine.{Name}
use Rattle.bl_page.specs.Nodes.{unbounded, roots_of}
use Rattle.bl_tree_worlds.specs.Worlds.{Goes, World, IsGood}
use Rattle.bl_proc_steps.specs.declared.approach.Approach.{Approach}
use Rattle.bl_proc_steps.specs.declared.descent.Descent.TheVariants.{AtAnchor}
use Rattle.bl_proc_steps.specs.declared.edit.Edit.{Edit}
use Rattle.bl_proc_steps.specs.declared.edit.Edit.TheVariants as edit
use Rattle.bl_proc_steps.specs.declared.edit.Outcome.TheVariants as outcome
use Rattle.bl_proc_steps.specs.declared.growth.Growth.{Growth}
use Rattle.bl_proc_steps.specs.declared.growth.Growth.TheVariants as growth
use Rattle.bl_proc_steps.specs.declared.lowering.Lowering.{Lowering}
use Rattle.bl_proc_steps.specs.declared.lowering.Lowering.TheVariants as lowering
use Rattle.bl_proc_compress.specs.declared.compression.Compression.{Compression}
use Rattle.bl_proc_compress.specs.declared.compression.Compression.TheVariants as compression
use Rattle.bl_proc_compress.specs.declared.compress.CompressStage.{CompressStage}
use Rattle.bl_proc_compress.specs.declared.compress.CompressStage.TheVariants as compress
use Rattle.bl_proc_writes.specs.declared.writing.WriteStage.{WriteStage}
use Rattle.bl_proc_writes.specs.declared.writing.WriteStage.TheVariants as write
use Rattle.bl_proc_writes.specs.declared.post.PostStage.{PostStage}
use Rattle.bl_proc_writes.specs.declared.post.PostStage.TheVariants as post
use Rattle.bl_proc_writes.specs.declared.insert_post.InsertPost.{InsertPost}
use Rattle.bl_proc_writes.specs.declared.insert_post.ClimbStage.{ClimbStage}
use Rattle.bl_proc_writes.specs.declared.insert_post.ClimbStage.TheVariants as climb
use Rattle.bl_proc_writes.specs.Stands.{Stands}
use Rattle.bl_proc.specs.declared.searching.FindStage.{FindStage}
use Rattle.bl_proc.specs.declared.searching.FindStage.TheVariants as find
use Rattle.bl_proc.specs.declared.parts.PartStage.{PartStage}
use Rattle.bl_proc.specs.declared.parts.PartStart.{PartStart}
use Rattle.bl_proc.specs.declared.parts.PartStage.TheVariants as part
use Rattle.bl_proc.specs.declared.lowering.LowerStage.{LowerStage}
use Rattle.bl_proc.specs.declared.lowering.LowerStage.TheVariants as lower
use Rattle.bl_proc.specs.declared.kinds.Proc.{Proc}
use Rattle.bl_proc.specs.declared.kinds.Proc.TheVariants as proc
use Rattle.bl_proc_invariant.specs.Tables.{Carried, unsaid, know_approach}
use Rattle.bl_proc_invariant.specs.Knowing.{Run, path_goes, inserted, know_find, know_part, know_write, know_growth, know_post, know_compress, know_climb, know_of, know}
use Rattle.bl_proc_bounds.proofs.Reach.{descent_near}
use Rattle.bl_proc_progress.specs.Holds.{edit_hold, compression_hold}
use Rattle.bl_proc_progress.proofs.Nearing.{edit_most}
use Rattle.bl_proc_progress.proofs.Shortening.{from_page, short}
use Rattle.bl_proc_ends.specs.Left.{most_turns, IsOnWay, IsStaying, IsCompressing, IsClimbing, IsMeant, rises_or, find_left, part_left, write_left, growth_left, post_left, compress_left, lowering_turns, lower_left, climb_edit, writing_left, posting_left, climb_left, TurnsLeft}
use Rattle.bl_proc_progress.specs.Ways.{IsLeft}
use Rattle.bl_proc_ends.proofs.Plain.{sure_of, from_anchor}
use Rattle.bl_proc_ends.proofs.Climbs.{else_or, widen}

-- so many at most
pub record Few (P : ℕ → Type 0) (most : ℕ) : Type 0 where
  pub turns : ℕ
  pub left : P turns
  pub few : turns ≤ most

compression_most : (c : Compression) → compression_hold c < 11
compression_most (compression.LatchingLeft f) = omega arith
compression_most (compression.LatchedLeft f) = omega arith
compression_most (compression.LatchingRight f c) = omega arith
compression_most (compression.LatchedRight f c) = omega arith
compression_most (compression.PuttingFirst p) = omega arith
compression_most (compression.PuttingParent p) = omega arith
compression_most (compression.PuttingLast p) = omega arith
compression_most (compression.Retiring at decision) = omega arith
compression_most (compression.OpeningRight at decision) = omega arith
compression_most (compression.OpeningLeft at decision) = omega arith
compression_most (compression.OpeningParent x decision) = omega arith

lowering_most : (l : Lowering) → lowering_turns l < 11
lowering_most lowering.Looking = omega arith
lowering_most lowering.LatchingAnchor = omega arith
lowering_most lowering.LatchedAnchor = omega arith
lowering_most (lowering.LatchingTop t) = omega arith
lowering_most (lowering.LatchedTop t) = omega arith
lowering_most (lowering.PuttingAnchor s) = omega arith
lowering_most (lowering.PuttingDead s) = omega arith
lowering_most (lowering.Retiring x) = omega arith
lowering_most (lowering.OpeningTop x what) = omega arith
lowering_most (lowering.OpeningAnchor what) = omega arith

climb_most : (size : ℕ) (c : Edit) → climb_edit size c ≤ 8 * size + 36
climb_most size (edit.Putting x page) = omega arith
climb_most size (edit.Taking full) = omega arith
climb_most size (edit.PuttingNew p) = omega arith
climb_most size (edit.PuttingOld p) = omega arith
climb_most size (edit.OpeningNew x new separator) = omega arith
climb_most size (edit.Opening x outcome.Edited) = omega arith
climb_most size (edit.Opening x (outcome.SplitAt separator)) = omega arith
climb_most size (edit.Opening x outcome.Refused) = omega arith

module _ (w : World Run) (g : IsGood know w) (p : Name) where
  abbrev most : ℕ
  most = most_turns w.size

  find_few : (key : ℕ) (a : FindStage) → know (w.proc p) ≡ know_find key a → Few (find_left w.size w.now.contents key a) most
  find_few key find.New is = record { turns = most; left = refl; few = omega arith }
  find_few key (find.Near x) is = record { turns = most; left = refl; few = omega arith }
  find_few key (find.Probing x) is = record { turns = 8 * w.size + 39; left = omega arith; few = omega arith }
  find_few key (find.Descending d) is = (let s = sure_of w g p (know_find key (find.Descending d)) is in let n = descent_near know w g key s.sound p d s.goes in let few = n.few in record { turns = 4 * n.gets + 1; left = record { gets = n.gets; ahead = n.ahead; count = omega arith }; few = omega (arith, few) })
  find_few key (find.Ending value) is = record { turns = 1; left = refl; few = omega arith }
  find_few key (find.Over value) is = record { turns = 0; left = refl; few = omega arith }

  part_few : (from : PartStart) (a : PartStage) → know (w.proc p) ≡ know_part from a → Few (part_left w.size w.now.contents from.key a) most
  part_few from part.New is = record { turns = most; left = refl; few = omega arith }
  part_few from (part.Near x) is = record { turns = most; left = refl; few = omega arith }
  part_few from (part.Probing x) is = record { turns = 8 * w.size + 39; left = omega arith; few = omega arith }
  part_few from (part.Descending d) is = (let s = sure_of w g p (know_part from (part.Descending d)) is in let n = descent_near know w g from.key s.sound p d s.goes in let few = n.few in record { turns = 4 * n.gets + 1; left = record { gets = n.gets; ahead = n.ahead; count = omega arith }; few = omega (arith, few) })
  part_few from (part.Ending r) is = record { turns = 1; left = refl; few = omega arith }
  part_few from (part.Over r) is = record { turns = 0; left = refl; few = omega arith }

  way_few : (carried : Carried) (level key more : ℕ) → level ≤ 12 → more < 40 → (a : Approach) → know (w.proc p) ≡ know_approach carried level key a → Few (IsOnWay w.now.contents key a more) most
  way_few carried level key more low small a is = (let s = short w g p carried level key low a is in let few = s.few in record { turns = s.turns + more; left = record { way = s.turns; left = s.left; count = refl }; few = omega (arith, few, small) })

  write_few : (goes : List Goes) (key : ℕ) (does : KeyWrite) (got : ℕ → Page) (a : WriteStage) → know (w.proc p) ≡ know_write goes key does got a → Few (write_left w.size w.now.contents key a) most
  write_few goes key does got write.New is = record { turns = most; left = refl; few = omega arith }
  write_few goes key does got (write.Coming a) is = way_few (unsaid goes) 0 key 12 (omega arith) (omega arith) a is
  write_few goes key does got (write.Keeping x there) is = record { turns = 2; left = refl; few = omega arith }
  write_few goes key does got (write.Editing noted c) is = record { turns = edit_hold c + 1; left = refl; few = (let few = edit_most c in omega (arith, few)) }
  write_few goes key does got (write.Ending r) is = record { turns = 1; left = refl; few = omega arith }
  write_few goes key does got (write.Over r) is = record { turns = 0; left = refl; few = omega arith }

  -- from the anchor, and so many more
  anchor_few : (key more : ℕ) → key < unbounded → more < 40 → Few (λ n. IsLeft w.now.contents key AtAnchor more 0 n) most
  anchor_few key more small less = (let n = from_anchor w g p key small in let few = n.few in record { turns = 4 * n.gets + more; left = record { gets = n.gets; ahead = n.ahead; count = omega arith }; few = omega (arith, few, less) })

  rises_few : (level key few more : ℕ) → key < unbounded → few < 40 → more < 40 → Few (rises_or w.now.contents level key few more) most
  rises_few level key few more small less least = elim (cases_eq (roots_of (w.now.contents 0)).levels level) [
    | inr other ↦ (let a = anchor_few key more small least in record { turns = a.turns; left = inr ((λ r. other r.levels), a.left); few = a.few })
    | inl same ↦ elim (cases_lt level 12) [
      | inl room ↦ record { turns = few; left = inl (record { levels = same; room = room }, refl); few = omega (arith, less) }
      | inr none ↦ (let a = anchor_few key more small least in record { turns = a.turns; left = inr ((λ r. (let l = r.room in omega (arith, l, none))), a.left); few = a.few })
    ]
  ]

  growth_few : (carried : Carried) (level key : ℕ) (got : ℕ → Page) (a : Growth) → know (w.proc p) ≡ know_growth carried level key got a → Few (growth_left w.now.contents level key a) most
  growth_few carried level key got growth.Latching is = rises_few level key 8 28 (sure_of w g p (know_growth carried level key got growth.Latching) is).sound (omega arith) (omega arith)
  growth_few carried level key got growth.Latched is = rises_few level key 7 27 (sure_of w g p (know_growth carried level key got growth.Latched) is).sound (omega arith) (omega arith)
  growth_few carried level key got (growth.Taking rise) is = record { turns = 6; left = refl; few = omega arith }
  growth_few carried level key got (growth.PuttingTop r) is = record { turns = 5; left = refl; few = omega arith }
  growth_few carried level key got (growth.PuttingAnchor r) is = record { turns = 4; left = refl; few = omega arith }
  growth_few carried level key got (growth.OpeningTop x) is = anchor_few key 26 (sure_of w g p (know_growth carried level key got (growth.OpeningTop x)) is).sound.0 (omega arith)
  growth_few carried level key got growth.OpeningGrown is = anchor_few key 25 (sure_of w g p (know_growth carried level key got growth.OpeningGrown) is).sound (omega arith)
  growth_few carried level key got growth.OpeningRefused is = record { turns = 2; left = refl; few = omega arith }

  post_few : (carried : Carried) (level key : ℕ) → 0 < level → level ≤ 12 → (got : ℕ → Page) (child : ℕ) (a : PostStage) → IsStaying a → know (w.proc p) ≡ know_post carried level key got child a → Few (post_left w.size w.now.contents level key a) most
  post_few carried level key least low got child post.New h is = record { turns = most; left = refl; few = omega arith }
  post_few carried level key least low got child (post.Coming a) h is = way_few carried level key 20 low (omega arith) a is
  post_few carried level key least low got child (post.Growing a) h is = growth_few carried level key got a is
  post_few carried level key least low got child (post.Walking u) h is = (let s = sure_of w g p (know_post carried level key got child (post.Walking u)) is in let n = from_page w g p (unsaid []) (level - 1) key (omega (arith, low)) u.child (level - 1) (omega (arith, low)) s.sound.0 s.goes.0 in let few = n.few in record { turns = 4 * n.gets + 20; left = record { gets = n.gets; ahead = n.ahead; count = omega arith }; few = omega (arith, few) })
  post_few carried level key least low got child (post.Editing c) h is = record { turns = edit_hold c + 1; left = refl; few = (let few = edit_most c in omega (arith, few)) }
  post_few carried level key least low got child (post.Staying x r) h is = record { turns = 2; left = (h, refl); few = omega arith }
  post_few carried level key least low got child (post.Ending r) h is = record { turns = 1; left = refl; few = omega arith }
  post_few carried level key least low got child (post.Over r) h is = record { turns = 0; left = refl; few = omega arith }

  compress_few : (level key : ℕ) → level ≤ 12 → (got : ℕ → Page) (a : CompressStage) → IsCompressing a → know (w.proc p) ≡ know_compress level key got a → Few (compress_left w.size w.now.contents key a) most
  compress_few level key low got compress.New h is = record { turns = most; left = refl; few = omega arith }
  compress_few level key low got (compress.Coming a) h is = way_few (unsaid []) level key 16 low (omega arith) a is
  compress_few level key low got (compress.Compressing c) h is = record { turns = compression_hold c + 1; left = (h, refl); few = (let few = compression_most c in omega (arith, few)) }
  compress_few level key low got (compress.Staying x) h is = record { turns = 2; left = refl; few = omega arith }
  compress_few level key low got (compress.Ending r) h is = record { turns = 1; left = refl; few = omega arith }
  compress_few level key low got (compress.Over r) h is = record { turns = 0; left = refl; few = omega arith }

  lower_few : (a : LowerStage) → Few (lower_left w.size a) most
  lower_few lower.New = record { turns = most; left = refl; few = omega arith }
  lower_few (lower.Sinking l) = record { turns = lowering_turns l; left = refl; few = (let few = lowering_most l in omega (arith, few)) }
  lower_few (lower.Ending r) = record { turns = 1; left = refl; few = omega arith }
  lower_few (lower.Over r) = record { turns = 0; left = refl; few = omega arith }

  -- of an insertion with posts
  writing_few : (goes : List Goes) (key : ℕ) (does : KeyWrite) (got : ℕ → Page) (a : WriteStage) → know (w.proc p) ≡ know_write goes key does got a → Few (writing_left w.size w.now.contents key a) most
  writing_few goes key does got write.New is = write_few goes key does got write.New is
  writing_few goes key does got (write.Coming a) is = write_few goes key does got (write.Coming a) is
  writing_few goes key does got (write.Keeping x there) is = write_few goes key does got (write.Keeping x there) is
  writing_few goes key does got (write.Editing noted c) is = record { turns = climb_edit w.size c; left = refl; few = (let few = climb_most w.size c in omega (arith, few)) }
  writing_few goes key does got (write.Ending r) is = write_few goes key does got (write.Ending r) is
  writing_few goes key does got (write.Over r) is = write_few goes key does got (write.Over r) is

  posting_few : (carried : Carried) (level key : ℕ) → 0 < level → level ≤ 12 → (got : ℕ → Page) (child : ℕ) (a : PostStage) → IsStaying a → know (w.proc p) ≡ know_post carried level key got child a → Few (posting_left w.size w.now.contents level key a) most
  posting_few carried level key least low got child a h is = elim (else_or a) [
    | inr e ↦ subst (λ v. Few (posting_left w.size w.now.contents level key v) most) (sym e.1) (record { turns = climb_edit w.size e.0; left = refl; few = (let few = climb_most w.size e.0 in omega (arith, few)) })
    | inl plain ↦ (let n = post_few carried level key least low got child a h is in record { turns = n.turns; left = widen w.size w.now.contents level key a n.turns plain n.left; few = n.few })
  ]

  climb_few : (a : InsertPost) (got : ℕ → Page) (child : ℕ) (stage : ClimbStage) → Stands a.key a.placing a.path stage → IsClimbing stage → know (w.proc p) ≡ know_climb a.key a.placing a.path got child stage → Few (climb_left w.size w.now.contents stage) most
  climb_few a got child (climb.Writing v) s h is = writing_few (path_goes a.path) v.key v.write got v.stage (is ∙ (λ i. know_write (path_goes a.path) (sym s.0 i) (sym s.1 i) got v.stage))
  climb_few a got child (climb.Posting u) s h is = posting_few (inserted a.key a.placing a.path) u.level u.key u.least u.most got child u.stage h is
  climb_few a got child (climb.Ending r) s h is = record { turns = 1; left = refl; few = omega arith }
  climb_few a got child (climb.Over r) s h is = record { turns = 0; left = refl; few = omega arith }

  pub by_kind : (got : ℕ → Page) (child time : ℕ) (a : Proc) → IsMeant a → know (w.proc p) ≡ know_of got child time a → Few (TurnsLeft w.size w.now.contents a) most
  by_kind got child time (proc.Find a) h is = find_few a.key a.stage is
  by_kind got child time (proc.Part a) h is = part_few a.from a.stage is
  by_kind got child time (proc.Write a) h is = write_few [] a.key a.write got a.stage is
  by_kind got child time (proc.Post a) h is = post_few _ a.level a.key a.least a.most got child a.stage h is
  by_kind got child time (proc.Compress a) h is = (let n = compress_few a.level a.key a.most got a.stage h.1 is in record { turns = n.turns; left = (h.0, n.left); few = n.few })
  by_kind got child time (proc.Reclaim a) h is = absurd h
  by_kind got child time (proc.Lower a) h is = lower_few a.stage
  by_kind got child time (proc.InsertPost a) h is = climb_few a got child a.stage a.stands h is

  pub turns_few : IsMeant (w.proc p).state → Few (TurnsLeft w.size w.now.contents (w.proc p).state) most
  turns_few h = (let r = w.proc p in by_kind r.got r.child r.time r.state h refl)
