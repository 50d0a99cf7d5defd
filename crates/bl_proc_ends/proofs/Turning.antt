-- Each turn of a process that puts nothing leaves fewer turns, but for a missed latch.
use Rattle.std.proofs.Common.{ℕ, ◌≡◌, ◌≢◌, ◌+◌, ◌*◌, ◌<◌, ◌≤◌, [], true, Option, Some, arith, ap, sym, ◌∙◌, refl, inl, inr, subst}
use Rattle.bl_model.specs.declared.deciding.KeyWrite.{KeyWrite}
use Rattle.bl_page.specs.declared.page.Page.{Page}
use Rattle.bl_page.specs.Machine.{Name}
use Rattle.bl_tree_worlds.specs.Worlds.{World, IsGood}
use Rattle.bl_proc_steps.specs.declared.acts.Seen.{Seen}
use Rattle.bl_proc_steps.specs.declared.acts.Seen.TheVariants as seen
use Rattle.bl_proc_steps.specs.declared.acts.Action.TheVariants as act
use Rattle.bl_answers.specs.declared.answers.Hint.TheVariants as hint
use Rattle.bl_proc_steps.specs.declared.approach.Approach.{Approach}
use Rattle.bl_proc_steps.specs.declared.edit.Edited.TheVariants as changed
use Rattle.bl_proc_steps.specs.declared.edit.Outcome.TheVariants as outcome
use Rattle.bl_proc_steps.specs.Edits.{Changes}
use Rattle.bl_proc_writes.specs.declared.writing.WriteReply.TheVariants as written
use Rattle.bl_proc_writes.specs.declared.writing.WriteStage.{WriteStage}
use Rattle.bl_proc_writes.specs.declared.writing.WriteStage.TheVariants as write
use Rattle.bl_proc_writes.specs.declared.post.Post.{Post}
use Rattle.bl_proc_writes.specs.declared.post.PostReply.TheVariants as listed
use Rattle.bl_proc_writes.specs.declared.post.PostStage.{PostStage}
use Rattle.bl_proc_writes.specs.declared.post.PostStage.TheVariants as post
use Rattle.bl_proc_writes.specs.declared.insert_post.InsertPost.{InsertPost}
use Rattle.bl_proc_writes.specs.declared.insert_post.ClimbStage.{ClimbStage}
use Rattle.bl_proc_writes.specs.declared.insert_post.ClimbStage.TheVariants as climb
use Rattle.bl_proc_writes.specs.declared.paths.Path.{Path}
use Rattle.bl_proc.specs.declared.parts.PartStart.{PartStart}
use Rattle.bl_proc_writes.specs.Paths.{from_page, page_at}
use Rattle.bl_proc_writes.specs.InsertPosts.{climb_next_in, PostsFrom, ClimbGoes}
use Rattle.bl_proc_writes.specs.Stands.{Stands}
use Rattle.bl_proc_writes.specs.declared.writing.Write.{Write}
use Rattle.bl_proc_compress.specs.Compresses.{CompressGoes}
use Rattle.bl_proc.specs.declared.kinds.Proc.{Proc}
use Rattle.bl_proc.specs.declared.kinds.Proc.TheVariants as proc
use Rattle.bl_proc.specs.Processes.{next_of, Takes}
use Rattle.bl_proc_deterministic.proofs.WayCases.{edit_case}
use Rattle.bl_proc_deterministic.proofs.KindCases.{find_case, part_case, WriteCase, write_case, PostCase, post_case, lower_case}
use Rattle.bl_proc_deterministic.proofs.KindCases.WriteCase.{Finished as WriteFinished, Opened as WriteOpened}
use Rattle.bl_proc_deterministic.proofs.KindCases.PostCase.{Finished as PostFinished, NoRoom as PostNoRoom, Opened as PostOpened}
use Rattle.bl_proc_invariant.specs.Tables.{Carried, know_approach}
use Rattle.bl_proc_invariant.specs.Turns.{IsObserved}
use Rattle.bl_proc_invariant.specs.Knowing.{Run, path_goes, inserted, know_write, know_post, know_climb, know_of, know}
use Rattle.bl_proc_progress.specs.Ways.{WayLeft}
use Rattle.bl_proc_progress.proofs.Shortening.{short}
use Rattle.bl_proc_ends.specs.Left.{IsStay, IsOnWay, find_left, part_left, write_left, post_left, compress_left, writing_left, posting_left, climb_left, TurnsLeft}
use Rattle.bl_proc_ends.proofs.Plain.{Fewer, fewer, find_fewer, part_fewer, write_fewer, lower_fewer}
use Rattle.bl_proc_ends.proofs.CompressionEnds.{compress_fewer}
use Rattle.bl_proc_ends.proofs.Posts.{post_fewer}
use Rattle.bl_proc_ends.proofs.Climbs.{splits, post_splits, split_over, writing_fewer, posting_fewer}

-- the stages of a split that is over
write_split : (size : ℕ) {key there_key : ℕ} {does : KeyWrite} {a : WriteStage} {what : Seen} {there : Option ℕ} {level : ℕ} (contents : ℕ → Page) (turns : ℕ) → WriteCase key does a what (write.Ending (written.Done there (Some (hint.Post level there_key)))) → writing_left size contents key a turns → turns ≡ 8 * size + 35
write_split size contents turns (WriteOpened x there r e) l = absurd (cc e)
write_split size contents turns (WriteFinished noted c what r t) l =
    let o = splits noted t.0 _ _ _ t.2 in
    l ∙ split_over size (edit_case c what (changed.Over (outcome.SplitAt o.0)) (subst (λ v. Changes c what (changed.Over v)) o.1 t.1))

post_split : (size : ℕ) {level key separator : ℕ} {a : PostStage} {what : Seen} (contents : ℕ → Page) (turns : ℕ) → PostCase level key a what (post.Ending (listed.Done (Some separator))) → posting_left size contents level key a turns → turns ≡ 8 * size + 35
post_split size contents turns (PostNoRoom g what r t) l = absurd (cc t.1)
post_split size contents turns (PostFinished c what r t) l =
    let o = post_splits t.0 _ t.2 in
    l ∙ split_over size (edit_case c what (changed.Over (outcome.SplitAt o.0)) (subst (λ v. Changes c what (changed.Over v)) o.1 t.1))
post_split size contents turns (PostOpened x r last e) l = absurd (subst IsStay (sym e) l.0)

module _ (w w' : World Run) (g : IsGood know w) (g' : IsGood know w') (p : Name) (size : w'.size ≡ w.size) (same : w'.now.contents ≡ w.now.contents) where
  -- the next post begins
  post_off : (carried : Carried) (level key : ℕ) (most : level ≤ 12) (a : Approach) (what : Seen) (turns : ℕ) → know (w'.proc p) ≡ know_approach carried level key a → 8 * w.size + 21 < turns → Fewer (λ n. IsOnWay w.now.contents key a 20 n) what turns
  post_off carried level key most a what turns is many =
      let s = short w' g' p carried level key most a is in
      let few = s.few in
      fewer (λ n. IsOnWay w.now.contents key a 20 n) what turns (s.turns + 20) (record { way = s.turns; left = subst (λ c. WayLeft c key a s.turns) same s.left; count = refl }) (omega (arith, few, size, many))

  -- from the page that is noted
  begins : (carried : Carried) (path : Path) (level key : ℕ) (q : Post) (got : ℕ → Page) (child : ℕ) (what : Seen) (turns : ℕ) → know (w'.proc p) ≡ know_post carried q.level q.key got child q.stage → PostsFrom path level key q → 8 * w.size + 21 < turns → Fewer (posting_left w.size w.now.contents q.level q.key q.stage) what turns
  begins carried path level key q got child what turns is from many =
      let stage : q.stage ≡ post.Coming (from_page (page_at path level)) = from.2 in
      let known : know (w'.proc p) ≡ know_approach carried q.level q.key (from_page (page_at path level)) = is ∙ ap (know_post carried q.level q.key got child) stage in
      subst (λ v. Fewer (posting_left w.size w.now.contents q.level q.key v) what turns) (sym stage) (post_off carried q.level q.key q.most (from_page (page_at path level)) what turns known many)

  module _ (old new : InsertPost) (got got' : ℕ → Page) (child child' : ℕ) where
    abbrev carried : Carried
    carried = inserted old.key old.placing old.path

    -- what a write knows that is part of an insertion with posts
    known_write : (v : Write) → know (w.proc p) ≡ know_climb old.key old.placing old.path got child (climb.Writing v) → Stands old.key old.placing old.path (climb.Writing v) → know (w.proc p) ≡ know_write (path_goes old.path) v.key v.write got v.stage
    known_write v is s = is ∙ (λ i. know_write (path_goes old.path) (sym s.0 i) (sym s.1 i) got v.stage)

    by_stage : (a b : ClimbStage) (what : Seen) (turns : ℕ) → ClimbGoes new.path a what b → know (w.proc p) ≡ know_climb old.key old.placing old.path got child a → know (w'.proc p) ≡ know_climb new.key new.placing new.path got' child' b → Stands old.key old.placing old.path a
        → IsObserved w.now w.size (climb_next_in a) what → ((x : ℕ) (c : Page) → what ≡ seen.Done → climb_next_in a ≢ act.Put x c) → climb_left w.size w.now.contents a turns → Fewer (climb_left w.size w.now.contents b) what turns
    by_stage (climb.Writing v) (climb.Writing u) what turns t is is' s observed n l =
        subst (λ z. Fewer (writing_left w.size w.now.contents z u.stage) what turns) (sym t.0.0)
        (writing_fewer w g p (path_goes old.path) got turns (write_case v.key v.write v.stage what u.stage t.0.2) (known_write v is s) observed n l)
    by_stage (climb.Writing v) (climb.Posting q) what turns t is is' s observed n l =
        begins (inserted new.key new.placing new.path) new.path t.1 t.2 q got' child' what turns is' t.4 (let many = write_split w.size w.now.contents turns (write_case v.key v.write v.stage what _ t.3) l in omega (arith, many))
    by_stage (climb.Writing v) (climb.Ending last) what turns t is is' s observed n l =
        writing_fewer w g p (path_goes old.path) got turns (write_case v.key v.write v.stage what (write.Ending t.0) t.1) (known_write v is s) observed n l
    by_stage (climb.Posting u) (climb.Posting q) what turns t is is' s observed n l = elim t [
      | inl k ↦
          subst (λ (z : ℕ × ℕ). Fewer (posting_left w.size w.now.contents z.0 z.1 q.stage) what turns) (λ i. (sym k.0.0 i, sym k.0.1 i))
          (posting_fewer w g p carried u.level u.key u.least u.most got child u.stage q.stage what turns k.0.2 is observed n l)
      | inr k ↦ begins (inserted new.key new.placing new.path) new.path (u.level + 1) k.0 q got' child' what turns is' k.2 (let many = post_split w.size w.now.contents turns (post_case u.level u.key u.stage what _ k.1) l in omega (arith, many))
    ]
    by_stage (climb.Posting u) (climb.Ending last) what turns t is is' s observed n l = posting_fewer w g p carried u.level u.key u.least u.most got child u.stage (post.Ending t.0) what turns t.1 is observed n l
    by_stage (climb.Ending r) (climb.Over last) seen.Done turns t is is' s observed n l = fewer _ seen.Done turns 0 refl (omega (arith, l))
    by_stage (climb.Ending r) (climb.Writing v) seen.Done turns t is is' s observed n l = absurd t
    by_stage (climb.Ending r) (climb.Posting q) seen.Done turns t is is' s observed n l = absurd t
    by_stage (climb.Ending r) (climb.Ending last) seen.Done turns t is is' s observed n l = absurd t
    by_stage a b what turns t is is' s observed n l = absurd t

  -- a process of any kind
  module _ (got got' : ℕ → Page) (child child' time time' : ℕ) where
    pub by_kind : (old new : Proc) (what : Seen) (turns : ℕ) → Takes old what new → know (w.proc p) ≡ know_of got child time old → know (w'.proc p) ≡ know_of got' child' time' new → IsObserved w.now w.size (next_of old) what
        → ((x : ℕ) (c : Page) → what ≡ seen.Done → next_of old ≢ act.Put x c) → TurnsLeft w.size w.now.contents old turns → Fewer (TurnsLeft w.size w.now.contents new) what turns
    by_kind (proc.Find a) (proc.Find b) what turns t is is' observed n l = subst (λ z. Fewer (find_left w.size w.now.contents z b.stage) what turns) (sym t.0) (find_fewer w g p turns (find_case a.key a.stage what b.stage t.1) is observed l)
    by_kind (proc.Part a) (proc.Part b) what turns t is is' observed n l = subst (λ (z : PartStart). Fewer (part_left w.size w.now.contents z.key b.stage) what turns) (sym t.0) (part_fewer w g p turns (part_case a.from a.stage what b.stage t.1) is observed l)
    by_kind (proc.Write a) (proc.Write b) what turns t is is' observed n l = subst (λ z. Fewer (write_left w.size w.now.contents z b.stage) what turns) (sym t.0) (write_fewer w g p [] got turns (write_case a.key a.write a.stage what b.stage t.2) is observed l)
    by_kind (proc.Post a) (proc.Post b) what turns t is is' observed n l = subst (λ (z : ℕ × ℕ). Fewer (post_left w.size w.now.contents z.0 z.1 b.stage) what turns) (λ i. (sym t.0 i, sym t.1 i)) (post_fewer w g p _ a.level a.key a.least a.most got child a.stage what b.stage turns t.2 is observed n l)
    by_kind (proc.Compress a) (proc.Compress b) what turns t is is' observed n l =
        let goes : CompressGoes a.level a.key true a.stage what b.stage = subst (λ z. CompressGoes a.level a.key z a.stage what b.stage) l.0 t.3 in
        let r = compress_fewer w g p a.level a.key got a.stage what b.stage turns goes is observed l.1 in
        record { then = r.then; left = (t.2 ∙ l.0, subst (λ z. compress_left w.size w.now.contents z b.stage r.then) (sym t.1) r.left); less = r.less }
    by_kind (proc.Reclaim a) (proc.Reclaim b) what turns t is is' observed n l = absurd l
    by_kind (proc.Lower a) (proc.Lower b) what turns t is is' observed n l = lower_fewer w g p turns (lower_case a.stage what b.stage t) l
    by_kind (proc.InsertPost a) (proc.InsertPost b) what turns t is is' observed n l = by_stage a b got got' child child' a.stage b.stage what turns t.3 is is' a.stands observed n l
    by_kind old new what turns t is is' observed n l = absurd t

  pub turn_fewer : (what : Seen) (turns : ℕ) → Takes (w.proc p).state what (w'.proc p).state → IsObserved w.now w.size (next_of (w.proc p).state) what → ((x : ℕ) (c : Page) → what ≡ seen.Done → next_of (w.proc p).state ≢ act.Put x c) → TurnsLeft w.size w.now.contents (w.proc p).state turns → Fewer (TurnsLeft w.size w.now.contents (w'.proc p).state) what turns
  turn_fewer what turns t observed n l =
      let a = w.proc p in
      let b = w'.proc p in
      by_kind a.got b.got a.child b.child a.time b.time a.state b.state what turns t refl refl observed n l
