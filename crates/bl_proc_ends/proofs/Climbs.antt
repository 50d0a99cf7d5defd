-- Each turn of an insertion with posts that puts nothing leaves fewer turns, but for a missed latch.
use Rattle.std.proofs.Common.{ℕ, ◌≡◌, ◌≢◌, ◌⊎◌, ◌+◌, ◌*◌, ◌<◌, ◌≤◌, List, Option, None, Some, arith, ap, sym, refl, inl, inr, subst}
use Rattle.bl_model.specs.declared.deciding.KeyWrite.{KeyWrite}
use Rattle.bl_model.specs.declared.deciding.Effect.{Effect}
use Rattle.bl_model.specs.declared.deciding.Effect.TheVariants.{Keep, Enter, Remove, Replace}
use Rattle.bl_model.specs.Writes.{effect_of}
use Rattle.bl_page.specs.declared.page.Page.{Page}
use Rattle.bl_page.specs.Machine.{Name}
use Rattle.bl_tree_worlds.specs.Worlds.{Goes, World, IsGood}
use Rattle.bl_proc_steps.specs.declared.acts.Seen.{Seen}
use Rattle.bl_proc_steps.specs.declared.acts.Seen.TheVariants as seen
use Rattle.bl_proc_steps.specs.declared.acts.Action.TheVariants as act
use Rattle.bl_answers.specs.declared.answers.Hint.TheVariants as hint
use Rattle.bl_page.specs.declared.page.Page.TheVariants.{Inner as InnerPage}
use Rattle.bl_proc_steps.specs.declared.edit.Edit.{Edit}
use Rattle.bl_proc_steps.specs.declared.edit.Edit.TheVariants as edit
use Rattle.bl_proc_steps.specs.declared.edit.Edited.TheVariants as changed
use Rattle.bl_proc_steps.specs.declared.edit.Outcome.{Outcome}
use Rattle.bl_proc_steps.specs.declared.edit.Outcome.TheVariants as outcome
use Rattle.bl_proc_steps.specs.Edits.{edit_next, EntersPair}
use Rattle.bl_answers.specs.Thin.{thin_hint}
use Rattle.bl_proc_writes.specs.declared.writing.Noted.{Noted}
use Rattle.bl_proc_writes.specs.declared.writing.WriteReply.TheVariants as written
use Rattle.bl_proc_writes.specs.declared.writing.WriteStage.{WriteStage}
use Rattle.bl_proc_writes.specs.declared.post.PostReply.TheVariants as listed
use Rattle.bl_proc_writes.specs.declared.post.PostStage.{PostStage}
use Rattle.bl_proc_writes.specs.declared.post.PostStage.TheVariants as post
use Rattle.bl_proc_writes.specs.Writes.{write_next_in, write_reply, Performs}
use Rattle.bl_proc_writes.specs.Posts.{post_next_in, post_reply, PostGoes}
use Rattle.bl_proc_deterministic.proofs.WayCases.{EditCase, edit_case}
use Rattle.bl_proc_deterministic.proofs.WayCases.EditCase.{Opened as EditOpened, OpenedNew as EditOpenedNew, Put as EditPut, PutNew as EditPutNew, PutOld as EditPutOld, PutRefused as EditPutRefused, TakeRefused as EditTakeRefused, Took as EditTook}
use Rattle.bl_proc_deterministic.proofs.KindCases.{WriteCase, PostCase, post_case}
use Rattle.bl_proc_deterministic.proofs.KindCases.WriteCase.{Began as WriteBegan, Came as WriteCame, Changed as WriteChanged, Edited as WriteEdited, Ended as WriteEnded, Finished as WriteFinished, Kept as WriteKept, Opened as WriteOpened}
use Rattle.bl_proc_deterministic.proofs.KindCases.PostCase.{Edited as PostEdited, Entered as PostEntered}
use Rattle.bl_proc_invariant.specs.Tables.{Carried}
use Rattle.bl_proc_invariant.specs.Turns.{IsObserved}
use Rattle.bl_proc_invariant.specs.Knowing.{Run, know_write, know_post, know}
use Rattle.bl_proc_progress.specs.Holds.{edit_hold}
use Rattle.bl_proc_progress.proofs.Nearing.{edit_most}
use Rattle.bl_proc_ends.specs.Left.{post_left, climb_edit, writing_left, posting_left}
use Rattle.bl_proc_ends.proofs.Plain.{Fewer, fewer, write_fewer}
use Rattle.bl_proc_ends.proofs.Posts.{post_fewer}

module _ (size : ℕ) where
  -- a change that begins is to put or to take
  enters_plain : (x : ℕ) (c : Page) (key word : ℕ) (d : Edit) → EntersPair x c key word d → climb_edit size d ≡ edit_hold d + 1
  enters_plain x c key word (edit.Putting y page) t = refl
  enters_plain x c key word (edit.Taking full) t = refl
  enters_plain x c key word d t = absurd t

  performs_plain : (e : Effect) (x : ℕ) (c : Page) (key : ℕ) (d : Edit) → Performs e x c key d → climb_edit size d ≡ edit_hold d + 1
  performs_plain Keep x c key d t = absurd t
  performs_plain (Enter value) x c key d t = enters_plain x c key value d t
  performs_plain Remove x c key (edit.Putting y page) t = refl
  performs_plain Remove x c key d t = absurd t
  performs_plain (Replace value) x c key (edit.Putting y page) t = refl
  performs_plain (Replace value) x c key d t = absurd t

  -- a turn of a change that puts nothing
  edit_fewer : {c d : Edit} {what : Seen} → EditCase c what (changed.On d) → ((x : ℕ) (page : Page) → what ≡ seen.Done → edit_next c ≢ act.Put x page) → climb_edit size d < climb_edit size c
  edit_fewer (EditPut x page new e) n = absurd (n x page refl refl)
  edit_fewer (EditPutRefused x page new e) n = subst (λ v. climb_edit size v < 3) (sym e) (omega arith)
  edit_fewer (EditTook full y p t) n = omega arith
  edit_fewer (EditTakeRefused full new e) n = subst (λ v. climb_edit size v < 6) (sym e) (omega arith)
  edit_fewer (EditPutNew p new e) n = absurd (n p.new p.right refl refl)
  edit_fewer (EditPutOld p new e) n = absurd (n p.at p.left refl refl)
  edit_fewer (EditOpenedNew x y separator new e) n = subst (λ v. climb_edit size v < 8 * size + 36) (sym e) (omega arith)

  -- a change that is over
  edit_over : {what : Seen} {c : Edit} {o : Outcome} → EditCase c what (changed.Over o) → 1 < climb_edit size c
  edit_over (EditOpened x outcome.Edited o e) = omega arith
  edit_over (EditOpened x (outcome.SplitAt separator) o e) = omega arith
  edit_over (EditOpened x outcome.Refused o e) = omega arith

  -- and one that has split its page
  pub split_over : {what : Seen} {c : Edit} {separator : ℕ} → EditCase c what (changed.Over (outcome.SplitAt separator)) → climb_edit size c ≡ 8 * size + 35
  split_over (EditOpened x o last e) = ap (λ v. climb_edit size (edit.Opening x v)) (sym e)

-- only a write that has split its leaf leaves a post
pub not_thin : (thin there was : Option ℕ) (level key : ℕ) → written.Done there (Some (hint.Post level key)) ≡ written.Done was (thin_hint 1 thin) → ⊥
not_thin None there was level key e = cc
not_thin (Some low) there was level key e = cc

pub splits : (noted : Noted) (o : Outcome) (there : Option ℕ) (level key : ℕ) → written.Done there (Some (hint.Post level key)) ≡ write_reply noted o → (s : ℕ) × (o ≡ outcome.SplitAt s)
splits noted outcome.Edited there level key e = absurd (not_thin noted.thin there noted.there level key e)
splits noted (outcome.SplitAt s) there level key e = (s, refl)
splits noted outcome.Refused there level key e = absurd (cc e)

-- and only a post that has split its parent goes on a level higher
pub post_splits : (o : Outcome) (key : ℕ) → listed.Done (Some key) ≡ post_reply o → (s : ℕ) × (o ≡ outcome.SplitAt s)
post_splits outcome.Edited key e = absurd (cc e)
post_splits (outcome.SplitAt s) key e = (s, refl)
post_splits outcome.Refused key e = absurd (cc e)

-- A stage of a post that changes no page has the turns that a post has there.
abbrev pub IsElse : PostStage → Type 0
IsElse (post.Editing c) = ⊥
IsElse stage = Unit {0}

pub widen : (size : ℕ) (contents : ℕ → Page) (level key : ℕ) (b : PostStage) (n : ℕ) → IsElse b → post_left size contents level key b n → posting_left size contents level key b n
widen size contents level key post.New n h l = l
widen size contents level key (post.Coming a) n h l = l
widen size contents level key (post.Growing g) n h l = l
widen size contents level key (post.Walking u) n h l = l
widen size contents level key (post.Editing c) n h l = absurd h
widen size contents level key (post.Staying x r) n h l = l
widen size contents level key (post.Ending r) n h l = l
widen size contents level key (post.Over r) n h l = l

narrow : (size : ℕ) (contents : ℕ → Page) (level key : ℕ) (b : PostStage) (n : ℕ) → IsElse b → posting_left size contents level key b n → post_left size contents level key b n
narrow size contents level key post.New n h l = l
narrow size contents level key (post.Coming a) n h l = l
narrow size contents level key (post.Growing g) n h l = l
narrow size contents level key (post.Walking u) n h l = l
narrow size contents level key (post.Editing c) n h l = absurd h
narrow size contents level key (post.Staying x r) n h l = l
narrow size contents level key (post.Ending r) n h l = l
narrow size contents level key (post.Over r) n h l = l

pub else_or : (b : PostStage) → IsElse b ⊎ ((c : Edit) × (b ≡ post.Editing c))
else_or post.New = inl tt
else_or (post.Coming a) = inl tt
else_or (post.Growing g) = inl tt
else_or (post.Walking u) = inl tt
else_or (post.Editing c) = inr (c, refl)
else_or (post.Staying x r) = inl tt
else_or (post.Ending r) = inl tt
else_or (post.Over r) = inl tt

module _ (w : World Run) (g : IsGood know w) (p : Name) where
  pub writing_fewer : {key : ℕ} {does : KeyWrite} {a b : WriteStage} {what : Seen} (goes : List Goes) (got : ℕ → Page) (turns : ℕ) → WriteCase key does a what b → know (w.proc p) ≡ know_write goes key does got a → IsObserved w.now w.size (write_next_in a) what → ((x : ℕ) (c : Page) → what ≡ seen.Done → write_next_in a ≢ act.Put x c) → writing_left w.size w.now.contents key a turns → Fewer (writing_left w.size w.now.contents key b) what turns
  writing_fewer {does = does} goes got turns (WriteBegan a e) is observed n l = write_fewer w g p {does = does} goes got turns (WriteBegan a e) is observed l
  writing_fewer {does = does} goes got turns (WriteCame a what b t) is observed n l = write_fewer w g p {does = does} goes got turns (WriteCame a what b t) is observed l
  writing_fewer {does = does} goes got turns (WriteKept x c y there h t) is observed n l = write_fewer w g p {does = does} goes got turns (WriteKept x c y there h t) is observed l
  writing_fewer {key} {does} goes got turns (WriteChanged x c noted d h t) is observed n l = fewer _ (seen.Words c) turns (climb_edit w.size d) refl (let plain = performs_plain w.size (effect_of does noted.there) x c key d t.1 in let few = edit_most d in let count = l.count in omega (arith, plain, few, count))
  writing_fewer {does = does} goes got turns (WriteOpened x there r e) is observed n l = write_fewer w g p {does = does} goes got turns (WriteOpened x there r e) is observed l
  writing_fewer goes got turns (WriteEdited noted c what same d t) is observed n l = fewer _ what turns (climb_edit w.size d) refl (let few = edit_fewer w.size (edit_case c what (changed.On d) t.1) n in omega (arith, few, l))
  writing_fewer goes got turns (WriteFinished noted c what r t) is observed n l = fewer _ what turns 1 refl (let some = edit_over w.size (edit_case c what (changed.Over t.0) t.1) in omega (arith, some, l))
  writing_fewer {does = does} goes got turns (WriteEnded r last e) is observed n l = write_fewer w g p {does = does} goes got turns (WriteEnded r last e) is observed l

  module _ (carried : Carried) (level key : ℕ) (least : 0 < level) (most : level ≤ 12) (got : ℕ → Page) (child : ℕ) where
    -- a change begins, or goes on
    to_edit : (a : PostStage) (d : Edit) (what : Seen) (turns : ℕ) → PostCase level key a what (post.Editing d) → ((x : ℕ) (c : Page) → what ≡ seen.Done → post_next_in a ≢ act.Put x c) → posting_left w.size w.now.contents level key a turns → Fewer (posting_left w.size w.now.contents level key (post.Editing d)) what turns
    to_edit a d what turns t n l = by t n l
      where
        by : {a : PostStage} {what : Seen} → PostCase level key a what (post.Editing d) → ((x : ℕ) (c : Page) → what ≡ seen.Done → post_next_in a ≢ act.Put x c) → posting_left w.size w.now.contents level key a turns → Fewer (posting_left w.size w.now.contents level key (post.Editing d)) what turns
        by (PostEntered u c d h) n l = fewer _ (seen.Words c) turns (climb_edit w.size d) refl (let plain = enters_plain w.size u.at (InnerPage u.parent) u.key u.child d h.2 in let few = edit_most d in let count = l.count in omega (arith, plain, few, count))
        by (PostEdited c what d t) n l = fewer _ what turns (climb_edit w.size d) refl (let few = edit_fewer w.size (edit_case c what (changed.On d) t) n in omega (arith, few, l))

    -- a change is over
    from_edit : (c : Edit) (b : PostStage) (what : Seen) (turns : ℕ) → IsElse b → PostGoes level key (post.Editing c) what b → posting_left w.size w.now.contents level key (post.Editing c) turns → Fewer (posting_left w.size w.now.contents level key b) what turns
    from_edit c (post.Ending r) what turns h t l = fewer _ what turns 1 refl (let some = edit_over w.size (edit_case c what (changed.Over t.0) t.1) in omega (arith, some, l))
    from_edit c (post.Editing d) what turns h t l = absurd h
    from_edit c b what turns h t l = absurd t

    pub posting_fewer : (a b : PostStage) (what : Seen) (turns : ℕ) → PostGoes level key a what b → know (w.proc p) ≡ know_post carried level key got child a → IsObserved w.now w.size (post_next_in a) what → ((x : ℕ) (c : Page) → what ≡ seen.Done → post_next_in a ≢ act.Put x c) → posting_left w.size w.now.contents level key a turns → Fewer (posting_left w.size w.now.contents level key b) what turns
    posting_fewer a b what turns t is observed n l = elim (else_or b) [
      | inr e ↦ subst (λ v. Fewer (posting_left w.size w.now.contents level key v) what turns) (sym e.1) (to_edit a e.0 what turns (post_case level key a what (post.Editing e.0) (subst (PostGoes level key a what) e.1 t)) n l)
      | inl other ↦ elim (else_or a) [
        | inr e ↦ from_edit e.0 b what turns other (subst (λ v. PostGoes level key v what b) e.1 t) (subst (λ v. posting_left w.size w.now.contents level key v turns) e.1 l)
        | inl plain ↦
            let r = post_fewer w g p carried level key least most got child a what b turns t is observed n (narrow w.size w.now.contents level key a turns plain l) in
            record { then = r.then; left = widen w.size w.now.contents level key b r.then other r.left; less = r.less }
      ]
    ]
