-- What calls tell that may give up: their answers, where they have one.
use Rattle.std.proofs.Common.{ℕ, ◌≡◌, Option, Some, None, List, refl, sym, ap, ◌∙◌, subst}
use Rattle.std.specs.Prelude.{IfSome, IfNone}
use Rattle.atomic_table.specs.declared.shared.Seat.{Seat}
use Rattle.bl_model.specs.declared.deciding.KeyWrite.{KeyWrite}
use Rattle.bl_model.specs.declared.operation.KeyReply.{KeyReply}
use Rattle.bl_model.specs.declared.operation.KeyReply.TheVariants as told
use Rattle.bl_model.specs.declared.operation.Reply.TheVariants as reply
use Rattle.bl_model.specs.Replies.{reply_of}
use Rattle.bl_model.specs.Writes.{write_op}
use Rattle.bl_page.specs.declared.page.Page.{Page}
use Rattle.bl_claims.specs.Trails.{Trail}
use Rattle.bl_answers.specs.declared.answers.Answer.TheVariants.{Op}
use Rattle.bl_answers.specs.declared.answers.Hint.{Hint}
use Rattle.bl_answers.specs.declared.answers.Posted.{Posted}
use Rattle.bl_answers.specs.declared.answers.Posted.TheVariants as posted
use Rattle.bl_answers.specs.declared.answers.Squeezed.{Squeezed}
use Rattle.bl_proc.specs.declared.kinds.Proc.{Proc}
use Rattle.bl_proc_deterministic.specs.Frames.{work_of}
use Rattle.bl_store_rule.specs.declared.view.View.{View}
use Rattle.bl_store.specs.declared.store.Hand.{Hand}
use Rattle.bl_store.specs.Hands.{known, IsSameHand, WasRefused}
use Rattle.bl_index_rule.specs.declared.known.PassState.{PassState}
use Rattle.bl_index_events.specs.Answered.{InCall, Undone}
use Rattle.bl_index_events.specs.Held.{own_marks}
use Rattle.bl_index_events.specs.Refused.{LacksForPost, LacksForWrite}
use Rattle.bl_index_events.specs.Rooms.{LacksPost, LacksWrite}
use Rattle.bl_index_events.specs.Runs.{IsWithin}
use Rattle.bl_index_events.proofs.Ends.{op_answered, op_beside}
use Rattle.bl_index_write.specs.Events.{HasWritten, HasPosted}
use Rattle.bl_index_compress.specs.CompressStands.{HasCompressed}
use Rattle.bl_index.specs.declared.index.Index.{Index}
use Rattle.bl_index.specs.declared.index.Pass.{Pass}
use Rattle.bl_index.specs.Calls.{first_of, number_of, trail, IsPassOf, StepsAlone, Writes, Posts, Compresses, GivesUp}
use Rattle.bl_index.proofs.Alone.{steps_alone}
use Rattle.bl_index.proofs.Changes.{write_lacks}
use Rattle.bl_index.proofs.Posts.{post_answered, post_in_call}
use Rattle.bl_index.proofs.CompressEnds.{compress_answered}

-- ---- a call that was not done

undone_in : (Left : Trail → Type 0) (first : List (Option Page)) (pass : ℕ) (old e : PassState) → old.first ≡ first → Undone Left pass old e → GivesUp Left first pass old.trail e.trail
undone_in Left first pass old e begins u = subst (λ (z : List (Option Page)). GivesUp Left z pass old.trail e.trail) begins (record { adds = u.says; left = u.left })

pub undone_told : {A : Type 0} (Left : Trail → Type 0) (from : List (Option Page)) (pass : ℕ) (old e : PassState) → old.first ≡ from → (r : Option A) → IfNone r (Undone Left pass old e) → IfNone r (GivesUp Left from pass old.trail e.trail)
undone_told Left from pass old e begins None h = undone_in Left from pass old e begins h
undone_told Left from pass old e begins (Some what) h = tt

pub left_as : {A : Type 0} (Left : ℕ → Trail → Type 0) (from : List (Option Page)) (pass level level' : ℕ) (old new : Trail) (r : Option A) → level ≡ level' → IfNone r (GivesUp (Left level) from pass old new) → IfNone r (GivesUp (Left level') from pass old new)
left_as Left from pass level level' old new r is h = subst (λ (z : ℕ). IfNone r (GivesUp (Left z) from pass old new)) is h

-- ---- a write

pub write_told : (from : List (Option Page)) (pass : ℕ) (old e : PassState) (key : ℕ) (does : KeyWrite) → old.first ≡ from → (r : Option (KeyReply × Option Hint))
    → IfSome r (λ said. HasWritten pass old e key does (Op (reply_of said.0) said.1)) → IfSome r (λ said. Writes from pass (write_op key does) (reply_of said.0) said.1 old.trail e.trail)
write_told from pass old e key does begins None h = tt
write_told from pass old e key does begins (Some said) h = record {
  answers = op_answered _ _ _ _ _ _ _ _ _ h.done begins refl (ap Some h.answer);
  latches = h.done.tidy;
  hint = op_beside _ _ _ _ _ _ _ h.done (ap Some h.answer);
}

pub write_refused : (first : List (Option Page)) (old : Pass) (new : Hand PassState) (key : ℕ) (does : KeyWrite) → (known old.hand.seat).first ≡ first → (r : Option (KeyReply × Option Hint))
    → IfSome r (λ said. HasWritten (number_of old) (known old.hand.seat) (known new.seat) key does (Op (reply_of said.0) said.1))
    → IfSome r (λ said. said.0 ≡ told.NoRoom → LacksWrite key does new.seat)
    → IfSome r (λ said. said.0 ≡ told.NoRoom → InCall (number_of old) (Some reply.NoRoom) (trail old) (known new.seat).trail (λ marks. LacksForWrite key does marks (WasRefused new.seat)))
write_refused first old new key does begins None h lacks = tt
write_refused first old new key does begins (Some said) h lacks = λ none.
    let wrote = subst (λ (z : KeyReply). HasWritten (number_of old) (known old.hand.seat) (known new.seat) key does (Op (reply_of z) said.1)) none h in
    write_lacks first old new key does said.1 wrote begins (lacks none)

pub write_alone : (index : Index) (old : Pass) (h : Seat (Unit {0}) (View PassState)) → IsPassOf index old → IsSameHand old.hand.seat h → IsWithin h → (key : ℕ) (does : KeyWrite) (r : Option (KeyReply × Option Hint))
    → IfSome r (λ said. Writes (first_of index) (number_of old) (write_op key does) (reply_of said.0) said.1 (trail old) (known h).trail)
    → IfSome r (λ said. StepsAlone (first_of index) index (write_op key does) (reply_of said.0) (trail old) (known h).trail)
write_alone index old h of same within key does None w = tt
write_alone index old h of same within key does (Some said) w = steps_alone index old h (write_op key does) of same within (reply_of said.0) w.answers

-- ---- a post

pub post_told : (from : List (Option Page)) (pass : ℕ) (old e : PassState) (level key level' key' : ℕ) → old.first ≡ from → level ≡ level' → key ≡ key' → (r : Option (Posted × Option Hint))
    → IfSome r (λ said. (first : Proc) × (work_of first ≡ Some (level, key)) × HasPosted pass old e first said.0 said.1)
    → IfSome r (λ said. Posts from pass level' key' said.0 said.1 old.trail e.trail)
post_told from pass old e level key level' key' begins is is' None h = tt
post_told from pass old e level key level' key' begins is is' (Some said) h =
    post_answered from pass old e h.0 h.2.last level' key' said.0 said.1 h.2.done begins (h.1 ∙ (λ i. Some (is i, is' i))) h.2.answer

pub post_refused : (from : List (Option Page)) (pass : ℕ) (old : PassState) (h : Seat (Unit {0}) (View PassState)) (level key level' key' : ℕ) → old.first ≡ from → level ≡ level' → key ≡ key' → (r : Option (Posted × Option Hint))
    → IfSome r (λ said. (first : Proc) × (work_of first ≡ Some (level, key)) × HasPosted pass old (known h) first said.0 said.1)
    → IfSome r (λ said. said.0 ≡ posted.NoRoom → LacksPost level key h)
    → IfSome r (λ said. said.0 ≡ posted.NoRoom → InCall pass None old.trail (known h).trail (λ marks. LacksForPost level' key' marks (WasRefused h)))
post_refused from pass old h level key level' key' begins is is' None p lacks = tt
post_refused from pass old h level key level' key' begins is is' (Some said) p lacks = λ none.
    let so = subst (λ (z : ℕ × ℕ). LacksForPost z.0 z.1 (own_marks (known h)) (WasRefused h)) (λ i. (is i, is' i)) (lacks none) in
    post_in_call from pass old (known h) p.0 p.2.last level' key' (λ marks. LacksForPost level' key' marks (WasRefused h)) p.2.done begins (p.1 ∙ (λ i. Some (is i, is' i))) so

-- ---- a compression

pub compress_told : (from : List (Option Page)) (pass : ℕ) (old e : PassState) (level key level' key' : ℕ) → old.first ≡ from → level ≡ level' → key ≡ key' → (r : Option (Squeezed × Option Hint))
    → IfSome r (λ said. (first : Proc) × (work_of first ≡ Some (level, key)) × HasCompressed pass old e first said.0 said.1)
    → IfSome r (λ said. Compresses from pass level' key' said.0 said.1 old.trail e.trail)
compress_told from pass old e level key level' key' begins is is' None h = tt
compress_told from pass old e level key level' key' begins is is' (Some said) h =
    compress_answered from pass old e h.0 h.2.last level' key' said.0 said.1 h.2.done begins (h.1 ∙ (λ i. Some (is i, is' i))) h.2.answer
