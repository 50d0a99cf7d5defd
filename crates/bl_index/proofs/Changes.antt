-- What is told of a write of one key.
use Rattle.std.proofs.Common.{ℕ, ◌≡◌, ◌++◌, Option, List, Some, None, true, false, refl, sym, ap, ◌∙◌, subst, inl, inr, arith}
use Rattle.std.specs.Prelude.{◌==◌}
use Rattle.std.proofs.lemmas.Bool.{cases_eq}
use Rattle.bl_model.specs.declared.deciding.KeyWrite.{KeyWrite}
use Rattle.bl_model.specs.declared.deciding.KeyWrite.TheVariants.{Insert, Delete, Change}
use Rattle.bl_model.specs.declared.operation.Op.TheVariants as op
use Rattle.bl_model.specs.declared.operation.Reply.{Reply}
use Rattle.bl_model.specs.declared.operation.Reply.TheVariants as reply
use Rattle.bl_model.specs.declared.deciding.Effect.TheVariants.{Keep, Replace}
use Rattle.bl_model.specs.Writes.{decided, replied}
use Rattle.bl_page.specs.declared.page.Page.{Page}
use Rattle.bl_model.specs.Map.{Map, MayAnswer}
use Rattle.bl_model.specs.History.{final_map}
use Rattle.bl_claims.specs.Trails.{Trail, history_of}
use Rattle.bl_claims.specs.Seeing.{first_map}
use Rattle.bl_answers.specs.declared.answers.Answer.TheVariants.{Op}
use Rattle.bl_answers.specs.declared.answers.Hint.{Hint}
use Rattle.bl_proc_writes.specs.declared.writing.WriteReply.{WriteReply}
use Rattle.bl_proc_writes.specs.declared.writing.WriteReply.TheVariants as written
use Rattle.bl_proc_writes.specs.Writes.{write_answer}
use Rattle.bl_claims.specs.Hinted.{MeansInserted, MeansWritten}
use Rattle.bl_store.specs.Hands.{known, WasRefused}
use Rattle.bl_store.specs.declared.store.Hand.{Hand}
use Rattle.bl_index_rule.specs.declared.known.PassState.{PassState}
use Rattle.bl_index_events.specs.Answered.{InCall}
use Rattle.bl_index_events.specs.Refused.{LacksForPage, LacksForEffect, LacksForWrite}
use Rattle.bl_index_events.specs.Rooms.{LacksWrite}
use Rattle.bl_index_events.proofs.Ends.{op_in_call}
use Rattle.bl_index_write.specs.Events.{HasWritten}
use Rattle.bl_index.specs.declared.index.Pass.{Pass}
use Rattle.bl_index.specs.Calls.{number_of, trail, Writes, Inserts, InsertLacks, WriteLacks}
use Rattle.bl_index_range.proofs.Told.{answered, history_append}

same_reply : (a b : Reply) (h i : Option Hint) → Op a h ≡ Op b i → a ≡ b
same_reply a b h i e = cc

same_hint : (a b : Reply) (h i : Option Hint) → Op a h ≡ Op b i → h ≡ i
same_hint a b h i e = cc

-- a change has no hint beside what it replies
unhinted_reply : (old new : ℕ) (there : Option ℕ) (hint : Option Hint) (marks : Trail) → MeansWritten (replied (Change old new) there) hint marks → hint ≡ None
unhinted_reply old new None hint marks means = means.1
unhinted_reply old new (Some value) hint marks means = elim (cases_eq value old) [
  | inl same ↦ (let e : (value == old) ≡ true = grind arith in let is : replied (Change old new) (Some value) ≡ reply.Changed = rw e refl in (subst (λ z. MeansWritten z hint marks) is means).3)
  | inr other ↦ (let e : (value == old) ≡ false = grind (arith, other) in let is : replied (Change old new) (Some value) ≡ reply.Differs value = rw e refl in (subst (λ z. MeansWritten z hint marks) is means).1)
]

pub change_unhinted : (does : KeyWrite) (old new : ℕ) (r : WriteReply) (said : Reply) (hint : Option Hint) (marks : Trail) → does ≡ Change old new → write_answer does r ≡ Op said hint → MeansWritten said hint marks → hint ≡ None
change_unhinted does old new (written.Done there h) said hint marks is e means =
    unhinted_reply old new there hint marks (subst (λ z. MeansWritten z hint marks) (sym (same_reply _ _ _ _ e) ∙ ap (λ z. replied z there) is) means)
change_unhinted does old new written.NoRoom said hint marks is e means = sym (same_hint _ _ _ _ e)

-- what an insertion may reply tells of an entry, or of nothing
inserted_means : (m : Map) (key value : ℕ) (said : Reply) (hint : Option Hint) (marks : Trail) → MayAnswer m (op.Insert key value) said → MeansWritten said hint marks → MeansInserted said hint marks
inserted_means m key value reply.Inserted hint marks may means = means
inserted_means m key value (reply.Present there) hint marks may means = means
inserted_means m key value reply.NoRoom hint marks may means = means
inserted_means m key value other hint marks may means = absurd may

pub inserts : (first : List (Option Page)) (pass key value : ℕ) (said : Reply) (next : Option Hint) (old new : Trail) → Writes first pass (op.Insert key value) said next old new → Inserts first pass key value said next old new
inserts first pass key value said next old new w =
    let more : Trail = w.answers.holds.more in
    let there = answered (first_map first) pass (record { pass = pass; op = op.Insert key value; reply = said }) (history_of old) (history_of more) (history_of new) (ap history_of w.answers.holds.begins ∙ history_append old more) w.answers.seen.legal w.answers.once in
    record {
      answers = w.answers;
      hint = inserted_means (final_map (first_map first) (history_of old ++ there.before)) key value said next _ there.may w.hint;
      latches = w.latches;
    }

-- what a call lacks that found no room
pub write_lacks : (first : List (Option Page)) (old : Pass) (new : Hand PassState) (key : ℕ) (does : KeyWrite) (hint : Option Hint) → HasWritten (number_of old) (known old.hand.seat) (known new.seat) key does (Op reply.NoRoom hint) → (known old.hand.seat).first ≡ first → LacksWrite key does new.seat → InCall (number_of old) (Some reply.NoRoom) (trail old) (known new.seat).trail (λ marks. LacksForWrite key does marks (WasRefused new.seat))
write_lacks first old new key does hint wrote is lacks = op_in_call first _ _ (known new.seat) _ _ _ _ _ (λ marks. LacksForWrite key does marks (WasRefused new.seat)) wrote.done is refl (ap Some wrote.answer) lacks

-- an insertion enters a pair; a deletion and a change put a leaf again
module _ (key : ℕ) (marks : Trail) (Refused : ℕ → ℕ → Type 0) where
  for_insert : (value : ℕ) → LacksForWrite key (Insert value) marks Refused → LacksForPage 0 key marks Refused
  for_insert value (None, lacks) = lacks
  for_insert value (Some there, lacks) = absurd lacks

  for_delete : LacksForWrite key Delete marks Refused → Refused 0 1
  for_delete (None, lacks) = absurd lacks
  for_delete (Some there, lacks) = lacks

  for_change : (was next : ℕ) → LacksForWrite key (Change was next) marks Refused → Refused 0 1
  for_change was next (None, lacks) = absurd lacks
  for_change was next (Some there, lacks) = elim (cases_eq there was) [
    | inl same ↦ (let e : (there == was) ≡ true = grind arith in subst (λ z. LacksForEffect z key marks Refused) (let f : (decided (Change was next) (Some there)).effect ≡ Replace next = rw e refl in f) lacks)
    | inr other ↦ (let e : (there == was) ≡ false = grind (arith, other) in absurd (subst (λ z. LacksForEffect z key marks Refused) (let f : (decided (Change was next) (Some there)).effect ≡ Keep = rw e refl in f) lacks))
  ]

pub insert_lacks : (old new : Pass) (key value : ℕ) → WriteLacks old key (Insert value) new → InsertLacks old key new
insert_lacks old new key value lacks = record { number = lacks.number; holds = lacks.holds; is = for_insert key _ _ value lacks.is }

pub delete_lacks : (old new : Pass) (key : ℕ) → WriteLacks old key Delete new → WasRefused new.hand.seat 0 1
delete_lacks old new key lacks = for_delete key _ (WasRefused new.hand.seat) lacks.is

pub change_lacks : (old new : Pass) (key was next : ℕ) → WriteLacks old key (Change was next) new → WasRefused new.hand.seat 0 1
change_lacks old new key was next lacks = for_change key _ (WasRefused new.hand.seat) was next lacks.is
