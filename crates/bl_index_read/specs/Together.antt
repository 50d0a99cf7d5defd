-- Searches one after another, of which each sets off where the one before it ends.
use Rattle.std.specs.Prelude.{◌≡◌, ◌≤◌, ◌<◌, ◌++◌, ℕ, List, [], ◌∷◌, Option, Result, Ok, Err, length, take}
use Rattle.bl_model.specs.declared.operation.Op.TheVariants as op
use Rattle.bl_model.specs.declared.operation.KeyReply.{KeyReply}
use Rattle.bl_model.specs.Replies.{reply_of}
use Rattle.bl_page.specs.declared.page.Page.{Page}
use Rattle.bl_claims.specs.Trails.{Trail}
use Rattle.bl_claims.specs.Seeing.{IsSeen}
use Rattle.bl_proc_steps.specs.declared.descent.Descent.{Descent}
use Rattle.bl_store.specs.Hands.{known}
use Rattle.bl_store.specs.declared.store.Hand.{Hand}
use Rattle.bl_index_rule.specs.declared.known.PassState.{PassState}
use Rattle.bl_index_events.specs.declared.tree.Tree.{Tree}
use Rattle.bl_index_events.specs.Runs.{Rests}
use Rattle.bl_index_read.specs.declared.finding.OutOfTurns.{OutOfTurns}
use Rattle.bl_index_read.specs.declared.sought.Sought.TheVariants.{Value}
use Rattle.bl_index_read.specs.LeafWays.{HasSetOff}
use Rattle.bl_index_read.specs.Searching.{Finds, RunsOut}

-- The search was answered and has ended, and the pass knew that then: the search for the next key has set off.
pub record FindsBefore (tree : Tree) (hand : Hand PassState) (pass turns key next : ℕ) (old : PassState) (reply : KeyReply) (way : Descent) : Type 0 where
  pub between : PassState
  pub off : HasSetOff tree hand pass Value next way between
  pub first : between.first ≡ old.first
  pub finds : Finds old.first tree.store.layout.pages pass turns (op.Find key) (reply_of reply) old.trail between.trail

-- The search ran out of turns, and the pass rests.
pub record StopsThere (tree : Tree) (hand : Hand PassState) (pass turns : ℕ) (old : PassState) : Type 0 where
  pub rests : Rests hand.seat
  pub first : (known hand.seat).first ≡ old.first
  pub seen : IsSeen (known hand.seat).first (known hand.seat).trail
  pub out : RunsOut old.first tree.store.layout.pages pass turns old.trail (known hand.seat).trail

-- One or the other.
abbrev pub GoesToNext : Tree → Hand PassState → ℕ → ℕ → ℕ → ℕ → PassState → Result (KeyReply × Descent) OutOfTurns → Type 0
GoesToNext tree hand pass turns key next old (Ok on) = FindsBefore tree hand pass turns key next old on.0 on.1
GoesToNext tree hand pass turns key next old (Err fault) = StopsThere tree hand pass turns old

-- The pass has made searches for these keys, one after another, each with so many turns, and has done nothing else: they were answered so.
pub data FindsEach (first : List (Option Page)) (pages pass turns : ℕ) : List ℕ → List KeyReply → Trail → Trail → Type 0 where
  NoneSought : {old : Trail} → FindsEach first pages pass turns [] [] old old
  OneMore : {keys : List ℕ} {replies : List KeyReply} {old mid new : Trail} (key : ℕ) (reply : KeyReply)
      → FindsEach first pages pass turns keys replies old mid
      → Finds first pages pass turns (op.Find key) (reply_of reply) mid new
      → FindsEach first pages pass turns (keys ++ key ∷ []) (replies ++ reply ∷ []) old new

-- So many of the searches were answered. Where these are not all, the next one ran out of turns.
pub record FindsUpTo (first : List (Option Page)) (pages pass turns : ℕ) (keys : List ℕ) (replies : List KeyReply) (count : ℕ) (old new : Trail) : Type 0 where
  pub most : count ≤ length keys
  pub mid : Trail
  pub each : FindsEach first pages pass turns (take count keys) (take count replies) old mid
  pub all : count ≡ length keys → new ≡ mid
  pub stops : count < length keys → RunsOut first pages pass turns mid new
