-- Searches that set off one behind another.
use Rattle.std.proofs.Common.{ℕ, ◌≡◌, ◌++◌, ◌+◌, ◌<◌, List, [], ◌∷◌, Option, sym, subst, length, take, set, get_or, arith}
use Rattle.std.proofs.lemmas.List.{take_more, take_more_set}
use Rattle.bl_model.specs.declared.operation.Op.TheVariants as op
use Rattle.bl_model.specs.declared.operation.KeyReply.{KeyReply}
use Rattle.bl_model.specs.Replies.{reply_of}
use Rattle.bl_page.specs.declared.page.Page.{Page}
use Rattle.bl_claims.specs.Trails.{Trail}
use Rattle.bl_proc_steps.specs.declared.descent.Descent.{Descent}
use Rattle.bl_store.specs.Hands.{IsSameHand}
use Rattle.bl_store.specs.declared.store.Hand.{Hand}
use Rattle.bl_index_rule.specs.declared.known.PassState.{PassState}
use Rattle.bl_index_events.specs.declared.tree.Tree.{Tree}
use Rattle.bl_index_read.specs.declared.sought.Sought.TheVariants.{Value}
use Rattle.bl_index_read.specs.LeafWays.{HasSetOff}
use Rattle.bl_index_read.specs.Searching.{Finds}
use Rattle.bl_index_read.specs.Together.{FindsEach, OneMore}
use Rattle.bl_index_read.proofs.Setting.{same_number}

-- one that has set off as a process of the pass has done so as one of the same hand
pub off_again : (tree : Tree) (old hand : Hand PassState) → IsSameHand old.seat hand.seat → (key : ℕ) (way : Descent) (mid : PassState) → HasSetOff tree hand old.number Value key way mid → HasSetOff tree hand hand.number Value key way mid
off_again tree old hand same key way mid off = subst (λ (z : ℕ). HasSetOff tree hand z Value key way mid) (sym (same_number old hand same)) off

-- one search more was answered
pub one_more : (first mine : List (Option Page)) (pages pass it turns : ℕ) (keys : List ℕ) (replies : List KeyReply) (i : ℕ) (reply : KeyReply) (old mid new : Trail) → mine ≡ first → it ≡ pass → i < length keys → length replies ≡ length keys → FindsEach first pages pass turns (take i keys) (take i replies) old mid → Finds mine pages it turns (op.Find (get_or keys i 0)) (reply_of reply) mid new → FindsEach first pages pass turns (take (i + 1) keys) (take (i + 1) (set replies i reply)) old new
one_more first mine pages pass it turns keys replies i reply old mid new e same within long each finds =
    let more : FindsEach first pages pass turns (take i keys ++ get_or keys i 0 ∷ []) (take i replies ++ reply ∷ []) old new =
    OneMore (get_or keys i 0) reply each (subst (λ (z : List (Option Page) × ℕ). Finds z.0 pages z.1 turns (op.Find (get_or keys i 0)) (reply_of reply) mid new) (λ j. (e j, same j)) finds) in
    subst (λ (z : List ℕ × List KeyReply). FindsEach first pages pass turns z.0 z.1 old new) (λ j. (sym (take_more keys i 0 within) j, sym (take_more_set replies i reply (omega (arith, within, long))) j)) more
