-- The passes of a new index, taken from the last one on.
use Rattle.std.proofs.Common.{ℕ, zero, suc, ◌≡◌, ◌<◌, ◌++◌, Option, List, [], ◌∷◌, All, length, get_or, sym, ap, ◌∙◌, subst, refl, arith}
use Rattle.std.specs.Prelude.{Result, IfOk, IfErr, Ok, Err}
use mathlib.Core.Option.{some}
use lib.ListN.{get_elem?}
use Rattle.atomic_table.proofs.Lists.{at_last, at_longer}
use Rattle.bl_model.specs.declared.operation.Op.{Op}
use Rattle.bl_model.specs.declared.operation.Reply.{Reply}
use Rattle.bl_model.specs.declared.operation.KeyReply.{KeyReply}
use Rattle.bl_model.specs.Replies.{reply_of}
use Rattle.bl_page.specs.declared.page.Page.{Page}
use Rattle.bl_claims.specs.Trails.{Trail}
use Rattle.bl_store.specs.declared.store.Hand.{Hand}
use Rattle.bl_store.specs.Hands.{known, IsSameHand}
use Rattle.bl_index_rule.specs.declared.known.PassState.{PassState}
use Rattle.bl_index_read.specs.declared.finding.OutOfTurns.{OutOfTurns}
use Rattle.bl_index.specs.declared.config.Config.{Config}
use Rattle.bl_index.specs.declared.index.Index.{Index}
use Rattle.bl_index.specs.declared.index.Pass.{Pass}
use Rattle.bl_index.specs.Calls.{IsPassOf, IsSamePass}
use Rattle.bl_index_read.specs.Searching.{Finds, RunsOut, AnswersOrRunsOut, found_of}
use Rattle.bl_index.specs.Opened.{IsBegun, IsIndexOpened}

-- the last pass of an index, and all but the last one
pub last_begun : (image : List (Option Page)) (size among : ℕ) (index : Index) (passes rest : List Pass) (pass : Pass) → IsBegun image size among index passes → passes ≡ rest ++ pass ∷ [] → IsPassOf index pass
last_begun image size among index passes rest pass o e = (o.each (length rest) pass (ap (λ (z : List Pass). get_elem? z (length rest)) e ∙ at_last rest pass (length rest) refl)).0

pub last_pass : (config : Config) (index : Index) (passes rest : List Pass) (pass : Pass) → IsIndexOpened config index passes → passes ≡ rest ++ pass ∷ [] → IsPassOf index pass
last_pass config index passes rest pass o e = last_begun [] config.pages config.passes index passes rest pass o e

pub next_pass : (config : Config) (index : Index) (passes more rest : List Pass) (one two : Pass) → IsIndexOpened config index passes → passes ≡ more ++ two ∷ [] → more ≡ rest ++ one ∷ [] → IsPassOf index one
next_pass config index passes more rest one two o e f = (o.each (length rest) one (ap (λ (z : List Pass). get_elem? z (length rest)) e ∙ at_longer more (two ∷ []) (length rest) one (ap (λ (z : List Pass). get_elem? z (length rest)) f ∙ at_last rest one (length rest) refl))).0

pub same_of : (index : Index) (old new : Pass) → IsSamePass old new → IsPassOf index old → IsPassOf index new
same_of index old new same of = (same.0 ∙ of.0, same.1 ∙ of.1, same.3 ∙ of.2)

-- a pass of an index, as its fields show it
pub of_inside : {index index' : Index} {pass pass' : Pass} → index ≡ index' → pass ≡ pass' → IsPassOf index' pass' → IsPassOf index pass
of_inside at same of = subst (λ (z : Index × Pass). IsPassOf z.0 z.1) (λ i. (sym at i, sym same i)) of

-- the pass has gone on with the same hand, and knows the same beginning
pub same_pass : (old new : Hand PassState) → IsSameHand old.seat new.seat → (known new.seat).first ≡ (known old.seat).first
    → (new.seat.table_id ≡ old.seat.table_id) × (new.seat.me.0.layout ≡ old.seat.me.0.layout) × (new.number ≡ old.number) × ((known new.seat).first ≡ (known old.seat).first)
same_pass old new same first = (same.0, same.1, new.own.0 ∙ (same.2 ∙ sym old.own.0), first)

-- what a search answers is told from what the index began with, where that is the same
pub observed_from : (from first : List (Option Page)) (pages pass turns : ℕ) (op : Op) (result : Result Reply OutOfTurns) (old new : Trail) → from ≡ first → AnswersOrRunsOut from pages pass turns op result old new → AnswersOrRunsOut first pages pass turns op result old new
observed_from from first pages pass turns op result old new same answers = subst (λ (z : List (Option Page)). AnswersOrRunsOut z pages pass turns op result old new) same answers

-- the same of a search of a key
pub key_found : (first : List (Option Page)) (pages pass turns : ℕ) (op : Op) (result : Result KeyReply OutOfTurns) (old new : Trail) → AnswersOrRunsOut first pages pass turns op (found_of result) old new → IfOk result (λ reply. Finds first pages pass turns op (reply_of reply) old new)
key_found first pages pass turns op (Ok reply) old new answers = answers.answered
key_found first pages pass turns op (Err fault) old new answers = tt

pub key_lost : (first : List (Option Page)) (pages pass turns : ℕ) (op : Op) (result : Result KeyReply OutOfTurns) (old new : Trail) → AnswersOrRunsOut first pages pass turns op (found_of result) old new → IfErr result (λ fault. RunsOut first pages pass turns old new)
key_lost first pages pass turns op (Ok reply) old new answers = tt
key_lost first pages pass turns op (Err fault) old new answers = answers.refused

there : (l : List Pass) (i : ℕ) (d : Pass) → i < length l → get_elem? l i ≡ some (get_or l i d)
there [] i d h = absurd (omega arith)
there (x ∷ xs) zero d h = refl
there (x ∷ xs) (suc i) d h = there xs i d (omega arith)

-- all passes of an index
pub all_begun : (image : List (Option Page)) (size among : ℕ) (index : Index) (passes : List Pass) → IsBegun image size among index passes → All (IsPassOf index) passes
all_begun image size among index passes o = λ k d lt. (o.each k (get_or passes k d) (there passes k d lt)).0

pub all_passes : (config : Config) (index : Index) (passes : List Pass) → IsIndexOpened config index passes → All (IsPassOf index) passes
all_passes config index passes o = all_begun [] config.pages config.passes index passes o
