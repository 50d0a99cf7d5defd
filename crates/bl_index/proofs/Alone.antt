-- An index of one pass: its history is the pass's own, so that a call is one step of the map.
use Rattle.std.specs.Prelude.{Result, Ok, Err, IfOk}
use Rattle.std.proofs.Common.{ℕ, ◌≡◌, ◌<◌, ◌++◌, suc, Option, Some, None, List, [], ◌∷◌, All, refl, sym, ap, ◌∙◌, subst, arith}
use Rattle.std.proofs.lemmas.List.Elements.{All-nil, All-cons}
use Rattle.bl_layout.specs.declared.layout.Layout.{Layout}
use Rattle.bl_model.specs.declared.operation.Op.{Op}
use Rattle.bl_model.specs.declared.operation.Reply.{Reply}
use Rattle.bl_model.specs.declared.operation.Entry.{Entry}
use Rattle.bl_model.specs.Map.{Map, IsMapStep}
use Rattle.bl_model.specs.History.{IsLegalFrom, final_map}
use Rattle.bl_model.proofs.Histories.{final_map-push, legal_rest, entries_of_pass-own}
use Rattle.bl_page.specs.declared.page.Page.{Page}
use Rattle.bl_page.specs.Machine.{Name}
use Rattle.bl_claims.specs.Trails.{Said, Trail, entries_at, history_of}
use Rattle.bl_claims.specs.Seeing.{first_map, IsLinearizable, own, AreWithin}
use Rattle.bl_index.specs.declared.index.Index.{Index}
use Rattle.bl_index.specs.declared.index.Pass.{Pass}
use Rattle.bl_model.specs.Replies.{reply_of}
use Rattle.bl_index_read.specs.Searching.{found_of, AnswersOrRunsOut}
use Rattle.bl_index_read.specs.declared.finding.OutOfTurns.{OutOfTurns}
use Rattle.bl_model.specs.declared.operation.KeyReply.{KeyReply}
use Rattle.bl_index.specs.Calls.{passes_of, first_of, number_of, trail, IsPassOf, IsSamePass, StepsAlone, StaysAlone, map_after}
use Rattle.bl_index_events.specs.Answered.{Answers}
use Rattle.bl_index_events.specs.Runs.{IsWithin}
use Rattle.atomic_table.specs.declared.shared.Seat.{Seat}
use Rattle.bl_store_rule.specs.declared.view.View.{View}
use Rattle.bl_store.specs.Hands.{known, IsSameHand}
use Rattle.bl_index_rule.specs.declared.known.PassState.{PassState}

abbrev OfFirst : Entry → Type 0
OfFirst e = e.pass ≡ 0

first_entries : (p : Name) (said : Option Said) (es : List Entry) → p.pass < 1 → All OfFirst es → All OfFirst (entries_at p said ++ es)
first_entries p None es l all = all
first_entries p (Some s) es l all = All-cons OfFirst (record { pass = p.pass; op = s.op; reply = s.reply }) es (omega arith) all

all_first : (trail : Trail) → AreWithin 1 trail → All OfFirst (history_of trail)
all_first [] w = All-nil OfFirst
all_first (m ∷ ms) w = first_entries m.event.process m.said (history_of ms) (w m (0, omega arith, refl)) (all_first ms (λ n c. w n (suc c.0, (let l = c.1 in omega arith), c.2)))

whole_own : (trail : Trail) → AreWithin 1 trail → own 0 trail ≡ history_of trail
whole_own trail w = entries_of_pass-own 0 (history_of trail) (all_first trail w)

-- a call that adds an entry is a step of the map
pub alone_answers : (from : List (Option Page)) (op : Op) (reply : Reply) (old new : Trail) → AreWithin 1 old → AreWithin 1 new → IsLinearizable from new → own 0 new ≡ own 0 old ++ record { pass = 0; op = op; reply = reply } ∷ [] → IsMapStep (map_after from old) op reply (map_after from new)
alone_answers from op reply old new w v seen once =
    let e : Entry = record { pass = 0; op = op; reply = reply } in
    let grown : history_of new ≡ history_of old ++ e ∷ [] = sym (whole_own new v) ∙ (once ∙ ap (λ (z : List Entry). z ++ e ∷ []) (whole_own old w)) in
    let legal : IsLegalFrom (first_map from) (history_of old ++ e ∷ []) = subst (IsLegalFrom (first_map from)) grown seen.legal in
    let last = legal_rest (first_map from) (history_of old) (e ∷ []) legal in
    record {
      answer = last.0;
      after = λ key. ap (λ (m : Map). m key) (ap (final_map (first_map from)) grown ∙ final_map-push (first_map from) (history_of old) e);
    }

-- a call that adds none leaves the map
pub alone_stays : (from : List (Option Page)) (old new : Trail) → AreWithin 1 old → AreWithin 1 new → own 0 new ≡ own 0 old → map_after from new ≡ map_after from old
alone_stays from old new w v none = ap (final_map (first_map from)) (sym (whole_own new v) ∙ (none ∙ whole_own old w))

-- what a pass has seen was done by the passes of its index
pub pass_within : (index : Index) (pass : Pass) → IsPassOf index pass → AreWithin (passes_of index) (trail pass)
pass_within index pass of = subst (λ (z : Layout). AreWithin z.passes (trail pass)) of.1 pass.within

-- a call of the only pass
module _ (index : Index) (old : Pass) (h : Seat (Unit {0}) (View PassState)) (op : Op) (of : IsPassOf index old) (same : IsSameHand old.hand.seat h) (within : IsWithin h) where
  abbrev new : Trail
  new = (known h).trail

  pub steps_alone : (reply : Reply) → Answers (first_of index) (number_of old) op reply (trail old) new → StepsAlone (first_of index) index op reply (trail old) new
  steps_alone reply answers one =
      let l : Layout = old.hand.seat.me.0.layout in
      let passes : l.passes ≡ 1 = ap (λ (z : Layout). z.passes) of.1 ∙ one in
      let mine = old.hand.own in
      let first : number_of old ≡ 0 = omega (arith, mine.0, mine.1, passes) in
      let all : h.me.0.layout.passes ≡ 1 = ap (λ (z : Layout). z.passes) same.1 ∙ passes in
      alone_answers (first_of index) op reply (trail old) new
      (subst (λ (z : ℕ). AreWithin z (trail old)) one (pass_within index old of))
      (subst (λ (z : ℕ). AreWithin z new) all within)
      answers.seen
      (subst (λ (n : ℕ). own n new ≡ own n (trail old) ++ record { pass = n; op = op; reply = reply } ∷ []) first answers.once)

  pub finds_alone : (pages turns : ℕ) (result : Result Reply OutOfTurns) → AnswersOrRunsOut (first_of index) pages (number_of old) turns op result (trail old) new → IfOk result (λ reply. StepsAlone (first_of index) index op reply (trail old) new)
  finds_alone pages turns (Ok reply) answered = steps_alone reply answered.answered.answers
  finds_alone pages turns (Err fault) answered = tt

  pub keys_alone : (pages turns : ℕ) (result : Result KeyReply OutOfTurns) → AnswersOrRunsOut (first_of index) pages (number_of old) turns op (found_of result) (trail old) new → IfOk result (λ reply. StepsAlone (first_of index) index op (reply_of reply) (trail old) new)
  keys_alone pages turns (Ok reply) answered = steps_alone (reply_of reply) answered.answered.answers
  keys_alone pages turns (Err fault) answered = tt

-- A call of the only pass that adds no entry.
pub stays_alone : (index : Index) (old new : Pass) → IsPassOf index old → IsSamePass old new → own (number_of old) (trail new) ≡ own (number_of old) (trail old) → StaysAlone (first_of index) index (trail old) (trail new)
stays_alone index old new of same none one =
    let passes : old.hand.seat.me.0.layout.passes ≡ 1 = ap (λ (z : Layout). z.passes) of.1 ∙ one in
    let mine = old.hand.own in
    let first : number_of old ≡ 0 = omega (arith, mine.0, mine.1, passes) in
    alone_stays (first_of index) (trail old) (trail new)
    (subst (λ (z : ℕ). AreWithin z (trail old)) one (pass_within index old of))
    (subst (λ (z : ℕ). AreWithin z (trail new)) (ap (λ (z : Layout). z.passes) (same.1 ∙ of.1) ∙ one) new.within)
    (subst (λ (n : ℕ). own n (trail new) ≡ own n (trail old)) first none)
