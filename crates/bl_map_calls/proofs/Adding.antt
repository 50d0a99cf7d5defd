-- What the calls of a request tell together.
use Rattle.std.proofs.Common.{ℕ, ◌≡◌, ◌++◌, List, [], ◌∷◌, Option, refl, sym, ap, ◌∙◌, subst, append-nil, append_assoc}
use Rattle.bl_model.specs.declared.operation.Op.{Op}
use Rattle.bl_model.specs.declared.operation.Reply.{Reply}
use Rattle.bl_model.specs.declared.operation.Entry.{Entry}
use Rattle.bl_page.specs.declared.page.Page.{Page}
use Rattle.bl_claims.specs.Trails.{Trail}
use Rattle.bl_index.specs.Calls.{Sweeps}
use Rattle.bl_index_events.specs.Answered.{Answers, SaysNothing as AddsIn}
use Rattle.bl_map_calls.specs.Works.{Works, Adds, Searches, Searched, NoneMade, OneLost, OneMade, Swept, Never, Again}
use Rattle.bl_index_read.specs.Searching.{Finds, RunsOut}

pub nothing : (first : List (Option Page)) (pass : ℕ) (old : Trail) → Adds first pass old old
nothing first pass old = record { begins = ([], sym (append-nil old)); seen = λ s. s; none = refl }

pub then_adds : (first : List (Option Page)) (pass : ℕ) (old mid new : Trail) → Adds first pass old mid → Adds first pass mid new → Adds first pass old new
then_adds first pass old mid new a b = record {
  begins = (a.begins.0 ++ b.begins.0, b.begins.1 ∙ (ap (λ (z : Trail). z ++ b.begins.0) a.begins.1 ∙ append_assoc old a.begins.0 b.begins.0));
  seen = λ s. b.seen (a.seen s);
  none = b.none ∙ a.none;
}

pub adds_as : (first : List (Option Page)) (pass it : ℕ) (old new : Trail) → it ≡ pass → Adds first it old new → Adds first pass old new
adds_as first pass it old new e a = subst (λ (z : ℕ). Adds first z old new) e a

-- a search that ran out of turns, or a post
pub call_adds : (first : List (Option Page)) (pass it : ℕ) (old new : Trail) → it ≡ pass → AddsIn first it old new → Adds first pass old new
call_adds first pass it old new e a = adds_as first pass it old new e (record { begins = (_, a.holds.begins); seen = λ s. a.seen; none = a.none })

pub sweep_adds : (first : List (Option Page)) (pass it answer : ℕ) (old new : Trail) → it ≡ pass → Sweeps first it answer old new → Adds first pass old new
sweep_adds first pass it answer old new e s = adds_as first pass it old new e (record { begins = (s.more, s.begins); seen = s.seen; none = s.none })

pub call_works : (first : List (Option Page)) (pass it : ℕ) (op : Op) (reply : Reply) (old new : Trail) → it ≡ pass → Answers first it op reply old new → Works first pass op reply old new
call_works first pass it op reply old new e a = subst (λ (z : ℕ). Works first z op reply old new) e (record { begins = (_, a.holds.begins); seen = a.seen; once = a.once })

pub works_on : (first : List (Option Page)) (pass : ℕ) (op : Op) (reply : Reply) (old mid new : Trail) → Works first pass op reply old mid → Adds first pass mid new → Works first pass op reply old new
works_on first pass op reply old mid new a b = record {
  begins = (a.begins.0 ++ b.begins.0, b.begins.1 ∙ (ap (λ (z : Trail). z ++ b.begins.0) a.begins.1 ∙ append_assoc old a.begins.0 b.begins.0));
  seen = b.seen a.seen;
  once = b.none ∙ a.once;
}

pub adds_works : (first : List (Option Page)) (pass : ℕ) (op : Op) (reply : Reply) (old mid new : Trail) → Adds first pass old mid → Works first pass op reply mid new → Works first pass op reply old new
adds_works first pass op reply old mid new a b = record {
  begins = (a.begins.0 ++ b.begins.0, b.begins.1 ∙ (ap (λ (z : Trail). z ++ b.begins.0) a.begins.1 ∙ append_assoc old a.begins.0 b.begins.0));
  seen = b.seen;
  once = b.once ∙ ap (λ (z : List Entry). z ++ record { pass = pass; op = op; reply = reply } ∷ []) a.none;
}

pub swept_adds : (first : List (Option Page)) (pass : ℕ) (old new : Trail) → Swept first pass old new → Adds first pass old new
swept_adds first pass old new Never = nothing first pass old
swept_adds first pass old new (Again {mid = mid} {answer = answer} s one) = then_adds first pass old mid new (swept_adds first pass old mid s) (sweep_adds first pass pass answer mid new refl one)

pub swept_as : (first : List (Option Page)) (pass it : ℕ) (old new : Trail) → it ≡ pass → Swept first it old new → Swept first pass old new
swept_as first pass it old new e s = subst (λ (z : ℕ). Swept first z old new) e s

pub swept_more : (first : List (Option Page)) (pass it answer : ℕ) (old mid new : Trail) → it ≡ pass → Swept first pass old mid → Sweeps first it answer mid new → Swept first pass old new
swept_more first pass it answer old mid new e s one = Again s (subst (λ (z : ℕ). Sweeps first z answer mid new) e one)

swept_on_own : (first : List (Option Page)) (pass : ℕ) (old mid new : Trail) → Swept first pass old mid → Swept first pass mid new → Swept first pass old new
swept_on_own first pass old mid new s Never = s
swept_on_own first pass old mid new s (Again {mid = next} t one) = Again (swept_on_own first pass old mid next s t) one

pub swept_on : (first : List (Option Page)) (pass it : ℕ) (old mid new : Trail) → it ≡ pass → Swept first pass old mid → Swept first it mid new → Swept first pass old new
swept_on first pass it old mid new e s t = swept_on_own first pass old mid new s (swept_as first pass it mid new e t)

pub lost_more : (first : List (Option Page)) (pages pass it turns : ℕ) (es : List Entry) (old mid new : Trail) → it ≡ pass → turns ≡ pages → Searches first pages pass es old mid → RunsOut first pages it turns mid new → Searches first pages pass es old new
lost_more first pages pass it turns es old mid new e f s r =
    OneLost s (subst (λ (z : ℕ). RunsOut first pages pass z mid new) f (subst (λ (z : ℕ). RunsOut first pages z turns mid new) e r))

pub made_more : (first : List (Option Page)) (pages pass it turns : ℕ) (es : List Entry) (e : Entry) (old mid new : Trail) → it ≡ pass → turns ≡ pages → Searches first pages pass es old mid → Finds first pages it turns e.op e.reply mid new → Searches first pages pass (es ++ e ∷ []) old new
made_more first pages pass it turns es e old mid new same f s r =
    OneMade e s (subst (λ (z : ℕ). Finds first pages pass z e.op e.reply mid new) f (subst (λ (z : ℕ). Finds first pages z turns e.op e.reply mid new) same r))

-- the first that was answered
pub made_one : (first : List (Option Page)) (pages pass it turns : ℕ) (op : Op) (reply : Reply) (old mid new : Trail) → it ≡ pass → turns ≡ pages → Searches first pages pass [] old mid → Finds first pages it turns op reply mid new → Searched first pages pass op reply old new
made_one first pages pass it turns op reply old mid new same f s r = made_more first pages pass it turns [] (record { pass = pass; op = op; reply = reply }) old mid new same f s r

pub searches_then : (first : List (Option Page)) (pages pass : ℕ) (es fs : List Entry) (old mid new : Trail) → Searches first pages pass es old mid → Searches first pages pass fs mid new → Searches first pages pass (es ++ fs) old new
searches_then first pages pass es fs old mid new s NoneMade = subst (λ (z : List Entry). Searches first pages pass z old mid) (sym (append-nil es)) s
searches_then first pages pass es fs old mid new s (OneLost t r) = OneLost (searches_then first pages pass es fs old _ _ s t) r
searches_then first pages pass es fs old mid new s (OneMade {es = before} e t r) =
    subst (λ (z : List Entry). Searches first pages pass z old new) (append_assoc es before (e ∷ [])) (OneMade e (searches_then first pages pass es before old _ _ s t) r)
