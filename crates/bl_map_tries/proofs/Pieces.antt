-- What calls add that wait for nothing, and how pieces of upkeep are tried one after another.
use Rattle.std.proofs.Common.{ℕ, suc, true, false, ◌≡◌, ◌≢◌, ◌<◌, Option, Some, None, List, [], refl, sym, ap, ◌∙◌, subst, inl, inr, arith}
use Rattle.std.specs.Prelude.{◌⊎◌}
use Rattle.bl_model.specs.declared.operation.Op.{Op}
use Rattle.bl_model.specs.declared.operation.Reply.{Reply}
use Rattle.bl_page.specs.declared.page.Page.{Page}
use Rattle.bl_claims.specs.Trails.{Trail}
use Rattle.bl_claims.specs.Meanings.{HasRaised}
use Rattle.bl_answers.specs.declared.answers.Hint.{Hint}
use Rattle.bl_answers.specs.declared.answers.Hint.TheVariants as hint
use Rattle.bl_answers.specs.declared.answers.Posted.{Posted}
use Rattle.bl_answers.specs.declared.answers.Posted.TheVariants as posting
use Rattle.bl_answers.specs.declared.answers.Squeezed.{Squeezed}
use Rattle.bl_answers.specs.declared.answers.Squeezed.TheVariants as squeezed
use Rattle.bl_waiting.specs.declared.waiting.Waiting.{Waiting}
use Rattle.bl_waiting.specs.Queue.{hints_of, IsKept, IsTaken}
use Rattle.bl_index_events.specs.Answered.{WritesNothing}
use Rattle.bl_index.specs.Calls.{Posts, Compresses, GivesUp, Writes}
use Rattle.bl_map_calls.specs.declared.upkeep.Followed.{Followed}
use Rattle.bl_map_calls.specs.declared.upkeep.Followed.TheVariants as followed
use Rattle.bl_map_calls.specs.Works.{Works, Adds, Swept}
use Rattle.bl_map_calls.specs.Follows.{may_fall, Lowers}
use Rattle.bl_map_tries.specs.declared.walking.Walk.{Walk}
use Rattle.bl_map_tries.specs.Tries.{StopsLowering, left_behind, TriesHint, WasFollowed, WasGivenUp, HasNotLowered, is_done, left_of, TriesNext, NothingWaits, OldestTried}
use Rattle.bl_map_tries.specs.Tries.{TriesPieces, AsManyDone, NoneWaits, OneDone, OneNotDone, Mends, NoneFound, OneFound, LooksForRoom, WritesAtOnce, WritesNone, LooksOn, KeepsUp}
use Rattle.bl_map_calls.proofs.Adding.{nothing, then_adds, call_adds, call_works, adds_works, swept_adds, swept_as}
use Rattle.bl_map_calls.proofs.Following.{hint_adds, lowers_add, stays_adds, posted, post_refused, compressed, compression_refused}

-- ---- what they add

stops_add : (first : List (Option Page)) (pass most : ℕ) (old new : Trail) → StopsLowering first pass most old new → Adds first pass old new
stops_add first pass most old new s =
    then_adds first pass old s.mid new (lowers_add first pass s.taken old s.mid s.lowers)
    (then_adds first pass s.mid s.last new (swept_adds first pass s.mid s.last s.swept) (call_adds first pass pass s.last new refl s.gives_up.adds))

pub tried_adds : (first : List (Option Page)) (pass : ℕ) (h : Hint) (result : Option Followed) (old new : Trail) → TriesHint first pass h result old new → Adds first pass old new
tried_adds first pass h result old new (WasFollowed {result = r} f) = hint_adds first pass h r old new f
tried_adds first pass h result old new (WasGivenUp {mid = mid} s g) = then_adds first pass old mid new (swept_adds first pass old mid s) (call_adds first pass pass mid new refl g.adds)
tried_adds first pass h result old new (HasNotLowered {answer = answer} {mid = mid} {last = last} s some c l) =
    then_adds first pass old mid new (swept_adds first pass old mid s)
    (then_adds first pass mid last new (call_adds first pass pass mid last refl c.adds) (stops_add first pass (may_fall answer) last new l))

pub next_adds : (first : List (Option Page)) (pass : ℕ) (result : Option Followed) (before after : Waiting) (old new : Trail) → TriesNext first pass result before after old new → Adds first pass old new
next_adds first pass result before after old new (NothingWaits none) = nothing first pass old
next_adds first pass result before after old new (OldestTried {hint = h} others taken t kept) = tried_adds first pass h result old new t

pub pieces_add : (first : List (Option Page)) (pass most : ℕ) (before after : Waiting) (old new : Trail) → TriesPieces first pass most before after old new → Adds first pass old new
pieces_add first pass most before after old new AsManyDone = nothing first pass old
pieces_add first pass most before after old new (NoneWaits none) = nothing first pass old
pieces_add first pass most before after old new (OneDone {most = fewer} {result = result} {waiting = waiting} {mid = mid} done one on) =
    then_adds first pass old mid new (next_adds first pass result before waiting old mid one) (pieces_add first pass fewer waiting after mid new on)
pieces_add first pass most before after old new (OneNotDone {result = result} other one) = next_adds first pass result before after old new one

pub mends_add : (first : List (Option Page)) (pass most : ℕ) (before after : Waiting) (old new : Trail) → Mends first pass most before after old new → Adds first pass old new
mends_add first pass most before after old new NoneFound = nothing first pass old
mends_add first pass most before after old new (OneFound {most = fewer} {hint = h} {result = result} {waiting = waiting} {mid = mid} one kept on) =
    then_adds first pass old mid new (tried_adds first pass h result old mid one) (mends_add first pass fewer waiting after mid new on)

pub looks_add : (first : List (Option Page)) (pass : ℕ) (before after : Waiting) (old new : Trail) → LooksForRoom first pass before after old new → Adds first pass old new
looks_add first pass before after old new l =
    then_adds first pass old l.swept new (swept_adds first pass old l.swept l.sweeps)
    (then_adds first pass l.swept l.tried new (pieces_add first pass 16 before l.waiting l.swept l.tried l.tries)
    (then_adds first pass l.tried l.looked new (swept_adds first pass l.tried l.looked l.looks) (mends_add first pass 16 l.waiting after l.looked new l.mends)))

pub keeps_add : (first : List (Option Page)) (pages pass most : ℕ) (before after : Waiting) (walk walk' : Walk) (old new : Trail) → KeepsUp first pages pass most before after walk walk' old new → Adds first pass old new
keeps_add first pages pass most before after walk walk' old new k =
    then_adds first pass old k.mid new (pieces_add first pass most before k.waiting old k.mid k.tries)
    (elim k.looks [
      | inl found ↦ mends_add first pass 16 k.waiting after k.mid new found.2
      | inr still ↦ stays_adds first pass k.mid new still.3
    ])

pub none_adds : (first : List (Option Page)) (pass : ℕ) (refused : Type 0) (before after : Waiting) (old new : Trail) → WritesNone first pass refused before after old new → Adds first pass old new
none_adds first pass refused before after old new w =
    then_adds first pass old w.mid new (looks_add first pass before after old w.mid w.looks)
    (elim w.undone [
      | inl same ↦ stays_adds first pass w.mid new same.1
      | inr up ↦ call_adds first pass pass w.mid new refl up.adds
    ])

pub writes_work : (first : List (Option Page)) (pass : ℕ) (op : Op) (reply : Reply) (before after : Waiting) (old new : Trail) → WritesAtOnce first pass op reply before after old new → Works first pass op reply old new
writes_work first pass op reply before after old new w =
    adds_works first pass op reply old w.mid new (looks_add first pass before w.waiting old w.mid w.looks) (call_works first pass pass op reply w.mid new refl w.writes.answers)

-- ---- by which pass

gives_as : (Left : Trail → Type 0) (first : List (Option Page)) (pass it : ℕ) (old new : Trail) → it ≡ pass → GivesUp Left first it old new → GivesUp Left first pass old new
gives_as Left first pass it old new same g = subst (λ (z : ℕ). GivesUp Left first z old new) same g

pub tried_as : (first : List (Option Page)) (pass it : ℕ) (h : Hint) (result : Option Followed) (old new : Trail) → it ≡ pass → TriesHint first it h result old new → TriesHint first pass h result old new
tried_as first pass it h result old new same t = subst (λ (z : ℕ). TriesHint first z h result old new) same t

pub next_as : (first : List (Option Page)) (pass it : ℕ) (result : Option Followed) (before after : Waiting) (old new : Trail) → it ≡ pass → TriesNext first it result before after old new → TriesNext first pass result before after old new
next_as first pass it result before after old new same t = subst (λ (z : ℕ). TriesNext first z result before after old new) same t

pub pieces_as : (first : List (Option Page)) (pass it most : ℕ) (before after : Waiting) (old new : Trail) → it ≡ pass → TriesPieces first it most before after old new → TriesPieces first pass most before after old new
pieces_as first pass it most before after old new same t = subst (λ (z : ℕ). TriesPieces first z most before after old new) same t

pub mends_as : (first : List (Option Page)) (pass it most : ℕ) (before after : Waiting) (old new : Trail) → it ≡ pass → Mends first it most before after old new → Mends first pass most before after old new
mends_as first pass it most before after old new same m = subst (λ (z : ℕ). Mends first z most before after old new) same m

-- ---- lowerings

-- one was given up behind so many
pub stops_there : (first : List (Option Page)) (pass it that taken most : ℕ) (old mid last new : Trail) → taken < most → it ≡ pass → that ≡ pass → Lowers first pass taken old mid → Swept first it mid last → GivesUp WritesNothing first that last new
    → StopsLowering first pass most old new
stops_there first pass it that taken most old mid last new few same same' l s g = record {
  taken = taken;
  few = few;
  mid = mid;
  last = last;
  lowers = l;
  swept = swept_as first pass it mid last same s;
  gives_up = gives_as WritesNothing first pass that last new same' g;
}

-- ---- a piece

module _ (first : List (Option Page)) (pass it : ℕ) (h : Hint) (level key : ℕ) (old mid new : Trail) (same : it ≡ pass) (s : Swept first pass old mid) where
  module _ (is : h ≡ hint.Post level key) where
    pub post_given_up : GivesUp (HasRaised level) first it mid new → TriesHint first pass h None old new
    post_given_up g = subst (λ (z : Hint). TriesHint first pass z None old new) (sym is) (WasGivenUp s (gives_as (HasRaised level) first pass it mid new same g))

    pub post_done : (answer : Posted) (next : Option Hint) → answer ≢ posting.NoRoom → Posts first it level key answer next mid new → TriesHint first pass h (Some (followed.Done next)) old new
    post_done answer next some p = subst (λ (z : Hint). TriesHint first pass z (Some (followed.Done next)) old new) (sym is) (WasFollowed (posted first pass it level key answer next old mid new same some s p))

    pub post_no_room : (answer : Posted) (next : Option Hint) → answer ≡ posting.NoRoom → Posts first it level key answer next mid new → TriesHint first pass h (Some followed.NoRoom) old new
    post_no_room answer next none p = subst (λ (z : Hint). TriesHint first pass z (Some followed.NoRoom) old new) (sym is) (WasFollowed (post_refused first pass it level key answer next old mid new same none s p))

  module _ (is : h ≡ hint.Thin level key) where
    pub compression_given_up : GivesUp WritesNothing first it mid new → TriesHint first pass h None old new
    compression_given_up g = subst (λ (z : Hint). TriesHint first pass z None old new) (sym is) (WasGivenUp s (gives_as WritesNothing first pass it mid new same g))

    -- no level may fall behind one that found no room
    pub compression_no_room : (answer : Squeezed) (next : Option Hint) → answer ≡ squeezed.NoRoom → Compresses first it level key answer next mid new → TriesHint first pass h (Some followed.NoRoom) old new
    compression_no_room answer next none c =
        subst (λ (z : Hint). TriesHint first pass z (Some followed.NoRoom) old new) (sym is)
        (WasFollowed (compression_refused first pass it pass level key 0 answer next old mid new new same refl (sym (ap may_fall none)) s c Lowers.NoMore none))

module _ (first : List (Option Page)) (pass it that : ℕ) (h : Hint) (level key most : ℕ) (answer : Squeezed) (next : Option Hint) (old mid last new : Trail) (same : it ≡ pass) (same' : that ≡ pass)
    (is : h ≡ hint.Thin level key) (due : most ≡ may_fall answer) (s : Swept first pass old mid) (some : answer ≢ squeezed.NoRoom) (c : Compresses first it level key answer next mid last) where
  pub compression_done : Lowers first that most last new → TriesHint first pass h (Some (followed.Done next)) old new
  compression_done l =
      subst (λ (z : Hint). TriesHint first pass z (Some (followed.Done next)) old new) (sym is)
      (WasFollowed (compressed first pass it that level key most answer next old mid last new same same' due s c l some))

  pub not_lowered : (left : Option Hint) → left ≡ left_behind next h → StopsLowering first that most last new → TriesHint first pass h (Some (followed.Done left)) old new
  not_lowered left so stops =
      let mine : Compresses first pass level key answer next mid last = subst (λ (z : ℕ). Compresses first z level key answer next mid last) same c in
      let here : StopsLowering first pass (may_fall answer) last new = subst (λ (z : ℕ × ℕ). StopsLowering first z.0 z.1 last new) (λ i. (same' i, due i)) stops in
      let all : TriesHint first pass (hint.Thin level key) (Some (followed.Done (left_behind next (hint.Thin level key)))) old new = HasNotLowered s some mine here in
      subst (λ (z : Option Hint). TriesHint first pass h (Some (followed.Done z)) old new) (sym so)
      (subst (λ (z : Hint). TriesHint first pass z (Some (followed.Done (left_behind next z))) old new) (sym is) all)

-- ---- one more

pub so_many_tried : (first : List (Option Page)) (pass n m : ℕ) (before after : Waiting) (old new : Trail) → n ≡ m → TriesPieces first pass n before after old new → TriesPieces first pass m before after old new
so_many_tried first pass n m before after old new is t = subst (λ (z : ℕ). TriesPieces first pass z before after old new) is t

pub done_one : (first : List (Option Page)) (pass it m : ℕ) (result : Option Followed) (before waiting after : Waiting) (old mid new : Trail) → it ≡ pass → is_done result ≡ true
    → TriesNext first it result before waiting old mid → TriesPieces first pass m waiting after mid new → TriesPieces first pass (suc m) before after old new
done_one first pass it m result before waiting after old mid new same done t on = OneDone done (next_as first pass it result before waiting old mid same t) on

pub not_done : (first : List (Option Page)) (pass it m : ℕ) (result : Option Followed) (before after : Waiting) (old new : Trail) → it ≡ pass → is_done result ≡ false
    → TriesNext first it result before after old new → TriesPieces first pass (suc m) before after old new
not_done first pass it m result before after old new same not t = OneNotDone not (next_as first pass it result before after old new same t)

pub none_waits : (first : List (Option Page)) (pass n : ℕ) (waiting : Waiting) (old : Trail) → hints_of waiting ≡ [] → TriesPieces first pass n waiting waiting old old
none_waits first pass n waiting old none = NoneWaits none

pub so_many_mended : (first : List (Option Page)) (pass n m : ℕ) (before after : Waiting) (old new : Trail) → n ≡ m → Mends first pass n before after old new → Mends first pass m before after old new
so_many_mended first pass n m before after old new is t = subst (λ (z : ℕ). Mends first pass z before after old new) is t

pub mended_one : (first : List (Option Page)) (pass it m : ℕ) (h : Hint) (result : Option Followed) (left : Option Hint) (before waiting after : Waiting) (old mid new : Trail) → it ≡ pass → left ≡ left_of None result
    → TriesHint first it h result old mid → IsKept left before waiting → Mends first pass m waiting after mid new → Mends first pass (suc m) before after old new
mended_one first pass it m h result left before waiting after old mid new same is t kept on =
    OneFound (tried_as first pass it h result old mid same t) (subst (λ (z : Option Hint). IsKept z before waiting) is kept) on

pub oldest_tried : (first : List (Option Page)) (pass : ℕ) (h : Hint) (taken left : Option Hint) (result : Option Followed) (before others after : Waiting) (old new : Trail) → taken ≡ Some h → left ≡ left_of (Some h) result
    → IsTaken taken before others → TriesHint first pass h result old new → IsKept left others after → TriesNext first pass result before after old new
oldest_tried first pass h taken left result before others after old new is so t tried kept =
    OldestTried others (subst (λ (z : Option Hint). IsTaken z before others) is t) tried (subst (λ (z : Option Hint). IsKept z others after) so kept)

pub nothing_tried : (first : List (Option Page)) (pass : ℕ) (taken : Option Hint) (before others : Waiting) (old : Trail) → taken ≡ None → IsTaken taken before others → TriesNext first pass (Some (followed.Done None)) before others old old
nothing_tried first pass taken before others old is t =
    let none : IsTaken None before others = subst (λ (z : Option Hint). IsTaken z before others) is t in
    subst (λ (z : Waiting). TriesNext first pass (Some (followed.Done None)) before z old old) (sym none.1) (NothingWaits none.0)

-- ---- a write

pub looks_for : (first : List (Option Page)) (pass it that other : ℕ) (before waiting after : Waiting) (old swept tried looked new : Trail) → it ≡ pass → that ≡ pass → other ≡ pass → Swept first pass old swept
    → TriesPieces first it 16 before waiting swept tried → Swept first that tried looked → Mends first other 16 waiting after looked new → LooksForRoom first pass before after old new
looks_for first pass it that other before waiting after old swept tried looked new same same' same'' s t l m = record {
  swept = swept;
  tried = tried;
  looked = looked;
  waiting = waiting;
  sweeps = s;
  tries = pieces_as first pass it 16 before waiting swept tried same t;
  looks = swept_as first pass that tried looked same' l;
  mends = mends_as first pass other 16 waiting after looked new same'' m;
}

pub wrote_at_once : (first : List (Option Page)) (pass it : ℕ) (op : Op) (reply : Reply) (hint : Option Hint) (before waiting after : Waiting) (old mid new : Trail) → it ≡ pass → LooksForRoom first pass before waiting old mid
    → Writes first it op reply hint mid new → IsKept hint waiting after → WritesAtOnce first pass op reply before after old new
wrote_at_once first pass it op reply hint before waiting after old mid new same l w kept = record {
  hint = hint;
  waiting = waiting;
  mid = mid;
  looks = l;
  writes = subst (λ (z : ℕ). Writes first z op reply hint mid new) same w;
  kept = kept;
}

pub wrote_none_given_up : (first : List (Option Page)) (pass : ℕ) (refused : Type 0) (it : ℕ) (before after : Waiting) (old mid new : Trail) → it ≡ pass → LooksForRoom first pass before after old mid → GivesUp WritesNothing first it mid new
    → WritesNone first pass refused before after old new
wrote_none_given_up first pass refused it before after old mid new same l g = record { mid = mid; looks = l; undone = inr (gives_as WritesNothing first pass it mid new same g) }

-- ---- upkeep

pub keeps_on : (first : List (Option Page)) (pages pass it most : ℕ) (before waiting after : Waiting) (walk walk' : Walk) (old mid new : Trail) → it ≡ pass → TriesPieces first pass most before waiting old mid
    → LooksOn first pages it waiting after walk walk' mid new → KeepsUp first pages pass most before after walk walk' old new
keeps_on first pages pass it most before waiting after walk walk' old mid new same t l = record {
  waiting = waiting;
  mid = mid;
  tries = t;
  looks = subst (λ (z : ℕ). LooksOn first pages z waiting after walk walk' mid new) same l;
}
