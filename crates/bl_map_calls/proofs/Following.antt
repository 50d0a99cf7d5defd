-- What hints that were followed add to what a pass has seen, and how one more is followed.
use Rattle.std.proofs.Common.{ℕ, suc, ◌≡◌, ◌≢◌, Option, Some, None, List, [], refl, sym, ap, ◌∙◌, subst, arith}
use Rattle.bl_model.specs.declared.operation.Op.{Op}
use Rattle.bl_model.specs.declared.operation.Op.TheVariants as op
use Rattle.bl_model.specs.declared.operation.Reply.{Reply}
use Rattle.bl_page.specs.declared.page.Page.{Page}
use Rattle.bl_claims.specs.Trails.{Trail}
use Rattle.bl_answers.specs.declared.answers.Hint.{Hint}
use Rattle.bl_answers.specs.declared.answers.Hint.TheVariants as hint
use Rattle.bl_answers.specs.declared.answers.Posted.{Posted}
use Rattle.bl_answers.specs.declared.answers.Posted.TheVariants as posting
use Rattle.bl_answers.specs.declared.answers.Squeezed.{Squeezed}
use Rattle.bl_answers.specs.declared.answers.Squeezed.TheVariants as squeezed
use Rattle.bl_index.specs.Calls.{Posts, Compresses, LowersTree, Sweeps}
use Rattle.bl_map_calls.specs.declared.upkeep.Followed.{Followed}
use Rattle.bl_map_calls.specs.declared.upkeep.Followed.TheVariants.{Done, NoRoom}
use Rattle.bl_waiting.specs.declared.waiting.Waiting.{Waiting}
use Rattle.bl_waiting.specs.Queue.{hints_of}
use Rattle.bl_answers.specs.declared.answers.Lowered.{Lowered}
use Rattle.bl_answers.specs.declared.answers.Lowered.TheVariants as lowered
use Rattle.bl_map_calls.specs.Works.{Works, Adds, Swept, Never, Again}
use Rattle.bl_map_calls.specs.Follows.{Makes, Written, may_fall, Lowers, NoMore, OneTaken, NoneTaken, FollowsHint, PostDone, PostRefused, CompressionDone, CompressionRefused}
use Rattle.bl_map_calls.specs.Follows.{FollowsHints, NoneLeft, OneTooMany, OneRefused, OneDone, FollowsSplit, WritesLeaving, KeptUp, NothingDone, ThenSwept, ThenFollowed}
use Rattle.bl_map_calls.specs.Waits.{WritesKey, TriesOldest, AreTried, AsMany, NoneWaits, OneTried, TriesAgain, Tidies}
use Rattle.bl_map_calls.proofs.Adding.{nothing, then_adds, call_adds, call_works, adds_works, works_on, swept_adds, swept_as, sweep_adds}

-- ---- what they add

pub lowers_add : (first : List (Option Page)) (pass most : ℕ) (old new : Trail) → Lowers first pass most old new → Adds first pass old new
lowers_add first pass most old new NoMore = nothing first pass old
lowers_add first pass most old new (OneTaken {most = fewer} {mid = mid} {next = next} s l on) =
    then_adds first pass old mid new (swept_adds first pass old mid s)
    (then_adds first pass mid next new (call_adds first pass pass mid next refl l.adds) (lowers_add first pass fewer next new on))
lowers_add first pass most old new (NoneTaken {mid = mid} s other l) =
    then_adds first pass old mid new (swept_adds first pass old mid s) (call_adds first pass pass mid new refl l.adds)

pub hint_adds : (first : List (Option Page)) (pass : ℕ) (h : Hint) (result : Followed) (old new : Trail) → FollowsHint first pass h result old new → Adds first pass old new
hint_adds first pass h result old new (PostDone {mid = mid} s some p) =
    then_adds first pass old mid new (swept_adds first pass old mid s) (call_adds first pass pass mid new refl p.adds)
hint_adds first pass h result old new (PostRefused {mid = mid} s p) =
    then_adds first pass old mid new (swept_adds first pass old mid s) (call_adds first pass pass mid new refl p.adds)
hint_adds first pass h result old new (CompressionDone {answer = answer} {mid = mid} {last = last} s some c l) =
    then_adds first pass old mid new (swept_adds first pass old mid s)
    (then_adds first pass mid last new (call_adds first pass pass mid last refl c.adds) (lowers_add first pass (may_fall answer) last new l))
hint_adds first pass h result old new (CompressionRefused {mid = mid} s c) =
    then_adds first pass old mid new (swept_adds first pass old mid s) (call_adds first pass pass mid new refl c.adds)

pub stays_adds : (first : List (Option Page)) (pass : ℕ) (old new : Trail) → new ≡ old → Adds first pass old new
stays_adds first pass old new e = subst (λ (z : Trail). Adds first pass old z) (sym e) (nothing first pass old)

pub hints_add : (first : List (Option Page)) (pass most : ℕ) (start left : Option Hint) (old new : Trail) → FollowsHints first pass most start left old new → Adds first pass old new
hints_add first pass most start left old new NoneLeft = nothing first pass old
hints_add first pass most start left old new OneTooMany = nothing first pass old
hints_add first pass most start left old new (OneRefused {hint = h} f) = hint_adds first pass h NoRoom old new f
hints_add first pass most start left old new (OneDone {most = fewer} {hint = h} {next = next} {mid = mid} f on) =
    then_adds first pass old mid new (hint_adds first pass h (Done next) old mid f) (hints_add first pass fewer next left mid new on)

pub split_adds : (first : List (Option Page)) (pass : ℕ) (start left : Option Hint) (old new : Trail) → FollowsSplit first pass start left old new → Adds first pass old new
split_adds first pass None left old new f = hints_add first pass 12 None left old new f
split_adds first pass (Some (hint.Post level key)) left old new f = hints_add first pass 12 (Some (hint.Post level key)) left old new f
split_adds first pass (Some (hint.Thin level key)) left old new f = stays_adds first pass old new f.1

pub upkeep_adds : (first : List (Option Page)) (pass : ℕ) (old new : Trail) → KeptUp first pass old new → Adds first pass old new
upkeep_adds first pass old new NothingDone = nothing first pass old
upkeep_adds first pass old new (ThenSwept {mid = mid} {answer = answer} k s) = then_adds first pass old mid new (upkeep_adds first pass old mid k) (sweep_adds first pass pass answer mid new refl s)
upkeep_adds first pass old new (ThenFollowed {mid = mid} {hint = h} {result = result} k f) = then_adds first pass old mid new (upkeep_adds first pass old mid k) (hint_adds first pass h result mid new f)

makes_works : (first : List (Option Page)) (pass : ℕ) (op : Op) (reply : Reply) (next : Option Hint) (old new : Trail) → Makes first pass op reply next old new → Works first pass op reply old new
makes_works first pass (op.Find key) reply next old new m = call_works first pass pass (op.Find key) reply old new refl m.answers
makes_works first pass (op.Insert key value) reply next old new m = call_works first pass pass (op.Insert key value) reply old new refl m.1.answers
makes_works first pass (op.Put key value) reply next old new m = call_works first pass pass (op.Put key value) reply old new refl m.1.answers
makes_works first pass (op.Delete key) reply next old new m = call_works first pass pass (op.Delete key) reply old new refl m.answers
makes_works first pass (op.Change key before after) reply next old new m = call_works first pass pass (op.Change key before after) reply old new refl m.answers
makes_works first pass (op.Part key) reply next old new m = call_works first pass pass (op.Part key) reply old new refl m.answers
makes_works first pass (op.PartDown key) reply next old new m = call_works first pass pass (op.PartDown key) reply old new refl m.answers

pub written_works : (first : List (Option Page)) (pass : ℕ) (op : Op) (reply : Reply) (next : Option Hint) (old new : Trail) → Written first pass op reply next old new → Works first pass op reply old new
written_works first pass op reply next old new w = adds_works first pass op reply old w.mid new (upkeep_adds first pass old w.mid w.readies) (makes_works first pass op reply next w.mid new w.makes)

pub leaving_works : (first : List (Option Page)) (pass : ℕ) (op : Op) (reply : Reply) (left : Option Hint) (old new : Trail) → WritesLeaving first pass op reply left old new → Works first pass op reply old new
leaving_works first pass op reply left old new w =
    works_on first pass op reply old w.mid new (written_works first pass op reply w.hint old w.mid w.written) (split_adds first pass w.hint left w.mid new w.follows)

pub changes_works : (first : List (Option Page)) (pass : ℕ) (op : Op) (reply : Reply) (before after : Waiting) (old new : Trail) → WritesKey first pass op reply before after old new → Works first pass op reply old new
changes_works first pass op reply before after old new c =
    let written = written_works first pass op reply c.hint old c.behind c.written in
    works_on first pass op reply old c.mid new
    (works_on first pass op reply old c.behind c.mid written (hints_add first pass 12 c.hint c.upkeep.0 c.behind c.mid c.upkeep.1))
    (swept_adds first pass c.mid new c.sweeps)

tried_adds : (first : List (Option Page)) (pass most : ℕ) (before after : Waiting) (old new : Trail) → AreTried first pass most before after old new → Adds first pass old new
tried_adds first pass most before after old new AsMany = nothing first pass old
tried_adds first pass most before after old new (NoneWaits none) = nothing first pass old
tried_adds first pass most before after old new (OneTried {most = fewer} {waiting = waiting} {mid = mid} one on) =
    then_adds first pass old mid new (hints_add first pass 12 one.oldest one.upkeep.0 old mid one.upkeep.1) (tried_adds first pass fewer waiting after mid new on)

pub again_adds : (first : List (Option Page)) (pass most : ℕ) (before after : Waiting) (old new : Trail) → TriesAgain first pass most before after old new → Adds first pass old new
again_adds first pass most before after old new t =
    then_adds first pass old t.mid new (tried_adds first pass most before after old t.mid t.tried) (swept_adds first pass t.mid new t.sweeps)

-- ---- what a call has answered

pub posted : (first : List (Option Page)) (pass it level key : ℕ) (answer : Posted) (next : Option Hint) (old mid new : Trail) → it ≡ pass → answer ≢ posting.NoRoom
    → Swept first pass old mid → Posts first it level key answer next mid new → FollowsHint first pass (hint.Post level key) (Done next) old new
posted first pass it level key answer next old mid new same some s p = PostDone s some (subst (λ (z : ℕ). Posts first z level key answer next mid new) same p)

pub post_refused : (first : List (Option Page)) (pass it level key : ℕ) (answer : Posted) (next : Option Hint) (old mid new : Trail) → it ≡ pass → answer ≡ posting.NoRoom
    → Swept first pass old mid → Posts first it level key answer next mid new → FollowsHint first pass (hint.Post level key) NoRoom old new
post_refused first pass it level key answer next old mid new same is s p =
    let mine : Posts first pass level key answer next mid new = subst (λ (z : ℕ). Posts first z level key answer next mid new) same p in
    let refused : Posts first pass level key posting.NoRoom next mid new = subst (λ (z : Posted). Posts first pass level key z next mid new) is mine in
    let none : next ≡ None = refused.means.1 in
    PostRefused s (subst (λ (z : Option Hint). Posts first pass level key posting.NoRoom z mid new) none refused)

-- where none may fall, none was taken away
lowers_nothing : (first : List (Option Page)) (pass most : ℕ) (old new : Trail) → most ≡ 0 → Lowers first pass most old new → new ≡ old
lowers_nothing first pass most old new is NoMore = refl
lowers_nothing first pass most old new is (OneTaken {most = fewer} s l on) = let e : suc fewer ≡ 0 = is in absurd (omega (arith, e))
lowers_nothing first pass most old new is (NoneTaken {most = fewer} s other l) = let e : suc fewer ≡ 0 = is in absurd (omega (arith, e))

module _ (first : List (Option Page)) (pass it that level key most : ℕ) (answer : Squeezed) (next : Option Hint) (old mid last new : Trail) (same : it ≡ pass) (same' : that ≡ pass)
    (due : most ≡ may_fall answer) (s : Swept first pass old mid) (c : Compresses first it level key answer next mid last) (l : Lowers first that most last new) where
  compresses : Compresses first pass level key answer next mid last
  compresses = subst (λ (z : ℕ). Compresses first z level key answer next mid last) same c

  pub compressed : answer ≢ squeezed.NoRoom → FollowsHint first pass (hint.Thin level key) (Done next) old new
  compressed some =
      let lowers : Lowers first pass most last new = subst (λ (z : ℕ). Lowers first z most last new) same' l in
      CompressionDone s some compresses (subst (λ (z : ℕ). Lowers first pass z last new) due lowers)

  pub compression_refused : answer ≡ squeezed.NoRoom → FollowsHint first pass (hint.Thin level key) NoRoom old new
  compression_refused is =
      let refused : Compresses first pass level key squeezed.NoRoom next mid last = subst (λ (z : Squeezed). Compresses first pass level key z next mid last) is compresses in
      let none : next ≡ None = refused.means.1 in
      let empty : Compresses first pass level key squeezed.NoRoom None mid last = subst (λ (z : Option Hint). Compresses first pass level key squeezed.NoRoom z mid last) none refused in
      let stays : new ≡ last = lowers_nothing first that most last new (due ∙ ap may_fall is) l in
      CompressionRefused s (subst (λ (z : Trail). Compresses first pass level key squeezed.NoRoom None mid z) (sym stays) empty)

-- ---- by which pass, and how many

pub follows_as : (first : List (Option Page)) (pass it : ℕ) (start left : Option Hint) (old new : Trail) → it ≡ pass → FollowsHints first it 12 start left old new → FollowsHints first pass 12 start left old new
follows_as first pass it start left old new same f = subst (λ (z : ℕ). FollowsHints first z 12 start left old new) same f

pub split_as : (first : List (Option Page)) (pass it : ℕ) (start left : Option Hint) (old new : Trail) → it ≡ pass → FollowsSplit first it start left old new → FollowsSplit first pass start left old new
split_as first pass it start left old new same f = subst (λ (z : ℕ). FollowsSplit first z start left old new) same f

pub so_many_lowered : (first : List (Option Page)) (pass n m : ℕ) (old new : Trail) → n ≡ m → Lowers first pass n old new → Lowers first pass m old new
so_many_lowered first pass n m old new is l = subst (λ (z : ℕ). Lowers first pass z old new) is l

pub so_many_followed : (first : List (Option Page)) (pass n m : ℕ) (start left : Option Hint) (old new : Trail) → n ≡ m → FollowsHints first pass n start left old new → FollowsHints first pass m start left old new
so_many_followed first pass n m start left old new is f = subst (λ (z : ℕ). FollowsHints first pass z start left old new) is f

pub so_many_tried : (first : List (Option Page)) (pass n m : ℕ) (before after : Waiting) (old new : Trail) → n ≡ m → AreTried first pass n before after old new → AreTried first pass m before after old new
so_many_tried first pass n m before after old new is t = subst (λ (z : ℕ). AreTried first pass z before after old new) is t

-- ---- one more

pub lowering_as : (first : List (Option Page)) (pass it : ℕ) (answer : Lowered) (old new : Trail) → it ≡ pass → LowersTree first it answer old new → LowersTree first pass answer old new
lowering_as first pass it answer old new same l = subst (λ (z : ℕ). LowersTree first z answer old new) same l

-- a level was taken away, and others may be
pub lowers_one : (first : List (Option Page)) (pass it that m : ℕ) (answer : Lowered) (old mid next new : Trail) → it ≡ pass → that ≡ pass → answer ≡ lowered.Lowered
    → Swept first it old mid → LowersTree first that answer mid next → Lowers first pass m next new → Lowers first pass (suc m) old new
lowers_one first pass it that m answer old mid next new same same' is s l on =
    let mine : LowersTree first pass answer mid next = lowering_as first pass that answer mid next same' l in
    OneTaken (swept_as first pass it old mid same s) (subst (λ (z : Lowered). LowersTree first pass z mid next) is mine) on

-- none was
pub lowers_none : (first : List (Option Page)) (pass it that m : ℕ) (answer : Lowered) (old mid new : Trail) → it ≡ pass → that ≡ pass → answer ≢ lowered.Lowered
    → Swept first it old mid → LowersTree first that answer mid new → Lowers first pass (suc m) old new
lowers_none first pass it that m answer old mid new same same' other s l = NoneTaken (swept_as first pass it old mid same s) other (lowering_as first pass that answer mid new same' l)

hint_as : (first : List (Option Page)) (pass it : ℕ) (h : Hint) (result is : Followed) (old new : Trail) → it ≡ pass → result ≡ is → FollowsHint first it h result old new → FollowsHint first pass h is old new
hint_as first pass it h result is old new same told f = subst (λ (z : ℕ). FollowsHint first z h is old new) same (subst (λ (z : Followed). FollowsHint first it h z old new) told f)

-- a hint was done, and what that has left is followed
pub follows_one : (first : List (Option Page)) (pass it m : ℕ) (h : Hint) (was : Option Hint) (result : Followed) (next left : Option Hint) (old mid new : Trail) → it ≡ pass → was ≡ Some h → result ≡ Done next
    → FollowsHint first it h result old mid → FollowsHints first pass m next left mid new → FollowsHints first pass (suc m) was left old new
follows_one first pass it m h was result next left old mid new same is done f on =
    let all : FollowsHints first pass (suc m) (Some h) left old new = OneDone (hint_as first pass it h result (Done next) old mid same done f) on in
    subst (λ (z : Option Hint). FollowsHints first pass (suc m) z left old new) (sym is) all

-- there was no room for it
pub follows_refused : (first : List (Option Page)) (pass it m : ℕ) (h : Hint) (was : Option Hint) (result : Followed) (old new : Trail) → it ≡ pass → was ≡ Some h → result ≡ NoRoom
    → FollowsHint first it h result old new → FollowsHints first pass (suc m) was (Some h) old new
follows_refused first pass it m h was result old new same is refused f =
    let all : FollowsHints first pass (suc m) (Some h) (Some h) old new = OneRefused (hint_as first pass it h result NoRoom old new same refused f) in
    subst (λ (z : Option Hint). FollowsHints first pass (suc m) z (Some h) old new) (sym is) all

-- none is left
pub follows_none : (first : List (Option Page)) (pass n : ℕ) (was : Option Hint) (old : Trail) → was ≡ None → FollowsHints first pass n was None old old
follows_none first pass n was old is = subst (λ (z : Option Hint). FollowsHints first pass n z None old old) (sym is) NoneLeft

-- there were as many as may be
pub follows_no_more : (first : List (Option Page)) (pass : ℕ) (was : Option Hint) (old : Trail) → FollowsHints first pass 0 was was old old
follows_no_more first pass None old = NoneLeft
follows_no_more first pass (Some h) old = OneTooMany

pub tries_one : (first : List (Option Page)) (pass it m : ℕ) (before waiting after : Waiting) (old mid new : Trail) → it ≡ pass
    → TriesOldest first it before waiting old mid → AreTried first pass m waiting after mid new → AreTried first pass (suc m) before after old new
tries_one first pass it m before waiting after old mid new same one on = OneTried (subst (λ (z : ℕ). TriesOldest first z before waiting old mid) same one) on

pub tries_none : (first : List (Option Page)) (pass n : ℕ) (waiting : Waiting) (old : Trail) → hints_of waiting ≡ [] → AreTried first pass n waiting waiting old old
tries_none first pass n waiting old none = NoneWaits none

-- ---- upkeep goes on

-- by sweeps, as many as there were
keeps_swept_own : (first : List (Option Page)) (pass : ℕ) (old mid new : Trail) → KeptUp first pass old mid → Swept first pass mid new → KeptUp first pass old new
keeps_swept_own first pass old mid new k Never = k
keeps_swept_own first pass old mid new k (Again {mid = next} s one) = ThenSwept (keeps_swept_own first pass old mid next k s) one

pub keeps_swept : (first : List (Option Page)) (pass it : ℕ) (old mid new : Trail) → it ≡ pass → KeptUp first pass old mid → Swept first it mid new → KeptUp first pass old new
keeps_swept first pass it old mid new same k s = keeps_swept_own first pass old mid new k (swept_as first pass it mid new same s)

-- by one more
pub keeps_sweep : (first : List (Option Page)) (pass it answer : ℕ) (old mid new : Trail) → it ≡ pass → KeptUp first pass old mid → Sweeps first it answer mid new → KeptUp first pass old new
keeps_sweep first pass it answer old mid new same k s = ThenSwept k (subst (λ (z : ℕ). Sweeps first z answer mid new) same s)

-- by a hint
pub keeps_followed : (first : List (Option Page)) (pass it : ℕ) (h : Hint) (result : Followed) (old mid new : Trail) → it ≡ pass → KeptUp first pass old mid → FollowsHint first it h result mid new → KeptUp first pass old new
keeps_followed first pass it h result old mid new same k f = ThenFollowed k (subst (λ (z : ℕ). FollowsHint first z h result mid new) same f)

-- by all that another part of it did
keeps_own : (first : List (Option Page)) (pass : ℕ) (old mid new : Trail) → KeptUp first pass old mid → KeptUp first pass mid new → KeptUp first pass old new
keeps_own first pass old mid new k NothingDone = k
keeps_own first pass old mid new k (ThenSwept {mid = next} l s) = ThenSwept (keeps_own first pass old mid next k l) s
keeps_own first pass old mid new k (ThenFollowed {mid = next} l f) = ThenFollowed (keeps_own first pass old mid next k l) f

pub keeps_on : (first : List (Option Page)) (pass it : ℕ) (old mid new : Trail) → it ≡ pass → KeptUp first pass old mid → KeptUp first it mid new → KeptUp first pass old new
keeps_on first pass it old mid new same k l = keeps_own first pass old mid new k (subst (λ (z : ℕ). KeptUp first z mid new) same l)

pub upkeep_as : (first : List (Option Page)) (pass it : ℕ) (old new : Trail) → it ≡ pass → KeptUp first it old new → KeptUp first pass old new
upkeep_as first pass it old new same k = subst (λ (z : ℕ). KeptUp first z old new) same k

pub tidies_adds : (first : List (Option Page)) (pass : ℕ) (before after : Waiting) (old new : Trail) → Tidies first pass before after old new → Adds first pass old new
tidies_adds first pass before after old new t = then_adds first pass old t.mid new (again_adds first pass 32 before after old t.mid t.tried) (upkeep_adds first pass t.mid new t.keeps_up)
