-- One key more is written.
use Rattle.std.proofs.Common.{ℕ, zero, suc, ◌≡◌, ◌≢◌, inl, inr, ◌<◌, ◌++◌, ◌+◌, List, [], ◌∷◌, Option, refl, sym, ap, ◌∙◌, subst, append-nil, append_assoc, length, get_or, set, take, arith}
use Rattle.std.proofs.lemmas.List.{length_push, take_more, take_more_set}
use mathlib.Core.Option.{some}
use lib.ListN.{get_elem?}
use Rattle.bl_index.proofs.Gathered.{item_at}
use Rattle.bl_model.specs.declared.operation.KeyReply.TheVariants as reply
use Rattle.bl_model.specs.declared.deciding.KeyWrite.{KeyWrite}
use Rattle.bl_model.specs.declared.operation.KeyReply.{KeyReply}
use Rattle.bl_model.specs.declared.operation.Entry.{Entry}
use Rattle.bl_model.specs.Replies.{reply_of}
use Rattle.bl_page.specs.declared.page.Page.{Page}
use Rattle.bl_claims.specs.Trails.{Trail}
use Rattle.bl_claims.specs.Seeing.{own, GoesOnFrom}
use Rattle.bl_index.specs.Calls.{number_of, trail}
use Rattle.bl_index.specs.declared.index.Pass.{Pass}
use Rattle.bl_waiting.specs.declared.waiting.Waiting.{Waiting}
use Rattle.bl_map_calls.specs.Entries.{entries_of}
use Rattle.std.proofs.lemmas.Bool.{cases_lt}
use Rattle.bl_map_calls.specs.Many.{op_at, WritesKeys, WritesMany, HadRoomBefore, StopsFull}
use Rattle.bl_map_calls.specs.Waits.{WritesKey}
use Rattle.bl_map_calls.specs.Works.{FoundNoRoom}
use Rattle.bl_map_calls.proofs.Following.{changes_works}
use Rattle.bl_map_calls.proofs.Listing.{entry, entries_more}

pub on_from : (old mid new : Trail) → GoesOnFrom old mid → GoesOnFrom mid new → GoesOnFrom old new
on_from old mid new a b = (a.0 ++ b.0, b.1 ∙ (ap (λ (z : Trail). z ++ b.0) a.1 ∙ append_assoc old a.0 b.0))

module _ {A : Type 0} (first : List (Option Page)) (pass : ℕ) (ask : A → ℕ × KeyWrite) where
  pub writes_none : (waiting : Waiting) (old : Trail) → WritesMany first pass ask [] [] waiting waiting old old
  unfolding entries_of
  writes_none waiting old = record { each = refl; begins = ([], sym (append-nil old)); seen = λ s. s; mine = sym (append-nil _); changes = WritesKeys.NoneWritten }

  pub writes_one_more : (it : ℕ) (list : List A) (replies : List KeyReply) (a : A) (said : KeyReply) (before mid after : Waiting) (old between new : Trail) → it ≡ pass
      → WritesMany first pass ask list replies before mid old between → WritesKey first it (op_at (ask a)) (reply_of said) mid after between new
      → WritesMany first pass ask (list ++ a ∷ []) (replies ++ said ∷ []) before after old new
  writes_one_more it list replies a said before mid after old between new same m one =
      let c = subst (λ (z : ℕ). WritesKey first z (op_at (ask a)) (reply_of said) mid after between new) same one in
      let w = changes_works first pass (op_at (ask a)) (reply_of said) mid after between new c in
      let more = entries_more pass (λ (b : A). op_at (ask b)) list replies a said m.each in
      record {
        each = length_push replies said ∙ (ap (λ (z : ℕ). z + 1) m.each ∙ sym (length_push list a));
        begins = on_from old between new m.begins w.begins;
        seen = λ l. w.seen;
        mine = w.once ∙ (ap (λ (z : List Entry). z ++ entry pass (λ (b : A). op_at (ask b)) a said ∷ []) m.mine
            ∙ (append_assoc _ (entries_of pass (λ (b : A). op_at (ask b)) list replies) (entry pass (λ (b : A). op_at (ask b)) a said ∷ [])
            ∙ ap (λ (z : List Entry). own pass old ++ z) (sym more)));
        changes = WritesKeys.OneWritten a said m.changes c;
      }

  -- the same of so many that stand first
  pub writes_on : (it i : ℕ) (list : List A) (replies : List KeyReply) (a : A) (asked : ℕ × KeyWrite) (said : KeyReply) (before mid after : Waiting) (old between new : Trail)
      → it ≡ pass → asked ≡ ask a → a ≡ get_or list i a → i < length list → length replies ≡ length list
      → WritesMany first pass ask (take i list) (take i replies) before mid old between → WritesKey first it (op_at asked) (reply_of said) mid after between new
      → WritesMany first pass ask (take (i + 1) list) (take (i + 1) (set replies i said)) before after old new
  writes_on it i list replies a asked said before mid after old between new same is here below long m one =
      let one' = subst (λ (z : ℕ × KeyWrite). WritesKey first it (op_at z) (reply_of said) mid after between new) is one in
      let more : take (i + 1) list ≡ take i list ++ a ∷ [] = take_more list i a below ∙ ap (λ (z : A). take i list ++ z ∷ []) (sym here) in
      let told : take (i + 1) (set replies i said) ≡ take i replies ++ said ∷ [] = take_more_set replies i said (omega (arith, below, long)) in
      subst (λ (z : List A × List KeyReply). WritesMany first pass ask z.0 z.1 before after old new) (λ j. (sym more j, sym told j))
      (writes_one_more it (take i list) (take i replies) a said before mid after old between new same m one')

-- the call began later than that
pub found_since : (key : ℕ) (does : KeyWrite) (old mid new : Pass) → number_of mid ≡ number_of old → GoesOnFrom (trail old) (trail mid) → FoundNoRoom key does mid new → FoundNoRoom key does old new
found_since key does old mid new same on f = record {
  before = f.before;
  mine = f.mine ∙ same;
  begins = on_from (trail old) (trail mid) (trail f.before) on f.begins;
  lacks = f.lacks;
}

set_there : {A : Type 0} (l : List A) (i : ℕ) (a : A) → i < length l → get_elem? (set l i a) i ≡ some a
set_there [] i a below = absurd (omega arith)
set_there (x ∷ xs) zero a below = refl
set_there (x ∷ xs) (suc i) a below = set_there xs i a (omega arith)

-- the call that found no room is the last of so many
pub stops_there : {A : Type 0} (ask : A → ℕ × KeyWrite) (i : ℕ) (list : List A) (replies : List KeyReply) (a : A) (asked : ℕ × KeyWrite) (said : KeyReply) (old mid new : Pass)
    → asked ≡ ask a → a ≡ get_or list i a → i < length list → length replies ≡ length list → said ≡ reply.NoRoom
    → number_of mid ≡ number_of old → GoesOnFrom (trail old) (trail mid) → (said ≡ reply.NoRoom → FoundNoRoom asked.0 asked.1 mid new)
    → StopsFull ask list (set replies i said) (i + 1) old new
stops_there ask i list replies a asked said old mid new is here below long refused same on lacks = record {
  last = i;
  is_last = refl;
  a = a;
  asked = item_at list i a below here;
  refused = set_there replies i said (omega (arith, below, long)) ∙ ap some refused;
  lacks = found_since (ask a).0 (ask a).1 old mid new same on (subst (λ (z : ℕ × KeyWrite). FoundNoRoom z.0 z.1 mid new) is (lacks refused));
}

-- of so many replies each says that there was room
abbrev pub AllHadRoom : ℕ → List KeyReply → Type 0
AllHadRoom count replies = (place : ℕ) → place < count → get_elem? replies place ≢ some reply.NoRoom

-- another reply, at another place
elsewhere : (replies : List KeyReply) (i place : ℕ) (said : KeyReply) → place < i → get_elem? (set replies i said) place ≡ get_elem? replies place
elsewhere [] i place said lt = refl
elsewhere (r ∷ replies) zero place said lt = absurd (omega (arith, lt))
elsewhere (r ∷ replies) (suc i) zero said lt = refl
elsewhere (r ∷ replies) (suc i) (suc place) said lt = elsewhere replies i place said (omega (arith, lt))

pub room_on : (replies : List KeyReply) (i : ℕ) (said : KeyReply) → i < length replies → AllHadRoom i replies → said ≢ reply.NoRoom → AllHadRoom (i + 1) (set replies i said)
room_on replies i said within had other place lt = elim (cases_lt place i) [
  | inl before ↦ λ is. had place before (sym (elsewhere replies i place said before) ∙ is)
  | inr here ↦ λ is. other (some_same (sym (set_there replies i said within) ∙ ap (λ (n : ℕ). get_elem? (set replies i said) n) (let e : i ≡ place = omega (arith, lt, here) in e) ∙ is))
]
  where
    some_same : some said ≡ some reply.NoRoom → said ≡ reply.NoRoom
    some_same is = cc is

pub had_room_before : (replies : List KeyReply) (i : ℕ) (said : KeyReply) → AllHadRoom i replies → HadRoomBefore (i + 1) (set replies i said)
had_room_before replies i said had place lt = λ is. had place (omega (arith, lt)) (sym (elsewhere replies i place said (omega (arith, lt))) ∙ is)
